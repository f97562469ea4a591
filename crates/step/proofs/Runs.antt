-- A run of steps over a list of entries, from a fresh record, goes through exactly when the rules hold, and judges each entry on the way as the list does. It is
-- said of any function that keeps the promise of `step` at pins and that of `sense` at a temperature; and what keeps the promise of `run` is such steps. The
-- promises are read off the generated contracts.
use Prim.Native.Nat.{ℕ, zero, suc}
use mathlib.Core.Path.{◌≡◌, refl, ap, sym, ◌∙◌}
use mathlib.Core.Logic.{◌↔◌}
use mathlib.Core.Bool.{Bool, true, false, cond, ◌&&◌}
use mathlib.Core.List.{List, [], ◌∷◌}
use mathlib.Core.Option.{Option, none, some, map, map-eq-some_iff}
use lib.ListN.{drop}
use contract.Lifetimes.{Lfts}
use denote.Triple.Clauses.{AtExit, at_exit}
use denote.Triple.Entry.{Args}
use Rattle.std.specs.Prelude.{is_some}
use Rattle.rules.specs.Ranges.{card_good}
use Rattle.rules.specs.Entries.{Body, pins, mr4, Entry, entry, sensing, past_of}
use Rattle.rules.specs.Checks.{Refusal, entry_refusal}
use Rattle.rules.specs.Lent.{Lent, step_refusal, lent_after, standing, fresh, AllTaken}
use Rattle.rules.proofs.Taken.{unmoved}
use Rattle.rules.proofs.StepByList.{step_unmoved}
use Rattle.rules.proofs.Sound.{step_passed}
use Rattle.rules.proofs.Steps.{run_steps, AllEntries, entries_taken, runs_iff}
use Rattle.card.specs.declared.Card.{Card}
use Rattle.card.specs.Values.{card_of}
use Rattle.pins.specs.Fronts.{front_of}
use Rattle.ledger.specs.Values.{is_none, unless_refused}
use Rattle.bank.specs.declared.Record.{Record}
use Rattle.bank.specs.Values.{lent_of, fresh_of}
use Rattle.bank.proofs.Beginning.{fresh_lent}
use Rattle.step.specs.declared.Ran.{Ran}
use Rattle.step.specs.declared.Stepped.{Stepped}
use Rattle.step.specs.Values.{refusal_of, Left}
use Rattle.step.specs.Runs.{entry_at, takes, commands_by, refreshes_by, ran, behind, run_of}
use Rattle.step.proofs.Leaves.{left_record}
use Rattle.step.proofs.Promises.{step_claims, sense_claims, run_claims}
use Rattle.step.specs.contracts.offering.step as step
use Rattle.step.specs.contracts.offering.sense as sense
use Rattle.step.specs.contracts.turns.run as public

-- each entry in turn; none at the first refusal
unfoldable pub run : (Record → Entry → Stepped) → Record → List Entry → Option Record
run f r [] = some r
run f r (e ∷ es) = elim (refusal_of (f r e).answer) [ none ↦ run f (f r e).rec es | some x ↦ none ]

-- the entries at the start of some bytes, as `run_of` takes them, each by a step
unfoldable pub steps : (Record → Entry → Stepped) → ℕ → Record → List ℕ → Ran Record
steps f zero r bs = ran r 0 0 0
steps f (suc n) r bs =
    let e = entry_at bs in
    cond (is_some (front_of bs) && is_none (refusal_of (f r e).answer)) (behind 10 (commands_by r e) (refreshes_by r e) (steps f n (f r e).rec (drop 10 bs))) (ran r 0 0 0)

pub record Keeps (f : Record → Entry → Stepped) : Type 0 where
  pub at_pins : (r : Record) (t p : ℕ) →
      let args : Args step.signature tt = (r, (t, (p, tt))) in
      (step_claims tt args (f r (entry t p)) (at_exit step.ended tt args (tt, (tt, (tt, tt))))).claim
  pub at_mr4 : (r : Record) (t v : ℕ) →
      let args : Args sense.signature tt = (r, (t, (v, tt))) in
      (sense_claims tt args (f r (sensing t v)) (at_exit sense.ended tt args (tt, (tt, (tt, tt))))).claim

-- the run through these entries, and then any one entry more. `stands` shuts out a step that leaves the record still, and `next`, at every list of entries, one
-- whose later steps nod through
pub record Judges (f : Record → Entry → Stepped) (card : Card) (es : List Entry) : Type 0 where
  pub accepts : ((s : Record) × (run f (fresh_of card) es ≡ some s)) ↔ AllEntries (card_of card) [] es
  pub stands : (s : Record) → run f (fresh_of card) es ≡ some s → lent_of s ≡ standing (card_of card) (past_of (card_of card) es) unmoved
  pub next : (s : Record) → run f (fresh_of card) es ≡ some s → (e : Entry) → refusal_of (f s e).answer ≡ entry_refusal (card_of card) (past_of (card_of card) es) e
  pub still : (s : Record) → run f (fresh_of card) es ≡ some s → (e : Entry) (x : Refusal) → entry_refusal (card_of card) (past_of (card_of card) es) e ≡ some x → (f s e).rec ≡ s

neither : {A : Type 0} (b : Bool) (x y z : A) → cond (b && false) x z ≡ cond (b && false) y z
neither true x y z = refl
neither false x y z = refl

module _ (f : Record → Entry → Stepped) (kept : Keeps f) where
  keeps : (r : Record) (e : Entry) → Left (step_refusal (lent_of r) e) r e (f r e)
  keeps r e = go e.stamp e.body
    where
      go : (t : ℕ) (b : Body) → let x : Entry = record { stamp = t; body = b } in Left (step_refusal (lent_of r) x) r x (f r x)
      go t (pins p) = kept.at_pins r t p
      go t (mr4 v) = kept.at_mr4 r t v

  after_it : (r : Record) (e : Entry) → step_refusal (lent_of r) e ≡ none → lent_of (f r e).rec ≡ lent_after (lent_of r) e
  unfolding unless_refused
  after_it r e n = rw n at ((keeps r e).lent (step_passed (lent_of r) e n).good)

  -- the run of records is the run of the rules' records
  run_lent : (es : List Entry) (r : Record) → map lent_of (run f r es) ≡ run_steps (lent_of r) es
  unfolding run run_steps
  run_lent [] r = refl
  run_lent (e ∷ es) r = go (step_refusal (lent_of r) e) refl (run_lent es (f r e).rec)
    where
      go : (o : Option Refusal) → step_refusal (lent_of r) e ≡ o → map lent_of (run f (f r e).rec es) ≡ run_steps (lent_of (f r e).rec) es →
          map lent_of (run f r (e ∷ es)) ≡ run_steps (lent_of r) (e ∷ es)
      go none n ih =
          let on : run f r (e ∷ es) ≡ run f (f r e).rec es = rw ((keeps r e).told ∙ n, run) in
          let there : run_steps (lent_of r) (e ∷ es) ≡ run_steps (lent_after (lent_of r) e) es = rw (n, run_steps) in
          ap (λ (o : Option Record). map lent_of o) on ∙ ih ∙ ap (λ (l : Lent). run_steps l es) (after_it r e n) ∙ sym there
      go (some x) n ih =
          let off : run f r (e ∷ es) ≡ none = rw ((keeps r e).told ∙ n, run) in
          let there : run_steps (lent_of r) (e ∷ es) ≡ none = rw (n, run_steps) in
          ap (λ (o : Option Record). map lent_of o) off ∙ sym there

  -- ---- over bytes: what keeps the promise of `run` is these steps, to the bit
  run_is : (n : ℕ) (r : Record) (bs : List ℕ) → run_of n r bs ≡ steps f n r bs
  unfolding run_of steps
  run_is zero r bs = refl
  run_is (suc n) r bs = go (step_refusal (lent_of r) (entry_at bs)) refl (run_is n (f r (entry_at bs)).rec (drop 10 bs))
    where
      go : (o : Option Refusal) → step_refusal (lent_of r) (entry_at bs) ≡ o → run_of n (f r (entry_at bs)).rec (drop 10 bs) ≡ steps f n (f r (entry_at bs)).rec (drop 10 bs) →
          run_of (suc n) r bs ≡ steps f (suc n) r bs
      go none e ih = unfold run_of steps takes is_none in rw ((keeps r (entry_at bs)).told, e, ← ih, left_record (keeps r (entry_at bs)) e)
      go (some x) e ih = unfold run_of steps takes is_none in rw ((keeps r (entry_at bs)).told, e) (neither (is_some (front_of bs)) _ _ _)

  pub by_steps : (κs : Lfts (public.signature).lifetimes) (a : Args public.signature κs) (r : Ran Record) (x : AtExit public.ended κs) → (run_claims κs a r x).claim →
      r ≡ steps f a.1.1.0 a.0 a.1.0.now
  by_steps κs a r x e = e ∙ run_is a.1.1.0 a.0 a.1.0.now

  module _ (card : Card) (good : card_good (card_of card) ≡ true) (es : List Entry) where
    to_steps : (s : Record) → run f (fresh_of card) es ≡ some s → run_steps (fresh (card_of card)) es ≡ some (lent_of s)
    to_steps s e = rw (← fresh_lent card) (sym (run_lent es (fresh_of card)) ∙ ap (λ (o : Option Record). map lent_of o) e)

    holds : (s : Record) → run f (fresh_of card) es ≡ some s → AllEntries (card_of card) [] es × (lent_of s ≡ standing (card_of card) (past_of (card_of card) es) unmoved)
    holds s e = (runs_iff (card_of card) good es (lent_of s)).0 (to_steps s e)

    goes : AllEntries (card_of card) [] es → (s : Record) × (run f (fresh_of card) es ≡ some s)
    goes all =
        let end = (runs_iff (card_of card) good es (standing (card_of card) (past_of (card_of card) es) unmoved)).1 (all, refl) in
        let from : run_steps (lent_of (fresh_of card)) es ≡ some (standing (card_of card) (past_of (card_of card) es) unmoved) = rw (fresh_lent card) end in
        let p = (map-eq-some_iff lent_of (run f (fresh_of card) es)).0 (run_lent es (fresh_of card) ∙ from) in
        (p.0, p.1)

    next_is : (s : Record) → run f (fresh_of card) es ≡ some s → (e : Entry) → step_refusal (lent_of s) e ≡ entry_refusal (card_of card) (past_of (card_of card) es) e
    next_is s r e =
        let h = holds s r in
        let all : AllTaken (card_of card) (past_of (card_of card) es) = unfold past_of in entries_taken (card_of card) [] (unfold AllTaken in tt) es h.0 in
        rw h.1 (step_unmoved (card_of card) (past_of (card_of card) es) good all e)

    pub judges : Judges f card es
    unfolding unless_refused
    judges = record {
      accepts = (λ p. (holds p.0 p.1).0, goes);
      stands = λ s r. (holds s r).1;
      next = λ s r e. (keeps s e).told ∙ next_is s r e;
      still = λ s r e x n. rw (next_is s r e ∙ n) at (keeps s e).is;
    }
