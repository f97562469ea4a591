-- A run of steps from a fresh record goes through exactly when every entry passes its checks over the list, and leaves the record that stands for them; what
-- it leaves of a part is by that part's own entries and the cycle reached.
use Prim.Native.Nat.{ℕ, zero, suc, ◌≤◌, ◌<◌}
use mathlib.Core.Path.{◌≡◌, refl, ap, sym, ◌∙◌, subst}
use mathlib.Core.Logic.{◌↔◌}
use mathlib.Core.Bool.{true}
use mathlib.Core.List.{List, [], ◌∷◌}
use mathlib.Core.Option.{Option, none, some}
use native.Mathlib.Omega.{arith}
use lib.ListN.{length}
use Rattle.rules.specs.Card.{Card}
use Rattle.rules.specs.Ranges.{card_good}
use Rattle.rules.specs.Past.{Past, of_part, last_cycle}
use Rattle.rules.specs.Entries.{Entry, past_with, past_over, past_of}
use Rattle.rules.specs.Checks.{Refusal, entry_refusal}
use Rattle.rules.specs.Reading.{AllPass, reads_at}
use Rattle.rules.specs.Lent.{Lent, step_refusal, with_ledger, lent_after, moved_on, pace_of, share_of, stands_at, standing, fresh, AllTaken, PaidTo}
use Rattle.rules.proofs.Tests.{some_none}
use Rattle.rules.proofs.Filtered.{IsPart}
use Rattle.rules.proofs.Exactly.{entry_decides}
use Rattle.rules.proofs.Apart.{entries_of, own_only, independent}
use Rattle.rules.proofs.Taken.{unmoved, paid_to_last}
use Rattle.rules.proofs.StepByList.{fresh_stands, pace_is, ledger_is, share_at_lem, step_accepts, step_after, step_keeps, step_unmoved}

-- each entry in turn; none at the first refusal
unfoldable pub run_steps : Lent → List Entry → Option Lent
run_steps l [] = some l
run_steps l (e ∷ es) = elim (step_refusal l e) [ none ↦ run_steps (lent_after l e) es | some x ↦ none ]

-- every entry passes its checks against its own past
abbrev pub AllEntries : Card → Past → List Entry → Type 0
AllEntries card past es = (i : ℕ) → i < length es → AllPass (reads_at card past es i)

run_refused : (l : Lent) (e : Entry) (es : List Entry) (x : Refusal) → step_refusal l e ≡ some x → run_steps l (e ∷ es) ≡ none
unfolding run_steps
run_refused l e es x n = rw (n, run_steps)

run_passed : (l : Lent) (e : Entry) (es : List Entry) → step_refusal l e ≡ none → run_steps l (e ∷ es) ≡ run_steps (lent_after l e) es
unfolding run_steps
run_passed l e es n = rw (n, run_steps)

module _ (card : Card) where
  entries_cons : (past : Past) (e : Entry) (es : List Entry) →
      AllEntries card past (e ∷ es) ↔ ((entry_refusal card past e ≡ none) × AllEntries card (past_with card past e) es)
  unfolding reads_at past_over
  entries_cons past e es = (λ h. ((entry_decides card past e).passing.1 (h 0 (omega arith)), λ i l. h (suc i) (omega arith)), back)
    where
      back : (entry_refusal card past e ≡ none) × AllEntries card (past_with card past e) es → AllEntries card past (e ∷ es)
      back h zero l = (entry_decides card past e).passing.0 h.0
      back h (suc i) l = h.1 i (omega arith)

  -- such entries make an accepted past longer
  pub entries_taken : (past : Past) → AllTaken card past → (es : List Entry) → AllEntries card past es → AllTaken card (past_over card past es)
  unfolding past_over
  entries_taken past all [] h = all
  entries_taken past all (e ∷ es) h =
      let p = (entries_cons past e es).0 h in
      entries_taken (past_with card past e) (unfold AllTaken past_with in ((e, refl, p.0), all)) es p.1

  module _ (good : card_good card ≡ true) where
    runs : (past : Past) → AllTaken card past → (es : List Entry) (l : Lent) →
        (run_steps (standing card past unmoved) es ≡ some l) ↔ (AllEntries card past es × (l ≡ standing card (past_over card past es) unmoved))
    unfolding past_over
    runs past all [] l = unfold run_steps in (λ h. (λ i q. absurd (nowhere q), cc), λ h. ap some (sym h.1))
      where
        nowhere : {i : ℕ} → i < 0 → ⊥
        nowhere q = omega arith
    runs past all (e ∷ es) l = go (step_refusal (standing card past unmoved) e) refl (λ a. runs (past_with card past e) a es l)
      where
        paid : PaidTo card past unmoved
        paid = paid_to_last card past all

        next : Past
        next = past_with card past e

        go : (o : Option Refusal) → step_refusal (standing card past unmoved) e ≡ o →
            (AllTaken card next → (run_steps (standing card next unmoved) es ≡ some l) ↔ (AllEntries card next es × (l ≡ standing card (past_over card next es) unmoved))) →
            (run_steps (standing card past unmoved) (e ∷ es) ≡ some l) ↔ (AllEntries card past (e ∷ es) × (l ≡ standing card (past_over card next es) unmoved))
        go none n ih = (forth, λ h. on ∙ same.1 (((entries_cons past e es).0 h.0).1, h.1))
          where
            same : (run_steps (standing card next unmoved) es ≡ some l) ↔ (AllEntries card next es × (l ≡ standing card (past_over card next es) unmoved))
            same = ih (step_keeps card past unmoved good all paid e n).0

            on : run_steps (standing card past unmoved) (e ∷ es) ≡ run_steps (standing card next unmoved) es
            on = run_passed (standing card past unmoved) e es n ∙ ap (λ (r : Lent). run_steps r es) (step_after card past unmoved good all paid e n)

            forth : run_steps (standing card past unmoved) (e ∷ es) ≡ some l → AllEntries card past (e ∷ es) × (l ≡ standing card (past_over card next es) unmoved)
            forth h =
                let p = same.0 (sym on ∙ h) in
                ((entries_cons past e es).1 ((step_accepts card past unmoved good all paid e n).1, p.0), p.1)
        go (some x) n ih = (λ h. absurd (some_none (sym (run_refused (standing card past unmoved) e es x n) ∙ h)), back)
          where
            back : AllEntries card past (e ∷ es) × (l ≡ standing card (past_over card next es) unmoved) → run_steps (standing card past unmoved) (e ∷ es) ≡ some l
            back h = absurd (some_none (sym (step_unmoved card past good all e ∙ ((entries_cons past e es).0 h.0).0) ∙ n))

    pub runs_iff : (es : List Entry) (l : Lent) → (run_steps (fresh card) es ≡ some l) ↔ (AllEntries card [] es × (l ≡ standing card (past_of card es) unmoved))
    unfolding past_of
    runs_iff es l = subst (λ (r : Lent). (run_steps r es ≡ some l) ↔ (AllEntries card [] es × (l ≡ standing card (past_over card [] es) unmoved)))
        (fresh_stands card) (runs [] (unfold AllTaken in tt) es l)

    -- ---- after a run a part's share, its ledger moved on to cycle d, is by its own entries and d alone
    own_share : (es : List Entry) (l : Lent) → run_steps (fresh card) es ≡ some l → (p : ℕ) → IsPart card p → (d : ℕ) → last_cycle (past_of card es) ≤ d →
        with_ledger (moved_on card l.pace (l.share p).ledger d) (l.share p) ≡ share_of card (of_part p (past_of card es)) d
    own_share es l r p i d h =
        let q = (runs_iff es l).0 r in
        let all : AllTaken card (past_of card es) = unfold past_of in entries_taken [] (unfold AllTaken in tt) es q.0 in
        let paid = paid_to_last card (past_of card es) all in
        let there : stands_at (past_of card es) unmoved p ≤ d = unfold stands_at in omega arith in
        rw (q.1, ledger_is card (past_of card es) unmoved good all paid p i) (share_at_lem card (past_of card es) unmoved good all paid p i d there)

    -- and so is the pace, by any part's own entries
    own_pace : (es : List Entry) (l : Lent) → run_steps (fresh card) es ≡ some l → (p : ℕ) → IsPart card p → l.pace ≡ pace_of card (of_part p (past_of card es))
    own_pace es l r p i =
        let q = (runs_iff es l).0 r in
        let all : AllTaken card (past_of card es) = unfold past_of in entries_taken [] (unfold AllTaken in tt) es q.0 in
        rw q.1 (pace_is card (past_of card es) unmoved good all (paid_to_last card (past_of card es) all) p i)

    pub independent_pace : (p : ℕ) → IsPart card p → (es es' : List Entry) (l l' : Lent) → run_steps (fresh card) es ≡ some l → run_steps (fresh card) es' ≡ some l' →
        entries_of card p es ≡ entries_of card p es' → l.pace ≡ l'.pace
    independent_pace p i es es' l l' r r' same = own_pace es l r p i ∙ ap (pace_of card) (own_only card p es es' same) ∙ sym (own_pace es' l' r' p i)

    pub independent_steps : (p : ℕ) → IsPart card p → (es es' : List Entry) (l l' : Lent) → run_steps (fresh card) es ≡ some l → run_steps (fresh card) es' ≡ some l' →
        entries_of card p es ≡ entries_of card p es' → (d : ℕ) → last_cycle (past_of card es) ≤ d → last_cycle (past_of card es') ≤ d →
        with_ledger (moved_on card l.pace (l.share p).ledger d) (l.share p) ≡ with_ledger (moved_on card l'.pace (l'.share p).ledger d) (l'.share p)
    independent_steps p i es es' l l' r r' same d h h' = own_share es l r p i d h ∙ independent card p es es' same d ∙ sym (own_share es' l' r' p i d h')
