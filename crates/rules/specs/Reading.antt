-- Demand 2 in propositions. A trace is accepted exactly when every entry passes every check against its own past, and the end does; it is refused so at
-- a place exactly when all before it pass and this is the first check that fails there. proofs/Exactly: `judge` says the same.
use Rattle.std.specs.Prelude.{ℕ, suc, ◌+◌, ◌*◌, ◌-◌, ◌≤◌, ◌<◌, ◌≡◌, ◌⊎◌, ◌↔◌, true, List, [], ◌∷◌, ℤ, pos, ◌≤ℤ◌, length, take, get_or}
use Rattle.std.proofs.Math.Option.{Option, some}
use Rattle.rules.specs.Lists.{Every}
use Rattle.rules.specs.Card.{Card}
use Rattle.rules.specs.Heat.{mr4_good, delays_at}
use Rattle.rules.specs.Pins.{wrong_bits, reserved}
use Rattle.rules.specs.Past.{Past, mr4_at, is_open, counter_at, command_count}
use Rattle.rules.specs.States.{state_good}
use Rattle.rules.specs.Folds.{Found, Rule}
use Rattle.rules.specs.Delays.{look_both, find, delay_rules}
use Rattle.rules.specs.Levels.{plain, barred, clash, sensed}
use Rattle.rules.specs.Entries.{Entry, entry, own_for, others_for, read_for, move_of, judged_as, past_with, past_over}
use Rattle.rules.specs.Account.{Terms, lpddr3, Book, ledger_on, since_on}
use Rattle.rules.specs.Clock.{books_of}
use Rattle.rules.specs.Checks.{Refusal, refusal, value_good}
use Rattle.rules.specs.Verdict.{refresh_count, ledgers_at}

-- a check: when it passes, and which refusals it gives when it does not
pub record Check : Type 1 where
  pub ok : Type 0
  pub fails : Refusal → Type 0

unfoldable pub AllPass : List Check → Type 0
AllPass [] = Unit {0}
AllPass (c ∷ cs) = c.ok × AllPass cs

-- the first check that does not pass gives this refusal
unfoldable pub FirstFails : List Check → Refusal → Type 0
FirstFails [] x = ⊥
FirstFails (c ∷ cs) x = c.fails x ⊎ (c.ok × FirstFails cs x)

-- a check whose refusal is its number alone
unfoldable pub plainly : ℕ → Type 0 → Check
plainly k P = record { ok = P; fails = λ x. (¬ P) × (x ≡ refusal k 0 0) }

-- ---- 5: the stamp is above the last entry's, E is not below it
unfoldable pub Above : Past → ℕ → Type 0
Above [] t = Unit {0}
Above (e ∷ p) t = e.stamp < t

unfoldable pub NotBelow : Past → ℕ → Type 0
NotBelow [] t = Unit {0}
NotBelow (e ∷ p) t = e.stamp ≤ t

-- ---- 10: the delay rules
module _ {Q X : Type 0} (look : Q → Option (Found X)) where
  -- the rule holds at t: each entry that it counts from is that far back
  unfoldable pub Holds : Rule Q X → ℕ → Type 0
  Holds q t = Every (λ s. (f : Found X) → look s.ask ≡ some f → f.stamp + s.delay f.noted ≤ t) q.sources

  -- it holds from cycle u on, and not before
  unfoldable pub FirstPermitted : Rule Q X → ℕ → Type 0
  FirstPermitted q u = (t : ℕ) → Holds q t ↔ (u ≤ t)

  -- the first rule of the list that does not hold at t is named, with its first permitted cycle
  unfoldable pub FirstBroken : List (Rule Q X) → ℕ → Refusal → Type 0
  FirstBroken [] t x = ⊥
  FirstBroken (q ∷ qs) t x =
      ((¬ Holds q t) × ((u : ℕ) × FirstPermitted q u × (x ≡ refusal 10 q.number u))) ⊎ (Holds q t × FirstBroken qs t x)

  unfoldable pub in_time : List (Rule Q X) → ℕ → Check
  in_time qs t = record { ok = Every (λ q. Holds q t) qs; fails = FirstBroken qs t }

-- ---- 11: rules 19 and 20 after cycle t
unfoldable pub WithinLimit : Terms → Book → ℕ → Type 0
WithinLimit k b t = ledger_on k.credit b t ≤ℤ pos k.limit

unfoldable pub WithinGap : Terms → Book → ℕ → Type 0
WithinGap k b t = b.clock t - since_on b t ≤ k.gap * b.schedule.span (b.clock t)

pub record Paid (k : Terms) (b : Book) (t : ℕ) : Type 0 where
  pub limit : WithinLimit k b t
  pub gap : WithinGap k b t

-- where both fail the limit's rule is named
unfoldable pub Unpaid : Terms → Book → ℕ → Refusal → Type 0
Unpaid k b t x =
    ((¬ WithinLimit k b t) × (x ≡ refusal 11 k.limit_rule t)) ⊎
    (WithinLimit k b t × (¬ WithinGap k b t) × (x ≡ refusal 11 k.gap_rule t))

-- ---- over several books
unfoldable pub EachPaid : Terms → List Book → ℕ → Type 0
EachPaid k bs t = Every (λ b. Paid k b t) bs

-- the first that does not pay names its rule
unfoldable pub FirstUnpaid : Terms → List Book → ℕ → Refusal → Type 0
FirstUnpaid k [] t x = ⊥
FirstUnpaid k (b ∷ bs) t x = Unpaid k b t x ⊎ (Paid k b t × FirstUnpaid k bs t x)

unfoldable pub paid_at : Terms → List Book → ℕ → Check
paid_at k bs t = record { ok = EachPaid k bs t; fails = FirstUnpaid k bs t }

-- through all cycles below t, the first that fails is named
unfoldable pub paid_below : Terms → List Book → ℕ → Check
paid_below k bs t = record {
  ok = (u : ℕ) → u < t → EachPaid k bs u;
  fails = λ x. (u : ℕ) × (u < t) × ((v : ℕ) → v < u → EachPaid k bs v) × FirstUnpaid k bs u x;
}

-- ---- the checks of an entry against its own past, and of the end, in document 01's order
unfoldable pub entry_reads : Card → Past → Entry → List Check
entry_reads card past e =
    let own = own_for card past e in
    let others = others_for card past e in
    let r = read_for card past e in
    let c = judged_as r in
    plainly 5 (Above past e.stamp) ∷
    paid_below lpddr3 (books_of card past) e.stamp ∷
    plainly 6 (¬ (r ≡ plain wrong_bits)) ∷
    plainly 24 (¬ (r ≡ clash)) ∷
    plainly 7 (¬ (r ≡ plain reserved)) ∷
    plainly 8 (state_good (λ b. is_open b own) (counter_at own) c ≡ true) ∷
    plainly 16 (¬ (r ≡ barred)) ∷
    plainly 9 (value_good card c ≡ true) ∷
    plainly 26 ((v : ℕ) → r ≡ sensed v → mr4_good v ≡ true) ∷
    in_time (look_both (find card own) (find card others)) (delay_rules (delays_at card (mr4_at own)) c (move_of r) (counter_at own)) e.stamp ∷
    paid_at lpddr3 (books_of card (past_with card past e)) e.stamp ∷ []

unfoldable pub end_reads : Card → Past → ℕ → List Check
end_reads card past end =
    plainly 5 (NotBelow past end) ∷
    paid_below lpddr3 (books_of card past) (suc end) ∷ []

-- ---- the trace, behind a past (none, for a whole trace)
unfoldable pub blank : Entry
blank = entry 0 0

-- entry i against its own past
unfoldable pub reads_at : Card → Past → List Entry → ℕ → List Check
reads_at card past es i = entry_reads card (past_over card past (take i es)) (get_or es i blank)

-- accepted, with these numbers
pub record Accepts (card : Card) (past : Past) (es : List Entry) (end m n : ℕ) (l : List ℤ) : Type 0 where
  pub entries : (i : ℕ) → i < length es → AllPass (reads_at card past es i)
  pub ended : AllPass (end_reads card (past_over card past es) end)
  pub commands : m ≡ command_count (past_over card past es)
  pub refreshes : n ≡ refresh_count card (past_over card past es)
  pub ledgers : l ≡ ledgers_at card (past_over card past es) end

-- refused so at place i: an entry's, or the end's behind all of them
pub record Refuses (card : Card) (past : Past) (es : List Entry) (end : ℕ) (x : Refusal) (i : ℕ) : Type 0 where
  pub before : (j : ℕ) → j < i → AllPass (reads_at card past es j)
  pub here : ((i < length es) × FirstFails (reads_at card past es i) x) ⊎
      ((i ≡ length es) × FirstFails (end_reads card (past_over card past es) end) x)
