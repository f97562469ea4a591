-- A ledger moved on, and its first failing cycle, in closed form: with no walk over cycles.
use Prim.Native.Nat.{ℕ, suc, ◌+◌, ◌*◌, ◌-◌, ◌≤◌, ◌<◌}
use mathlib.Core.Path.{◌≡◌, refl, ap, sym, ◌∙◌}
use mathlib.Core.Logic.{⊎_elim}
use mathlib.Core.Bool.{Bool, true, false, cond}
use mathlib.Core.Option.{Option, none, some}
use native.Mathlib.Omega.{arith}
use lib.Dec.{leb}
use lib.IntN.{ℤ, pos, negsuc, sub_ℕ}
use borrow.Author.Tests.{lt-ltb, le-ltb, leb-true}
use Rattle.rules.specs.Levels.{stopped}
use Rattle.rules.specs.Account.{Terms, Schedule, lpddr3, Beat, steady, idle, first_idle}
use Rattle.rules.specs.Lent.{Ledger, number_of, owing_good, counted_to, ledger_to, failing_to}
use Rattle.rules.proofs.Tests.{both_true, le_cases, some_none}
use Rattle.rules.proofs.Biased.{owing}
use Rattle.rules.proofs.Idle.{owed_at, next19, after20, first_next, idle_beat, idle_closed}
use Rattle.rules.proofs.Clocked.{relabel, idle_labelled}

-- where neither rule fails
pub owing_none : (k : Terms) (d : Schedule) (o last n t : ℕ) → owing k d o last n t ≡ none →
    (o ≤ k.credit + k.limit) × (n - d.since last n ≤ k.gap * d.span n)
unfolding owing
owing_none k d o last n t e = ⊎_elim
    (λ (p : (o ≤ k.credit + k.limit) × (leb o (k.credit + k.limit) ≡ true)). ⊎_elim
    (λ (q : (n - d.since last n ≤ k.gap * d.span n) × (leb (n - d.since last n) (k.gap * d.span n) ≡ true)). (p.0, q.0))
    (λ (q : (k.gap * d.span n < n - d.since last n) × (leb (n - d.since last n) (k.gap * d.span n) ≡ false)).
    let z : Path (Option (ℕ × ℕ)) (some (k.gap_rule, t)) none = rw (p.1, q.1) at e in absurd (some_none (sym z)))
    (le_cases (n - d.since last n) (k.gap * d.span n)))
    (λ (p : (k.credit + k.limit < o) × (leb o (k.credit + k.limit) ≡ false)).
    let z : Path (Option (ℕ × ℕ)) (some (k.limit_rule, t)) none = rw p.1 at e in absurd (some_none (sym z)))
    (le_cases o (k.credit + k.limit))

-- what fails of a lent ledger in idle time: the first number that does, as a cycle of the trace
module _ (b : Beat) (g : Ledger) where
  -- among so many counted cycles
  abbrev pub first_among : ℕ → Option (ℕ × ℕ)
  first_among j = relabel (λ m. g.at + (m - number_of g)) (first_idle lpddr3 (steady b) g.owing g.since (number_of g) (number_of g) j)

  labelled : (j : ℕ) (x : Bool) → cond x none (first_idle lpddr3 (steady b) g.owing g.since (number_of g) g.at j) ≡ first_among (cond x 0 j)
  labelled j true = unfold relabel first_idle in refl
  labelled j false = idle_labelled lpddr3 (steady b) g.owing g.since (number_of g) g.at j

  pub failing_through : (t : ℕ) → failing_to b g (suc t) ≡ first_among (counted_to g t)
  unfolding failing_to counted_to
  failing_through t = let z : suc t - suc g.at ≡ t - g.at = omega arith in rw z (labelled (t - g.at) (stopped g.level))

  pub failing_below : (t : ℕ) → failing_to b g t ≡ first_among (counted_to g t - 1)
  unfolding failing_to counted_to
  failing_below t =
      let z : t - suc g.at ≡ t - g.at - 1 = omega arith in
      rw z (labelled (t - g.at - 1) (stopped g.level) ∙ ap first_among (one_less (stopped g.level)))
    where
      one_less : (x : Bool) → cond x 0 (t - g.at - 1) ≡ cond x 0 (t - g.at) - 1
      one_less true = refl
      one_less false = refl

-- the ledger with the credit added
unfoldable pub biased : ℤ → ℕ
biased (pos n) = n + lpddr3.credit
biased (negsuc n) = lpddr3.credit - suc n

biased_back : (z : ℤ) → owing_good z ≡ true → sub_ℕ (biased z) lpddr3.credit ≡ z
unfolding biased owing_good lpddr3
biased_back (pos n) h = rw (le-ltb (n + 8) 8 (omega arith)) (ap pos (omega arith))
biased_back (negsuc n) h =
    let l : n ≤ 7 = leb-true n 7 (both_true _ _ h).0 in
    rw (lt-ltb (8 - suc n) 8 (omega arith)) (ap negsuc (omega arith))

biased_low : (z : ℤ) → owing_good z ≡ true → biased z ≤ lpddr3.credit + lpddr3.limit
unfolding biased owing_good lpddr3
biased_low (pos n) h = let l : n ≤ 8 = leb-true n 8 h in omega arith
biased_low (negsuc n) h = omega arith

module _ (b : Beat) (g : Ledger) where
  abbrev n : ℕ
  n = number_of g

  unfoldable pub ledger_closed : ℕ → Ledger
  ledger_closed t =
      let m = n + counted_to g t in
      record { at = t; owing = sub_ℕ (owed_at b n (biased g.owing) m) lpddr3.credit; since = g.since; skipped = t - m; level = g.level }

  unfoldable pub failing_closed : ℕ → Option (ℕ × ℕ)
  failing_closed t =
      cond (stopped g.level) none
      (relabel (λ m. g.at + (m - n)) (first_next lpddr3 (next19 lpddr3 b n (biased g.owing)) (after20 lpddr3 b.span n g.since) (suc (n + (t - suc g.at)))))

  module _ (positive : 0 < b.span) (good : owing_good g.owing ≡ true) where
    pub ledger_closed_lem : (t : ℕ) → ledger_to b g t ≡ ledger_closed t
    unfolding ledger_to ledger_closed
    ledger_closed_lem t = rw owed
      where
        owed : idle lpddr3.credit (steady b) g.owing n (counted_to g t) ≡ sub_ℕ (owed_at b n (biased g.owing) (n + counted_to g t)) lpddr3.credit
        owed =
            ap (λ (z : ℤ). idle lpddr3.credit (steady b) z n (counted_to g t)) (sym (biased_back g.owing good))
            ∙ idle_beat b positive lpddr3.credit (biased g.owing) n (counted_to g t)

    pub failing_closed_lem : (t : ℕ) → failing_to b g t ≡ failing_closed t
    unfolding failing_to failing_closed
    failing_closed_lem t = rw first
      where
        j : ℕ
        j = t - suc g.at

        first : first_idle lpddr3 (steady b) g.owing g.since n g.at j
            ≡ relabel (λ m. g.at + (m - n)) (first_next lpddr3 (next19 lpddr3 b n (biased g.owing)) (after20 lpddr3 b.span n g.since) (suc (n + j)))
        first =
            idle_labelled lpddr3 (steady b) g.owing g.since n g.at j
            ∙ ap (λ (z : ℤ). relabel (λ m. g.at + (m - n)) (first_idle lpddr3 (steady b) z g.since n n j)) (sym (biased_back g.owing good))
            ∙ ap (relabel (λ m. g.at + (m - n))) (idle_closed b positive lpddr3 n (biased g.owing) g.since (biased_low g.owing good) j)
