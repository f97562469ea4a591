-- Idle time up to a cycle: what fails on the way, and the ledger as after it.
use Prim.Native.Nat.{ℕ, ◌+◌, ◌-◌, ◌≤◌, ◌<◌}
use mathlib.Core.Path.{◌≡◌, refl, sym, ◌∙◌}
use mathlib.Core.Logic.{⊎_elim}
use mathlib.Core.Bool.{Bool, true, false, cond}
use mathlib.Core.Option.{none, some}
use native.Mathlib.Omega.{arith}
use lib.Dec.{leb, ltb}
use lib.IntN.{sub_ℕ}
use Rattle.rules.specs.Levels.{stopped}
use Rattle.rules.specs.Account.{lpddr3, Beat, fallen, steady, idle}
use Rattle.rules.specs.Lent.{number_of, counted_to, ledger_to, failing_to}
use Rattle.rules.proofs.Tests.{lt_cases, some_none}
use Rattle.rules.proofs.Clocked.{relabel}
use Rattle.rules.proofs.Closed.{failing_below}
use Rattle.rules.proofs.Idle.{owed_at, idle_beat}
use Rattle.rules.proofs.Ledgers.{counted_by}
use Rattle.pins.specs.Values.{level_of}
use Rattle.ledger.specs.declared.Ledger.{Ledger}
use Rattle.ledger.specs.Values.{ledger_of, over_at, late_at, closed_at, deadline_by}
use Rattle.ledger.proofs.Closing.{closed_ahead, none_by, fails_by, within_one}

-- as many of the cycles up to one count
pub halted_counts : (g : Ledger) → stopped (level_of g.level) ≡ true → (t : ℕ) → counted_to (ledger_of g) t ≡ 0
unfolding counted_to ledger_of
halted_counts g e t = rw e

pub running_counts : (g : Ledger) → stopped (level_of g.level) ≡ false → (t : ℕ) → counted_to (ledger_of g) t ≡ t - g.at
unfolding counted_to ledger_of
running_counts g e t = rw e

pub number_by : (g : Ledger) → number_of (ledger_of g) ≤ g.at
unfolding number_of ledger_of
number_by g = omega arith

pub counts_by : (g : Ledger) (t : ℕ) → counted_to (ledger_of g) t ≤ t - g.at
counts_by g t = unfold ledger_of in counted_by (ledger_of g) t

module _ (b : Beat) (g : Ledger) where
  abbrev n : ℕ
  n = number_of (ledger_of g)

  abbrev halted : Bool
  halted = stopped (level_of g.level)

  abbrev pub rule : ℕ
  rule = cond (leb (over_at b n g.owed) (late_at b.span n g.since)) 19 20

  pub halted_none : halted ≡ true → (t : ℕ) → failing_to b (ledger_of g) t ≡ none
  unfolding failing_to ledger_of
  halted_none e t = rw e

  module _ (positive : 0 < b.span) (low : g.owed ≤ 16) where
    ahead : n < closed_at b n g.owed g.since
    ahead = closed_ahead b n g.owed g.since positive

    module _ (runs : halted ≡ false) (t : ℕ) where
      pub running_none : t ≤ deadline_by b g → failing_to b (ledger_of g) t ≡ none
      unfolding ledger_of deadline_by
      running_none h =
          failing_below b (ledger_of g) t
          ∙ rw (running_counts g runs t, none_by b n g.owed g.since positive low (t - g.at - 1) (omega (arith, ahead))) (unfold relabel in refl)

      pub running_fails : deadline_by b g < t → failing_to b (ledger_of g) t ≡ some (rule, deadline_by b g)
      unfolding ledger_of deadline_by
      running_fails h =
          failing_below b (ledger_of g) t
          ∙ rw (running_counts g runs t, fails_by b n g.owed g.since positive low (t - g.at - 1) (omega (arith, ahead))) (unfold relabel in refl)

      pub by_deadline : failing_to b (ledger_of g) t ≡ none → t ≤ deadline_by b g
      by_deadline e = ⊎_elim
          (λ (p : (deadline_by b g < t) × (ltb (deadline_by b g) t ≡ true)). absurd (some_none (sym e ∙ running_fails p.0)))
          (λ (p : (t ≤ deadline_by b g) × (ltb (deadline_by b g) t ≡ false)). p.0)
          (lt_cases (deadline_by b g) t)

    -- what does not fail below one cycle does not fail below an earlier one
    pub fewer_none : (t u : ℕ) → t ≤ u → failing_to b (ledger_of g) u ≡ none → failing_to b (ledger_of g) t ≡ none
    fewer_none t u h e = go halted refl
      where
        go : (x : Bool) → halted ≡ x → failing_to b (ledger_of g) t ≡ none
        go true w = halted_none w t
        go false w = let l : u ≤ deadline_by b g = by_deadline w u e in running_none w t (omega arith)

    -- ---- a cycle below which neither fails
    module _ (t : ℕ) (e : failing_to b (ledger_of g) t ≡ none) where
      abbrev c : ℕ
      c = counted_to (ledger_of g) t

      by_over : n + c ≤ over_at b n g.owed
      by_over = go halted refl
        where
          go : (x : Bool) → halted ≡ x → n + c ≤ over_at b n g.owed
          go true w = rw (halted_counts g w t) (omega (arith, ahead))
          go false w = rw (running_counts g w t) (let l : t ≤ deadline_by b g = by_deadline w t e in unfold deadline_by in omega (arith, ahead))

      pub owed_fits : g.owed + (fallen b (n + c) - fallen b n) ≤ 17
      owed_fits = within_one b n g.owed (n + c) positive low (omega arith) by_over

      pub reached : (n' c' x y : ℕ) → n' ≡ n → c' ≡ c → x ≡ fallen b (n' + c') → y ≡ fallen b n' →
          ledger_of (record { at = t; owed = g.owed + (x - y); since = g.since; skipped = t - (n' + c'); level = g.level }) ≡ ledger_to b (ledger_of g) t
      unfolding ledger_to ledger_of lpddr3
      reached n' c' x y en ec ex ey =
          rw (ex, ey, en, ec)
          (λ i. record { at = t; owing = sym owing i; since = g.since; skipped = t - (n + c); level = level_of g.level })
        where
          owing : idle 8 (steady b) (sub_ℕ g.owed 8) n c ≡ sub_ℕ (g.owed + (fallen b (n + c) - fallen b n)) 8
          owing = unfold owed_at in idle_beat b positive 8 g.owed n c
