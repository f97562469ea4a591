-- What a quick run asks of the record that it begins with, and of a cycle that it comes to.
use Prim.Native.Nat.{ℕ, ◌≤◌}
use mathlib.Core.Path.{◌≡◌, refl}
use mathlib.Core.Bool.{Bool, true, false}
use mathlib.Core.Option.{none}
use native.Mathlib.Omega.{arith}
use borrow.Author.Tests.{le-leb, leb-true, eqb-true}
use Rattle.rules.specs.Levels.{Level, awake, power_down, self_refresh, deep, depth, same_level}
use Rattle.rules.specs.Folds.{or_else, first_of}
use Rattle.rules.specs.Checks.{unless, named}
use Rattle.rules.specs.Lent.{ledger_good, ledger_to, move_refusal, moved_on}
use Rattle.rules.proofs.Tests.{both_true}
use Rattle.rules.proofs.Sound.{sound_ledger, moved_good}
use Rattle.card.specs.Values.{card_of}
use Rattle.pins.specs.Values.{level_of}
use Rattle.ledger.specs.declared.Ledger.{Ledger}
use Rattle.ledger.specs.Values.{ledger_of, code_of, pace_of}
use Rattle.ledger.proofs.Deadlines.{sound, none_failing}
use Rattle.step.specs.declared.single.Single.{Single}
use Rattle.step.specs.Single.{dues_by}
use Rattle.step.specs.Ready.{stands_of}
use Rattle.step.specs.Quick.{EndArgs}
use Rattle.step.proofs.Kept.{ledger_back}

pub not_so : {A : Type 0} → ◌≡◌ {A = Bool} false true → A
not_so e = absurd (let z : ◌≡◌ {A = ℕ} 0 1 = cc in omega arith)

awake_so : (l : Level) → same_level awake l ≡ true → l ≡ awake
unfolding same_level depth
awake_so awake e = refl
awake_so power_down e = not_so e
awake_so self_refresh e = not_so e
awake_so deep e = not_so e

pub record Stands (rec : Single) : Type 0 where
  pub seen : rec.last.seen ≡ true
  pub there : rec.share.ledger.at ≡ rec.last.at
  pub skips : rec.share.ledger.skipped ≤ rec.share.ledger.at
  pub wakes : level_of rec.share.ledger.level ≡ awake

pub stands_so : (rec : Single) → stands_of rec ≡ true → Stands rec
unfolding stands_of
stands_so rec e =
    let a = both_true _ _ e in
    let b = both_true _ _ a.0 in
    let c = both_true _ _ b.0 in
    record { seen = c.0; there = eqb-true _ _ c.1; skips = leb-true _ _ b.1; wakes = awake_so _ a.1 }

-- ---- the ledger moved on to a cycle before its deadline
module _ (rec : Single) (t : ℕ) (a : EndArgs rec t) where
  abbrev g : Ledger
  g = rec.share.ledger

  pub unrefused : move_refusal (card_of rec.card) (pace_of rec.pace) (ledger_of g) t ≡ none
  unfolding move_refusal first_of or_else unless named ledger_of
  unrefused = rw ((sound rec.card rec.pace g t a.later a.early).good, le-leb g.at t a.later, none_failing rec.card rec.pace g t a.later a.early)

  -- is stored as it is
  pub moved_back : ledger_of (code_of (ledger_to (dues_by rec) (ledger_of g) t)) ≡ ledger_to (dues_by rec) (ledger_of g) t
  moved_back =
      let there = ledger_to (dues_by rec) (ledger_of g) t in
      let good : ledger_good (card_of rec.card) there ≡ true = unfold moved_on in moved_good (card_of rec.card) (pace_of rec.pace) (ledger_of g) t unrefused in
      ledger_back there (sound_ledger (card_of rec.card) there good).owing
