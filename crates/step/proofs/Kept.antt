-- An entry that is taken leaves a record that 13 lets pass again, and that is to the rules their record after it.
use Prim.Native.Nat.{ℕ, suc, ◌+◌, ◌-◌, ◌≤◌}
use mathlib.Core.Path.{◌≡◌, refl, ap, sym, ◌∙◌}
use mathlib.Core.Bool.{Bool, true, false, cond}
use mathlib.Core.Option.{none}
use native.Mathlib.Omega.{arith}
use lib.IntN.{ℤ, pos, negsuc, sub_ℕ}
use borrow.Author.Tests.{leb-true}
use Rattle.rules.specs.Levels as levels
use Rattle.rules.specs.Account.{lpddr3}
use Rattle.rules.specs.Entries.{Entry, whose_of}
use Rattle.rules.specs.Lent as lent
use Rattle.rules.specs.Lent.{read_in, command_in, move_in, ledger_with, pace_with, owing_good, lent_good, step_refusal, lent_after}
use Rattle.rules.proofs.Tests.{both_true}
use Rattle.rules.proofs.Biased.{sub_below, sub_from}
use Rattle.rules.proofs.Filtered.{IsPart}
use Rattle.rules.proofs.Sound.{sound_ledger, step_passed, ledger_kept, good_kept}
use Rattle.card.specs.Values.{card_of}
use Rattle.pins.specs.Values.{level_of}
use Rattle.ledger.specs.Values.{ledger_of, stored, level_in, code_of, pace_in}
use Rattle.ledger.proofs.Promises.{code_is}
use Rattle.bank.specs.declared.Record.{Record}
use Rattle.bank.specs.Values.{lent_of}
use Rattle.bank.specs.Both.{ledgers_as}
use Rattle.bank.proofs.Sizes.{Whole}
use Rattle.bank.proofs.Shares.{first_is, second_is}
use Rattle.bank.proofs.Changed.{after_is, good_args, entry_bank, record_after_lem}
use Rattle.step.specs.Values.{second_with, record_with}
use Rattle.step.proofs.Arrays.{after_whole}
use Rattle.step.proofs.Paced.{pace_back}

-- what a run keeps of a record
pub record Good (rec : Record) : Type 0 where
  pub passed : lent_good (lent_of rec) ≡ true
  pub arrays : Whole rec

-- ---- a ledger that 13 lets pass is stored as it is
stored_back : (z : ℤ) → owing_good z ≡ true → sub_ℕ (stored z) 8 ≡ z
unfolding stored owing_good lpddr3
stored_back (pos n) e = let k : 8 + n - 8 ≡ n = omega arith in sub_from (8 + n) 8 (omega arith) ∙ ap pos k
stored_back (negsuc n) e =
    let low : n ≤ 7 = leb-true n 7 (both_true _ _ e).0 in
    let k : 8 - suc (7 - n) ≡ n = omega arith in
    sub_below (7 - n) 8 (omega arith) ∙ ap negsuc k

level_back : (l : levels.Level) → level_of (level_in l) ≡ l
unfolding level_of level_in
level_back levels.awake = refl
level_back levels.power_down = refl
level_back levels.self_refresh = refl
level_back levels.deep = refl

pub ledger_back : (g : lent.Ledger) → owing_good g.owing ≡ true → ledger_of (code_of g) ≡ g
unfolding ledger_of code_of
ledger_back g e = λ i. record {
  at = g.at;
  owing = stored_back g.owing e i;
  since = g.since;
  skipped = g.skipped;
  level = level_back g.level i;
}

-- ---- the record then
module _ (rec : Record) (e : Entry) (g : Good rec) (n : step_refusal (lent_of rec) e ≡ none) where
  there_back : (p : ℕ) → IsPart (lent_of rec).card p → ledger_of (code_of (ledger_with (lent_of rec) e p)) ≡ ledger_with (lent_of rec) e p
  there_back p i = ledger_back _ (sound_ledger (lent_of rec).card (ledger_with (lent_of rec) e p) (ledger_kept (lent_of rec) e n p i)).owing

  second_back : ledger_of (code_of (second_with rec e)) ≡ second_with rec e
  unfolding second_with
  second_back = go rec.card.paired refl
    where
      go : (x : Bool) → rec.card.paired ≡ x →
          (let h = cond x (ledger_with (lent_of rec) e 1) (ledger_of rec.second.ledger) in ledger_of (code_of h) ≡ h)
      go true m = there_back 1 (second_is (lent_of rec).card ∙ (unfold lent_of card_of in m))
      go false m = ap ledger_of (code_is rec.second.ledger)

  pub lent_with : lent_of (record_with rec e) ≡ lent_after (lent_of rec) e
  unfolding record_with command_in move_in read_in
  lent_with =
      let l = lent_of rec in
      let gs = ledgers_as (code_of (ledger_with l e 0)) (code_of (second_with rec e)) in
      let z = pace_in (pace_with l e) in
      let args = good_args rec e (command_in l e) g.passed (step_passed l e n).above (entry_bank _ _ e) in
      record_after_lem rec (whose_of l.card e) (command_in l e) (move_in l e) e.stamp gs z g.arrays args
      ∙ sym (after_is rec e gs z (there_back 0 (first_is l.card)) (unfold second_with in second_back) (pace_back _))

  pub good_with : Good (record_with rec e)
  unfolding record_with
  good_with = record { passed = rw lent_with (good_kept (lent_of rec) e n); arrays = after_whole rec _ _ _ _ _ _ g.arrays }
