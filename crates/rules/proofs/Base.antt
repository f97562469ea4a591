-- Document 01's judge as it was before low clock-enable: those of its definitions that request One changed.
use Prim.Native.Nat.{ℕ, zero, suc, ◌*◌, ◌-◌}
use mathlib.Core.Bool.{Bool, cond, not, ◌||◌}
use mathlib.Core.List.{List, [], ◌∷◌, ◌++◌}
use mathlib.Core.Option.{Option, none, some}
use lib.Dec.{leb, eqb}
use lib.IntN.{ℤ, pos, suc_ℤ}
use lib.ListN.{length, take}
use lib.Signed.{le_z}
use Rattle.rules.specs.Lists.{is_one_of}
use Rattle.rules.specs.Card.{Card}
use Rattle.rules.specs.Units.{Delays}
use Rattle.rules.specs.Commands.{Command}
use Rattle.rules.specs.Registers.{Modes}
use Rattle.rules.specs.Pins.{decode}
use Rattle.rules.specs.Whose.{sole}
use Rattle.rules.specs.Levels.{stays, plain}
use Rattle.rules.specs.Past.{Taken, Past, counter_at, is_open, counted_stamps, command_count}
use Rattle.rules.specs.States.{state_good}
use Rattle.rules.specs.Folds.{or_else, first_of, Rule, first_broken}
use Rattle.rules.specs.Delays.{Asked}
use Rattle.rules.specs.Account.{Terms, lpddr3, is_due, take_one, last_counted}
use Rattle.rules.specs.Entries.{Entry, command_of}
use Rattle.rules.specs.Checks.{Refusal, unless, named, is_wrong, is_reserved, above, not_below}
use Rattle.rules.specs.Form.{Field, last_tag, is_listed}
use Rattle.rules.specs.File.{FileVerdict, accepted}
use Rattle.rules.specs.Lines.{verdict_line}
use Rattle.rules.proofs.Walks.{Judge, two, judged_by}
use Rattle.rules.proofs.Coarse.{coarse_interval, coarse_delays_of, coarse_value_good}
use Rattle.rules.proofs.Mild.{pins_of}
use Rattle.rules.proofs.Alone.{alone_look, alone_rules, alone_lengths, alone_good, alone_lines}

-- ---- the account, cycle by cycle: each is counted, and a refresh is due at every positive multiple of I
unfoldable pub base_cycle : ℕ → (I : ℕ) → (counted : Bool) → (t : ℕ) → ℤ → ℤ
base_cycle credit I counted t z =
    let added = cond (is_due I t) (suc_ℤ z) z in
    cond counted (take_one credit added) added

-- before cycle t, and after it; cs are the stamps of the counted refreshes, the newest first
unfoldable pub base_before : ℕ → ℕ → List ℕ → ℕ → ℤ
base_before credit I cs zero = pos 0
base_before credit I cs (suc t) = base_cycle credit I (is_one_of cs t) t (base_before credit I cs t)

unfoldable pub base_ledger : ℕ → ℕ → List ℕ → ℕ → ℤ
base_ledger credit I cs t = base_before credit I cs (suc t)

unfoldable pub base_failing : Terms → (I : ℕ) → List ℕ → ℕ → Option (ℕ × ℕ)
base_failing k I cs t =
    cond (le_z (base_ledger k.credit I cs t) (pos k.limit))
    (cond (leb (t - last_counted cs t) (k.gap * I)) none (some (k.gap_rule, t))) (some (k.limit_rule, t))

unfoldable pub base_first : Terms → (I : ℕ) → List ℕ → ℕ → Option (ℕ × ℕ)
base_first k I cs zero = none
base_first k I cs (suc t) = or_else (base_first k I cs t) (base_failing k I cs t)

-- ---- an entry is what its pins say, and moves nothing
unfoldable pub base_taken : Entry → Taken
base_taken e = record { stamp = e.stamp; cmd = command_of (decode (pins_of e)); move = stays; whose = sole; mr4 = none }

-- rules 1 to 18
unfoldable pub base_rules : Delays → Command → ℕ → List (Rule Asked Modes)
base_rules d c n = take 18 (alone_rules d c stays n)

unfoldable pub base_entry : Card → Past → Entry → Option Refusal
base_entry card past e =
    let d = decode (pins_of e) in
    let c = command_of d in
    let t = e.stamp in
    first_of (
    unless (above past t) 5 ∷
    named 11 (base_first lpddr3 (coarse_interval card) (counted_stamps past) t) ∷
    unless (not (is_wrong (plain d))) 6 ∷
    unless (not (is_reserved (plain d))) 7 ∷
    unless (state_good (λ b. is_open b past) (counter_at past) c) 8 ∷
    unless (coarse_value_good card c) 9 ∷
    named 10 (first_broken (alone_look card past) (base_rules (coarse_delays_of card) c (counter_at past)) t) ∷
    named 11 (base_failing lpddr3 (coarse_interval card) (counted_stamps (base_taken e ∷ past)) t) ∷ []
    )

unfoldable pub base_end : Card → Past → ℕ → Option Refusal
base_end card past end =
    first_of (unless (not_below past end) 5 ∷ named 11 (base_first lpddr3 (coarse_interval card) (counted_stamps past) (suc end)) ∷ [])

unfoldable pub base_verdict : Card → Past → ℕ → FileVerdict
base_verdict card past end =
    accepted (command_count past) (length (counted_stamps past)) (base_ledger lpddr3.credit (coarse_interval card) (counted_stamps past) end ∷ [])

-- ---- the card is tags 1 to 18, and behind it come entries and the end; their lengths and ranges are as the next judge had them
unfoldable pub base_come : List Field → ℕ → Bool
base_come fs tag = cond (eqb (last_tag fs) 18) (eqb tag 32 || eqb tag 33) (eqb tag (suc (last_tag fs)))

unfoldable pub base : Judge
base = record {
  come = λ entries. base_come;
  wrong = two;
  size = is_listed alone_lengths;
  good = alone_good;
  entry = base_entry;
  taken = λ card past. base_taken;
  end = base_end;
  verdict = base_verdict;
}

-- ---- the verdict of a file, and its lines
unfoldable pub judge_base : List ℕ → FileVerdict
judge_base bs = (judged_by base bs).verdict

unfoldable pub lines_base : List ℕ → List ℕ
lines_base bs = let j = judged_by base bs in alone_lines j.past ++ verdict_line j.verdict
