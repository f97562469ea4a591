-- The judge as it was before two parts could share a bus: what request Nine changed in the judge of `Mild`. The rows of rules 1 to 24 are that judge's: they ask
-- the own part alone.
use Prim.Native.Nat.{ℕ, suc}
use mathlib.Core.Bool.{Bool, cond, not}
use mathlib.Core.List.{List, [], ◌∷◌, ◌++◌}
use mathlib.Core.Option.{Option, none}
use lib.Dec.{eqb}
use lib.ListN.{length, take}
use Rattle.rules.specs.Card.{Card}
use Rattle.rules.specs.Units.{Delays}
use Rattle.rules.specs.Commands.{Command, kind_of, ap_of}
use Rattle.rules.specs.Registers.{Modes}
use Rattle.rules.specs.Ranges.{groups_good, timing_good}
use Rattle.rules.specs.Whose.{sole}
use Rattle.rules.specs.Levels.{Move, Read, read_pins}
use Rattle.rules.specs.Past.{Taken, Past, level_at, counter_at, bank_at, is_open, counted_stamps, command_count}
use Rattle.rules.specs.States.{state_good}
use Rattle.rules.specs.Folds.{first_of, Rule, first_broken}
use Rattle.rules.specs.Delays.{Asked, Answers, Lookup, look_both, find}
use Rattle.rules.specs.Account.{lpddr3, ledger_on, failing_in, first_in}
use Rattle.rules.specs.Entries.{Entry, recorded_as, move_of, judged_as}
use Rattle.rules.specs.Checks.{Refusal, unless, named, is_wrong, is_reserved, is_barred, above, not_below}
use Rattle.rules.specs.Form.{Field, Group, ◌up_to◌, Listed, ◌of◌, is_listed, number, number_at, timing_of}
use Rattle.rules.specs.File.{FileVerdict, accepted}
use Rattle.rules.specs.Lines.{decimal, name_of, shows_bank, verdict_line}
use Rattle.rules.proofs.Walks.{Judge, two, judged_by}
use Rattle.rules.proofs.Coarse.{coarse_delays_of, coarse_value_good, coarse_period_good, coarse_mr2_good, coarse_trefi_good}
use Rattle.rules.proofs.Timed.{timed_rules, come_in}
use Rattle.rules.proofs.Mild.{pins_of, mild_book, mild_trace}

-- ---- an entry goes by its card, the level and its pins, and all are of the one part
unfoldable pub alone_read : Card → Past → Entry → Read
alone_read card past e = read_pins card.sleeps (level_at past) (pins_of e)

unfoldable pub alone_taken : Card → Past → Entry → Taken
alone_taken card past e = let r = alone_read card past e in record { stamp = e.stamp; cmd = recorded_as r; move = move_of r; whose = sole; mr4 = none }

-- rules 1 to 24, and no other part that could answer
unfoldable pub no_answer : Answers
no_answer q = none

unfoldable pub alone_look : Card → Past → Lookup
alone_look card past = look_both (find card past) no_answer

unfoldable pub alone_rules : Delays → Command → Move → ℕ → List (Rule Asked Modes)
alone_rules d c m n = take 22 (timed_rules d c m n)

unfoldable pub alone_entry : Card → Past → Entry → Option Refusal
alone_entry card past e =
    let r = alone_read card past e in
    let c = judged_as r in
    let t = e.stamp in
    first_of (
    unless (above past t) 5 ∷
    named 11 (first_in lpddr3 (mild_book card past ∷ []) t) ∷
    unless (not (is_wrong r)) 6 ∷
    unless (not (is_reserved r)) 7 ∷
    unless (state_good (λ b. is_open b past) (counter_at past) c) 8 ∷
    unless (not (is_barred r)) 16 ∷
    unless (coarse_value_good card c) 9 ∷
    named 10 (first_broken (alone_look card past) (alone_rules (coarse_delays_of card) c (move_of r) (counter_at past)) t) ∷
    named 11 (failing_in lpddr3 (mild_book card (alone_taken card past e ∷ past) ∷ []) t) ∷ []
    )

unfoldable pub alone_end : Card → Past → ℕ → Option Refusal
alone_end card past end = first_of (unless (not_below past end) 5 ∷ named 11 (first_in lpddr3 (mild_book card past ∷ []) (suc end)) ∷ [])

unfoldable pub alone_verdict : Card → Past → ℕ → FileVerdict
alone_verdict card past end = accepted (command_count past) (length (counted_stamps past)) (ledger_on lpddr3.credit (mild_book card past) end ∷ [])

-- ---- the card is tags 1 to 18, and 19 to 22 behind them or not
unfoldable pub alone_groups : List Group
alone_groups = 1 up_to 18 ∷ 19 up_to 22 ∷ []

-- their lengths, and what their values may be
unfoldable pub alone_lengths : List Listed
alone_lengths =
    1 of 4 ∷ 2 of 1 ∷ 3 of 2 ∷ 4 of 4 ∷
    5 of 5 ∷ 6 of 5 ∷ 7 of 5 ∷ 8 of 5 ∷ 9 of 5 ∷ 10 of 5 ∷ 11 of 5 ∷ 12 of 5 ∷ 13 of 5 ∷ 14 of 5 ∷ 15 of 5 ∷ 16 of 5 ∷ 17 of 5 ∷ 18 of 5 ∷
    19 of 5 ∷ 20 of 5 ∷ 21 of 5 ∷ 22 of 5 ∷
    32 of 7 ∷ 33 of 4 ∷ []

unfoldable pub alone_good : List Field → Field → Bool
alone_good fs f =
    let t = f.tag in
    let x = number f.value in
    cond (eqb t 1) (coarse_period_good x)
    (cond (eqb t 2) (coarse_mr2_good (number_at 1 fs) x)
    (cond (eqb t 3) (groups_good x)
    (cond (eqb t 4) (coarse_trefi_good (number_at 1 fs) x) (timing_good (timing_of f.value)))))

unfoldable pub alone : Judge
alone = record {
  come = come_in mild_trace alone_groups;
  wrong = two;
  size = is_listed alone_lengths;
  good = alone_good;
  entry = alone_entry;
  taken = alone_taken;
  end = alone_end;
  verdict = alone_verdict;
}

-- ---- the verdict of a file, and its lines: an entry's has its cycle, its name, and its bank or "-"
unfoldable pub judge_alone : List ℕ → FileVerdict
judge_alone bs = (judged_by alone bs).verdict

unfoldable pub alone_line : (stamp : ℕ) → Command → (n : ℕ) → List ℕ
alone_line t c n = decimal t ++ (32 ∷ name_of (kind_of c) (ap_of c)) ++ (32 ∷ cond (shows_bank (kind_of c)) (decimal (bank_at c n)) (45 ∷ [])) ++ (10 ∷ [])

unfoldable pub alone_lines : Past → List ℕ
alone_lines [] = []
alone_lines (e ∷ t) = alone_lines t ++ alone_line e.stamp e.cmd (counter_at t)

unfoldable pub lines_alone : List ℕ → List ℕ
lines_alone bs = let j = judged_by alone bs in alone_lines j.past ++ verdict_line j.verdict
