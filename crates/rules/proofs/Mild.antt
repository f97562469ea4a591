-- The judge as it was before temperature: what request Eleven changed in the judge of `Timed`. What pins are read as, whose they are and what they are judged by
-- are today's, for a body of pins, but for rule 18.
use Prim.Native.Nat.{ℕ, suc}
use mathlib.Core.Bool.{Bool, cond, not, ◌||◌}
use mathlib.Core.List.{List, [], ◌∷◌, ◌++◌, map}
use mathlib.Core.Option.{Option, none}
use lib.Dec.{eqb}
use Rattle.rules.specs.Card.{Card}
use Rattle.rules.specs.Ranges.{groups_good, timing_good}
use Rattle.rules.specs.Whose.{part_of, parts}
use Rattle.rules.specs.Past.{Taken, Past, of_part, counter_at, counted_stamps, command_count}
use Rattle.rules.specs.States.{state_good}
use Rattle.rules.specs.Folds.{first_of, first_broken}
use Rattle.rules.specs.Account.{lpddr3, every, steady, Book, ledger_on, failing_in, first_in}
use Rattle.rules.specs.Clock.{clock}
use Rattle.rules.specs.Entries.{pins, mr4, Entry, entry, whose_of, view_for, read_for, recorded_as, move_of, judged_as}
use Rattle.rules.specs.Checks.{Refusal, unless, named, is_wrong, is_reserved, is_barred, is_clash, above, not_below}
use Rattle.rules.specs.Verdict.{refresh_count}
use Rattle.rules.specs.Form.{Field, Group, ◌up_to◌, Listed, ◌of◌, is_listed, number, number_at, timing_of, gap_good}
use Rattle.rules.specs.File.{FileVerdict, accepted}
use Rattle.rules.specs.Lines.{entry_line, verdict_line}
use Rattle.rules.proofs.Walks.{Judge, two, judged_by}
use Rattle.rules.proofs.Coarse.{coarse_interval, coarse_delays_of, coarse_value_good, coarse_period_good, coarse_mr2_good, coarse_trefi_good}
use Rattle.rules.proofs.Timed.{timed_rules, come_in}

-- ---- an entry is a stamp and pins: no field of another body comes
unfoldable pub pins_of : Entry → ℕ
pins_of e = elim e.body [ pins p ↦ p | mr4 v ↦ 0 ]

unfoldable pub pinned : Entry → Entry
pinned e = entry e.stamp (pins_of e)

unfoldable pub mild_taken : Card → Past → Entry → Taken
mild_taken card past e =
    let r = read_for card past (pinned e) in
    record { stamp = e.stamp; cmd = recorded_as r; move = move_of r; whose = whose_of card (pinned e); mr4 = none }

-- ---- one interval throughout
unfoldable pub mild_book : Card → Past → Book
mild_book card past = record { schedule = steady (every (coarse_interval card)); clock = clock past; refreshes = map (clock past) (counted_stamps past) }

unfoldable pub mild_books : Card → Past → List Book
mild_books card past = map (λ p. mild_book card (of_part p past)) (parts card)

unfoldable pub mild_entry : Card → Past → Entry → Option Refusal
mild_entry card past e =
    let v = view_for card past (pinned e) in
    let r = read_for card past (pinned e) in
    let c = judged_as r in
    let t = e.stamp in
    first_of (
    unless (above past t) 5 ∷
    named 11 (first_in lpddr3 (mild_books card past) t) ∷
    unless (not (is_wrong r)) 6 ∷
    unless (not (is_clash r)) 24 ∷
    unless (not (is_reserved r)) 7 ∷
    unless (state_good v.open? v.counter c) 8 ∷
    unless (not (is_barred r)) 16 ∷
    unless (coarse_value_good card c) 9 ∷
    named 10 (first_broken v.look (timed_rules (coarse_delays_of card) c (move_of r) v.counter) t) ∷
    named 11 (failing_in lpddr3 (mild_books card (mild_taken card past e ∷ past)) t) ∷ []
    )

unfoldable pub mild_end : Card → Past → ℕ → Option Refusal
mild_end card past end = first_of (unless (not_below past end) 5 ∷ named 11 (first_in lpddr3 (mild_books card past) (suc end)) ∷ [])

unfoldable pub mild_verdict : Card → Past → ℕ → FileVerdict
mild_verdict card past end = accepted (command_count past) (refresh_count card past) (map (λ b. ledger_on lpddr3.credit b end) (mild_books card past))

-- ---- the card's tags come in these groups, and behind them entries (32) and the end (33)
unfoldable pub mild_trace : ℕ → Bool
mild_trace tag = eqb tag 32 || eqb tag 33

unfoldable pub mild_groups : List Group
mild_groups = 1 up_to 18 ∷ 19 up_to 22 ∷ 25 up_to 25 ∷ []

-- their lengths, and what their values may be
unfoldable pub mild_lengths : List Listed
mild_lengths =
    1 of 4 ∷ 2 of 1 ∷ 3 of 2 ∷ 4 of 4 ∷
    5 of 5 ∷ 6 of 5 ∷ 7 of 5 ∷ 8 of 5 ∷ 9 of 5 ∷ 10 of 5 ∷ 11 of 5 ∷ 12 of 5 ∷ 13 of 5 ∷ 14 of 5 ∷ 15 of 5 ∷ 16 of 5 ∷ 17 of 5 ∷ 18 of 5 ∷
    19 of 5 ∷ 20 of 5 ∷ 21 of 5 ∷ 22 of 5 ∷ 25 of 1 ∷
    32 of 7 ∷ 33 of 4 ∷ []

unfoldable pub mild_good : List Field → Field → Bool
mild_good fs f =
    let t = f.tag in
    let x = number f.value in
    cond (eqb t 1) (coarse_period_good x)
    (cond (eqb t 2) (coarse_mr2_good (number_at 1 fs) x)
    (cond (eqb t 3) (groups_good x)
    (cond (eqb t 4) (coarse_trefi_good (number_at 1 fs) x)
    (cond (eqb t 25) (gap_good fs x) (timing_good (timing_of f.value))))))

unfoldable pub mild : Judge
mild = record {
  come = come_in mild_trace mild_groups;
  wrong = two;
  size = is_listed mild_lengths;
  good = mild_good;
  entry = mild_entry;
  taken = mild_taken;
  end = mild_end;
  verdict = mild_verdict;
}

-- ---- the verdict of a file, and its lines: each entry has one
unfoldable pub judge_mild : List ℕ → FileVerdict
judge_mild bs = (judged_by mild bs).verdict

unfoldable pub mild_lines : Past → List ℕ
mild_lines [] = []
mild_lines (e ∷ t) = mild_lines t ++ entry_line e.stamp e.cmd e.whose (counter_at (of_part (part_of e.whose) t))

unfoldable pub lines_mild : List ℕ → List ℕ
lines_mild bs = let j = judged_by mild bs in mild_lines j.past ++ verdict_line j.verdict
