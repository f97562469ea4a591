-- The judge as it was before nWR: what request Two changed in the judge of `Coarse`.
use Prim.Native.Nat.{ℕ, suc, ◌+◌}
use mathlib.Core.Bool.{Bool, cond, not, ◌&&◌, ◌||◌}
use mathlib.Core.List.{List, [], ◌∷◌, ◌++◌}
use lib.Dec.{ltb, eqb}
use lib.ListN.{take, drop}
use Rattle.rules.specs.Units.{Delays}
use Rattle.rules.specs.Commands.{Command}
use Rattle.rules.specs.Registers.{Modes}
use Rattle.rules.specs.Ranges.{groups_good, timing_good, raise_good}
use Rattle.rules.specs.Levels.{Move}
use Rattle.rules.specs.Folds.{Rule}
use Rattle.rules.specs.Delays.{last_wra_to, Asked, idle_use, lagging, rule, delay_rules}
use Rattle.rules.specs.Entries.{taken_for}
use Rattle.rules.specs.Form.{Field, Group, ◌up_to◌, last_tag, ends_group, begins_group, of_trace, Listed, ◌of◌, is_listed, number, number_at, timing_of, gap_good}
use Rattle.rules.specs.File.{FileVerdict}
use Rattle.rules.specs.Lines.{entry_lines, verdict_line}
use Rattle.rules.proofs.Walks.{Judge, two, judged_by}
use Rattle.rules.proofs.Coarse.{coarse_entry_by, coarse_end, coarse_verdict, coarse_period_good, coarse_mr2_good, coarse_trefi_good}

-- ---- rule 18 goes by n(tWR), as rule 17 does
unfoldable pub timed_rules : Delays → Command → Move → ℕ → List (Rule Asked Modes)
timed_rules d c m n =
    take 17 (delay_rules d c m n) ++ (rule 18 (lagging (idle_use c n) (λ rl wl. wl + 5 + d.twr + d.trppb) last_wra_to) ∷ drop 18 (delay_rules d c m n))

-- ---- the card's tags come in these groups, and behind them those of the trace
unfoldable pub come_in : (trace : ℕ → Bool) → List Group → (entries : Bool) → List Field → ℕ → Bool
come_in trace gs entries fs tag =
    cond (ends_group gs (last_tag fs)) (trace tag || (not entries && (ltb (last_tag fs) tag && begins_group gs tag)))
    (eqb tag (suc (last_tag fs)))

unfoldable pub timed_groups : List Group
timed_groups = 1 up_to 18 ∷ 19 up_to 22 ∷ 25 up_to 25 ∷ 26 up_to 26 ∷ []

-- their lengths, and what their values may be
unfoldable pub timed_lengths : List Listed
timed_lengths =
    1 of 4 ∷ 2 of 1 ∷ 3 of 2 ∷ 4 of 4 ∷
    5 of 5 ∷ 6 of 5 ∷ 7 of 5 ∷ 8 of 5 ∷ 9 of 5 ∷ 10 of 5 ∷ 11 of 5 ∷ 12 of 5 ∷ 13 of 5 ∷ 14 of 5 ∷ 15 of 5 ∷ 16 of 5 ∷ 17 of 5 ∷ 18 of 5 ∷
    19 of 5 ∷ 20 of 5 ∷ 21 of 5 ∷ 22 of 5 ∷ 25 of 1 ∷ 26 of 4 ∷
    32 of 7 ∷ 33 of 4 ∷ 34 of 5 ∷ []

unfoldable pub timed_good : List Field → Field → Bool
timed_good fs f =
    let t = f.tag in
    let x = number f.value in
    cond (eqb t 1) (coarse_period_good x)
    (cond (eqb t 2) (coarse_mr2_good (number_at 1 fs) x)
    (cond (eqb t 3) (groups_good x)
    (cond (eqb t 4) (coarse_trefi_good (number_at 1 fs) x)
    (cond (eqb t 25) (gap_good fs x)
    (cond (eqb t 26) (raise_good x) (timing_good (timing_of f.value)))))))

unfoldable pub timed : Judge
timed = record {
  come = come_in of_trace timed_groups;
  wrong = two;
  size = is_listed timed_lengths;
  good = timed_good;
  entry = coarse_entry_by timed_rules;
  taken = taken_for;
  end = coarse_end;
  verdict = coarse_verdict;
}

-- ---- the verdict of a file, and its lines
unfoldable pub judge_timed : List ℕ → FileVerdict
judge_timed bs = (judged_by timed bs).verdict

unfoldable pub lines_timed : List ℕ → List ℕ
lines_timed bs = let j = judged_by timed bs in entry_lines j.past ++ verdict_line j.verdict
