-- The starred cases and the further ones, those of low clock-enable, of nWR, of two parts and of temperature, each as a file, by computation.
use mathlib.Core.Path.{◌≡◌, refl, ap, sym, ◌∙◌}
use mathlib.Core.List.{List, [], ◌∷◌, ◌++◌}
use lib.ListN.{length}
use Rattle.rules.specs.Lists.{Every, all, is_one_of, when}
use Rattle.rules.specs.Bits.{bits, on, bit}
use Rattle.rules.specs.Units.{femto, rounded_up, n, row_cycle, delays_of}
use Rattle.rules.specs.Heat.{heat, mr4_good, start_mr4, quarters, interval_at, is_hot, longer, hot_card, delays_at}
use Rattle.rules.specs.Commands.{code, bare, carries, kind_of, bank_of, ap_of, is, banks}
use Rattle.rules.specs.Pins.{
  CAr,
  CAf,
  by_levels,
  kind_at,
  run,
  ma_runs,
  op_runs,
  bank_runs,
  row_runs,
  column_runs,
  gathered,
  scattered,
  good,
  listed_ma,
  of_kind,
  decode,
  levels,
  enabled,
  encode,
  encode_pair,
}
use Rattle.rules.specs.Registers.{row, latencies, at_code, mr2_good, rl_of, wl_of, recovery, recoveries, at_pair, nwr_by, nwr_of, mr1_good, may_write}
use Rattle.rules.specs.Whose.{is_of, part_of, other, by_selects, whose, parts}
use Rattle.rules.specs.Levels.{
  depth,
  same_level,
  stopped,
  is_fall,
  is_rise,
  rises_from,
  level_after,
  plain,
  fall_by,
  fall,
  rise,
  read_at,
  read_pins,
  seen,
  selected,
  read_pair,
  read_as,
  sense_at,
  read_mr4,
}
use Rattle.rules.specs.Entries.{
  view_of,
  read_body,
  read,
  read_after,
  whose_body,
  whose_of,
  part_in,
  command_of,
  recorded_as,
  move_of,
  mr4_of,
  falls_as,
  moves_as,
  judged_as,
  taken,
  own_for,
  others_for,
  view_for,
  read_for,
  taken_for,
  past_with,
}
use Rattle.rules.specs.Past.{
  of_part,
  writes_ma,
  register_after,
  register,
  mr2_at,
  mr1_at,
  modes_at,
  mr4_at,
  level_at,
  counter_after,
  counter_at,
  bank_at,
  opens,
  precharges,
  closes,
  open_after,
  is_open,
  is_counted,
  stamps_where,
  counted_stamps,
  command_count,
}
use Rattle.rules.specs.States.{all_closed, goes, state_good}
use Rattle.rules.specs.Folds.{or_else, first_of, latest, back, permitted, permitted_by, bound, first_broken}
use Rattle.rules.specs.Delays.{
  latest_of,
  lagging_of,
  fourth_of,
  latest_if,
  latest_move,
  to,
  means,
  unnoted,
  noted_of,
  found,
  find,
  look_both,
  turned,
  idle_use,
  precharged,
  without,
  from,
  lagging,
  recovering,
  across,
  rule,
  delay_rules,
}
use Rattle.rules.specs.Account.{lpddr3, every, fallen, next_after, respaced, take_one, failing, earlier, earliest}
use Rattle.rules.specs.Clock.{beat_by}
use Rattle.rules.specs.Checks.{refusal, unless, named, is_wrong, is_reserved, is_barred, is_clash, code_good, value_good, checks, above, not_below}
use Rattle.rules.specs.Ranges.{within, period_good, groups_good, trefi_good, timing_good, start_good, raise_good, timings, sleep_timings}
use Rattle.rules.specs.Form.{
  bytes_of,
  size_of,
  number_from,
  number,
  ◌up_to◌,
  groups,
  last_tag,
  ends_group,
  begins_group,
  card_whole,
  of_entry,
  of_trace,
  may_follow,
  may_come,
  in_group,
  in_groups,
  of_card,
  known,
  passed_by,
  wrong_number,
  expected_after,
  wrong_after,
  wrong_tag,
  ◌of◌,
  ◌of◌or◌,
  lengths,
  is_listed,
  length_good,
  valued,
  sized,
  head_of,
  timing_of,
  value_of,
  has,
  number_at,
  period_of,
  period_at,
  number_if,
  timing_at,
  card_of,
  gap_good,
  field_good,
  body_of,
  entry_of,
  end_of,
}
use Rattle.rules.specs.Verdict.{sum, refresh_count}
use Rattle.rules.specs.File.{Judged, begun, or_refused, card_step, closing, judge_file}
use Rattle.rules.specs.Writer.{big_endian, field_bytes, entry_bytes}
use Rattle.rules.specs.Lines.{digits, decimal, signed, name_of, shows_bank, shown_part, entry_line, unless_sensed, entry_lines, ledger_parts, verdict_line, lines_of}
use Rattle.rules.specs.Lent.{number_of, is_there, no_effect, counted_to, refreshed_at, sensed_at, at_level, failing_of, fresh_share}
use Rattle.rules.specs.Bench.{
  timing,
  only_if,
  bench_with,
  bench_at,
  bench,
  sleeper,
  pair,
  heater,
  hot_pair,
  tight,
  timing_fields,
  start_field,
  card_file,
  body_bytes,
  entries_file,
  end_file,
  file,
  Case,
  judges,
  prints,
  measures,
  writes,
  writes_to,
  Shown,
  accepts,
  ◌at◌,
  eight_refreshes,
  four_acts,
  starred,
  further,
  ◌low◌,
  seven_refreshes,
  sleeping,
  ◌at₀◌,
  ◌at₁◌,
  both_open,
  paired,
  starts,
  again,
  unhurried,
  programmed,
  ◌sets◌,
  warming,
  ordering,
  fine,
  at933,
  refined,
}
use Rattle.rules.proofs.Tests.{◌&◌}
use Rattle.rules.proofs.Idle.{owed_at, next19, next20, after20, first_next}
use Rattle.rules.proofs.Clocked.{relabel}
use Rattle.rules.proofs.Closed.{biased, ledger_closed, failing_closed}
use Rattle.rules.proofs.Walks.{sized_by, head_by, entry_by, end_by, card_by, by_head_by, step_by, file_by, judged_by}
use Rattle.rules.proofs.Computed.{effect_for, ledger_then, kept_then, kept_over, failings_from, failings_at, entry_from, end_from, owings_from, computing, computed, computed_judged}

-- names every definition that a case computes with
unfoldable pub opened : Unit {0}
unfolding Every all is_one_of when bits on bit femto rounded_up n row_cycle delays_of heat mr4_good start_mr4 quarters interval_at is_hot longer hot_card delays_at code bare carries kind_of bank_of ap_of is banks CAr CAf by_levels kind_at run ma_runs op_runs bank_runs row_runs column_runs gathered scattered listed_ma of_kind decode levels enabled encode encode_pair row latencies at_code mr2_good rl_of wl_of recovery recoveries at_pair nwr_by nwr_of mr1_good may_write depth same_level stopped is_fall is_rise rises_from level_after fall_by fall rise read_at read_pins seen selected read_pair read_as sense_at read_mr4 is_of part_of other by_selects whose parts of_part read_body read read_after whose_body whose_of part_in own_for others_for view_for read_for command_of recorded_as move_of mr4_of falls_as moves_as judged_as taken taken_for past_with level_at writes_ma register_after register mr2_at mr1_at modes_at mr4_at counter_after counter_at bank_at opens precharges closes open_after is_open is_counted stamps_where counted_stamps command_count all_closed goes state_good or_else first_of latest back permitted permitted_by bound first_broken latest_of lagging_of fourth_of latest_if latest_move to means unnoted noted_of found find look_both turned idle_use precharged without from lagging recovering across rule delay_rules lpddr3 every fallen next_after respaced take_one failing earlier earliest beat_by refusal unless named is_wrong is_reserved is_barred is_clash code_good value_good view_of checks above not_below within period_good groups_good trefi_good timing_good start_good raise_good timings sleep_timings bytes_of size_of number_from number ◌up_to◌ groups last_tag ends_group begins_group card_whole of_entry of_trace may_follow may_come in_group in_groups of_card known passed_by wrong_number expected_after wrong_after wrong_tag ◌of◌ ◌of◌or◌ lengths is_listed length_good valued sized head_of timing_of value_of has number_at period_of period_at number_if timing_at card_of gap_good field_good body_of entry_of end_of sum refresh_count begun or_refused card_step closing big_endian field_bytes entry_bytes digits decimal signed name_of shows_bank shown_part entry_line unless_sensed entry_lines ledger_parts verdict_line number_of is_there no_effect counted_to refreshed_at sensed_at at_level failing_of fresh_share accepts timing only_if bench_with bench_at bench sleeper pair heater hot_pair tight timing_fields start_field card_file body_bytes entries_file end_file file ◌at◌ eight_refreshes four_acts starred further ◌low◌ seven_refreshes sleeping ◌at₀◌ ◌at₁◌ both_open paired starts again unhurried programmed ◌sets◌ warming ordering fine at933 refined owed_at next19 next20 after20 first_next relabel biased ledger_closed failing_closed sized_by head_by entry_by end_by card_by by_head_by step_by file_by judged_by effect_for ledger_then kept_then kept_over failings_from failings_at entry_from end_from owings_from computing computed
opened = tt

-- a case whose verdict is computed with the account in closed form
unfoldable Computes : Case → Type 0
Computes (judges bs v) = (computed bs).verdict ≡ v
Computes (prints bs ls) = entry_lines (computed bs).past ++ verdict_line (computed bs).verdict ≡ ls
Computes (measures bs n) = length bs ≡ n
Computes (writes c p) = (encode c ≡ p) × (decode p ≡ good c)
Computes (writes_to p c x) = (encode_pair p c ≡ x) × (read_pair x ≡ plain (good c))

shown : (c : Case) → Computes c → Shown c
unfolding Shown Computes judge_file lines_of
shown (judges bs v) e = ap (λ (j : Judged). j.verdict) (sym (computed_judged bs)) ∙ e
shown (prints bs ls) e = ap (λ (j : Judged). entry_lines j.past ++ verdict_line j.verdict) (sym (computed_judged bs)) ∙ e
shown (measures bs n) e = e
shown (writes c p) e = e
shown (writes_to p c x) e = e

all_shown : (cs : List Case) → Every Computes cs → Every Shown cs
unfolding Every
all_shown [] e = tt
all_shown (c ∷ cs) e = (shown c e.0, all_shown cs e.1)

starred_computes : Every Computes starred
unfolding opened Computes
starred_computes =
    refl & refl & refl & refl & refl & refl & refl & refl & refl & refl & refl & refl & refl & refl & refl & refl & refl & refl & refl & refl &
    (refl, refl) & tt

further_computes : Every Computes further
unfolding opened Computes
further_computes = refl & refl & refl & refl & refl & refl & refl & refl & refl & refl & refl & refl & tt

sleeping_computes : Every Computes sleeping
unfolding opened Computes
sleeping_computes =
    refl & refl & refl & refl & refl & refl & refl & refl & refl & refl & refl & refl & refl & refl & refl & refl & refl & refl & refl & refl &
    refl & refl & refl & refl & refl & refl & refl & refl & refl & refl & refl & refl & refl & refl & refl & refl & refl & refl & refl & refl &
    refl & refl & tt

paired_computes : Every Computes paired
unfolding opened Computes
paired_computes =
    refl & refl & refl & refl & refl & refl & refl & refl & refl & refl & refl & refl & refl & refl & refl & refl & refl & refl & refl & refl &
    refl & refl & refl & refl & refl & refl & refl & refl & refl & refl & refl & refl & refl & refl & refl & refl & refl & refl & refl & refl &
    refl & refl & refl & refl & refl & refl &
    (refl, refl) & (refl, refl) & (refl, refl) & (refl, refl) & refl & tt

programmed_computes : Every Computes programmed
unfolding opened Computes
programmed_computes =
    refl & refl & refl & refl & refl & refl & refl & refl & refl & refl & refl & refl & refl & refl & refl & refl & refl & refl & refl & refl &
    refl & refl & refl & refl & refl & refl & refl & refl & refl & refl & refl & refl & refl & refl & refl & refl & tt

warming_computes : Every Computes warming
unfolding opened Computes
warming_computes =
    refl & refl & refl & refl & refl & refl & refl & refl & refl & refl & refl & refl & refl & refl & refl & refl & refl & refl & refl & refl &
    refl & refl & refl & refl & refl & refl & refl & refl & refl & refl & refl & refl & refl & refl & refl & refl & refl & refl & refl & refl &
    refl & refl & refl & refl & refl & refl & refl & refl & refl & refl & refl & refl & refl & refl & refl & refl & refl & refl & refl & refl &
    refl & refl & refl & refl & refl & refl & refl & refl & refl & refl & refl & refl & refl & refl & refl & refl & refl & refl & refl & refl &
    refl & refl & refl & refl & tt

ordering_computes : Every Computes ordering
unfolding opened Computes
ordering_computes =
    refl & refl & refl & refl & refl & refl & refl & refl & refl & refl & refl & refl & refl & refl & refl & refl & refl & refl & refl & refl &
    refl & refl & refl & refl & refl & refl & refl & refl & refl & tt

refined_computes : Every Computes refined
unfolding opened Computes
refined_computes =
    refl & refl & refl & refl & refl & refl & refl & refl & refl & refl & refl & refl & refl & refl & refl & refl & refl & refl & refl & refl &
    refl & refl & refl & refl & refl & refl & refl & refl & refl & refl & refl & refl & refl & refl & refl & tt

pub starred_hold : Every Shown starred
starred_hold = all_shown starred starred_computes

pub further_hold : Every Shown further
further_hold = all_shown further further_computes

pub sleeping_hold : Every Shown sleeping
sleeping_hold = all_shown sleeping sleeping_computes

pub paired_hold : Every Shown paired
paired_hold = all_shown paired paired_computes

pub programmed_hold : Every Shown programmed
programmed_hold = all_shown programmed programmed_computes

pub warming_hold : Every Shown warming
warming_hold = all_shown warming warming_computes

pub ordering_hold : Every Shown ordering
ordering_hold = all_shown ordering ordering_computes

pub refined_hold : Every Shown refined
refined_hold = all_shown refined refined_computes
