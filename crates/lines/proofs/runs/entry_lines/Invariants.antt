use Rattle.std.proofs.Common.{◌≡◌, ◌*◌, ◌≤◌}
use Rattle.lines.specs.Written.{Lined}
use Rattle.lines.specs.Runs.{standing_of, lines_at, stands_at, HighGood}
use Rattle.lines.proofs.runs.entry_lines.Given as goal

abbrev pub invariant-loop-entry : goal.invariant-loop-entry
invariant-loop-entry l = record {
  lines : Lined (lines_at l.sleeps l.paired l.entry-index (standing_of l.initial.next) l.bytes) l.initial.out l.out l.at;
  stands : standing_of l.next ≡ stands_at l.sleeps l.paired l.entry-index (standing_of l.initial.next) l.bytes;
  high : HighGood l.writer.paired l.next;
  small : l.at ≤ 24 * l.entry-index;
}
