-- The digits of the rest, before what stands now behind them, are the number before what stood at entry.
use Rattle.std.proofs.Common.{◌≡◌, ◌≤◌, ◌++◌, length, drop}
use Rattle.rules.specs.Lines.{decimal}
use Rattle.lines.proofs.Decimals.{ahead}
use Rattle.lines.proofs.numbers.put_number.Given as goal

abbrev pub invariant-loop-i : goal.invariant-loop-i
invariant-loop-i l = record {
  some : 1 ≤ l.i;
  left : length (ahead l.i l.rest) ≡ l.i;
  there : ahead l.i l.rest ++ drop l.i l.out ≡ decimal l.x ++ drop (length (decimal l.x)) l.initial.out;
}
