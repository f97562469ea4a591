use Rattle.std.proofs.Common.{◌-◌, ◌≤◌}
use Rattle.many.proofs.input.length_of_next.Given as goal

abbrev pub invariant-loop-have : goal.invariant-loop-have
invariant-loop-have g l = l.have ≤ 4

abbrev pub decreases-loop-have : goal.decreases-loop-have
decreases-loop-have g l = 4 - l.have
