use Prim.Native.Nat.{◌+◌, ◌-◌}
use lib.ListN.{length}
use Rattle.step.proofs.Begun.{Going}
use Rattle.step.proofs.running.quick_run.Given as goal

abbrev pub invariant-loop-front : goal.invariant-loop-front
invariant-loop-front l = Going l.fn.delays l.rec l.bytes l.most l.quick

abbrev pub decreases-loop-front : goal.decreases-loop-front
decreases-loop-front l = length l.bytes + 1 - l.quick.used
