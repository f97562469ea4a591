use Prim.Native.Nat.{◌-◌}
use lib.ListN.{length}
use Rattle.step.proofs.Turning.{Turned}
use Rattle.step.proofs.turns.single_run.Given as goal

abbrev pub invariant-loop-ran : goal.invariant-loop-ran
invariant-loop-ran l = Turned l.delays l.bytes l.most l.fn.rec l.ran

abbrev pub decreases-loop-ran : goal.decreases-loop-ran
decreases-loop-ran l = length l.bytes - l.ran.used
