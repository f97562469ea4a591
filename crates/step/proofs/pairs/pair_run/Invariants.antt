use Prim.Native.Nat.{◌-◌}
use Rattle.step.specs.Runs.{run_of}
use Rattle.step.proofs.ByEntry.{Along}
use Rattle.step.proofs.pairs.pair_run.Given as goal

abbrev pub invariant-loop : goal.invariant-loop
invariant-loop l = Along l.delays l.bytes (run_of l.most l.fn.rec l.bytes) (l.most - l.counter) l.ran
