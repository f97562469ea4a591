use Rattle.std.proofs.Common.{◌-◌, length}
use Rattle.chunks.proofs.Hearing.{Going}
use Rattle.chunks.proofs.feeding.feed.Given as goal

abbrev pub invariant-loop-state : goal.invariant-loop-state
invariant-loop-state l = Going l.quiet l.initial.state l.bytes l.initial.out l.used l.wrote l.state l.out

abbrev pub decreases-loop-state : goal.decreases-loop-state
decreases-loop-state l = length l.bytes - l.used
