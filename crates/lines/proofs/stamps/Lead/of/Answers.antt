use Rattle.std.proofs.Common.{arith}
use Rattle.lines.proofs.Decimals.{short}
use Rattle.lines.proofs.Leading.{lead_put}
use Rattle.lines.proofs.stamps.Lead.of.Goals as goal

pub put_number-size-requires : goal.put_number-size-requires
put_number-size-requires c = rw c.from.ensures (omega (arith, short 5 c.args.number (omega arith)))

pub invariant_of-result : goal.invariant_of-result
invariant_of-result c =
    record { good = lead_put _ _ _ _ c.requires.0 c.requires.1 c.put_number-size.auto.out (rw c.from.ensures at c.put_number-size.ensures) }
