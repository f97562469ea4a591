use Rattle.std.proofs.Common.{arith}
use Rattle.lines.proofs.Endings.{tail_if}
use Rattle.lines.proofs.tails.tail_on.Goals as goal

pub returns : goal.returns
returns c = rw (c.tail_at.ensures, c.key_on.ensures) (tail_if c.args.pins c.args.high c.if-pins-high.false (omega arith))
