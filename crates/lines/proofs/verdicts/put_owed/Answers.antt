use Rattle.std.proofs.Common.{arith}
use Rattle.lines.proofs.Puts.{lined_more}
use Rattle.lines.proofs.Decimals.{owed_below}
use Rattle.lines.proofs.verdicts.put_owed.Goals as goal

pub returns-clause-memory : goal.returns-clause-memory
returns-clause-memory c =
    rw (owed_below c.args.owed (omega arith)) (lined_more c.put_text-sign.ensures (rw c.from-2.ensures at c.put_number.ensures))
