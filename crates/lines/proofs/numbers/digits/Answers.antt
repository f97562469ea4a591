use Rattle.std.proofs.Common.{arith}
use Rattle.lines.proofs.Decimals.{some_digit, short, long}
use Rattle.lines.proofs.numbers.digits.Goals as goal

pub returns-in-0-to-9 : goal.returns-in-0-to-9
returns-in-0-to-9 c = omega (arith, some_digit c.args.x, short 0 c.args.x (omega arith))

pub returns-in-10-to-99 : goal.returns-in-10-to-99
returns-in-10-to-99 c = omega (arith, long 1 c.args.x (omega arith), short 1 c.args.x (omega arith))

pub returns-in-100-to-999 : goal.returns-in-100-to-999
returns-in-100-to-999 c = omega (arith, long 2 c.args.x (omega arith), short 2 c.args.x (omega arith))

pub returns-in-1000-to-9999 : goal.returns-in-1000-to-9999
returns-in-1000-to-9999 c = omega (arith, long 3 c.args.x (omega arith), short 3 c.args.x (omega arith))

pub returns-in_default : goal.returns-in_default
returns-in_default c =
    let e = c.ilog10.ensures in
    omega (arith, short c.ilog10.result c.args.x (omega (arith, e.next_power_gt)), long c.ilog10.result c.args.x e.power_le)
