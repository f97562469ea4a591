use Rattle.std.proofs.Common.{arith}
use Rattle.lines.proofs.Puts.{lined_more, written, no_room}
use Rattle.lines.proofs.Decimals.{short}
use Rattle.lines.proofs.Joined.{refused_joined}
use Rattle.lines.proofs.verdicts.refused_line.Goals as goal

pub returns-then-out-lt64 : goal.returns-then-out-lt64
returns-then-out-lt64 c = no_room (omega arith)

pub returns : goal.returns
returns c =
    let a = c.args in
    let number = rw c.from.ensures at c.put_number-at.ensures in
    let rule = rw c.from-2.ensures at c.put_next-at.ensures in
    let offset = c.put_next-at-2.ensures in
    let cycle = c.put_next-at-3.ensures in
    written (omega (arith, c.if-out-lt64.false))
    (omega (
      arith,
      c.put_text-at.ensures.count,
      number.count,
      rule.count,
      offset.count,
      cycle.count,
      c.put_text.ensures.count,
      short 2 a.number (omega arith),
      short 2 a.rule (omega arith),
      short 19 a.offset (omega arith),
      short 19 a.cycle (omega arith),
    ))
    (refused_joined _ _ _ _)
    (lined_more (lined_more (lined_more (lined_more (lined_more c.put_text-at.ensures number) rule) offset) cycle) c.put_text.ensures)
