use Rattle.std.proofs.Common.{arith}
use Rattle.lines.proofs.Puts.{lined_more, written, no_room}
use Rattle.lines.proofs.Decimals.{short}
use Rattle.lines.proofs.Joined.{accepted_joined}
use Rattle.lines.proofs.verdicts.accepted_line.Goals as goal

pub returns-then-out-lt64 : goal.returns-then-out-lt64
returns-then-out-lt64 c = no_room (omega arith)

pub returns : goal.returns
returns c =
    let a = c.args in
    let w = lined_more (lined_more (lined_more c.put_text-at.ensures c.put_number-at.ensures) c.put_next-at.ensures) c.put_ledgers-at.ensures.memory in
    written (omega (arith, c.if-out-lt64.false))
    (omega (arith, c.put_text-at.ensures.count, c.put_number-at.ensures.count, c.put_next-at.ensures.count, c.put_ledgers-at.ensures.small, c.put_text.ensures.count, short 19 a.commands (omega arith), short 19 a.refreshes (omega arith)))
    (accepted_joined _ _ _)
    (lined_more w c.put_text.ensures)
