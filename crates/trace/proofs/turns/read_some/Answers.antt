use Rattle.std.proofs.Common.{◌≡◌, add-zero, arith}
use Rattle.trace.proofs.Calling.{none_came, some_came}
use Rattle.trace.proofs.turns.read_some.Goals as goal
use Rattle.trace.proofs.turns.read_some.Goals.{then-more-eq0, else-more-eq0}

pub returns-clause-came : goal.returns-clause-came
returns-clause-came g c =
    let a = c.args in
    elim c.if-more-eq0.branch [
      | then-more-eq0 w ↦ let none : c.in_ok-more.more ≡ 0 = w.if-more-eq0.true in
          none_came a.state a.have a.buf.now c.read.new.buf (omega arith) _ w.finish.ensures (rw (w.next-is, none, add-zero))
      | else-more-eq0 w ↦ some_came a.state a.have a.buf.now c.read.new.buf (omega arith) c.in_ok-more.more (omega (arith, c.in_ok-more.ensures.bound)) (omega arith) (rw w.next-is)
    ]
