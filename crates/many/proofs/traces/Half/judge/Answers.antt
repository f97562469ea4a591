use Rattle.std.proofs.Common.{arith}
use Rattle.many.proofs.Feeding.{used_there, short}
use Rattle.many.proofs.traces.Half.judge.Goals as goal
use Rattle.many.proofs.traces.Half.judge.Goals.{in-More, in-Over-what}

pub copy_within-requires-clause-start_le_end : goal.copy_within-requires-clause-start_le_end
copy_within-requires-clause-start_le_end c = used_there 0 c.args.self.state c.args.held.now c.feed-fed.ensures

pub overflow_sub-have : goal.overflow_sub-have
overflow_sub-have c = omega (arith, c.copy_within.ensures.len, used_there 0 c.args.self.state c.args.held.now c.feed-fed.ensures)

pub invariant_of-result-2 : goal.invariant_of-result-2
invariant_of-result-2 c = record {
  short = elim c.match-fed.branch [
    | in-More w ↦ omega (arith, w.have-is, c.copy_within.ensures.len, short 0 c.args.self.state c.args.held.now c.feed-fed.ensures w.in-More.is)
    | in-Over-what w ↦ omega (arith, w.have-is)
  ];
}
