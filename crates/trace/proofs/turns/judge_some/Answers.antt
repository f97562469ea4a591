use Rattle.std.proofs.Common.{length, arith}
use Rattle.trace.proofs.Calling.{used_there}
use Rattle.trace.proofs.turns.judge_some.Goals as goal

pub copy_within-requires-clause-start_le_end : goal.copy_within-requires-clause-start_le_end
copy_within-requires-clause-start_le_end c = used_there c.args.quiet (length c.args.out.now) c.args.state c.args.bytes.now c.feed-fed.ensures

pub overflow_sub-result : goal.overflow_sub-result
overflow_sub-result c =
    omega (arith, c.copy_within.ensures.len, used_there c.args.quiet (length c.args.out.now) c.args.state c.args.bytes.now c.feed-fed.ensures)
