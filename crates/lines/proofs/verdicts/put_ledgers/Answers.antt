use Rattle.std.proofs.Common.{arith}
use Rattle.lines.specs.Values.{ledgers_of}
use Rattle.lines.proofs.Puts.{lined_as, lined_more}
use Rattle.lines.proofs.Joined.{one_owed, two_owed}
use Rattle.lines.proofs.verdicts.put_ledgers.Goals as goal

pub returns-in-One : goal.returns-in-One
unfolding ledgers_of
returns-in-One c = record { memory = rw c.in-One.is (lined_as c.put_owed.ensures.memory (one_owed c.in-One.only)); small = omega (arith, c.put_owed.ensures.small) }

pub returns-in-Two : goal.returns-in-Two
unfolding ledgers_of
returns-in-Two c =
    let both = lined_more c.put_owed-at.ensures.memory c.put_owed-in-Two.ensures.memory in
    record { memory = rw c.in-Two.is (lined_as both (two_owed c.in-Two.first c.in-Two.second)); small = omega (arith, c.put_owed-at.ensures.small, c.put_owed-in-Two.ensures.small) }
