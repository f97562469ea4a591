use Rattle.std.proofs.Common.{arith}
use Rattle.lines.proofs.Joined.{entry_joined}
use Rattle.lines.proofs.Puts.{lined_as, lined_more}
use Rattle.lines.proofs.Decimals.{short}
use Rattle.lines.proofs.entries.put_line.Goals as goal

pub returns : goal.returns
returns c =
    let stamp = rw c.from.ensures at c.put_number-at.ensures in
    let command = c.put_command-at.ensures in
    let part = c.put_part-at.ensures in
    record {
      memory = lined_as (lined_more (lined_more (lined_more stamp command.memory) part.memory) c.put_text.ensures) (entry_joined _ _ _ _);
      small = omega (arith, stamp.count, short 9 c.args.stamp (omega arith), command.small, part.small, c.put_text.ensures.count);
    }
