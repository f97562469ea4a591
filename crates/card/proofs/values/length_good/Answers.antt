use Rattle.std.proofs.Common.{arith}
use Rattle.std.proofs.lemmas.Bool.Decides.{nat_tests}
use Rattle.rules.specs.Ranges.{within}
use Rattle.card.specs.Reading.{sizes_of}
use Rattle.card.proofs.Lengths.{as_listed}
use Rattle.card.proofs.values.length_good.Goals as goal

pub returns-in-2 : goal.returns-in-2
unfolding sizes_of within
returns-in-2 c = grind (arith, nat_tests, as_listed c.args.tag c.args.size (omega arith))

pub returns-in-4 : goal.returns-in-4
unfolding sizes_of within
returns-in-4 c = grind (arith, nat_tests, as_listed c.args.tag c.args.size (omega arith))

pub returns-in-5-to-22 : goal.returns-in-5-to-22
unfolding sizes_of within
returns-in-5-to-22 c = grind (arith, nat_tests, as_listed c.args.tag c.args.size (omega arith))
