use Rattle.rules.specs.Levels.{read_as, read_pins}
use Rattle.pins.specs.Values.{read_of}
use Rattle.pins.proofs.Values as values
use Rattle.pins.proofs.levels.read_pins.Goals as goal

pub returns-else-paired : goal.returns-else-paired
unfolding read_as read_pins read_of
returns-else-paired c = values.read_as _ _ (rw (c.if-sleeps.false, c.if-paired.false, c.decode.ensures.is))
