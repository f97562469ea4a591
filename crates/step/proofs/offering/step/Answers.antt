-- As it is offered, of pins.
use mathlib.Core.Path.{refl}
use Rattle.rules.specs.Entries.{whose_body}
use Rattle.step.proofs.Offered.{whose_here, read_here}
use Rattle.step.proofs.offering.step.Goals as goal

pub returns : goal.returns
unfolding whose_body
returns c =
    let w = whose_here _ _ _ c.whose_pins-whose.ensures in
    rw c.of.ensures (c.taken.ensures _ refl w (read_here _ _ _ _ w c.read_for-read.ensures))
