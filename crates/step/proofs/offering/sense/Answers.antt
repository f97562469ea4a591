-- As it is offered, of a value of MR4.
use mathlib.Core.Path.{refl}
use Rattle.step.proofs.Offered.{whose_here, read_here}
use Rattle.step.proofs.offering.sense.Goals as goal

pub returns : goal.returns
returns c =
    let w = whose_here _ _ _ (c.whose_mr4-whose.ensures _) in
    rw c.of.ensures (c.taken.ensures _ refl w (read_here _ _ _ _ w c.sensed_for-read.ensures))
