use Rattle.std.proofs.Common.{arith}
use Rattle.std.proofs.lemmas.Grind.{common_steps}
use Rattle.bounds.proofs.Spanned.{passed, goes_on}
use Rattle.bounds.proofs.offer.Offer.after_all.Goals as goal
use Rattle.bounds.proofs.offer.Offer.after_all.Goals.{then-ne, else-ne}

pub loop-bank-preserved : goal.loop-bank-preserved
loop-bank-preserved c = elim c.if-ne.branch [ then-ne w ↦ grind (arith, common_steps, goes_on) | else-ne w ↦ grind (arith, common_steps, passed) ]
