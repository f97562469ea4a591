-- At the level of the share that is its own.
use mathlib.Core.Path.{◌∙◌}
use Rattle.rules.specs.Entries.{read_body}
use Rattle.card.specs.Values.{card_of}
use Rattle.step.proofs.Offered.{read_so}
use Rattle.step.proofs.offering.sensed_for.Goals as goal

pub returns : goal.returns
unfolding read_body card_of
returns c = (rw c.own-share.ensures at c.read_mr4.ensures.is) ∙ read_so _ _ _
