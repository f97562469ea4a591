-- Refused or taken as the card tells.
use Rattle.chunks.specs.Took.{wrapped}
use Rattle.chunks.proofs.Taking.{whole_refused, card_refused, card_taken}
use Rattle.chunks.proofs.State.take_card.Goals as goal

pub returns-in_err-card : goal.returns-in_err-card
returns-in_err-card c = whole_refused _ _ _ _ _ c.from_residual.ensures.1 (card_refused _ _ _ c.read_value.ensures _ c.in_err-card.was)

pub returns : goal.returns
unfolding wrapped
returns c = rw c.fresh_record.ensures (card_taken _ _ _ c.read_value.ensures _ c.requires c.in_ok-card.was)
