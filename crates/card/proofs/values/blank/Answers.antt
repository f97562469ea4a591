use Rattle.card.proofs.Defaults.{default_is}
use Rattle.card.proofs.values.blank.Goals as goal

pub returns : goal.returns
returns c = default_is _ c.default.ensures
