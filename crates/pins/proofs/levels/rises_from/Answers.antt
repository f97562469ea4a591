use mathlib.Core.Path.{◌∙◌}
use Rattle.pins.proofs.Equal.{equal_rise}
use Rattle.pins.proofs.levels.rises_from.Goals as goal

pub returns : goal.returns
returns c = c.eq.ensures ∙ equal_rise c.args.level c.args.moved
