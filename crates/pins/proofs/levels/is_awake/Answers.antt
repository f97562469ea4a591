use mathlib.Core.Path.{◌∙◌}
use Rattle.pins.specs.Values.{level_of}
use Rattle.pins.specs.declared.Level.TheVariants.{Awake}
use Rattle.pins.proofs.Equal.{equal_levels}
use Rattle.pins.proofs.levels.is_awake.Goals as goal

pub returns : goal.returns
unfolding level_of
returns c = c.eq.ensures ∙ equal_levels Awake c.args.level
