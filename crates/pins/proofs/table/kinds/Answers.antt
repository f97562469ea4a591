-- The constant table is document 01's, by one computed comparison of all 1,024 entries.
use mathlib.Core.Path.{refl}
use Rattle.rules.specs.Bits.{bits, on}
use Rattle.rules.specs.Commands.{code}
use Rattle.rules.specs.Pins.{by_levels, kind_at, codes_from, kind_codes}
use Rattle.pins.proofs.table.kinds.Goals as goal

pub returns : goal.returns
unfolding bits on code by_levels kind_at codes_from kind_codes
returns c = refl
