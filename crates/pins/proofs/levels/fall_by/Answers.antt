use native.Mathlib.Omega.{arith}
use mathlib.Core.Path.{sym}
use Rattle.pins.specs.Values.{level_of, moved_of, read_of}
use Rattle.pins.proofs.Asleep.{fall_by_lem}
use Rattle.pins.proofs.levels.fall_by.Goals as goal

pub returns-in-4 : goal.returns-in-4
unfolding level_of moved_of read_of
returns-in-4 c = sym ((fall_by_lem _).0 c.in-4.is)

pub returns-in-3 : goal.returns-in-3
unfolding level_of moved_of read_of
returns-in-3 c = sym ((fall_by_lem _).1 c.in-3.is)

pub returns-in_default : goal.returns-in_default
unfolding read_of
returns-in_default c = sym ((fall_by_lem _).2 (λ e. omega arith) (λ e. omega arith))
