-- Levels and moves that are equal are the same to the rules.
use mathlib.Core.Path.{◌≡◌, refl}
use native.Mathlib.Omega.{arith}
use Rattle.rules.specs.Levels.{depth, same_level, rises_from}
use Rattle.pins.specs.Values.{level_of, moved_of}
use Rattle.pins.specs.contracts.LevelPartialEq.TheImpl as levels
use Rattle.pins.specs.contracts.MovePartialEq.TheImpl as moves
use Rattle.pins.specs.declared.Level.{Level}
use Rattle.pins.specs.declared.Level.TheVariants.{Awake, PowerDown, SelfRefresh, Deep}
use Rattle.pins.specs.declared.Move.{Move}
use Rattle.pins.specs.declared.Move.TheVariants.{Stays, Falls, Rises}

pub equal_levels : (a b : Level) → levels.ghosts.eq b a ≡ same_level (level_of a) (level_of b)
unfolding same_level depth level_of
equal_levels Awake b = grind arith
equal_levels PowerDown b = grind arith
equal_levels SelfRefresh b = grind arith
equal_levels Deep b = grind arith

pub equal_rise : (l : Level) (m : Move) → moves.ghosts.eq m (Rises l) ≡ rises_from (level_of l) (moved_of m)
unfolding rises_from moved_of
equal_rise l Stays = refl
equal_rise l (Falls to) = refl
equal_rise l (Rises from) = equal_levels l from
