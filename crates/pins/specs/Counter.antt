-- The round counter after a command with its move of clock-enable.
use Rattle.std.specs.Prelude.{ℕ, suc, cond, ◌||◌, leb}
use Rattle.rules.specs.Commands.{Command, REFPB, REFAB, is}
use Rattle.rules.specs.Levels.{Move, self_refresh, rises_from}

-- a counter above 7 goes round as 7 does
unfoldable pub counter_on : Command → Move → ℕ → ℕ
counter_on c m n = cond (rises_from self_refresh m || is REFAB c) 0 (cond (is REFPB c) (cond (leb 7 n) 0 (suc n)) n)
