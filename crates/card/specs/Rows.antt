-- The rows of the code's tables, as the rules' rows have them.
use Rattle.std.specs.Prelude.{ℕ, ◌+◌, ◌*◌, ◌/◌, ◌%◌, Bool, false, leb, Option, Some, None}
use Rattle.rules.specs.Bits.{bits}
use Rattle.rules.specs.Units.{femto}
use Rattle.rules.specs.Registers as paper
use Rattle.card.specs.declared.registers.Row.{Row}

unfoldable pub row_of : paper.Latency → Row
row_of x = record { 0 = x.code; 1 = x.least; 2 = x.rl; 3 = x.wl_a; 4 = x.wl_b }

-- the row with this code
unfoldable pub found_by : ℕ → Option Row
found_by k = paper.at_code k (λ x. Some (row_of x)) None paper.latencies

-- the row that OP3-0 of this MR2 picks
unfoldable pub found_at : ℕ → Option Row
found_at v = found_by (bits v 0 4)

-- OP3-0 of this MR2 is a code whose least period does not exceed this one
unfoldable pub code_good : (period mr2 : ℕ) → Bool
code_good p v = paper.at_code (bits v 0 4) (λ x. leb (femto x.least) p) false paper.latencies

-- OP4 of MR2 before OP7-5 of MR1, and nWR of such a pair
unfoldable pub pair_of : (mr2 mr1 : ℕ) → ℕ
pair_of v w = bits v 4 1 * 8 + bits w 5 3

unfoldable pub recovery_at : (pair twr : ℕ) → ℕ
recovery_at p d = paper.at_pair (p / 8) (p % 8) d paper.recoveries
