-- The places of numbers on the pins, in the words of the code. proofs/Places.antt holds them against the rules.
use Rattle.std.specs.Prelude.{ℕ, ◌+◌, ◌*◌, ◌/◌, ◌%◌, Bool, cond, eqb}
use Rattle.std.proofs.Math.Option.{Option, none, some}

abbrev pub ma_on : ℕ → ℕ
ma_on p = p / 16 % 256

abbrev pub op_on : ℕ → ℕ
op_on p = p / 4096 % 256

abbrev pub bank_on : ℕ → ℕ
bank_on p = p / 128 % 8

abbrev pub row_on : ℕ → ℕ
row_on p = p / 1024 % 256 + p / 4 % 32 * 256 + p / 262144 % 4 * 8192

abbrev pub column_on : ℕ → ℕ
column_on p = p / 32 % 4 * 2 + p / 2048 % 512 * 8

abbrev pub ap_on : ℕ → Bool
ap_on p = eqb (p / 1024 % 2) 1

abbrev pub ma_pins : ℕ → ℕ
ma_pins v = v % 256 * 16

abbrev pub op_pins : ℕ → ℕ
op_pins v = v % 256 * 4096

abbrev pub bank_pins : ℕ → ℕ
bank_pins v = v % 8 * 128

abbrev pub row_pins : ℕ → ℕ
row_pins v = v / 256 % 32 * 4 + v % 256 * 1024 + v / 8192 % 4 * 262144

abbrev pub column_pins : ℕ → ℕ
column_pins v = v / 2 % 4 * 32 + v / 8 % 512 * 2048

abbrev pub ap_pin : Bool → ℕ
ap_pin ap = cond ap 1024 0

-- beside the pins of a command for one of two parts: the other part's CS_n, high; for none told as for part 0
abbrev pub other_select : Option ℕ → ℕ
other_select none = 0x40_0000
other_select (some p) = cond (eqb p 0) 0x40_0000 0x10_0000
