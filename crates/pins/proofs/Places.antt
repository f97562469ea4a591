-- The code's places of numbers are those of the rules.
use Prim.Native.Nat.{ℕ, ◌+◌, ◌*◌, ◌/◌, ◌%◌, ◌<◌}
use mathlib.Core.Path.{◌≡◌, refl}
use mathlib.Core.Bool.{Bool, true, false}
use native.Mathlib.Nat.{div-one}
use native.Mathlib.Omega.{arith}
use Rattle.rules.specs.Bits.{bits, on, bit}
use Rattle.rules.specs.Pins.{CAr, CAf, run, ma_runs, op_runs, bank_runs, row_runs, column_runs, gathered, scattered, levels, enabled, encode}
use Rattle.pins.specs.declared.Command.{Command}
use Rattle.pins.specs.declared.Command.TheVariants.{Nop, Mrw, Mrr, Refpb, Refab, Act, Rd, Wr, Pre, Prea}
use Rattle.pins.specs.Places.{ma_on, op_on, bank_on, row_on, column_on, ap_on, ma_pins, op_pins, bank_pins, row_pins, column_pins, ap_pin}
use Rattle.pins.specs.Values.{command_of}

-- reading
pub gathers : (p : ℕ)
    → (ma_on p ≡ gathered ma_runs p) × (op_on p ≡ gathered op_runs p) × (bank_on p ≡ gathered bank_runs p)
    × (row_on p ≡ gathered row_runs p) × (column_on p ≡ gathered column_runs p) × (ap_on p ≡ on p (CAf 0))
unfolding bits on CAr CAf run ma_runs op_runs bank_runs row_runs column_runs gathered
gathers p = (omega arith, omega arith, omega arith, omega arith, omega arith, refl)

-- writing
pub ap_bit : (ap : Bool) → bit ap * 1024 ≡ ap_pin ap
unfolding bit
ap_bit true = refl
ap_bit false = refl

-- R13 and R14
two_bits : (v : ℕ) → v / 8192 % 4 ≡ v / 8192 % 2 + v / 16384 % 2 * 2
two_bits v = omega arith

module _ (v : ℕ) where
  pub ma_scattered : scattered ma_runs v ≡ ma_pins v
  unfolding bits CAr CAf run ma_runs scattered
  ma_scattered = omega arith

  pub op_scattered : scattered op_runs v ≡ op_pins v
  unfolding bits CAf run op_runs scattered
  op_scattered = omega arith

  pub bank_scattered : scattered bank_runs v ≡ bank_pins v
  unfolding bits CAr run bank_runs scattered
  bank_scattered = omega arith

  pub row_scattered : scattered row_runs v ≡ row_pins v
  unfolding bits CAr CAf run row_runs scattered
  row_scattered = rw (div-one v, two_bits v) (omega arith)

  pub column_scattered : scattered column_runs v ≡ column_pins v
  unfolding bits CAr CAf run column_runs scattered
  column_scattered = omega arith

pub encode_small : (c : Command) → encode (command_of c) < 0x80_0000
unfolding bit CAf levels enabled encode command_of
encode_small Nop = omega arith
encode_small (Mrw ma op) = omega (arith, ma_scattered ma, op_scattered op)
encode_small (Mrr ma) = omega (arith, ma_scattered ma)
encode_small Refpb = omega arith
encode_small Refab = omega arith
encode_small (Act bank row) = omega (arith, bank_scattered bank, row_scattered row)
encode_small (Rd bank column true) = omega (arith, bank_scattered bank, column_scattered column)
encode_small (Rd bank column false) = omega (arith, bank_scattered bank, column_scattered column)
encode_small (Wr bank column true) = omega (arith, bank_scattered bank, column_scattered column)
encode_small (Wr bank column false) = omega (arith, bank_scattered bank, column_scattered column)
encode_small (Pre bank) = omega (arith, bank_scattered bank)
encode_small Prea = omega arith
