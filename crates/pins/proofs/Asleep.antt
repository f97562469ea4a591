-- What pins are read as at a level: by the card, and in a fall with CS_n low by CA0r, CA1r and CA2r alone.
use Prim.Native.Nat.{ℕ, ◌+◌, ◌*◌, ◌/◌, ◌%◌}
use mathlib.Core.Path.{◌≡◌, refl}
use mathlib.Core.Bool.{Bool, true, false}
use native.Mathlib.Nat.{div-one}
use native.Mathlib.Omega.{arith}
use borrow.Author.Tests.{eq-eqb, ne_eqb}
use Rattle.rules.specs.Bits.{bits, on, bit}
use Rattle.rules.specs.Pins.{by_levels, kind_at, wrong_bits}
use Rattle.rules.specs.Levels.{Level, self_refresh, deep, falls, Read, plain, moved, barred, fall_by, read_at, read_pins}
use Rattle.rules.proofs.Fields.{as_bit}

-- by the number of these three levels
abbrev fall_on : ℕ → Read → Type 0
fall_on k r = (k ≡ 4 → r ≡ moved (falls self_refresh)) × (k ≡ 3 → r ≡ moved (falls deep)) × ((k ≡ 4 → ⊥) → (k ≡ 3 → ⊥) → r ≡ barred)

barred_on : {k : ℕ} → (k ≡ 4 → ⊥) → (k ≡ 3 → ⊥) → fall_on k barred
barred_on a b = (λ e. absurd (a e), λ e. absurd (b e), λ a b. refl)

by_levels_lem : (a b c d e : Bool) → fall_on (bit a + 2 * bit b + 4 * bit c) (fall_by (by_levels a b c d e))
unfolding fall_by by_levels bit
by_levels_lem false false false false e = barred_on (λ z. omega arith) (λ z. omega arith)
by_levels_lem false false false true e = barred_on (λ z. omega arith) (λ z. omega arith)
by_levels_lem false false true false e = (λ z. refl, λ z. absurd (omega arith), λ a b. absurd (a refl))
by_levels_lem false false true true e = (λ z. refl, λ z. absurd (omega arith), λ a b. absurd (a refl))
by_levels_lem false true false d e = barred_on (λ z. omega arith) (λ z. omega arith)
by_levels_lem false true true d e = barred_on (λ z. omega arith) (λ z. omega arith)
by_levels_lem true false false d e = barred_on (λ z. omega arith) (λ z. omega arith)
by_levels_lem true false true d e = barred_on (λ z. omega arith) (λ z. omega arith)
by_levels_lem true true false true false = (λ z. absurd (omega arith), λ z. refl, λ a b. absurd (b refl))
by_levels_lem true true false true true = (λ z. absurd (omega arith), λ z. refl, λ a b. absurd (b refl))
by_levels_lem true true false false e = (λ z. absurd (omega arith), λ z. refl, λ a b. absurd (b refl))
by_levels_lem true true true d e = barred_on (λ z. omega arith) (λ z. omega arith)

low_three : (x : ℕ) → x % 8 ≡ x / 1 % 2 + 2 * (x / 2 % 2) + 4 * (x / 4 % 2)
low_three x =
    let two : x % 4 ≡ x % 2 + 2 * (x / 2 % 2) = omega arith in
    let three : x % 8 ≡ x % 4 + 4 * (x / 4 % 2) = omega arith in
    rw (three, two, div-one x)

pub fall_by_lem : (p : ℕ) → fall_on (p % 8) (fall_by (kind_at (bits p 0 10)))
unfolding kind_at bits
fall_by_lem p =
    let x = bits p 0 10 in
    let low : p % 8 ≡ x % 8 = omega arith in
    rw (low, low_three x, as_bit x 0, as_bit x 1, as_bit x 2) (by_levels_lem (on x 0) (on x 1) (on x 2) (on x 3) (on x 4))

-- ---- where a card has low clock-enable
module _ (l : Level) (p : ℕ) where
  pub high_bits : (p / 4194304 ≡ 0 → ⊥) → read_pins true l p ≡ plain wrong_bits
  unfolding read_pins
  high_bits h = rw (ne_eqb (p / 4194304) 0 h)

  pub by_level : p / 4194304 ≡ 0 → read_pins true l p ≡ read_at l p
  unfolding read_pins
  by_level h = rw (eq-eqb (p / 4194304) 0 h)
