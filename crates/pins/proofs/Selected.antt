-- What pins are where two parts share the bus, by the four bits above the CA bits.
use Prim.Native.Nat.{ℕ, zero, suc, ◌/◌, ◌%◌}
use mathlib.Core.Path.{◌≡◌, refl}
use mathlib.Core.Bool.{Bool, true, false, cond, ◌&&◌}
use native.Mathlib.Omega.{arith}
use lib.Dec.{eqb}
use borrow.Author.Tests.{eqb-true}
use Rattle.rules.specs.Bits.{bits, on}
use Rattle.rules.specs.Commands.{nop}
use Rattle.rules.specs.Pins.{good, wrong_bits, decode}
use Rattle.rules.specs.Levels.{plain, clash, seen, selected, read_pair}

four_bits : (h : ℕ) → h / 2 % 2 ≡ 1 → h / 8 ≡ 0 → (h ≡ 2 → ⊥) → (h ≡ 3 → ⊥) → (h ≡ 6 → ⊥) → (h ≡ 7 → ⊥) → ⊥
four_bits h e f a b c d = go (h / 2 / 2) refl
  where
    go : (k : ℕ) → h / 2 / 2 ≡ k → ⊥
    go zero q = omega arith
    go (suc zero) q = omega arith
    go (suc (suc k)) q = omega arith

module _ (p : ℕ) where
  by_four : (h : ℕ) → p / 1048576 ≡ h
      → read_pair p ≡ cond (eqb (h / 2 % 2) 1 && eqb (h / 8) 0) (selected (eqb (h % 2) 1) (eqb (h / 4 % 2) 1) p) (plain wrong_bits)
  unfolding read_pair on bits
  by_four h e =
      let a : p / 2097152 ≡ h / 2 = omega arith in
      let b : p / 4194304 ≡ h / 4 = omega arith in
      let d : p / 8388608 ≡ h / 8 = omega arith in
      rw (a, b, d, e)

  pub both_low : p / 1048576 ≡ 2 → read_pair p ≡ clash
  unfolding selected
  both_low = by_four 2

  pub second_low : p / 1048576 ≡ 3 → read_pair p ≡ plain (decode (seen p))
  unfolding selected
  second_low = by_four 3

  pub first_low : p / 1048576 ≡ 6 → read_pair p ≡ plain (decode (seen p))
  unfolding selected
  first_low = by_four 6

  pub both_high : p / 1048576 ≡ 7 → read_pair p ≡ plain (good nop)
  unfolding selected
  both_high = by_four 7

  pub wrong_bits_lem : (p / 1048576 ≡ 2 → ⊥) → (p / 1048576 ≡ 3 → ⊥) → (p / 1048576 ≡ 6 → ⊥) → (p / 1048576 ≡ 7 → ⊥) → read_pair p ≡ plain wrong_bits
  unfolding read_pair on bits
  wrong_bits_lem a b c d = go (eqb (p / 2097152 % 2) 1) (eqb (p / 8388608) 0) refl refl
    where
      go : (x y : Bool) → eqb (p / 2097152 % 2) 1 ≡ x → eqb (p / 8388608) 0 ≡ y
          → cond (x && y) (selected (eqb (p / 1048576 % 2) 1) (eqb (p / 4194304 % 2) 1) p) (plain wrong_bits) ≡ plain wrong_bits
      go true true e f =
          let odd = eqb-true (p / 2097152 % 2) 1 e in
          let low = eqb-true (p / 8388608) 0 f in
          absurd (four_bits (p / 1048576) (omega arith) (omega arith) a b c d)
      go true false e f = refl
      go false y e f = refl
