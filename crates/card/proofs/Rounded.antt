-- The quotient, and one more if anything is left over, is what the rules call rounded up.
use Prim.Native.Nat.{ℕ, ◌+◌, ◌/◌, ◌%◌, ◌≤◌, ◌<◌, min}
use mathlib.Core.Path.{◌≡◌, sym, ◌∙◌}
use mathlib.Core.Logic.{⊎_elim}
use native.Mathlib.Nat.{eq-or-lt_of_le, div-zero, div-add-mod', mod-lt, div-eq_of_lt-le}
use native.Mathlib.Omega.{arith}
use Rattle.std.specs.Int.{div_ceil}
use Rattle.rules.specs.Units.{rounded_up}

pub by_zero : (d p : ℕ) → p ≡ 0 → rounded_up d p ≡ 0
unfolding rounded_up
by_zero d p e = rw e (div-zero _)

-- either way the answer lies where it is looked for
module _ (d p : ℕ) (positive : 0 < p) where
  nothing_over : d % p ≡ 0 → d / p ≡ rounded_up d p
  unfolding rounded_up
  nothing_over none = sym (div-eq_of_lt-le p (omega (arith, div-add-mod' d p)) (omega (arith, div-add-mod' d p)))

  something_over : 0 < d % p → d / p + 1 ≡ rounded_up d p
  unfolding rounded_up
  something_over some =
      let below = mod-lt d positive in
      sym (div-eq_of_lt-le p (omega (arith, below, div-add-mod' d p)) (omega (arith, below, div-add-mod' d p)))

pub by_ceil : (d p : ℕ) → 0 < p → div_ceil d p ≡ rounded_up d p
by_ceil d p positive = ⊎_elim
    (λ (e : 0 ≡ d % p). let q : d / p + min 1 (d % p) ≡ d / p = omega (arith, e) in q ∙ nothing_over d p positive (sym e))
    (λ (lt : 0 < d % p). let q : d / p + min 1 (d % p) ≡ d / p + 1 = omega (arith, lt) in q ∙ something_over d p positive lt)
    (let low : 0 ≤ d % p = omega arith in eq-or-lt_of_le low)
