-- Numbers in 64 bits.
use Rattle.std.proofs.Common.{◌≡◌, ℕ, ◌+◌, ◌^◌, ◌<◌, mod-eq_of_lt, arith}
use Rattle.chunks.specs.Took.{wrapped}

pub wrapped_is : (x : ℕ) → x < 2 ^ 64 → wrapped x ≡ x
unfolding wrapped
wrapped_is x h = mod-eq_of_lt h

pub wrapped_small : (x : ℕ) → wrapped x < 2 ^ 64
unfolding wrapped
wrapped_small x = omega arith

pub wrapped_twice : (a x y : ℕ) → wrapped (wrapped (a + x) + y) ≡ wrapped (a + (x + y))
unfolding wrapped
wrapped_twice a x y = omega arith
