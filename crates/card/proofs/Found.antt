-- The row that a code picks in the rules' table, found in the code's. It tells what the rules say of the code.
use Prim.Native.Nat.{ℕ, ◌%◌}
use mathlib.Core.Path.{◌≡◌, refl, ap, sym, ◌∙◌}
use mathlib.Core.Bool.{Bool, true, false, cond}
use mathlib.Core.List.{List, [], ◌∷◌, map}
use native.Mathlib.Omega.{arith}
use lib.Dec.{leb, eqb}
use Rattle.rules.specs.Bits.{bits, on}
use Rattle.rules.specs.Units.{femto}
use Rattle.rules.specs.Registers.{Latency, latencies, at_code, rl_of, wl_of}
use Rattle.card.specs.Rows.{row_of, found_by, found_at}
use Rattle.card.specs.declared.registers.Row.{Row}
use Rattle.std.specs.Prelude.{Option, Some, None, find}

at_told : {A B : Type 0} (h : A → B) (k : ℕ) (g : Latency → A) (d : A) (xs : List Latency)
    → h (at_code k g d xs) ≡ at_code k (λ x. h (g x)) (h d) xs
unfolding at_code
at_told h k g d [] = refl
at_told h k g d (x ∷ xs) = pick (eqb x.code k) (at_told h k g d xs)
  where
    pick : (b : Bool) → h (at_code k g d xs) ≡ at_code k (λ y. h (g y)) (h d) xs
        → h (cond b (g x) (at_code k g d xs)) ≡ cond b (h (g x)) (at_code k (λ y. h (g y)) (h d) xs)
    pick true e = refl
    pick false e = e

-- what the rules tell of a code's row is told of the row that is found
pub told : {B : Type 0} (h : Option Row → B) (v : ℕ) (f : Option Row) → found_at v ≡ f
    → h f ≡ at_code (bits v 0 4) (λ x. h (Some (row_of x))) (h None) latencies
unfolding found_at found_by
told h v f e = ap h (sym e) ∙ at_told h (bits v 0 4) (λ x. Some (row_of x)) None latencies

-- what the code goes by: the least period, which is in ps, RL and WL
unfoldable pub least_in : ℕ → Option Row → Bool
least_in p (Some r) = leb (femto r.1) p
least_in p None = false

unfoldable pub rl_in : Option Row → ℕ
rl_in (Some r) = r.2
rl_in None = 0

unfoldable pub wl_in : ℕ → Option Row → ℕ
wl_in v (Some r) = cond (on v 6) r.4 r.3
wl_in v None = 0

pub latency_found : (v : ℕ) (f : Option Row) → found_at v ≡ f → (rl_in f ≡ rl_of v) × (wl_in v f ≡ wl_of v)
unfolding rl_in wl_in rl_of wl_of row_of
latency_found v f e = (told rl_in v f e, told (wl_in v) v f e)

-- by the code alone
pub found_by_lem : (v k : ℕ) → v % 16 ≡ k → found_by k ≡ found_at v
unfolding found_at bits
found_by_lem v k e = let c : k ≡ bits v 0 4 = omega arith in ap found_by c

-- ---- in a table
pub first_is : (k : ℕ) (xs : List Latency) → find (λ (x : Row). eqb x.0 k) (map row_of xs) ≡ at_code k (λ x. Some (row_of x)) None xs
unfolding at_code row_of
first_is k [] = refl
first_is k (x ∷ xs) = rw (first_is k xs)
