-- nWR of a pair in one number: that of the rules' table, found by the arms of a match.
use Prim.Native.Nat.{ℕ, ◌+◌, ◌*◌, ◌/◌, ◌%◌}
use mathlib.Core.Path.{◌≡◌, refl}
use mathlib.Core.Logic.{⊎_elim}
use mathlib.Core.Bool.{true, false, ◌&&◌, and-false}
use mathlib.Core.List.{List, [], ◌∷◌}
use native.Mathlib.Omega.{arith}
use lib.Dec.{eqb}
use Rattle.rules.specs.Bits.{bits}
use Rattle.rules.specs.Registers.{Recovery, recoveries, at_pair}
use Rattle.rules.proofs.Tests.{eq_cases}
use Rattle.card.specs.Rows.{pair_of, recovery_at}

-- p is the pair of none of these rows, as a match's last arm has it
unfoldable pub Unlisted : Type 0 → ℕ → List Recovery → Type 0
Unlisted T p [] = T
Unlisted T p (x ∷ xs) = Unlisted (T × (p ≡ x.op4 * 8 + x.code → ⊥)) p xs

not_here : (p : ℕ) (x : Recovery) → (p ≡ x.op4 * 8 + x.code → ⊥) → (eqb x.op4 (p / 8) && eqb x.code (p % 8)) ≡ false
not_here p x n = ⊎_elim
    (λ (a : (x.op4 ≡ p / 8) × (eqb x.op4 (p / 8) ≡ true)). ⊎_elim
    (λ (b : (x.code ≡ p % 8) × (eqb x.code (p % 8) ≡ true)). absurd (n (omega (arith, a.0, b.0))))
    (λ (b : (x.code ≡ p % 8 → ⊥) × (eqb x.code (p % 8) ≡ false)). rw b.1 (and-false (eqb x.op4 (p / 8))))
    (eq_cases x.code (p % 8)))
    (λ (a : (x.op4 ≡ p / 8 → ⊥) × (eqb x.op4 (p / 8) ≡ false)). rw a.1)
    (eq_cases x.op4 (p / 8))

unlisted : {T : Type 0} (p d : ℕ) (xs : List Recovery) → Unlisted T p xs → T × (at_pair (p / 8) (p % 8) d xs ≡ d)
unfolding Unlisted at_pair
unlisted p d [] m = (m, refl)
unlisted {T = T} p d (x ∷ xs) m =
    let q = unlisted {T = T × (p ≡ x.op4 * 8 + x.code → ⊥)} p d xs m in
    (q.0.0, rw (not_here p x q.0.1) q.1)

pub no_recovery : (p d : ℕ) → Unlisted (Unit {0}) p recoveries → recovery_at p d ≡ d
unfolding recovery_at
no_recovery p d m = (unlisted p d recoveries m).1

pub by_pair : (v w d : ℕ) → recovery_at (pair_of v w) d ≡ at_pair (bits v 4 1) (bits w 5 3) d recoveries
unfolding recovery_at pair_of bits
by_pair v w d =
    let o : (v / 16 % 2 * 8 + w / 32 % 8) / 8 ≡ v / 16 % 2 = omega arith in
    let c : (v / 16 % 2 * 8 + w / 32 % 8) % 8 ≡ w / 32 % 8 = omega arith in
    rw (o, c)
