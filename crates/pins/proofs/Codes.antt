-- The kinds by their numbers: in the table, packed, and as what pins are.
use Prim.Native.Nat.{ℕ, zero, suc, ◌+◌, ◌*◌, ◌/◌, ◌%◌, ◌^◌, ◌<◌}
use mathlib.Core.Path.{◌≡◌, refl}
use mathlib.Core.Bool.{Bool, true, false}
use native.Mathlib.Nat.{add-zero, add-suc, suc-add, zero-add, div-one}
use native.Mathlib.Omega.{arith}
use lib.Dec.{eqb}
use lib.ListN.{get_or}
use borrow.Author.Tests.{eq-eqb, ne_eqb, eqb-true}
use Rattle.std.proofs.lemmas.Bool.{eqb-false}
use Rattle.rules.specs.Bits.{bits, on}
use Rattle.rules.specs.Commands.{Kind, NOP, MRW, MRR, REFPB, REFAB, ACT, RD, WR, PRE, PREA, RESERVED, code}
use Rattle.rules.specs.Pins.{by_levels, kind_at, codes_from, kind_codes, of_kind, decode}
use Rattle.rules.proofs.Onward.{onward, at_each}
use Rattle.pins.specs.Table.{kind_with}

-- ---- each of the 1,024 entries is the number of its pattern's kind
codes_from_lem : (n e k : ℕ) → k < n → get_or (codes_from n e) k 0 ≡ code (kind_at (e + k))
unfolding codes_from
codes_from_lem zero e k h = absurd (omega arith)
codes_from_lem (suc n) e zero h = rw add-zero
codes_from_lem (suc n) e (suc k) h = rw (add-suc, ← suc-add) (codes_from_lem n (suc e) k (omega arith))

pub code_at : (k : ℕ) → k < 1024 → get_or kind_codes k 0 ≡ code (kind_at k)
unfolding kind_codes
code_at k h = rw (zero-add k) at (codes_from_lem 1024 0 k h)

-- ---- the first five levels decide
low_bit : (x : ℕ) → (x / 1 % 2 ≡ x % 32 / 1 % 2) × (x / 2 % 2 ≡ x % 32 / 2 % 2) × (x / 4 % 2 ≡ x % 32 / 4 % 2) × (x / 8 % 2 ≡ x % 32 / 8 % 2) × (x / 16 % 2 ≡ x % 32 / 16 % 2)
low_bit x = (omega arith, omega arith, omega arith, omega arith, omega arith)

pub low_levels : (x : ℕ) → kind_at x ≡ kind_at (x % 32)
unfolding kind_at on bits
low_levels x =
    let l = low_bit x in
    λ i. by_levels (eqb (l.0 i) 1) (eqb (l.1 i) 1) (eqb (l.2 i) 1) (eqb (l.3 i) 1) (eqb (l.4 i) 1)

module _ (p : ℕ) where
  pub high_fifth : on p 4 ≡ true → p % 32 ≡ p % 16 + 16
  unfolding on bits
  high_fifth h = let e = eqb-true (p / 16 % 2) 1 h in omega arith

  pub low_fifth : on p 4 ≡ false → p % 32 ≡ p % 16 + 0
  unfolding on bits
  low_fifth h = let n = eqb-false (p / 16 % 2) 1 h in omega arith

-- sixteen numbers of kinds, four bits each, for the patterns from e on
abbrev agrees : (kinds e k : ℕ) → Bool
agrees kinds e k = eqb (kinds / 2 ^ (k * 4) % 16) (code (kind_at (k + e)))

pub packed : (kinds e : ℕ) → onward (agrees kinds e) 0 16 ≡ true → (p : ℕ) → p % 32 ≡ p % 16 + e → kinds / 2 ^ (p % 16 * 4) % 16 ≡ code (kind_at (p % 1024))
packed kinds e all p s =
    let same : p % 1024 % 32 ≡ p % 16 + e = omega arith in
    rw (low_levels (p % 1024), same) (eqb-true _ _ (at_each (agrees kinds e) 0 16 all (p % 16) (omega arith) (omega arith)))

-- ---- what pins of a kind are
kind_back : (k : Kind) → kind_with (code k) ≡ k
unfolding code kind_with
kind_back NOP = refl
kind_back MRW = refl
kind_back MRR = refl
kind_back REFPB = refl
kind_back REFAB = refl
kind_back ACT = refl
kind_back RD = refl
kind_back WR = refl
kind_back PRE = refl
kind_back PREA = refl
kind_back RESERVED = refl

-- with clock enable high, CS_n low and nothing above
module _ (p : ℕ) (cke : p / 2097152 ≡ 1) where
  when_low : on p 20 ≡ false → decode p ≡ of_kind (kind_at (p % 1024)) p
  unfolding decode bits
  when_low cs = rw (eq-eqb _ _ cke, cs, div-one p)

  pub by_kind : on p 20 ≡ false → decode p ≡ of_kind (kind_with (code (kind_at (p % 1024)))) p
  by_kind cs = rw (kind_back (kind_at (p % 1024))) (when_low cs)

  pub by_edge : (p / 1048576 % 2 ≡ 1 → ⊥) → decode p ≡ of_kind (kind_at (p % 1024)) p
  by_edge cs = when_low (unfold on bits in ne_eqb _ _ cs)
