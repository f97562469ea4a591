-- nWR (document 02, Two): the table in the document's own words, over both values of OP4 of MR2 and all codes of OP7–5 of MR1.
use Prim.Native.Nat.{ℕ, ◌+◌, ◌*◌}
use mathlib.Core.Path.{◌≡◌, refl}
use mathlib.Core.List.{[], ◌∷◌, map}
use mathlib.Core.Option.{none, some}
use Rattle.rules.specs.Bits.{bits}
use Rattle.rules.specs.Registers.{Modes, recovery, recoveries, at_pair, nwr_by, nwr_of}

-- OP2–0 of MR1 are 011
unfoldable pub programmed_as : (op4 code : ℕ) → Modes
programmed_as o c = record { mr2 = 16 * o; mr1 = some (32 * c + 3) }

-- a pair that is not listed counts n(tWR)
pub nwr_listed : (twr : ℕ) →
    map (λ o. map (λ c. nwr_of twr (programmed_as o c)) (0b000 ∷ 0b001 ∷ 0b010 ∷ 0b011 ∷ 0b100 ∷ 0b101 ∷ 0b110 ∷ 0b111 ∷ [])) (0 ∷ 1 ∷ [])
    ≡ (twr ∷ 3 ∷ twr ∷ twr ∷ 6 ∷ twr ∷ 8 ∷ 9 ∷ []) ∷ (10 ∷ 11 ∷ 12 ∷ twr ∷ 14 ∷ twr ∷ 16 ∷ twr ∷ []) ∷ []
unfolding programmed_as nwr_of nwr_by at_pair recoveries recovery bits
nwr_listed twr = refl

-- and so does no MR1, whatever MR2 says
pub nwr_none : (twr mr2 : ℕ) → nwr_of twr (record { mr2 = mr2; mr1 = none }) ≡ twr
unfolding nwr_of nwr_by
nwr_none twr mr2 = refl
