-- The digits of a stamp, the last four apart.
use Rattle.std.proofs.Common.{◌≡◌, ℕ, ◌+◌, ◌*◌, ◌/◌, ◌%◌, ◌<◌, ◌≤◌, Bool, true, ◌&&◌, eqb, List, [], ◌∷◌, ◌++◌, length, get_or, take, refl, arith, take_at, eqb-true}
use Rattle.rules.specs.Lines.{decimal}
use Rattle.rules.proofs.Tests.{both_true}
use Rattle.rules.proofs.Onward.{onward, at_each}
use Rattle.lines.specs.Written.{Lined}
use Rattle.lines.specs.Stamps.{last_four, LeadGood, PairsGood}
use Rattle.lines.proofs.Decimals.{short, four_more}

-- ---- two digits at a time
module _ (pairs : List ℕ) where
  abbrev two_at : ℕ → Bool
  two_at k = eqb (get_or pairs (k * 2) 0) (48 + k / 10) && eqb (get_or pairs (k * 2 + 1) 0) (48 + k % 10)

  pub pairs_good : onward two_at 0 100 ≡ true → PairsGood pairs
  pairs_good all = record { tens = λ k h. eqb-true _ _ (each k h).0; ones = λ k h. eqb-true _ _ (each k h).1 }
    where
      each : (k : ℕ) → k < 100 → (eqb (get_or pairs (k * 2) 0) (48 + k / 10) ≡ true) × (eqb (get_or pairs (k * 2 + 1) 0) (48 + k % 10) ≡ true)
      each k h = both_true _ _ (at_each two_at 0 100 all k (omega arith) (omega arith))

  pub four_digits : (x : ℕ) → x < 10000 → PairsGood pairs
      → get_or pairs (x / 100 * 2) 0 ∷ get_or pairs (x / 100 * 2 + 1) 0 ∷ get_or pairs (x % 100 * 2) 0 ∷ get_or pairs (x % 100 * 2 + 1) 0 ∷ [] ≡ last_four x
  four_digits x h good =
      let a : x / 100 / 10 ≡ x / 1000 % 10 = omega arith in
      let c : x % 100 / 10 ≡ x / 10 % 10 = omega arith in
      let d : x % 100 % 10 ≡ x % 10 = omega arith in
      rw (good.tens (x / 100) (omega arith), good.ones (x / 100) (omega arith), good.tens (x % 100) (omega arith), good.ones (x % 100) (omega arith), a, c, d)

-- ---- the digits before them
pub lead_put : (x r : ℕ) (old new : List ℕ) → 1 ≤ x → x < 429496 → length new ≡ 8 → Lined (decimal x) old new r → LeadGood (10000 * x) new r
lead_put x r old new l h n p =
    let q : 10000 * x / 10000 ≡ x = omega arith in
    record {
      long = n;
      fits = omega (arith, p.count, short 5 x (omega arith));
      even = omega arith;
      from = omega arith;
      upto = omega arith;
      digits = rw (q, p.count, p.memory) (take_at (decimal x) _ (length (decimal x)) refl);
    }

same_four : (q rest : ℕ) → rest < 10000 → last_four (10000 * q + rest) ≡ last_four rest
same_four q rest h =
    let a : (10000 * q + rest) / 1000 % 10 ≡ rest / 1000 % 10 = omega arith in
    let b : (10000 * q + rest) / 100 % 10 ≡ rest / 100 % 10 = omega arith in
    let c : (10000 * q + rest) / 10 % 10 ≡ rest / 10 % 10 = omega arith in
    let d : (10000 * q + rest) % 10 ≡ rest % 10 = omega arith in
    rw (a, b, c, d)

pub lead_digits : {base size : ℕ} {text : List ℕ} (rest : ℕ) → LeadGood base text size → rest < 10000 → take size text ++ last_four rest ≡ decimal (base + rest)
lead_digits {base} rest good h =
    let f = good.from in
    let m : base ≡ 10000 * (base / 10000) = omega (arith, good.even) in
    let q : (base + rest) / 10000 ≡ base / 10000 = omega arith in
    rw (good.digits, four_more (base + rest) (omega arith), q, ← same_four (base / 10000) rest h, ← m)
