-- The digits of a stamp, the last four apart.
use Rattle.std.specs.Prelude.{◌≡◌, ℕ, ◌+◌, ◌*◌, ◌/◌, ◌%◌, ◌<◌, ◌≤◌, List, [], ◌∷◌, length, take, slice_index}
use Rattle.rules.specs.Lines.{decimal}

-- the last four digits of a number that has more
abbrev pub last_four : ℕ → List ℕ
last_four x = (48 + x / 1000 % 10) ∷ (48 + x / 100 % 10) ∷ (48 + x / 10 % 10) ∷ (48 + x % 10) ∷ []

-- the digits of each number below 100, two of them
pub record PairsGood (pairs : List ℕ) : Type 0 where
  pub tens : (k : ℕ) → k < 100 → slice_index pairs (k * 2) ≡ 48 + k / 10
  pub ones : (k : ℕ) → k < 100 → slice_index pairs (k * 2 + 1) ≡ 48 + k % 10

-- those before the last four of a number, and of the ten thousand from it on, the first so many of eight bytes
pub record LeadGood (base : ℕ) (text : List ℕ) (size : ℕ) : Type 0 where
  pub long : length text ≡ 8
  pub fits : size ≤ 6
  pub even : base % 10000 ≡ 0
  pub from : 10000 ≤ base
  pub upto : base + 10000 ≤ 4294967296
  pub digits : take size text ≡ decimal (base / 10000)
