-- What a function answers and leaves in the slice that it is lent.
use Rattle.std.specs.Prelude.{◌≡◌, ℕ, ◌≤◌, cond, List, ◌++◌, length, drop, nat_le}

-- the line at the start, where there is room for any line, and its length, which is at most that room
pub record Written (line old new : List ℕ) (r : ℕ) : Type 0 where
  pub answer : r ≡ cond (nat_le 64 (length old)) (length line) 0
  pub memory : new ≡ cond (nat_le 64 (length old)) (line ++ drop (length line) old) old
  pub short : r ≤ 64

-- the text at the start, and how many bytes it has
pub record Lined (text old new : List ℕ) (r : ℕ) : Type 0 where
  pub count : r ≡ length text
  pub fits : r ≤ length old
  pub memory : new ≡ text ++ drop (length text) old
