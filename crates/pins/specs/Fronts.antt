-- What some bytes begin with: an entry field, or a stamp.
use Rattle.std.specs.Prelude.{ℕ, Bool, cond, ◌&&◌, List, Option, Some, None, leb, eqb, length, get_or, take, drop}
use Rattle.rules.specs.Form.{number}
use Rattle.pins.specs.declared.Front.{Front}

-- the bytes begin with tag 32 and length 7
abbrev pub is_head : List ℕ → Bool
is_head bs = eqb (get_or bs 0 0) 32 && eqb (get_or bs 1 0) 0 && eqb (get_or bs 2 0) 7

-- and with a whole entry field
unfoldable pub is_entry : List ℕ → Bool
is_entry bs = leb 10 (length bs) && is_head bs

abbrev pub front_as : (stamp pins : ℕ) → Front
front_as t p = record { stamp = t; pins = p }

-- and hold this entry, or none
unfoldable pub front_of : List ℕ → Option Front
front_of bs = cond (is_entry bs) (Some (front_as (number (take 4 (drop 3 bs))) (number (take 3 (drop 7 bs))))) None

-- their first four as a number; 0 where there are fewer
unfoldable pub stamp_in : List ℕ → ℕ
stamp_in bs = cond (leb 4 (length bs)) (number (take 4 bs)) 0
