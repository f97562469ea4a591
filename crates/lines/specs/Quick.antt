-- The end of a line that is written without decoding its command.
use Rattle.std.specs.Prelude.{◌≡◌, ℕ, ◌+◌, ◌-◌, ◌/◌, ◌%◌, ◌≤◌, Bool, false, cond, List, [], ◌∷◌, ◌++◌, Option, None, Some, length, drop, ◌==◌, nat_le, slice_index_or, slice_set}
use Rattle.rules.specs.Commands.{Command}
use Rattle.rules.specs.Pins.{decode}
use Rattle.rules.specs.Levels.{Level, awake, power_down, self_refresh, deep, stays, plain, read_as}
use Rattle.rules.specs.Entries.{command_of}
use Rattle.pins.specs.Counter.{counter_on}
use Rattle.lines.specs.Parts.{name_part, bank_part}
use Rattle.lines.specs.declared.tails.Tail.{Tail}

abbrev tail : (text : List ℕ) → (size : ℕ) → Option Tail
tail text size = Some (record { text = text; size = size })

-- at the end of eight bytes: a blank, the name, a blank, a bank's place and the line's end; and how many bytes these are. ACT, RD, WR and PRE, each without
-- auto-precharge and with it
abbrev pub tails : List (Option Tail)
tails =
    tail (32 ∷ 32 ∷ 65 ∷ 67 ∷ 84 ∷ 32 ∷ 48 ∷ 10 ∷ []) 7 ∷
    tail (32 ∷ 32 ∷ 65 ∷ 67 ∷ 84 ∷ 32 ∷ 48 ∷ 10 ∷ []) 7 ∷
    tail (32 ∷ 32 ∷ 32 ∷ 82 ∷ 68 ∷ 32 ∷ 48 ∷ 10 ∷ []) 6 ∷
    tail (32 ∷ 32 ∷ 82 ∷ 68 ∷ 65 ∷ 32 ∷ 48 ∷ 10 ∷ []) 7 ∷
    tail (32 ∷ 32 ∷ 32 ∷ 87 ∷ 82 ∷ 32 ∷ 48 ∷ 10 ∷ []) 6 ∷
    tail (32 ∷ 32 ∷ 87 ∷ 82 ∷ 65 ∷ 32 ∷ 48 ∷ 10 ∷ []) 7 ∷
    tail (32 ∷ 32 ∷ 80 ∷ 82 ∷ 69 ∷ 32 ∷ 48 ∷ 10 ∷ []) 7 ∷
    tail (32 ∷ 32 ∷ 80 ∷ 82 ∷ 69 ∷ 32 ∷ 48 ∷ 10 ∷ []) 7 ∷ []

-- ACT's number is 5
unfoldable pub tail_at : (key : ℕ) → Option Tail
tail_at k = cond (nat_le 10 k) (slice_index_or tails (k - 10) None) None

pub record TailFits (t : Tail) : Type 0 where
  pub long : length t.text ≡ 8
  pub some : 6 ≤ t.size
  pub fits : t.size ≤ 7

-- the bytes that stand, with the bank's digit
abbrev pub tail_part : Tail → (digit : ℕ) → List ℕ
tail_part t digit = drop (8 - t.size) (slice_set t.text 6 digit)

-- the tail is that of the command, which leaves the round counter as it is
pub record TailGood (c : Command) (t : Tail) (digit : ℕ) : Type 0 where
  pub fits : TailFits t
  pub text : (counter : ℕ) → tail_part t digit ≡ name_part c ++ bank_part c counter ++ (10 ∷ [])
  pub still : (counter : ℕ) → counter_on c stays counter ≡ counter

-- what the pins from CS_n up must be for a tail: clock enable high and CS_n low, where the one part is awake; no pins have any of the others. The level is told
-- by it
unfoldable pub high_at : (paired : Bool) → Level → ℕ
high_at d awake = cond d 4099 2
high_at d power_down = 4096
high_at d self_refresh = 4097
high_at d deep = 4098

unfoldable pub level_with : ℕ → Level
level_with h = cond (h == 4096) power_down (cond (h == 4097) self_refresh (cond (h == 4098) deep awake))

-- it is that of the command on the pins, and the one part, awake, reads them as that command
pub record TailOn (p : ℕ) (t : Tail) : Type 0 where
  pub reads : (sleeps : Bool) → read_as sleeps false awake p ≡ plain (decode p)
  pub good : TailGood (command_of (decode p)) t (48 + p / 128 % 8)
