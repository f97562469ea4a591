-- The entries of a file, temperature fields among them, and the commands that they are taken for.
use Rattle.std.specs.Prelude.{ℕ, Bool, cond, List, [], ◌∷◌}
use Rattle.std.proofs.Math.Option.{Option, none, some}
use Rattle.rules.specs.Card.{Card}
use Rattle.rules.specs.Commands.{Command, nop, refab}
use Rattle.rules.specs.Pins.{Decoded, good, wrong_bits, reserved}
use Rattle.rules.specs.Levels.{Level, awake, power_down, self_refresh, deep, Move, stays, falls, rises, Read, plain, moved, asleep, barred, clash, sensed, read_as, read_mr4}
use Rattle.rules.specs.Whose.{Whose, sole, both, whose, part_of, other}
use Rattle.rules.specs.Past.{Taken, Past, of_part, level_at, is_open, counter_at}
use Rattle.rules.specs.Delays.{Lookup, look_both, find}

-- pins, or a value of MR4 that was read back
pub data Body : Type 0 where
  pins : ℕ → Body
  mr4 : ℕ → Body

pub record Entry : Type 0 where
  pub stamp : ℕ
  pub body : Body

abbrev pub entry : (stamp p : ℕ) → Entry
entry t p = record { stamp = t; body = pins p }

-- the entry-like field of a temperature
abbrev pub sensing : (stamp v : ℕ) → Entry
sensing t v = record { stamp = t; body = mr4 v }

-- what an entry is judged by, of all that came before, beside the level: of its own part which banks are open, the round counter, and the answers to the delay
-- rules' questions, and of the other part such answers
pub record View : Type 0 where
  pub open? : ℕ → Bool
  pub counter : ℕ
  pub look : Lookup

-- by the part's own entries and the other one's
unfoldable pub view_of : Card → (own others : Past) → View
view_of card own others = record { open? = λ b. is_open b own; counter = counter_at own; look = look_both (find card own) (find card others) }

-- The one place that says what an entry is: by its card, its part's level and its body
unfoldable pub read_body : Card → Level → Body → Read
read_body card l (pins p) = read_as card.sleeps card.paired l p
read_body card l (mr4 v) = read_mr4 card.sleeps card.paired l v

unfoldable pub read : Card → Level → Entry → Read
read card l e = read_body card l e.body

unfoldable pub read_after : Card → (own : Past) → Entry → Read
read_after card own e = read card (level_at own) e

-- pins are whose the two CS_n say; a temperature is among each part's own entries
unfoldable pub whose_body : (paired : Bool) → Body → Whose
whose_body paired (pins p) = whose paired p
whose_body paired (mr4 v) = cond paired both sole

unfoldable pub whose_of : Card → Entry → Whose
whose_of card e = whose_body card.paired e.body

-- the part that judges it
unfoldable pub part_in : Card → Entry → ℕ
part_in card e = part_of (whose_of card e)

unfoldable pub command_of : Decoded → Command
command_of (good c) = c
command_of wrong_bits = nop
command_of reserved = nop

-- recorded as: a move, an entry asleep and a temperature are NOP
unfoldable pub recorded_as : Read → Command
recorded_as (plain d) = command_of d
recorded_as (moved m) = nop
recorded_as asleep = nop
recorded_as barred = nop
recorded_as clash = nop
recorded_as (sensed v) = nop

unfoldable pub move_of : Read → Move
move_of (plain d) = stays
move_of (moved m) = m
move_of asleep = stays
move_of barred = stays
move_of clash = stays
move_of (sensed v) = stays

unfoldable pub mr4_of : Read → Option ℕ
mr4_of (plain d) = none
mr4_of (moved m) = none
mr4_of asleep = none
mr4_of barred = none
mr4_of clash = none
mr4_of (sensed v) = some v

-- judged as: the entries into self-refresh and deep power-down are REFab, for the bank states and the delays
unfoldable pub falls_as : Level → Command
falls_as awake = nop
falls_as power_down = nop
falls_as self_refresh = refab
falls_as deep = refab

unfoldable pub moves_as : Move → Command
moves_as stays = nop
moves_as (falls l) = falls_as l
moves_as (rises l) = nop

unfoldable pub judged_as : Read → Command
judged_as (plain d) = command_of d
judged_as (moved m) = moves_as m
judged_as asleep = nop
judged_as barred = nop
judged_as clash = nop
judged_as (sensed v) = nop

-- behind its own part's entries
unfoldable pub taken : Card → (own : Past) → Entry → Taken
taken card own e = let r = read_after card own e in record { stamp = e.stamp; cmd = recorded_as r; move = move_of r; whose = whose_of card e; mr4 = mr4_of r }

-- ---- over the entries of both parts
-- the entries of the part that judges e, and those of the other
unfoldable pub own_for : Card → Past → Entry → Past
own_for card past e = of_part (part_in card e) past

unfoldable pub others_for : Card → Past → Entry → Past
others_for card past e = of_part (other (part_in card e)) past

unfoldable pub view_for : Card → Past → Entry → View
view_for card past e = view_of card (own_for card past e) (others_for card past e)

unfoldable pub read_for : Card → Past → Entry → Read
read_for card past e = read_after card (own_for card past e) e

unfoldable pub taken_for : Card → Past → Entry → Taken
taken_for card past e = taken card (own_for card past e) e

-- the past after an entry, and after these entries
unfoldable pub past_with : Card → Past → Entry → Past
past_with card past e = taken_for card past e ∷ past

unfoldable pub past_over : Card → Past → List Entry → Past
past_over card past [] = past
past_over card past (e ∷ es) = past_over card (past_with card past e) es

unfoldable pub past_of : Card → List Entry → Past
past_of card es = past_over card [] es
