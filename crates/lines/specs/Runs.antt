-- The lines of entries that stand one behind the other, ten bytes each.
use Rattle.std.specs.Prelude.{◌≡◌, ℕ, zero, suc, ◌-◌, ◌/◌, ◌≤◌, min, Bool, cond, List, [], ◌++◌, drop, ◌==◌, unwrap_or}
use Rattle.rules.specs.Levels.{Level, Read, level_after, read_as}
use Rattle.rules.specs.Whose.{Whose, whose, is_of, part_of}
use Rattle.rules.specs.Entries.{recorded_as, move_of}
use Rattle.rules.specs.Lines.{entry_line}
use Rattle.pins.specs.declared.Front.{Front}
use Rattle.pins.specs.Fronts.{front_as, front_of}
use Rattle.pins.specs.Counter.{counter_on}
use Rattle.lines.specs.Written.{Lined}
use Rattle.lines.specs.Quick.{high_at, level_with}
use Rattle.lines.specs.declared.runs.Next.{Next}

-- what the line of an entry goes by, beside its bytes: the level of the one part (two have none but awake), and the round counters of part 0 and part 1
pub record Standing : Type 0 where
  pub level : Level
  pub counter : ℕ
  pub second : ℕ

abbrev pub standing : Level → (counter second : ℕ) → Standing
standing l n m = record { level = l; counter = n; second = m }

-- the counter of the part that judges the entry
unfoldable pub counter_for : Whose → (counter second : ℕ) → ℕ
counter_for w n m = cond (part_of w == 0) n m

-- only the entry of a part changes that part's counter
unfoldable pub counter_if : (own : Bool) → Read → ℕ → ℕ
counter_if own r n = cond own (counter_on (recorded_as r) (move_of r) n) n

unfoldable pub standing_after : Whose → Read → Standing → Standing
standing_after w r x = standing (level_after (move_of r) x.level) (counter_if (is_of 0 w) r x.counter) (counter_if (is_of 1 w) r x.second)

-- the entry field at the start of some bytes. Where there is none its stamp and pins are 0
abbrev pub front_in : List ℕ → Front
front_in bs = unwrap_or (front_of bs) (front_as 0 0)

module _ (sleeps paired : Bool) where
  -- what the pins are read as there, their line, and what stands then
  abbrev pub read_in : Standing → (pins : ℕ) → Read
  read_in x p = read_as sleeps paired x.level p

  abbrev pub line_on : (stamp pins : ℕ) → Standing → List ℕ
  line_on t p x = entry_line t (recorded_as (read_in x p)) (whose paired p) (counter_for (whose paired p) x.counter x.second)

  abbrev pub next_on : (pins : ℕ) → Standing → Standing
  next_on p x = standing_after (whose paired p) (read_in x p) x

  -- of the entry field at the start of some bytes
  unfoldable pub line_at : Standing → List ℕ → List ℕ
  line_at x bs = line_on (front_in bs).stamp (front_in bs).pins x

  unfoldable pub next_at : Standing → List ℕ → Standing
  next_at x bs = next_on (front_in bs).pins x

  -- of so many entries: their lines, and what stands then
  unfoldable pub lines_at : (count : ℕ) → Standing → List ℕ → List ℕ
  lines_at zero x bs = []
  lines_at (suc k) x bs = line_at x bs ++ lines_at k (next_at x bs) (drop 10 bs)

  unfoldable pub stands_at : (count : ℕ) → Standing → List ℕ → Standing
  stands_at zero x bs = x
  stands_at (suc k) x bs = stands_at k (next_at x bs) (drop 10 bs)

-- how many of them are written: as many as there are, and as there is room for, 24 bytes each and 64 for the last
abbrev pub line_count : (count bytes room : ℕ) → ℕ
line_count c b r = min c (min (b / 10) ((r - 40) / 24))

abbrev pub standing_of : Next → Standing
standing_of x = standing (level_with x.high) x.counters.first x.counters.second

-- what is kept of the level is one of the four
abbrev pub HighGood : (paired : Bool) → Next → Type 0
HighGood paired x = x.high ≡ high_at paired (level_with x.high)

-- one line more
pub record Added (sleeps paired : Bool) (x : Next) (stamp pins : ℕ) (old new : List ℕ) (y : Next) (r : ℕ) : Type 0 where
  pub line : Lined (line_on sleeps paired stamp pins (standing_of x)) old new r
  pub stands : standing_of y ≡ next_on sleeps paired pins (standing_of x)
  pub high : HighGood paired y
  pub small : r ≤ 24
