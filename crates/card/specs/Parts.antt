-- The timings of a card by their places in its columns, as the code goes through them: raised by a number of picoseconds, which is 0 at any code of MR4 but the
-- hottest.
use Rattle.std.specs.Prelude.{ℕ, ◌^◌, ◌<◌, ◌≡◌, cond, ltb}
use Rattle.rules.specs.Card as paper
use Rattle.rules.specs.Heat.{is_hot, longer}
use Rattle.card.specs.declared.Card.{Card}
use Rattle.card.specs.declared.units.Timing.{Timing}
use Rattle.card.specs.Values.{timing_in}

-- what is added with this value in force
unfoldable pub raise_at : Card → (mr4 : ℕ) → ℕ
raise_at card v = cond (is_hot v) card.raise 0

-- the card with another raise
unfoldable pub raised_by : (ps : ℕ) → Card → Card
raised_by ps card = record {
  period = card.period;
  mr2 = card.mr2;
  groups = card.groups;
  trefi = card.trefi;
  durations = card.durations;
  floors = card.floors;
  sleeps = card.sleeps;
  programmed = card.programmed;
  mr1 = card.mr1;
  paired = card.paired;
  gap = card.gap;
  raise = ps;
}

-- the timing at this place; the first five are trcd, trppb, trpab, tras, trrd
unfoldable pub raised_in : Card → (ps : ℕ) → ℕ → paper.Timing
raised_in card ps k = cond (ltb k 5) (longer ps (timing_in card k)) (timing_in card k)

-- the same in the code's own type
pub record Timed (card : Card) (ps k : ℕ) (r : Timing) : Type 0 where
  pub duration_is : r.duration.0 ≡ (raised_in card ps k).duration
  pub floor_is : r.floor.0 ≡ (raised_in card ps k).floor
  pub short : r.duration.0 < 2 ^ 33
  pub low : r.floor.0 < 256
