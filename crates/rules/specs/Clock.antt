-- Which cycles are counted (document 02, One), when refreshes are due (Eleven), and the account of a part's entries: over the counted cycles, by their
-- numbers.
use Rattle.std.specs.Prelude.{ℕ, zero, suc, ◌+◌, Bool, cond, not, List, [], ◌∷◌, map, ltb}
use Rattle.std.proofs.Math.Option.{Option, none, some}
use Rattle.rules.specs.Card.{Card}
use Rattle.rules.specs.Heat.{start_mr4, interval_at}
use Rattle.rules.specs.Levels.{stopped}
use Rattle.rules.specs.Whose.{parts}
use Rattle.rules.specs.Past.{Past, of_part, mr4_at, level_at, counted_stamps}
use Rattle.rules.specs.Account.{Schedule, Beat, every, steady, respaced, replaced, Book}

-- the entries below cycle t
unfoldable pub past_below : ℕ → Past → Past
past_below t [] = []
past_below t (e ∷ p) = cond (ltb e.stamp t) (e ∷ p) (past_below t p)

-- not counted are the cycles after a self-refresh entry up to and including its exit, and all after a deep power-down entry
unfoldable pub counts : Past → ℕ → Bool
counts past t = not (stopped (level_at (past_below t past)))

-- how many of the n cycles from cycle a on are counted
unfoldable pub counted_from : Past → (a n : ℕ) → ℕ
counted_from past a zero = 0
counted_from past a (suc n) = counted_from past a n + cond (counts past (a + n)) 1 0

-- the number of cycle t: cycle 0 is 0, and each counted cycle after it one more
unfoldable pub clock : Past → ℕ → ℕ
clock past t = counted_from past 1 t

-- ---- the dues, by number: the positive multiples of I, until a temperature field sets another interval
-- the beat after a temperature field at number n, and after any other entry
unfoldable pub beat_by : Card → (n : ℕ) → Option ℕ → Beat → Beat
beat_by card n none b = b
beat_by card n (some v) b = respaced b n (interval_at card v)

unfoldable pub beat_at : Card → Past → Beat
beat_at card [] = every (interval_at card start_mr4)
beat_at card (e ∷ p) = beat_by card (clock p e.stamp) e.mr4 (beat_at card p)

unfoldable pub schedule_by : (n : ℕ) → Option ℕ → Beat → Schedule → Schedule
schedule_by n none b s = s
schedule_by n (some v) b s = replaced s n b

unfoldable pub schedule_of : Card → Past → Schedule
schedule_of card [] = steady (beat_at card [])
schedule_of card (e ∷ p) = schedule_by (clock p e.stamp) e.mr4 (beat_at card (e ∷ p)) (schedule_of card p)

-- the interval in force before cycle t
unfoldable pub interval_below : Card → ℕ → Past → ℕ
interval_below card t past = interval_at card (mr4_at (past_below t past))

unfoldable pub book_of : Card → Past → Book
book_of card past = record { schedule = schedule_of card past; clock = clock past; refreshes = map (clock past) (counted_stamps past) }

-- those that 11 looks at: one for each part of the trace, over its own entries
unfoldable pub books_of : Card → Past → List Book
books_of card past = map (λ p. book_of card (of_part p past)) (parts card)
