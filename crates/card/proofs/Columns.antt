-- The timings, by their place in the card's two columns, and raised.
use Prim.Native.Nat.{ℕ, suc, ◌+◌, ◌≤◌, ◌<◌}
use mathlib.Core.Path.{◌≡◌, refl}
use mathlib.Core.Bool.{Bool, true, false, cond, and-true}
use mathlib.Core.List.{List, [], ◌∷◌, ◌++◌}
use native.Mathlib.Nat.{add-zero, zero-add}
use native.Mathlib.Omega.{arith}
use lib.ListN.{length, get_or}
use borrow.Author.Tests.{le-leb}
use Rattle.std.specs.List.{list_all}
use Rattle.rules.specs.Lists.{all}
use Rattle.rules.specs.Units.{n, row_cycle, delays_of}
use Rattle.rules.specs.Heat.{is_hot, longer, hot_card, delays_at}
use Rattle.rules.specs.Ranges.{timing_good, timings, sleep_timings, raise_good}
use Rattle.rules.proofs.Onward.{onward}
use Rattle.card.specs.Values.{timing_in, card_of}
use Rattle.card.specs.Parts.{raise_at, raised_by}
use Rattle.card.specs.declared.Card.{Card}

-- a test of every timing goes by their places
pub all_timings_lem : (card : Card) → all timing_good (timings (card_of card) ++ sleep_timings (card_of card)) ≡ onward (λ k. timing_good (timing_in card k)) 0 18
unfolding onward all timings sleep_timings card_of
all_timings_lem card = refl

-- a test of each of a list goes by their places
onward_all : (p : ℕ → Bool) (q : ℕ → Bool) (xs : List ℕ) (i : ℕ) → ((k : ℕ) → k < length xs → q (i + k) ≡ p (get_or xs k 0)) → list_all p xs ≡ onward q i (length xs)
unfolding onward
onward_all p q [] i h = refl
onward_all p q (x ∷ xs) i h =
    let first : q i ≡ p x = rw add-zero at (h 0 (omega arith)) in
    rw (first, onward_all p q xs (suc i) (λ k lt. let e : suc i + k ≡ i + suc k = omega arith in rw e (h (suc k) (omega arith))))

-- a floor is a byte, so that the durations decide
by_duration : (card : Card) (k : ℕ) → get_or card.floors k 0 ≤ 255 → timing_good (timing_in card k) ≡ raise_good (get_or card.durations k 0)
unfolding timing_good timing_in raise_good
by_duration card k low = rw (le-leb _ 255 low) (and-true _)

pub durations_tell : (card : Card) → length card.durations ≡ 18 → ((k : ℕ) → get_or card.floors k 0 ≤ 255)
    → list_all raise_good card.durations ≡ all timing_good (timings (card_of card) ++ sleep_timings (card_of card))
durations_tell card long low =
    rw (all_timings_lem card, ← long) (onward_all raise_good (λ k. timing_good (timing_in card k)) card.durations 0 (λ k lt. rw zero-add (by_duration card k (low k))))

-- ---- the delays of a card by its raise
-- raised by nothing they are the ordinary ones
unraised : (card : Card) → delays_of (hot_card (card_of (raised_by 0 card))) ≡ delays_of (card_of card)
unfolding delays_of n row_cycle hot_card longer card_of raised_by timing_in
unraised card = simp add-zero

pub delays_by : (card : Card) (v : ℕ) → delays_of (hot_card (card_of (raised_by (raise_at card v) card))) ≡ delays_at (card_of card) v
unfolding raise_at delays_at
delays_by card v = go (is_hot v)
  where
    go : (b : Bool) → delays_of (hot_card (card_of (raised_by (cond b card.raise 0) card))) ≡ cond b (delays_of (hot_card (card_of card))) (delays_of (card_of card))
    go true = unfold raised_by in refl
    go false = unraised card
