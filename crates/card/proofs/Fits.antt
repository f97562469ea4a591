-- The delays of a card in range, by any temperature, are within 32 bits: the facts over their sizes.
use Prim.Native.Nat.{ℕ, ◌+◌, ◌*◌, ◌-◌, ◌≤◌, ◌<◌}
use mathlib.Core.Path.{◌≡◌}
use mathlib.Core.Bool.{Bool, true, false, cond}
use native.Mathlib.Nat.{div-le_self}
use native.Mathlib.Omega.{arith}
use lib.Dec.{leb, ltb, lit<}
use borrow.Author.Tests.{leb-true}
use Rattle.rules.specs.Card as paper
use Rattle.rules.specs.Ranges.{period_good, timing_good, raise_good, card_good}
use Rattle.rules.specs.Units.{femto, rounded_up, n, row_cycle, delays_of}
use Rattle.rules.specs.Heat.{is_hot, longer, hot_card, delays_at}
use Rattle.rules.proofs.Tests.{both_true}
use Rattle.rules.proofs.Rounding.{within_both}
use Rattle.rules.proofs.CardGood.{good_parts}
use Rattle.rules.proofs.Onward.{at_each}
use Rattle.card.specs.Values.{timing_in, card_of, clipped, shortened}
use Rattle.card.specs.Parts.{raise_at, raised_by, raised_in}
use Rattle.card.specs.declared.Card.{Card}
use Rattle.card.proofs.Columns.{all_timings_lem, delays_by}

record Small (most : ℕ) (x : paper.Timing) : Type 0 where
  pub duration : x.duration ≤ most
  pub floor : x.floor ≤ 255

small : (x : paper.Timing) → timing_good x ≡ true → Small 1_000_000 x
unfolding timing_good
small x e =
    let (d, f) = both_true (leb x.duration 1_000_000) (leb x.floor 255) e in
    record { duration = leb-true _ _ d; floor = leb-true _ _ f }

rounded_le : (d p : ℕ) → rounded_up (femto d) p ≤ 1000 * d + (p - 1)
unfolding femto rounded_up
rounded_le d p = div-le_self (1000 * d + (p - 1)) p

module _ (card : Card) (good : card_good (card_of card) ≡ true) where
  -- its period, and each timing by its place
  in_range : (card.period.0 ≤ 100_000_000) × ((k : ℕ) → k < 18 → Small 1_000_000 (timing_in card k))
  unfolding card_of period_good
  in_range =
      let g = good_parts (card_of card) good in
      let every = rw (all_timings_lem card) at g.timed in (
        (within_both 938_000 100_000_000 card.period.0 g.period).1,
        λ k lt. small (timing_in card k) (at_each (λ j. timing_good (timing_in card j)) 0 18 every k (omega arith) (omega arith)),
      )

  gap_fits : clipped card.gap ≡ card.gap
  unfolding card_of
  gap_fits = omega (arith, leb-true card.gap 255 (good_parts (card_of card) good).gap)

  -- raised by what a card may have
  module _ (ps : ℕ) (le : ps ≤ 1_000_000) where
    raised_small : (k : ℕ) → k < 18 → Small 2_000_000 (raised_in card ps k)
    unfolding raised_in
    raised_small k lt = go (ltb k 5)
      where
        go : (b : Bool) → Small 2_000_000 (cond b (longer ps (timing_in card k)) (timing_in card k))
        go true = let x = in_range.1 k lt in unfold longer in record { duration = omega (arith, x.duration); floor = x.floor }
        go false = let x = in_range.1 k lt in record { duration = omega (arith, x.duration); floor = x.floor }

    timing_fits : (k : ℕ) → k < 18 → clipped (n (card_of card) (raised_in card ps k)) ≡ n (card_of card) (raised_in card ps k)
    unfolding n card_of
    timing_fits k lt =
        let x = raised_small k lt in
        omega (arith, in_range.0, x.duration, x.floor, rounded_le (raised_in card ps k).duration card.period.0)

    row_fits : clipped (row_cycle (hot_card (card_of (raised_by ps card)))) ≡ row_cycle (hot_card (card_of (raised_by ps card)))
    unfolding row_cycle hot_card longer card_of raised_by timing_in
    row_fits =
        let (p, each) = in_range in
        let a = each 3 (lit< tt) in
        let b = each 1 (lit< tt) in
        omega (
          arith,
          p,
          a.duration,
          a.floor,
          b.duration,
          b.floor,
          rounded_le ((timing_in card 3).duration + ps + ((timing_in card 1).duration + ps)) card.period.0,
        )

    hot_fits : shortened (delays_of (hot_card (card_of (raised_by ps card)))) ≡ delays_of (hot_card (card_of (raised_by ps card)))
    unfolding shortened delays_of n hot_card raised_by raised_in card_of timing_in
    hot_fits = λ i. record {
      trcd = timing_fits 0 (lit< tt) i;
      trppb = timing_fits 1 (lit< tt) i;
      trpab = timing_fits 2 (lit< tt) i;
      tras = timing_fits 3 (lit< tt) i;
      trc = row_fits i;
      trrd = timing_fits 4 (lit< tt) i;
      tfaw = timing_fits 5 (lit< tt) i;
      trtp = timing_fits 6 (lit< tt) i;
      twr = timing_fits 7 (lit< tt) i;
      twtr = timing_fits 8 (lit< tt) i;
      tdqsck = timing_fits 9 (lit< tt) i;
      trfcab = timing_fits 10 (lit< tt) i;
      trfcpb = timing_fits 11 (lit< tt) i;
      tmrr = timing_fits 12 (lit< tt) i;
      tmrw = timing_fits 13 (lit< tt) i;
      tcke = timing_fits 14 (lit< tt) i;
      txp = timing_fits 15 (lit< tt) i;
      tckesr = timing_fits 16 (lit< tt) i;
      txsr = timing_fits 17 (lit< tt) i;
      gap = gap_fits i;
    }

  raise_low : (v : ℕ) → raise_at card v ≤ 1_000_000
  unfolding raise_at
  raise_low v = go (is_hot v)
    where
      go : (b : Bool) → cond b card.raise 0 ≤ 1_000_000
      go true = unfold raise_good in unfold card_of in leb-true card.raise 1_000_000 (good_parts (card_of card) good).raise
      go false = omega arith

  pub fits : (v : ℕ) → shortened (delays_at (card_of card) v) ≡ delays_at (card_of card) v
  fits v = rw (delays_by card v) at (hot_fits (raise_at card v) (raise_low v))
