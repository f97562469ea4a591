-- The parts of a card in range, by their names.
use mathlib.Core.Path.{◌≡◌, refl, sym}
use mathlib.Core.Bool.{Bool, true, false, not, ◌&&◌}
use mathlib.Core.List.{◌++◌}
use lib.Dec.{leb}
use Rattle.rules.specs.Lists.{all}
use Rattle.rules.specs.Card.{Card}
use Rattle.rules.specs.Registers.{mr2_good}
use Rattle.rules.specs.Ranges.{period_good, groups_good, trefi_good, timing_good, mr1_start, raise_good, timings, sleep_timings, card_good}
use Rattle.rules.proofs.Tests.{both_true}

pub record GoodCard (card : Card) : Type 0 where
  pub period : period_good card.period ≡ true
  pub mr2 : mr2_good card.period card.mr2 ≡ true
  pub groups : groups_good card.groups ≡ true
  pub trefi : trefi_good card.period card.trefi ≡ true
  pub timed : all timing_good (timings card ++ sleep_timings card) ≡ true
  pub gap : leb card.gap 255 ≡ true
  pub apart : not (card.sleeps && card.paired) ≡ true
  pub raise : raise_good card.raise ≡ true
  pub mr1 : mr1_start card.mr1 ≡ true

pub good_parts : (card : Card) → card_good card ≡ true → GoodCard card
unfolding card_good
good_parts card e =
    let a = both_true _ _ e in
    let b = both_true _ _ a.0 in
    let c = both_true _ _ b.0 in
    let d = both_true _ _ c.0 in
    let t = both_true _ _ a.1 in
    let s = both_true _ _ t.1 in
    let r = both_true _ _ s.0 in
    let g = both_true _ _ r.0 in
    record { period = d.0; mr2 = d.1; groups = c.1; trefi = b.1; timed = t.0; gap = g.0; apart = g.1; raise = r.1; mr1 = s.1 }

pub parts_good : (card : Card) → GoodCard card → card_good card ≡ true
unfolding card_good
parts_good card g = rw (g.period, g.mr2, g.groups, g.trefi, g.timed, g.gap, g.apart, g.raise) g.mr1

-- a card of two parts does not sleep
pub pair_awake : (card : Card) → card_good card ≡ true → card.paired ≡ true → card.sleeps ≡ false
pair_awake card good u = go card.sleeps (rw u at (good_parts card good).apart)
  where
    go : (x : Bool) → not (x && true) ≡ true → x ≡ false
    go true h = sym h
    go false h = refl
