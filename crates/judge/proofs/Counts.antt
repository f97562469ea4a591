-- The counted refreshes of all parts: an entry is counted once, by the part that judges it.
use Prim.Native.Nat.{ℕ, suc, ◌+◌, ◌/◌, ◌^◌, ◌≤◌}
use mathlib.Core.Path.{◌≡◌, refl, sym}
use mathlib.Core.Bool.{Bool, true, false, cond, ◌&&◌}
use mathlib.Core.List.{[], ◌∷◌, map}
use native.Mathlib.Omega.{arith}
use lib.Dec.{eqb}
use lib.ListN.{length}
use Rattle.rules.specs.Bits.{on}
use Rattle.rules.specs.Card.{Card}
use Rattle.rules.specs.Ranges.{card_good}
use Rattle.rules.specs.Commands.{code, kind_of, carries, bare, is}
use Rattle.rules.specs.Pins.{wrong_bits}
use Rattle.rules.specs.Whose.{is_of, by_selects, whose, parts}
use Rattle.rules.specs.Levels.{Level, plain, selected, read_pair, read_as}
use Rattle.rules.specs.Past.{Past, of_part, level_at, counter_at, is_counted, stamps_where, counted_stamps}
use Rattle.rules.specs.Entries.{Body, pins, mr4, Entry, read_body, read, read_after, whose_body, whose_of, command_of, recorded_as, taken, own_for, read_for, past_with}
use Rattle.rules.specs.Verdict.{sum, refresh_count}
use Rattle.rules.proofs.CardGood.{pair_awake}
use Rattle.rules.proofs.Filtered.{mr4_nop, own_read, own_counted, of_next}
use Rattle.rules.specs.Lent.{AllTaken}

pub none_counted : (card : Card) → refresh_count card [] ≡ 0
unfolding refresh_count parts
none_counted card = go card.paired
  where
    go : (x : Bool) → sum (map (λ p. length (counted_stamps (of_part p []))) (cond x (0 ∷ 1 ∷ []) (0 ∷ []))) ≡ 0
    go true = unfold sum of_part counted_stamps stamps_where in refl
    go false = unfold sum of_part counted_stamps stamps_where in refl

-- 1 if it is counted; and the same if it is part p's own, else 0
abbrev one : Bool → ℕ
one c = cond c 1 0

abbrev among : (own counted : Bool) → ℕ
among o c = cond o (one c) 0

-- of two parts one has it, or it is taken for a NOP
pins_one : (s d : Bool) (p : ℕ) (l : Level) (n : ℕ) → s ≡ false → d ≡ true →
    among (is_of 0 (whose d p)) (is_counted (recorded_as (read_as s d l p)) n) + among (is_of 1 (whose d p)) (is_counted (recorded_as (read_as s d l p)) n)
    ≡ one (is_counted (recorded_as (read_as s d l p)) n)
unfolding whose read_as read_pair
pins_one s d p l n hs hd = rw (hs, hd) (go (on p 21 && eqb (p / 2 ^ 23) 0) (on p 20) (on p 22))
  where
    counted : Bool → Bool → Bool → Bool
    counted x y z = is_counted (recorded_as (cond x (selected y z p) (plain wrong_bits))) n

    go : (x y z : Bool) → among (is_of 0 (by_selects y z)) (counted x y z) + among (is_of 1 (by_selects y z)) (counted x y z) ≡ one (counted x y z)
    go x false true = unfold by_selects is_of in omega arith
    go x true false = unfold by_selects is_of in omega arith
    go false true true = unfold by_selects is_of recorded_as command_of is_counted is code kind_of carries bare in refl
    go false false false = unfold by_selects is_of recorded_as command_of is_counted is code kind_of carries bare in refl
    go true true true = unfold by_selects is_of selected recorded_as command_of is_counted is code kind_of carries bare in refl
    go true false false = unfold by_selects is_of selected recorded_as command_of is_counted is code kind_of carries bare in refl

-- a temperature, which both have, is taken for one
pair_one : (card : Card) (x : Body) (l : Level) (n : ℕ) → card.sleeps ≡ false → card.paired ≡ true →
    let w = whose_body card.paired x in
    let c = is_counted (recorded_as (read_body card l x)) n in
    among (is_of 0 w) c + among (is_of 1 w) c ≡ one c
unfolding whose_body read_body
pair_one card (pins p) l n hs hd = pins_one card.sleeps card.paired p l n hs hd
pair_one card (mr4 v) l n hs hd = rw (mr4_nop card.sleeps card.paired l v, hd) (unfold is_of is_counted is code kind_of carries bare in refl)

module _ (card : Card) (past : Past) (e : Entry) where
  abbrev own : Past
  own = own_for card past e

  abbrev pub counted_now : Bool
  counted_now = is_counted (recorded_as (read_after card own e)) (counter_at own)

  part_next : (p : ℕ) →
      length (counted_stamps (of_part p (past_with card past e))) ≡ among (is_of p (whose_of card e)) counted_now + length (counted_stamps (of_part p past))
  part_next p = rw (of_next card p past e) (go (is_of p (whose_of card e)) refl)
    where
      here : (q : Past) (c : Bool) → length (cond c (e.stamp ∷ counted_stamps q) (counted_stamps q)) ≡ one c + length (counted_stamps q)
      here q true = omega arith
      here q false = omega arith

      same : is_of p (whose_of card e) ≡ true → is_counted (recorded_as (read_after card (of_part p past) e)) (counter_at (of_part p past)) ≡ counted_now
      same o =
          let read : read_after card own e ≡ read_after card (of_part p past) e = unfold read_for in own_read card past p e o in
          rw (← read) (sym (unfold read_after in own_counted card past p e o (level_at own)))

      go : (x : Bool) → is_of p (whose_of card e) ≡ x →
          length (counted_stamps (cond x (taken card (of_part p past) e ∷ of_part p past) (of_part p past))) ≡ among x counted_now + length (counted_stamps (of_part p past))
      go true o = unfold counted_stamps stamps_where taken in rw (same o) (here (of_part p past) counted_now)
      go false o = omega arith

  pub counted_next : card_good card ≡ true → refresh_count card (past_with card past e) ≡ refresh_count card past + cond counted_now 1 0
  unfolding refresh_count parts
  counted_next good = go card.paired refl
    where
      pair : card.paired ≡ true → among (is_of 0 (whose_of card e)) counted_now + among (is_of 1 (whose_of card e)) counted_now ≡ one counted_now
      pair u = unfold whose_of read_after read in pair_one card e.body (level_at own) (counter_at own) (pair_awake card good u) u

      alone : card.paired ≡ false → is_of 0 (whose_of card e) ≡ true
      alone u = unfold whose_of in by_body e.body
        where
          by_body : (x : Body) → is_of 0 (whose_body card.paired x) ≡ true
          by_body (pins p) = rw u (unfold whose_body whose is_of in refl)
          by_body (mr4 v) = rw u (unfold whose_body is_of in refl)

      go : (y : Bool) → card.paired ≡ y →
          sum (map (λ p. length (counted_stamps (of_part p (past_with card past e)))) (cond y (0 ∷ 1 ∷ []) (0 ∷ [])))
          ≡ sum (map (λ p. length (counted_stamps (of_part p past))) (cond y (0 ∷ 1 ∷ []) (0 ∷ []))) + one counted_now
      go true u = unfold sum in rw (part_next 0, part_next 1) (omega (arith, pair u))
      go false u = unfold sum in rw (part_next 0, alone u) (omega arith)

-- an entry adds at most one
pub refreshes_few : (card : Card) → card_good card ≡ true → (past : Past) → AllTaken card past → refresh_count card past ≤ length past
unfolding AllTaken
refreshes_few card good [] a = omega (arith, none_counted card)
refreshes_few card good (x ∷ t) a =
    let (e, is, passed) = a.0 in
    rw is (go (counted_now card t e) (unfold past_with in counted_next card t e good) (refreshes_few card good t a.1))
  where
    go : {n : ℕ} (c : Bool) → n ≡ refresh_count card t + one c → refresh_count card t ≤ length t → n ≤ suc (length t)
    go true q h = omega arith
    go false q h = omega arith
