-- The entries other than NOP are those of the parts together: one with both CS_n high, or both low, is taken for a NOP.
use Prim.Native.Nat.{ℕ, suc, ◌+◌, ◌/◌, ◌^◌}
use mathlib.Core.Path.{◌≡◌, refl}
use mathlib.Core.Bool.{Bool, true, false, cond, ◌&&◌}
use mathlib.Core.List.{List, [], ◌∷◌, map}
use native.Mathlib.Omega.{arith}
use lib.Dec.{eqb}
use Rattle.rules.specs.Bits.{on}
use Rattle.rules.specs.Card.{Card}
use Rattle.rules.specs.Commands.{NOP, Command, code, kind_of, carries, bare, is}
use Rattle.rules.specs.Pins.{wrong_bits}
use Rattle.rules.specs.Whose.{Whose, is_of, by_selects, whose, parts}
use Rattle.rules.specs.Levels.{Level, plain, selected, read_pair, read_as}
use Rattle.rules.specs.Past.{Taken, Past, of_part, level_at, command_count}
use Rattle.rules.specs.Entries.{Body, pins, mr4, Entry, read_body, read, read_after, whose_body, whose_of, command_of, recorded_as, taken, own_for, taken_for, past_with, past_over, past_of}
use Rattle.rules.specs.Verdict.{sum}
use Rattle.rules.proofs.Filtered.{mr4_nop}

-- 1 unless it is a NOP; and the same if it is part p's, else 0
abbrev one : Command → ℕ
one c = cond (is NOP c) 0 1

abbrev among : ℕ → Whose → Command → ℕ
among p w c = cond (is_of p w) (one c) 0

count_cons : (x : Taken) (t : Past) → command_count (x ∷ t) ≡ one x.cmd + command_count t
unfolding command_count
count_cons x t = go (is NOP x.cmd)
  where
    go : (y : Bool) → cond y (command_count t) (suc (command_count t)) ≡ cond y 0 1 + command_count t
    go true = omega arith
    go false = omega arith

count_part : (p : ℕ) (x : Taken) (t : Past) → command_count (of_part p (x ∷ t)) ≡ among p x.whose x.cmd + command_count (of_part p t)
unfolding of_part
count_part p x t = go (is_of p x.whose)
  where
    go : (y : Bool) → command_count (cond y (x ∷ of_part p t) (of_part p t)) ≡ cond y (one x.cmd) 0 + command_count (of_part p t)
    go true = count_cons x (of_part p t)
    go false = omega arith

-- of two parts one has it, or it is taken for a NOP
pair_one : (s d : Bool) (p : ℕ) (l : Level) → s ≡ false → d ≡ true →
    among 0 (whose d p) (recorded_as (read_as s d l p)) + among 1 (whose d p) (recorded_as (read_as s d l p)) ≡ one (recorded_as (read_as s d l p))
unfolding whose read_as read_pair
pair_one s d p l hs hd = rw (hs, hd) (go (on p 21 && eqb (p / 2 ^ 23) 0) (on p 20) (on p 22))
  where
    seen : Bool → Bool → Bool → Command
    seen x y z = recorded_as (cond x (selected y z p) (plain wrong_bits))

    go : (x y z : Bool) → among 0 (by_selects y z) (seen x y z) + among 1 (by_selects y z) (seen x y z) ≡ one (seen x y z)
    go x false true = unfold by_selects is_of in omega arith
    go x true false = unfold by_selects is_of in omega arith
    go false true true = unfold by_selects is_of recorded_as command_of is code kind_of carries bare in refl
    go false false false = unfold by_selects is_of recorded_as command_of is code kind_of carries bare in refl
    go true true true = unfold by_selects is_of selected recorded_as command_of is code kind_of carries bare in refl
    go true false false = unfold by_selects is_of selected recorded_as command_of is code kind_of carries bare in refl

module _ (card : Card) (apart : card.paired ≡ true → card.sleeps ≡ false) where
  body_one : (b : Body) (l : Level) → card.paired ≡ true →
      among 0 (whose_body card.paired b) (recorded_as (read_body card l b)) + among 1 (whose_body card.paired b) (recorded_as (read_body card l b)) ≡ one (recorded_as (read_body card l b))
  unfolding whose_body read_body
  body_one (pins p) l u = pair_one card.sleeps card.paired p l (apart u) u
  body_one (mr4 v) l u = rw (mr4_nop card.sleeps card.paired l v, u) (unfold is_of is code kind_of carries bare in refl)

  abbrev Sum : Past → ℕ
  Sum t = sum (map (λ p. command_count (of_part p t)) (parts card))

  next_sum : (past : Past) (e : Entry) → Sum past ≡ command_count past → Sum (past_with card past e) ≡ command_count (past_with card past e)
  unfolding parts sum past_with
  next_sum past e h = rw (count_cons x past) (go card.paired refl h)
    where
      x : Taken
      x = taken_for card past e

      pair : card.paired ≡ true → among 0 x.whose x.cmd + among 1 x.whose x.cmd ≡ one x.cmd
      pair u = unfold taken_for taken whose_of read_after read in body_one e.body (level_at (own_for card past e)) u

      go : (y : Bool) → card.paired ≡ y →
          sum (map (λ p. command_count (of_part p past)) (cond y (0 ∷ 1 ∷ []) (0 ∷ []))) ≡ command_count past →
          sum (map (λ p. command_count (of_part p (x ∷ past))) (cond y (0 ∷ 1 ∷ []) (0 ∷ []))) ≡ one x.cmd + command_count past
      go false u k = rw (count_part 0 x past) (unfold taken_for taken whose_of in rw (sole_first e.body u) (omega arith))
        where
          sole_first : (b : Body) → card.paired ≡ false → is_of 0 (whose_body card.paired b) ≡ true
          sole_first (pins p) u = unfold whose_body in rw u (unfold whose is_of in refl)
          sole_first (mr4 v) u = unfold whose_body in rw u (unfold is_of in refl)
      go true u k = rw (count_part 0 x past, count_part 1 x past) (omega (arith, pair u, k))

  sums : (past : Past) (es : List Entry) → Sum past ≡ command_count past → Sum (past_over card past es) ≡ command_count (past_over card past es)
  unfolding past_over
  sums past [] h = h
  sums past (e ∷ es) h = sums (past_with card past e) es (next_sum past e h)

  -- the counts of the parts together
  pub commands_sum : (es : List Entry) → sum (map (λ p. command_count (of_part p (past_of card es))) (parts card)) ≡ command_count (past_of card es)
  unfolding past_of
  commands_sum es = sums [] es (unfold parts in start card.paired)
    where
      start : (x : Bool) → sum (map (λ p. command_count (of_part p [])) (cond x (0 ∷ 1 ∷ []) (0 ∷ []))) ≡ command_count []
      start true = unfold sum of_part command_count in refl
      start false = unfold sum of_part command_count in refl
