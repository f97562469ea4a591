-- What holds of whatever pins are read as, from what holds of each case.
use Prim.Native.Nat.{ℕ, ◌/◌, ◌^◌}
use mathlib.Core.Bool.{Bool, true, false, cond, ◌&&◌}
use lib.Dec.{eqb}
use Rattle.rules.specs.Bits.{bits, on}
use Rattle.rules.specs.Commands.{Kind, NOP, MRW, MRR, REFPB, REFAB, ACT, RD, WR, PRE, PREA, RESERVED}
use Rattle.rules.specs.Pins.{Decoded, kind_at}
use Rattle.rules.specs.Levels.{Level, awake, power_down, self_refresh, deep, Move, Read, plain, moved, asleep, barred, clash, fall_by, fall, rise, read_at, read_pins, selected, read_pair, read_as}

module _ (P : Read → Type 0) where
  pub either : (x : Bool) (r s : Read) → P r → P s → P (cond x r s)
  either true r s a b = a
  either false r s a b = b

  -- a fall and a rise are moves, or barred
  module _ (moves : (m : Move) → P (moved m)) (bars : P barred) where
    fall_by_lem : (k : Kind) → P (fall_by k)
    unfolding fall_by
    fall_by_lem NOP = bars
    fall_by_lem MRW = bars
    fall_by_lem MRR = bars
    fall_by_lem REFPB = moves _
    fall_by_lem REFAB = moves _
    fall_by_lem ACT = bars
    fall_by_lem RD = bars
    fall_by_lem WR = bars
    fall_by_lem PRE = moves _
    fall_by_lem PREA = moves _
    fall_by_lem RESERVED = moves _

    pub fall_is : (p : ℕ) → P (fall p)
    unfolding fall
    fall_is p = either (on p 20) _ _ (moves _) (fall_by_lem (kind_at (bits p 0 10)))

    pub rise_is : (l : Level) (p : ℕ) → P (rise l p)
    unfolding rise
    rise_is l p = either (on p 20) _ _ (moves _) bars

  module _ (plains : (d : Decoded) → P (plain d)) (moves : (m : Move) → P (moved m)) (sleeps : P asleep) (bars : P barred) where
    level_is : (l : Level) (p : ℕ) → P (read_at l p)
    unfolding read_at
    level_is awake p = either (on p 21) _ _ (plains _) (fall_is moves bars p)
    level_is power_down p = either (on p 21) _ _ (rise_is moves bars power_down p) sleeps
    level_is self_refresh p = either (on p 21) _ _ (rise_is moves bars self_refresh p) sleeps
    level_is deep p = bars

    pub pins_are : (s : Bool) (l : Level) (p : ℕ) → P (read_pins s l p)
    unfolding read_pins
    pins_are false l p = plains _
    pins_are true l p = either (eqb (p / 2 ^ 22) 0) _ _ (level_is l p) (plains _)

  module _ (plains : (d : Decoded) → P (plain d)) (clashes : P clash) where
    selected_is : (x y : Bool) (p : ℕ) → P (selected x y p)
    unfolding selected
    selected_is false true p = plains _
    selected_is true false p = plains _
    selected_is true true p = plains _
    selected_is false false p = clashes

    pub pair_is : (p : ℕ) → P (read_pair p)
    unfolding read_pair
    pair_is p = either (on p 21 && eqb (p / 2 ^ 23) 0) _ _ (selected_is (on p 20) (on p 22) p) (plains _)

  pub read_is : ((d : Decoded) → P (plain d)) → ((m : Move) → P (moved m)) → P asleep → P barred → P clash → (s d : Bool) (l : Level) (p : ℕ) → P (read_as s d l p)
  unfolding read_as
  read_is plains moves sleeps bars clashes true d l p = pins_are plains moves sleeps bars true l p
  read_is plains moves sleeps bars clashes false true l p = pair_is plains clashes p
  read_is plains moves sleeps bars clashes false false l p = pins_are plains moves sleeps bars false l p
