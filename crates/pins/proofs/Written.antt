-- The pins that the writer puts, and its three outcomes, each from what its tests told.
use Prim.Native.Nat.{ℕ, ◌+◌, ◌≤◌, ◌<◌}
use mathlib.Core.Path.{◌≡◌, refl}
use mathlib.Core.Bool.{Bool, true, false, cond, ◌&&◌}
use mathlib.Core.List.{List, [], ◌∷◌, ◌++◌}
use mathlib.Core.Option.{Option, none, some}
use borrow.Author.Tests.{le-leb, lt-leb}
use lib.Dec.{leb}
use lib.ListN.{length, drop}
use Rattle.std.specs.Prelude.{Result, Ok, Err}
use Rattle.rules.specs.Commands.{Command, NOP, is}
use Rattle.rules.specs.Folds.{or_else, first_of}
use Rattle.rules.specs.Checks.{unless}
use Rattle.rules.specs.Pins.{writable, encode, encode_pair}
use Rattle.rules.specs.Writer.{big_endian, field_bytes, entry_bytes, told_good, write_refusal, encode_for, buffer_with, written}
use Rattle.pins.specs.declared.Unwritten.{Unwritten}
use Rattle.pins.specs.declared.Unwritten.TheVariants.{Unfit, NoRoom}
use Rattle.pins.specs.Places.{other_select}
use Rattle.pins.specs.Values.{refusal_of}

module _ (paired : Bool) (told : Option ℕ) (c : Command) where
  pub for_one : paired ≡ false → encode c ≡ encode_for paired told c
  unfolding encode_for
  for_one e = rw e

  pub for_part : paired ≡ true → cond (is NOP c) 0x70_0000 (encode c + other_select told) ≡ encode_for paired told c
  unfolding encode_for encode_pair
  for_part e = rw e (go told)
    where
      go : (t : Option ℕ) → cond (is NOP c) 0x70_0000 (encode c + other_select t) ≡ encode_for true t c
      go none = refl
      go (some p) = refl

  -- what the writer takes
  abbrev pub takes : Bool
  takes = told_good paired told c && writable c

  -- 14 for the part and 14 for the command are one
  one_14 : (a b d : Bool) → first_of (unless a 14 ∷ unless b 14 ∷ unless d 15 ∷ []) ≡ first_of (unless (a && b) 14 ∷ unless d 15 ∷ [])
  unfolding unless first_of or_else
  one_14 true b d = refl
  one_14 false b d = refl

  pub refusal_is : (room : ℕ) → write_refusal paired told c room ≡ first_of (unless takes 14 ∷ unless (leb 10 room) 15 ∷ [])
  unfolding write_refusal
  refusal_is room = one_14 (told_good paired told c) (writable c) (leb 10 room)

  module _ (stamp : ℕ) (buffer : List ℕ) where
    -- the writer's promise
    abbrev pub Writes : Result (Unit {0}) Unwritten → List ℕ → Type 0
    Writes r after = (refusal_of r ≡ write_refusal paired told c (length buffer)) × (after ≡ written paired told stamp c buffer)

    pub unfit : takes ≡ false → Writes (Err Unfit) buffer
    unfolding refusal_of written buffer_with unless first_of or_else
    unfit w = rw (refusal_is (length buffer), w) (refl, refl)

    pub no_room : takes ≡ true → length buffer < 10 → Writes (Err NoRoom) buffer
    unfolding refusal_of written buffer_with unless first_of or_else
    no_room w h = rw (refusal_is (length buffer), w, lt-leb 10 (length buffer) h) (refl, refl)

    pub done : (after : List ℕ) → takes ≡ true → 10 ≤ length buffer → after ≡ entry_bytes stamp (encode_for paired told c) ++ drop 10 buffer → Writes (Ok tt) after
    unfolding refusal_of written buffer_with unless first_of or_else entry_bytes field_bytes big_endian
    done after w h e = rw (refusal_is (length buffer), w, le-leb 10 (length buffer) h) (refl, e)
