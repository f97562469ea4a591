-- Calls of the functions that the round trips speak of, by what their promises permit, and what is read where the writer put.
use Prim.Native.Nat.{ℕ, ◌+◌, ◌^◌, ◌≤◌, ◌<◌}
use mathlib.Core.Path.{◌≡◌, refl, ◌∙◌}
use mathlib.Core.Bool.{Bool, true, false, cond}
use mathlib.Core.List.{List, [], ◌∷◌, ◌++◌}
use mathlib.Core.Option.{Option, none, some}
use native.Mathlib.Omega.{arith}
use lib.Dec.{leb, eqb}
use Rattle.std.specs.Prelude as rust
use Rattle.std.specs.Prelude.{Result, Ok, Some}
use lib.ListN.{length, drop}
use borrow.Author.Tests.{le-leb, leb-true}
use contract.Lifetimes.{Lfts}
use denote.Triple.Clauses.{Lasts, at_exit}
use denote.Triple.Entry.{Args}
use Rattle.rules.specs.Commands.{Command, NOP, is}
use Rattle.rules.specs.Folds.{or_else, first_of}
use Rattle.rules.specs.Checks.{unless}
use Rattle.rules.specs.Pins.{encode, encode_pair}
use Rattle.rules.specs.Writer.{big_endian, field_bytes, entry_bytes, encode_for, buffer_with, written}
use Rattle.rules.proofs.Tests.{some_none}
use Rattle.pins.specs.declared.Command as own
use Rattle.pins.specs.declared.Undecoded.{Undecoded}
use Rattle.pins.specs.declared.Front.{Front}
use Rattle.pins.specs.declared.Level.{Level}
use Rattle.pins.specs.declared.Read.{Read}
use Rattle.pins.specs.declared.Whose.{Whose}
use Rattle.pins.specs.declared.Unwritten.{Unwritten}
use Rattle.pins.specs.Fronts.{front_as}
use Rattle.pins.specs.Values.{command_of, told_of, refusal_of}
use Rattle.pins.proofs.Fronts.{put_read}
use Rattle.pins.proofs.Places.{encode_small}
use Rattle.pins.proofs.Values.{one_wrote}
use Rattle.pins.proofs.Written.{takes, refusal_is}
use Rattle.pins.proofs.Promises.{decode_claims, read_pins_claims, whose_pins_claims, entry_at_claims, write_entry_claims}
use Rattle.pins.specs.contracts.fields.entry_at as entry_at
use Rattle.pins.specs.contracts.levels.read_pins as read_pins
use Rattle.pins.specs.contracts.reader.decode as decode
use Rattle.pins.specs.contracts.selects.whose_pins as whose_pins
use Rattle.pins.specs.contracts.writer.write_entry as write_entry

-- `decode` may answer d of pins p
abbrev pub Decodes : (p : ℕ) (d : Result own.Command Undecoded) → Type 0
Decodes p d = (decode_claims tt (p, tt) d (at_exit decode.ended tt (p, tt) (tt, tt))).claim

-- `read_pins` may answer r of pins p at level l
abbrev pub ReadsPins : (sleeps paired : Bool) (l : Level) (p : ℕ) (r : Read) → Type 0
ReadsPins s d l p r = (read_pins_claims tt (s, (d, (l, (p, tt)))) r (at_exit read_pins.ended tt (s, (d, (l, (p, tt)))) (tt, (tt, (tt, (tt, tt)))))).claim

-- `whose_pins` may answer o of pins p
abbrev pub IsOf : (paired : Bool) (p : ℕ) (o : Whose) → Type 0
IsOf d p o = (whose_pins_claims tt (d, (p, tt)) o (at_exit whose_pins.ended tt (d, (p, tt)) (tt, (tt, tt)))).claim

-- a call of `write_entry`: its arguments, its answer, and what it leaves
pub record Writing : Type 0 where
  pub κs : Lfts 1
  pub args : Args write_entry.signature κs
  pub answer : Result (Unit {0}) Unwritten
  pub lasts : Lasts write_entry.ended κs args

module _ (x : Writing) where
  abbrev pub paired : Bool
  paired = x.args.0

  abbrev pub told : rust.Option ℕ
  told = x.args.1.0

  abbrev pub stamp : ℕ
  stamp = x.args.1.1.0

  abbrev pub command : own.Command
  command = x.args.1.1.1.0

  abbrev pub buffer : List ℕ
  buffer = x.args.1.1.1.1.0.now

  abbrev pub after : List ℕ
  after = x.lasts.1.1.1.1.0

  abbrev pub Writes : Type 0
  Writes = (write_entry_claims x.κs x.args x.answer (at_exit write_entry.ended x.κs x.args x.lasts)).claim

  abbrev pub taken : Command
  taken = command_of command

  -- whether the writer takes it, and the pins that it puts
  abbrev pub fits : Bool
  fits = takes paired (told_of told) taken

  abbrev pub pins : ℕ
  pins = encode_for paired (told_of told) taken

-- a call of `entry_at`, and its answer
pub record Reading : Type 0 where
  pub κs : Lfts 1
  pub args : Args entry_at.signature κs
  pub front : rust.Option Front

abbrev pub Reads : Reading → Type 0
Reads y = (entry_at_claims y.κs y.args y.front (at_exit entry_at.ended y.κs y.args (tt, (tt, tt)))).claim

-- at the start of what a call of the writer left
abbrev pub Of : Writing → Reading → Type 0
Of x y = (y.args.0.now ≡ after x) × (y.args.1.0 ≡ 0)

-- three bytes hold the pins
pins_small : (d : Bool) (t : Option ℕ) (c : own.Command) → encode_for d t (command_of c) < 256 ^ 3
unfolding encode_for encode_pair
pins_small d t c = by_told d t
  where
    small : encode (command_of c) < 0x80_0000
    small = encode_small c

    raised : (n z : Bool) → cond n 0x70_0000 (encode (command_of c) + cond z 0x40_0000 0x10_0000) < 256 ^ 3
    raised true z = omega arith
    raised false true = omega (arith, small)
    raised false false = omega (arith, small)

    by_told : (d : Bool) (t : Option ℕ) → encode_for d t (command_of c) < 256 ^ 3
    by_told false t = omega (arith, small)
    by_told true none = raised (is NOP (command_of c)) true
    by_told true (some p) = raised (is NOP (command_of c)) (eqb p 0)

no_refusal : (a b : Bool) → none ≡ first_of (unless a 14 ∷ unless b 15 ∷ []) → (a ≡ true) × (b ≡ true)
unfolding unless first_of or_else
no_refusal true true e = (refl, refl)
no_refusal true false e = absurd (some_none e)
no_refusal false b e = absurd (some_none e)

module _ (x : Writing) (w : Writes x) where
  pub puts : fits x ≡ true → 10 ≤ length (buffer x) → (x.answer ≡ Ok tt) × (after x ≡ entry_bytes (stamp x) (pins x) ++ drop 10 (buffer x))
  unfolding refusal_of written buffer_with unless first_of or_else entry_bytes field_bytes big_endian
  puts f room =
      let l = le-leb 10 (length (buffer x)) room in
      let none_is = refusal_is (paired x) (told_of (told x)) (taken x) (length (buffer x)) in
      (one_wrote x.answer (Ok tt) w.0 (rw (none_is, f, l)), w.1 ∙ rw (none_is, f, l))

  pub fitted : x.answer ≡ Ok tt → (fits x ≡ true) × (10 ≤ length (buffer x))
  unfolding refusal_of
  fitted d =
      let f = no_refusal (fits x) (leb 10 (length (buffer x))) (rw d at w.0 ∙ refusal_is (paired x) (told_of (told x)) (taken x) (length (buffer x))) in
      (f.0, leb-true 10 (length (buffer x)) f.1)

  pub reads : (y : Reading) → Reads y → Of x y → stamp x < 256 ^ 4 → fits x ≡ true → 10 ≤ length (buffer x) → y.front ≡ Some (front_as (stamp x) (pins x))
  reads y r there small f room =
      r ∙ rw (there.1, there.0, (puts f room).1)
      (put_read (stamp x) (pins x) (drop 10 (buffer x)) small (pins_small (paired x) (told_of (told x)) (command x)))
