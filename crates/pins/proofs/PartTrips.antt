-- The round trips for a part of two, said of every answer that the promises of `write_entry`, `entry_at`, `read_pins` and `whose_pins` permit; and NOP.
use Prim.Native.Nat.{ℕ, ◌/◌, ◌^◌, ◌≤◌, ◌<◌}
use mathlib.Core.Path.{◌≡◌, refl, sym, ◌∙◌}
use mathlib.Core.Bool.{Bool, true, false, cond}
use mathlib.Core.List.{◌++◌}
use mathlib.Core.Option.{Option, none, some}
use native.Mathlib.Omega.{arith}
use lib.Dec.{leb}
use lib.ListN.{length, drop}
use Rattle.std.specs.Prelude.{Ok, Some, IsSomeAnd}
use borrow.Author.Tests.{le-leb, leb-true}
use Rattle.rules.specs.Bits.{on}
use Rattle.rules.specs.Commands.{nop, NOP, bare, carries, code, is, kind_of}
use Rattle.rules.specs.Pins.{writable, byte_sized, encode_pair, ignored}
use Rattle.rules.specs.Levels.{read_as}
use Rattle.rules.specs.Whose.{part}
use Rattle.rules.specs.Writer.{entry_bytes, told_good, encode_for}
use Rattle.rules.proofs.Tests.{both_true}
use Rattle.rules.proofs.ReadWrite.{nop_written}
use Rattle.rules.proofs.PairPins.{pair_write_read, pair_read_fits, pair_read_write, pair_written_zero, both_high, pair_nop}
use Rattle.pins.specs.declared.Command.TheVariants.{Nop}
use Rattle.pins.specs.declared.Level.{Level}
use Rattle.pins.specs.declared.Read.{Read}
use Rattle.pins.specs.declared.Read.TheVariants.{Plain}
use Rattle.pins.specs.declared.Whose.{Whose}
use Rattle.pins.specs.declared.Whose.TheVariants.{Sole, First, Second, Neither, Both}
use Rattle.pins.specs.Values.{command_of, decoded_of, read_of, whose_of, told_of}
use Rattle.pins.proofs.Values.{one_read, one_whose}
use Rattle.pins.proofs.Calls.{ReadsPins, IsOf, Writing, paired, told, stamp, command, buffer, after, Writes, taken, fits, pins, Reading, Reads, Of, puts, fitted, reads}

-- a part is 0 or 1
owned : (o : Whose) (q : ℕ) → whose_of o ≡ part q → q ≤ 1
unfolding whose_of
owned Sole q e = absurd cc
owned First q e = let z : 0 ≡ q = cc in omega arith
owned Second q e = let z : 1 ≡ q = cc in omega arith
owned Neither q e = absurd cc
owned Both q e = absurd cc

module _ (x : Writing) (w : Writes x) (two : paired x ≡ true) where
  module _ (q : ℕ) (to : told x ≡ Some q) (n : is NOP (taken x) ≡ false) (small : stamp x < 256 ^ 4) (y : Reading) (r : Reads y) (there : Of x y) where
    for_told : pins x ≡ encode_pair q (taken x)
    unfolding encode_for told_of
    for_told = rw (two, to)

    good_part : told_good (paired x) (told_of (told x)) (taken x) ≡ leb q 1
    unfolding told_good told_of
    good_part = rw (two, to)

    -- what the writer takes for a part is read as it was, and as that part's; MA and OP have one byte
    pub written_read : byte_sized (taken x) ≡ true → x.answer ≡ Ok tt
        → IsSomeAnd y.front (λ f. (f.stamp ≡ stamp x)
        × ((l : Level) (a : Read) → ReadsPins false true l f.pins a → a ≡ Plain (Ok (command x)))
        × ((o : Whose) → IsOf true f.pins o → whose_of o ≡ part q))
    unfolding decoded_of read_of read_as
    written_read s done =
        let f = fitted x w done in
        let b = both_true (told_good (paired x) (told_of (told x)) (taken x)) (writable (taken x)) f.0 in
        let back = pair_write_read q (leb-true q 1 (sym good_part ∙ b.0)) (taken x) b.1 s n in
        rw (reads x w y r there small f.0 f.1) (
          refl,
          λ l a e. one_read a (Plain (Ok (command x))) (e.is ∙ rw for_told back.0) refl,
          λ o of. of ∙ rw for_told back.1,
        )

    -- what is read as a part's the writer takes for it, where there is room, and puts it with the ignored bits zero and all others as they were
    pub read_written : (l : Level) (p : ℕ) → ReadsPins false true l p (Plain (Ok (command x))) → (o : Whose) → IsOf true p o → whose_of o ≡ part q
        → 10 ≤ length (buffer x)
        → (x.answer ≡ Ok tt)
        × IsSomeAnd y.front (λ f. ((i : ℕ) → on (ignored (kind_of (taken x))) i ≡ false → on f.pins i ≡ on p i)
        × ((i : ℕ) → on (ignored (kind_of (taken x))) i ≡ true → on f.pins i ≡ false))
    unfolding decoded_of read_of read_as
    read_written l p e o of own room =
        let q_small = owned o q own in
        let whose_is = sym of ∙ own in
        let f = pair_read_fits p q (taken x) (sym e.is) whose_is in
        let t : fits x ≡ true = rw (good_part, le-leb q 1 q_small, f.0) in (
          (puts x w t room).0,
          rw (reads x w y r there small t room) (
            λ i off. rw for_told (sym (pair_read_write p q (taken x) (sym e.is) whose_is n i off)),
            λ i off. rw for_told (pair_written_zero q q_small (taken x) f.0 f.1 n i off),
          ),
        )

-- ---- NOP
-- is put as 30 00 00 in a trace of one part, and as 70 00 00 in one of two, for none or for any part
pub nop_put : (x : Writing) → Writes x → command x ≡ Nop → told_good (paired x) (told_of (told x)) nop ≡ true → 10 ≤ length (buffer x)
    → (x.answer ≡ Ok tt) × (after x ≡ entry_bytes (stamp x) (cond (paired x) 0x70_0000 0x30_0000) ++ drop 10 (buffer x))
unfolding command_of writable carries bare is code kind_of
nop_put x w e t room =
    let f : fits x ≡ true = rw (e, t) in
    let p = puts x w f room in
    (p.0, p.1 ∙ rw (e, as_nop (paired x) (told_of (told x))))
  where
    as_nop : (d : Bool) (t : Option ℕ) → encode_for d t nop ≡ cond d 0x70_0000 0x30_0000
    as_nop false t = unfold encode_for in nop_written
    as_nop true none = unfold encode_for in (pair_nop 0).0
    as_nop true (some p) = unfold encode_for in (pair_nop p).0

-- and pins with both CS_n high, as 70 00 00 has them, are read as a NOP and as neither part's, whatever the CA bits
pub nop_read : (p : ℕ) → on p 21 ≡ true → p / 2 ^ 23 ≡ 0 → on p 20 ≡ true → on p 22 ≡ true
    → (l : Level) (a : Read) → ReadsPins false true l p a → (o : Whose) → IsOf true p o → (a ≡ Plain (Ok Nop)) × (o ≡ Neither)
unfolding command_of decoded_of read_of whose_of read_as
nop_read p cke top first second l a e o of =
    let n = both_high p cke top first second in
    (one_read a (Plain (Ok Nop)) (e.is ∙ n.0) refl, one_whose o Neither (of ∙ n.1) refl)
