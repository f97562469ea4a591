-- The round trips in a trace of one part, said of every answer that the promises of `write_entry`, `entry_at`, `decode` and `read_pins` permit.
use Prim.Native.Nat.{ℕ, ◌^◌, ◌≤◌, ◌<◌}
use mathlib.Core.Path.{◌≡◌, refl, sym, ◌∙◌}
use mathlib.Core.Bool.{Bool, true, false}
use lib.ListN.{length}
use Rattle.std.specs.Prelude.{Result, Ok, None, IsSomeAnd}
use Rattle.rules.specs.Bits.{on}
use Rattle.rules.specs.Commands.{NOP, is, kind_of}
use Rattle.rules.specs.Pins.{writable, byte_sized, encode, ignored}
use Rattle.rules.specs.Writer.{told_good}
use Rattle.rules.proofs.Tests.{both_true}
use Rattle.rules.proofs.WriteRead.{write_read}
use Rattle.rules.proofs.ReadWrite.{read_fits, read_write, written_zero}
use Rattle.rules.proofs.Waking.{read_decoded, awake_reads, read_alone_lem}
use Rattle.pins.specs.declared.Command as own
use Rattle.pins.specs.declared.Undecoded.{Undecoded}
use Rattle.pins.specs.declared.Level.{Level}
use Rattle.pins.specs.declared.Level.TheVariants.{Awake}
use Rattle.pins.specs.declared.Read.TheVariants.{Plain}
use Rattle.pins.specs.Values.{command_of, decoded_of, level_of, read_of, told_of}
use Rattle.pins.proofs.Values.{one_decoded, decoded_as, read_as}
use Rattle.pins.proofs.Written.{for_one}
use Rattle.pins.proofs.Calls.{Decodes, ReadsPins, Writing, paired, told, stamp, command, buffer, Writes, taken, fits, pins, Reading, Reads, Of, puts, fitted, reads}

-- ---- low clock-enable
-- what is read as a command is decoded as it, at whatever level, so that what is said below of decoded commands is said of all entries: moves and entries asleep
-- are no commands, and rewriting passes them over
pub read_decodes : (s : Bool) (l : Level) (p : ℕ) (c : own.Command) → ReadsPins s false l p (Plain (Ok c)) → Decodes p (Ok c)
unfolding decoded_of read_of
read_decodes s l p c e = decoded_as p (Ok c) (sym (read_decoded s (level_of l) p (command_of c) (sym (read_alone_lem s (level_of l) p) ∙ sym e.is)))

-- and awake the other way round
pub decodes_read : (s : Bool) (p : ℕ) (c : own.Command) → Decodes p (Ok c) → ReadsPins s false Awake p (Plain (Ok c))
unfolding decoded_of level_of read_of
decodes_read s p c e = read_as _ (Plain (Ok c)) (sym (read_alone_lem s (level_of Awake) p ∙ awake_reads s p (command_of c) (sym e.is)))

-- ---- what is put, and read there
module _ (x : Writing) (w : Writes x) (one : paired x ≡ false) (y : Reading) (r : Reads y) (there : Of x y) where
  -- what the writer takes is read and decoded as it was; a stamp has four bytes, MA and OP have one
  pub written_decoded : stamp x < 256 ^ 4 → byte_sized (taken x) ≡ true → x.answer ≡ Ok tt
      → IsSomeAnd y.front (λ f. (f.stamp ≡ stamp x) × ((d : Result own.Command Undecoded) → Decodes f.pins d → d ≡ Ok (command x)))
  unfolding decoded_of
  written_decoded small s done =
      let f = fitted x w done in
      let wr = (both_true (told_good (paired x) (told_of (told x)) (taken x)) (writable (taken x)) f.0).1 in
      rw (reads x w y r there small f.0 f.1) (
        refl,
        λ d e. one_decoded d (Ok (command x)) (e.is ∙ rw (← for_one (paired x) (told_of (told x)) (taken x) one) (write_read (taken x) wr s)) refl,
      )

  -- what is decoded the writer takes, told no part and where there is room, and puts it with the ignored bits zero and all others as they were
  pub decoded_written : told x ≡ None → (p : ℕ) → Decodes p (Ok (command x)) → is NOP (taken x) ≡ false → stamp x < 256 ^ 4 → 10 ≤ length (buffer x)
      → (x.answer ≡ Ok tt)
      × IsSomeAnd y.front (λ f. ((i : ℕ) → on (ignored (kind_of (taken x))) i ≡ false → on f.pins i ≡ on p i)
      × ((i : ℕ) → on (ignored (kind_of (taken x))) i ≡ true → on f.pins i ≡ false))
  unfolding decoded_of told_of told_good
  decoded_written none p e n small room =
      let f = read_fits p (taken x) (sym e.is) in
      let t : fits x ≡ true = rw (one, none, f.0) in
      let same : pins x ≡ encode (taken x) = sym (for_one (paired x) (told_of (told x)) (taken x) one) in (
        (puts x w t room).0,
        rw (reads x w y r there small t room) (
          λ i off. rw same (sym (read_write p (taken x) (sym e.is) n i off)),
          λ i off. rw same (written_zero (taken x) n i off),
        ),
      )
