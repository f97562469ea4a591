-- What a read is to the rules that is no command, or no move.
use mathlib.Core.Path.{◌≡◌, refl}
use Rattle.std.specs.Prelude.{Result, Ok, Err}
use Rattle.std.specs.Result.{result_unwrap_or}
use Rattle.rules.specs.Entries as entries
use Rattle.pins.specs.Values.{command_of, decoded_of, moved_of, read_of}
use Rattle.pins.specs.declared.Command.{Command}
use Rattle.pins.specs.declared.Command.TheVariants.{Nop}
use Rattle.pins.specs.declared.Undecoded.{Undecoded}
use Rattle.pins.specs.declared.Undecoded.TheVariants.{WrongBits, Reserved}
use Rattle.pins.specs.declared.Move.{Move}
use Rattle.pins.specs.declared.Move.TheVariants.{Stays}
use Rattle.pins.specs.declared.Read.{Read}
use Rattle.pins.specs.declared.Read.TheVariants.{Plain, Moved}

pub or_nop : (d : Result Command Undecoded) → command_of (result_unwrap_or d Nop) ≡ entries.command_of (decoded_of d)
unfolding command_of decoded_of entries.command_of
or_nop (Ok c) = refl
or_nop (Err WrongBits) = refl
or_nop (Err Reserved) = refl

pub no_command : (r : Read) → ((d : Result Command Undecoded) → r ≡ Plain d → ⊥) → command_of Nop ≡ entries.recorded_as (read_of r)
unfolding command_of read_of entries.recorded_as
no_command (Plain d) h = absurd (h d refl)
no_command r h = refl

pub no_move : (r : Read) → ((m : Move) → r ≡ Moved m → ⊥) → moved_of Stays ≡ entries.move_of (read_of r)
unfolding moved_of read_of entries.move_of
no_move (Moved m) h = absurd (h m refl)
no_move r h = refl

pub judged_so : (r : Read) → ((m : Move) → r ≡ Moved m → ⊥) → entries.recorded_as (read_of r) ≡ entries.judged_as (read_of r)
unfolding read_of entries.recorded_as entries.judged_as
judged_so (Moved m) h = absurd (h m refl)
judged_so r h = refl
