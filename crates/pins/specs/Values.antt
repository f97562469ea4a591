-- The types of the code, read as the values of the rules.
use Rattle.std.specs.Prelude as rust
use Rattle.std.specs.Prelude.{ℕ, ◌≡◌, not, [], ◌∷◌, Result, Ok, Err, Some, None}
use Rattle.std.proofs.Math.Option.{Option, none, some}
use Rattle.rules.specs.Commands as rules
use Rattle.rules.specs.Pins as pins
use Rattle.rules.specs.Levels as levels
use Rattle.rules.specs.Whose as whose
use Rattle.rules.specs.Heat.{mr4_good}
use Rattle.rules.specs.Folds.{first_of}
use Rattle.rules.specs.Checks.{Refusal, refusal, unless, is_wrong, is_reserved, is_barred, is_clash, code_good}
use Rattle.pins.specs.declared.Command.{Command}
use Rattle.pins.specs.declared.Command.TheVariants.{Nop, Mrw, Mrr, Refpb, Refab, Act, Rd, Wr, Pre, Prea}
use Rattle.pins.specs.declared.Undecoded.{Undecoded}
use Rattle.pins.specs.declared.Undecoded.TheVariants.{WrongBits, Reserved}
use Rattle.pins.specs.declared.Level.{Level}
use Rattle.pins.specs.declared.Level.TheVariants.{Awake, PowerDown, SelfRefresh, Deep}
use Rattle.pins.specs.declared.Move.{Move}
use Rattle.pins.specs.declared.Move.TheVariants.{Stays, Falls, Rises}
use Rattle.pins.specs.declared.Read.{Read}
use Rattle.pins.specs.declared.Read.TheVariants.{Plain, Moved, Asleep, Barred, Clash, Sensed}
use Rattle.pins.specs.declared.Whose.{Whose}
use Rattle.pins.specs.declared.Whose.TheVariants.{Sole, First, Second, Neither, Both}
use Rattle.pins.specs.declared.Unwritten.{Unwritten}
use Rattle.pins.specs.declared.Unwritten.TheVariants.{Unfit, NoRoom}

unfoldable pub command_of : Command → rules.Command
command_of Nop = rules.nop
command_of (Mrw ma op) = rules.mrw ma op
command_of (Mrr ma) = rules.mrr ma
command_of Refpb = rules.refpb
command_of Refab = rules.refab
command_of (Act bank row) = rules.act bank row
command_of (Rd bank column ap) = rules.rd bank column ap
command_of (Wr bank column ap) = rules.wr bank column ap
command_of (Pre bank) = rules.pre bank
command_of Prea = rules.prea

unfoldable pub decoded_of : Result Command Undecoded → pins.Decoded
decoded_of (Ok c) = pins.good (command_of c)
decoded_of (Err WrongBits) = pins.wrong_bits
decoded_of (Err Reserved) = pins.reserved

unfoldable pub level_of : Level → levels.Level
level_of Awake = levels.awake
level_of PowerDown = levels.power_down
level_of SelfRefresh = levels.self_refresh
level_of Deep = levels.deep

unfoldable pub moved_of : Move → levels.Move
moved_of Stays = levels.stays
moved_of (Falls l) = levels.falls (level_of l)
moved_of (Rises l) = levels.rises (level_of l)

unfoldable pub read_of : Read → levels.Read
read_of (Plain d) = levels.plain (decoded_of d)
read_of (Moved m) = levels.moved (moved_of m)
read_of Asleep = levels.asleep
read_of Barred = levels.barred
read_of Clash = levels.clash
read_of (Sensed v) = levels.sensed v

unfoldable pub whose_of : Whose → whose.Whose
whose_of Sole = whose.sole
whose_of First = whose.part 0
whose_of Second = whose.part 1
whose_of Neither = whose.neither
whose_of Both = whose.both

unfoldable pub told_of : rust.Option ℕ → Option ℕ
told_of None = none
told_of (Some p) = some p

-- 6 and 7 of document 01
unfoldable pub pins_refusal : Result Command Undecoded → Option Refusal
pins_refusal (Ok c) = none
pins_refusal (Err WrongBits) = some (refusal 6 0 0)
pins_refusal (Err Reserved) = some (refusal 7 0 0)

-- and 16, 24 and 26 of document 02
unfoldable pub read_refusal : Read → Option Refusal
read_refusal (Plain d) = pins_refusal d
read_refusal (Moved m) = none
read_refusal Asleep = none
read_refusal Barred = some (refusal 16 0 0)
read_refusal Clash = some (refusal 24 0 0)
read_refusal (Sensed v) = unless (mr4_good v) 26

-- the first that fails of the checks that go by what an entry is read as alone
unfoldable pub pins_fail : levels.Read → Option Refusal
pins_fail x =
    first_of
    (unless (not (is_wrong x)) 6 ∷ unless (not (is_clash x)) 24 ∷ unless (not (is_reserved x)) 7 ∷ unless (not (is_barred x)) 16 ∷ unless (code_good x) 26 ∷ [])

-- what the pins are, and the first of those checks that they fail
pub record DecodedAs (p : ℕ) (r : Result Command Undecoded) : Type 0 where
  pub is : decoded_of r ≡ pins.decode p
  pub told : pins_refusal r ≡ pins_fail (levels.plain (pins.decode p))

pub record ReadAs (x : levels.Read) (r : Read) : Type 0 where
  pub is : read_of r ≡ x
  pub told : read_refusal r ≡ pins_fail x

-- 14 and 15
unfoldable pub refusal_of : Result (Unit {0}) Unwritten → Option Refusal
refusal_of (Ok u) = none
refusal_of (Err Unfit) = some (refusal 14 0 0)
refusal_of (Err NoRoom) = some (refusal 15 0 0)
