-- The code's values are told apart by the values of the rules that they are read as, and what is decoded by the number of its refusal.
use Prim.Native.Nat.{ℕ}
use mathlib.Core.Path.{◌≡◌, refl, ap}
use mathlib.Core.Bool.{Bool, true, false, cond}
use mathlib.Core.List.{[], ◌∷◌}
use mathlib.Core.Option.{Option, none, some}
use lib.Dec.{eqb}
use Rattle.std.specs.Prelude.{Result, Ok, Err}
use Rattle.rules.specs.Commands as rules
use Rattle.rules.specs.Pins as pins
use Rattle.rules.specs.Levels as levels
use Rattle.rules.specs.Whose as whose
use Rattle.rules.specs.Heat.{mr4_good}
use Rattle.rules.specs.Folds.{or_else, first_of}
use Rattle.rules.specs.Checks.{Refusal, refusal, unless, is_wrong, is_reserved, is_barred, is_clash, code_good}
use Rattle.rules.proofs.Determined.{tells}
use Rattle.pins.specs.declared.Command.{Command}
use Rattle.pins.specs.declared.Command.TheVariants.{Nop, Mrw, Mrr, Refpb, Refab, Act, Rd, Wr, Pre, Prea}
use Rattle.pins.specs.declared.Undecoded.{Undecoded}
use Rattle.pins.specs.declared.Undecoded.TheVariants.{WrongBits, Reserved}
use Rattle.pins.specs.declared.Level.{Level}
use Rattle.pins.specs.declared.Level.TheVariants.{Awake, PowerDown, SelfRefresh, Deep}
use Rattle.pins.specs.declared.Move.{Move}
use Rattle.pins.specs.declared.Move.TheVariants.{Stays, Falls, Rises}
use Rattle.pins.specs.declared.Read.{Read}
use Rattle.pins.specs.declared.Read.TheVariants.{Plain, Moved, Asleep, Barred, Clash, Sensed}
use Rattle.pins.specs.declared.Whose.{Whose}
use Rattle.pins.specs.declared.Whose.TheVariants.{Sole, First, Second, Neither, Both}
use Rattle.pins.specs.declared.Unwritten.{Unwritten}
use Rattle.pins.specs.declared.Unwritten.TheVariants.{Unfit, NoRoom}
use Rattle.pins.specs.Values.{command_of, decoded_of, level_of, moved_of, read_of, whose_of, pins_refusal, read_refusal, pins_fail, DecodedAs, ReadAs, refusal_of}

-- the code's values, back from those of the rules
abbrev command : rules.Command → Command
command rules.nop = Nop
command (rules.mrw ma op) = Mrw ma op
command (rules.mrr ma) = Mrr ma
command rules.refpb = Refpb
command rules.refab = Refab
command (rules.act bank row) = Act bank row
command (rules.rd bank column ap) = Rd bank column ap
command (rules.wr bank column ap) = Wr bank column ap
command (rules.pre bank) = Pre bank
command rules.prea = Prea

abbrev decoded : pins.Decoded → Result Command Undecoded
decoded (pins.good c) = Ok (command c)
decoded pins.wrong_bits = Err WrongBits
decoded pins.reserved = Err Reserved

abbrev level : levels.Level → Level
level levels.awake = Awake
level levels.power_down = PowerDown
level levels.self_refresh = SelfRefresh
level levels.deep = Deep

abbrev moved : levels.Move → Move
moved levels.stays = Stays
moved (levels.falls l) = Falls (level l)
moved (levels.rises l) = Rises (level l)

abbrev read : levels.Read → Read
read (levels.plain d) = Plain (decoded d)
read (levels.moved m) = Moved (moved m)
read levels.asleep = Asleep
read levels.barred = Barred
read levels.clash = Clash
read (levels.sensed v) = Sensed v

abbrev owner : whose.Whose → Whose
owner whose.sole = Sole
owner (whose.part p) = cond (eqb p 0) First Second
owner whose.neither = Neither
owner whose.both = Both

abbrev wrote : Option Refusal → Result (Unit {0}) Unwritten
wrote none = Ok tt
wrote (some x) = Err (cond (eqb x.number 14) Unfit NoRoom)

command_back : (c : Command) → command (command_of c) ≡ c
unfolding command_of
command_back Nop = refl
command_back (Mrw ma op) = refl
command_back (Mrr ma) = refl
command_back Refpb = refl
command_back Refab = refl
command_back (Act bank row) = refl
command_back (Rd bank column ap) = refl
command_back (Wr bank column ap) = refl
command_back (Pre bank) = refl
command_back Prea = refl

decoded_back : (d : Result Command Undecoded) → decoded (decoded_of d) ≡ d
unfolding decoded_of
decoded_back (Ok c) = ap Ok (command_back c)
decoded_back (Err WrongBits) = refl
decoded_back (Err Reserved) = refl

level_back : (l : Level) → level (level_of l) ≡ l
unfolding level_of
level_back Awake = refl
level_back PowerDown = refl
level_back SelfRefresh = refl
level_back Deep = refl

moved_back : (m : Move) → moved (moved_of m) ≡ m
unfolding moved_of
moved_back Stays = refl
moved_back (Falls l) = ap Falls (level_back l)
moved_back (Rises l) = ap Rises (level_back l)

read_back : (r : Read) → read (read_of r) ≡ r
unfolding read_of
read_back (Plain d) = ap Plain (decoded_back d)
read_back (Moved m) = ap Moved (moved_back m)
read_back Asleep = refl
read_back Barred = refl
read_back Clash = refl
read_back (Sensed v) = refl

owner_back : (w : Whose) → owner (whose_of w) ≡ w
unfolding whose_of
owner_back Sole = refl
owner_back First = refl
owner_back Second = refl
owner_back Neither = refl
owner_back Both = refl

wrote_back : (r : Result (Unit {0}) Unwritten) → wrote (refusal_of r) ≡ r
unfolding refusal_of refusal
wrote_back (Ok u) = refl
wrote_back (Err Unfit) = refl
wrote_back (Err NoRoom) = refl

pub one_command : {z : rules.Command} (x y : Command) → command_of x ≡ z → command_of y ≡ z → x ≡ y
one_command = tells command_of command command_back

pub one_decoded : {z : pins.Decoded} (x y : Result Command Undecoded) → decoded_of x ≡ z → decoded_of y ≡ z → x ≡ y
one_decoded = tells decoded_of decoded decoded_back

pub one_level : {z : levels.Level} (x y : Level) → level_of x ≡ z → level_of y ≡ z → x ≡ y
one_level = tells level_of level level_back

pub one_moved : {z : levels.Move} (x y : Move) → moved_of x ≡ z → moved_of y ≡ z → x ≡ y
one_moved = tells moved_of moved moved_back

pub one_read : {z : levels.Read} (x y : Read) → read_of x ≡ z → read_of y ≡ z → x ≡ y
one_read = tells read_of read read_back

pub one_whose : {z : whose.Whose} (x y : Whose) → whose_of x ≡ z → whose_of y ≡ z → x ≡ y
one_whose = tells whose_of owner owner_back

pub one_wrote : {z : Option Refusal} (x y : Result (Unit {0}) Unwritten) → refusal_of x ≡ z → refusal_of y ≡ z → x ≡ y
one_wrote = tells refusal_of wrote wrote_back

-- ---- the refusal follows from what an entry is
plain_told : (d : Result Command Undecoded) → pins_refusal d ≡ pins_fail (levels.plain (decoded_of d))
unfolding decoded_of pins_refusal pins_fail first_of or_else unless is_wrong is_reserved is_barred is_clash code_good
plain_told (Ok c) = refl
plain_told (Err WrongBits) = refl
plain_told (Err Reserved) = refl

read_told : (r : Read) → read_refusal r ≡ pins_fail (read_of r)
unfolding read_of read_refusal pins_fail first_of or_else unless is_wrong is_reserved is_barred is_clash code_good
read_told (Plain d) = plain_told d
read_told (Moved m) = refl
read_told Asleep = refl
read_told Barred = refl
read_told Clash = refl
read_told (Sensed v) = alone (mr4_good v)
  where
    alone : (b : Bool) → unless b 26 ≡ first_of (unless b 26 ∷ [])
    alone true = refl
    alone false = refl

pub decoded_as : (p : ℕ) (d : Result Command Undecoded) → decoded_of d ≡ pins.decode p → DecodedAs p d
decoded_as p d e = record { is = e; told = rw (← e) (plain_told d) }

pub read_as : (x : levels.Read) (r : Read) → read_of r ≡ x → ReadAs x r
read_as x r e = record { is = e; told = rw (← e) (read_told r) }
