-- What a step tells and leaves, read as the values of the rules.
use Rattle.std.specs.Prelude.{◌≡◌, true, cond, Result, Ok, Err}
use Rattle.std.proofs.Math.Option.{Option, none, some}
use Rattle.rules.specs.Entries.{Entry, whose_of}
use Rattle.rules.specs.Checks.{refusal}
use Rattle.rules.specs.Checks as checks
use Rattle.rules.specs.Lent.{Ledger, command_in, move_in, ledger_with, pace_with, lent_good, lent_after}
use Rattle.ledger.specs.Values.{ledger_of, code_of, pace_in, unless_refused}
use Rattle.bank.specs.declared.Ledgers.{Ledgers}
use Rattle.bank.specs.declared.Record.{Record}
use Rattle.bank.specs.Values.{lent_of}
use Rattle.bank.specs.After.{record_after}
use Rattle.bank.specs.Both.{ledgers_in, ledgers_as}
use Rattle.step.specs.declared.Refusal.{Refusal}
use Rattle.step.specs.declared.Refusal.TheVariants.{BadRecord, Early, Overdue, WrongBits, Clash, Reserved, State, Barred, Value, Code, TooSoon}
use Rattle.step.specs.declared.Stepped.{Stepped}

-- the documents' numbers of each case
abbrev pub refused_as : Refusal → checks.Refusal
refused_as BadRecord = refusal 13 0 0
refused_as Early = refusal 5 0 0
refused_as (Overdue q t) = refusal 11 q t
refused_as WrongBits = refusal 6 0 0
refused_as Clash = refusal 24 0 0
refused_as Reserved = refusal 7 0 0
refused_as State = refusal 8 0 0
refused_as Barred = refusal 16 0 0
refused_as Value = refusal 9 0 0
refused_as Code = refusal 26 0 0
refused_as (TooSoon q t) = refusal 10 q t

unfoldable pub refusal_of : {A : Type 0} → Result A Refusal → Option checks.Refusal
refusal_of (Ok x) = none
refusal_of (Err e) = some (refused_as e)

abbrev pub stepped_as : Record → Result (Unit {0}) Refusal → Stepped
stepped_as rec a = record { rec = rec; answer = a }

-- the second part's ledger, where there is one; where there is none it stays
unfoldable pub second_with : Record → Entry → Ledger
second_with rec e = cond rec.card.paired (ledger_with (lent_of rec) e 1) (ledger_of rec.second.ledger)

-- the record after an entry that is taken, to the bit, with these ledgers; the pace then is the rules'
abbrev pub record_by : Record → Entry → Ledgers → Record
record_by rec e g = record_after rec (whose_of (lent_of rec).card e) (command_in (lent_of rec) e) (move_in (lent_of rec) e) e.stamp g (pace_in (pace_with (lent_of rec) e))

unfoldable pub record_with : Record → Entry → Record
record_with rec e = record_by rec e (ledgers_as (code_of (ledger_with (lent_of rec) e 0)) (code_of (second_with rec e)))

-- this refusal, or none, is told; the record then is the one after the entry, or on a refusal the old one, to the bit; and what it is to the rules
pub record Left (o : Option checks.Refusal) (rec : Record) (e : Entry) (r : Stepped) : Type 0 where
  pub told : refusal_of r.answer ≡ o
  pub is : r.rec ≡ unless_refused o rec (record_by rec e (ledgers_in r.rec))
  pub first : ledger_of r.rec.first.ledger ≡ unless_refused o (ledger_of rec.first.ledger) (ledger_with (lent_of rec) e 0)
  pub second : ledger_of r.rec.second.ledger ≡ unless_refused o (ledger_of rec.second.ledger) (second_with rec e)
  pub lent : lent_good (lent_of rec) ≡ true → lent_of r.rec ≡ unless_refused o (lent_of rec) (lent_after (lent_of rec) e)
