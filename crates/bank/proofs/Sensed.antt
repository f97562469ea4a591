-- A temperature is recorded as a NOP at which clock-enable stays: of a record it changes the last stamp, the pace and the ledgers, and nothing else.
use Prim.Native.Nat.{ℕ}
use mathlib.Core.Path.{◌≡◌, refl}
use mathlib.Core.Bool.{Bool, true, false}
use Rattle.rules.specs.Commands.{nop, is, code, kind_of, carries, bare}
use Rattle.rules.specs.Levels.{stays, is_fall, rises_from}
use Rattle.rules.specs.Whose.{Whose, is_of}
use Rattle.rules.specs.Past.{writes_ma, register_after, mr2_after}
use Rattle.pins.specs.Counter.{counter_on}
use Rattle.ledger.specs.declared.Ledger.{Ledger}
use Rattle.ledger.specs.declared.Pace.{Pace}
use Rattle.bank.specs.declared.Share.{Share}
use Rattle.bank.specs.declared.Ledgers.{Ledgers}
use Rattle.bank.specs.declared.Record.{Record}
use Rattle.bank.specs.After.{
  modes_after,
  once_at,
  once_if,
  noted_if,
  each_if,
  noted_each_if,
  four_after,
  latest_after,
  moves_after,
  bus_after,
  shuts,
  opened_after,
  stamped_after,
  banks_after,
  share_after,
  with_ledger,
  share_taken,
  record_after,
}

share_nop : (own : Bool) (s : Share) (t : ℕ) (g : Ledger) → share_taken own s nop stays t g ≡ with_ledger s g
unfolding share_taken share_after modes_after mr2_after register_after writes_ma counter_on latest_after moves_after bus_after four_after banks_after stamped_after opened_after shuts once_if noted_if each_if noted_each_if is_fall rises_from is code kind_of carries bare
share_nop true s t g = refl
share_nop false s t g = refl

-- whosever it is
pub sensed_alone : (r : Record) (w : Whose) (t : ℕ) (g : Ledgers) (z : Pace) → record_after r w nop stays t g z
    ≡ record { card = r.card; last = once_at t; pace = z; first = with_ledger r.first g.first; second = with_ledger r.second g.second }
unfolding record_after
sensed_alone r w t g z = rw (share_nop (is_of 0 w) r.first t g.first, share_nop (is_of 1 w) r.second t g.second)
