-- 13, test by test.
use mathlib.Core.Path.{refl, sym}
use Rattle.ledger.proofs.Admission.{good_so, bad_range, bad_owed, bad_since}
use Rattle.ledger.proofs.calls.sound.Goals as goal
use Rattle.ledger.proofs.calls.sound.Goals.{else-in_range-via-then-in_range+then-ledger-le16+else-ledger-number_of, else-in_range-via-then-in_range+else-ledger-le16, else-in_range-via-else-in_range}

pub returns-then-ledger-number_of : goal.returns-then-ledger-number_of
returns-then-ledger-number_of c = (
  good_so _ _ (sym c.if-in_range.ensures) c.if-ledger-le16.true (rw c.number_of.ensures at c.if-ledger-number_of.true),
  record { ledger = refl; beat = c.beat_of-beat.ensures },
)

pub returns-else-in_range : goal.returns-else-in_range
returns-else-in_range c = elim c.else-in_range.branch [
  | else-in_range-via-then-in_range+then-ledger-le16+else-ledger-number_of w ↦
      bad_since _ _ (sym w.if-in_range.ensures) w.if-ledger-le16.true (rw w.number_of.ensures at w.if-ledger-number_of.false)
  | else-in_range-via-then-in_range+else-ledger-le16 w ↦ bad_owed _ _ (sym w.if-in_range.ensures) w.if-ledger-le16.false
  | else-in_range-via-else-in_range w ↦ bad_range _ _ (sym w.if-in_range.ensures)
]
