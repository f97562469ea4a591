-- The earlier of the old next due and one new interval after the number.
use native.Mathlib.Omega.{arith}
use Rattle.ledger.proofs.Spacing.{span_small, respaced_so}
use Rattle.ledger.proofs.pacing.respaced.Goals as goal

pub overflow_add-new : goal.overflow_add-new
overflow_add-new c = omega (arith, span_small c.args.card _ _ c.interval_at.ensures (omega arith))

pub returns : goal.returns
returns c =
    rw (c.min.ensures, c.from.ensures)
    (respaced_so _ _ _ _ _ _ (rw c.beat_of.ensures at c.next_after-old.ensures) c.interval_at.ensures)
