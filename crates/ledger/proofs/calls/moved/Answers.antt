use Rattle.ledger.proofs.Admission.{left_by}
use Rattle.ledger.proofs.calls.moved.Goals as goal

pub returns : goal.returns
returns c = rw c.told.ensures (left_by _ _ _ _ c.try_move.ensures)
