use native.Mathlib.Omega.{arith}
use Rattle.ledger.proofs.Admission.{left_of}
use Rattle.ledger.proofs.calls.entered.Goals as goal

pub returns : goal.returns
returns c = rw c.told.ensures (left_of _ _ _ _ _ c.try_enter.ensures (λ y refused. grind arith))
