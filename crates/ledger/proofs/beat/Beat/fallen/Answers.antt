use native.Mathlib.Omega.{arith}
use Rattle.ledger.proofs.Closing.{fallen_none, fallen_some}
use Rattle.ledger.proofs.beat.Beat.fallen.Goals as goal

pub returns-then-m-self : goal.returns-then-m-self
returns-then-m-self c = fallen_none _ _ c.args.self.positive (omega arith)

pub returns-else-m-self : goal.returns-else-m-self
returns-else-m-self c = rw c.from-m.ensures (fallen_some _ _ c.args.self.positive (omega arith))
