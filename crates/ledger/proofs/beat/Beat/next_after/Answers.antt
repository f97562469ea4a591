use native.Mathlib.Omega.{arith}
use Rattle.ledger.proofs.Closing.{fallen_fits, next_fits, next_so}
use Rattle.ledger.proofs.beat.Beat.next_after.Goals as goal

pub overflow_mul-result : goal.overflow_mul-result
overflow_mul-result c = record { fits = fallen_fits _ _ c.args.self.small (omega arith) _ c.fallen.ensures }

pub overflow_add-result : goal.overflow_add-result
overflow_add-result c = omega (arith, next_fits _ _ c.args.self.small (omega arith) _ (omega arith) c.fallen.ensures)

pub returns : goal.returns
returns c = next_so _ _ _ c.fallen.ensures
