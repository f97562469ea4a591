-- 19 and 20 at the cycle where a ledger stands.
use native.Mathlib.Omega.{arith}
use Rattle.ledger.proofs.Enters.{fails_19, fails_20, fails_not}
use Rattle.ledger.proofs.Told.{told_some, told_none}
use Rattle.ledger.proofs.entering.kept.Goals as goal

pub returns-then-here-gt16 : goal.returns-then-here-gt16
returns-then-here-gt16 c = told_some _ _ _ _ (fails_19 c.args.here _ c.if-here-gt16.true) c.from-cycle.ensures

pub returns-then-from-beat : goal.returns-then-from-beat
returns-then-from-beat c =
    told_some _ _ _ _ (fails_20 c.args.here _ c.if-here-gt16.false (omega arith)) c.from-cycle.ensures

pub returns : goal.returns
returns c = told_none _ (fails_not c.args.here _ c.if-here-gt16.false (omega arith))
