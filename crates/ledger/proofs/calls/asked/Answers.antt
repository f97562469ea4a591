-- 13 and 5, in the order in which the code tries them.
use Rattle.ledger.specs.Values.{ledger_of}
use Rattle.ledger.proofs.Admission.{not_good, too_early, in_order}
use Rattle.ledger.proofs.Told.{passed_on}
use Rattle.ledger.proofs.calls.asked.Goals as goal

pub returns-in_err-account : goal.returns-in_err-account
returns-in_err-account c = passed_on _ _ _ _ c.from_residual.ensures.1 (not_good _ _ _ _ c.in_err-account.ensures)

pub returns-then-to-ledger : goal.returns-then-to-ledger
unfolding ledger_of
returns-then-to-ledger c = too_early _ _ _ c.in_ok-account.ensures.0 c.if-to-ledger.true

pub returns : goal.returns
unfolding ledger_of
returns c = (in_order _ _ _ c.in_ok-account.ensures.0 c.if-to-ledger.false, c.in_ok-account.ensures.1)
