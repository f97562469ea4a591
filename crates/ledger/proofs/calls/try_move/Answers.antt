use Rattle.ledger.proofs.Admission.{move_refused, move_so}
use Rattle.ledger.proofs.Told.{passed_on}
use Rattle.ledger.proofs.calls.try_move.Goals as goal

pub returns-in_err-asked : goal.returns-in_err-asked
returns-in_err-asked c =
    passed_on _ _ _ _ c.from_residual.ensures.1 (move_refused _ _ c.args.ledger _ _ c.in_err-asked.ensures)

pub returns : goal.returns
returns c =
    let a = c.in_ok-asked.ensures in
    move_so _ _ c.args.ledger _ a.0 _ a.1 _ _ c.from.ensures c.reach.ensures
