use Rattle.rules.proofs.Decided.{named_none}
use Rattle.ledger.proofs.Moves.{fewer_none}
use Rattle.ledger.proofs.Told.{nothing_so, refused_so, passed_on}
use Rattle.ledger.proofs.account.Account.reach.Goals as goal

pub returns-in_err-idle_below : goal.returns-in_err-idle_below
returns-in_err-idle_below c =
    passed_on _ _ _ _ c.from_residual.ensures.1 (refused_so _ _ c.in_err-idle_below.ensures)

pub moved_to-requires : goal.moved_to-requires
moved_to-requires c =
    let s = c.args.self in
    fewer_none _ s.ledger s.beat.positive s.low _ _ c.requires (named_none _ _ (nothing_so _ c.in_ok-idle_below.ensures))

pub returns : goal.returns
returns c = (nothing_so _ c.in_ok-idle_below.ensures, c.moved_to.ensures)
