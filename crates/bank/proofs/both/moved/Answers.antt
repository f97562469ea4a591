-- Of the one part, or of both.
use borrow.Author.Tests.{not-true, not-false}
use Rattle.bank.proofs.Joined.{paid_alone, paid_both}
use Rattle.bank.proofs.both.moved.Goals as goal

pub returns-then-not-card : goal.returns-then-not-card
returns-then-not-card c = paid_alone _ _ _ _ _ _ c.moved-first.ensures _ (not-true _ c.if-not-card.true) _ c.alone.ensures

pub returns : goal.returns
returns c =
    paid_both _ _ _ _ _ _ c.moved-first.ensures _ (not-false _ c.if-not-card.false) _ c.moved.ensures _ c.joined.ensures
