-- Of the one part, or of both.
use borrow.Author.Tests.{not-true, not-false}
use Rattle.bank.proofs.Joined.{paid_alone, paid_both}
use Rattle.bank.proofs.both.entered.Goals as goal

pub returns-then-not-card : goal.returns-then-not-card
returns-then-not-card c =
    rw (← c.is_first-of_first.ensures, ← c.is_second-of_second.ensures)
    (paid_alone _ _ _ _ _ _ c.entered_on-first.ensures _ (not-true _ c.if-not-card.true) _ c.alone.ensures)

pub returns : goal.returns
returns c =
    rw (← c.is_first-of_first.ensures, ← c.is_second-of_second.ensures)
    (paid_both _ _ _ _ _ _ c.entered_on-first.ensures _ (not-false _ c.if-not-card.false) _ c.entered_on-second.ensures _ c.joined.ensures)
