-- The accounts of both parts, and what is ruled of the entry with what they tell.
use Rattle.step.proofs.Answers.{handed_on}
use Rattle.step.proofs.Offered.{ruled_out, ruled_in}
use Rattle.step.proofs.offering.rule_on.Goals as goal

pub returns-in_err-ruled : goal.returns-in_err-ruled
returns-in_err-ruled c =
    rw (handed_on _ _ c.from_residual.ensures)
    (ruled_out _ _ _ _ _ _ _
    (rw (c.ledgers_of.ensures, c.effect_of-effect.ensures, c.own-share.ensures) at c.entered-paid.ensures)
    (rw (c.theirs-theirs.ensures, c.own-share.ensures) at c.ruled.ensures)
    _ c.in_err-ruled.was)

pub returns : goal.returns
returns c =
    ruled_in _ _ _ _ _ _ _
    (rw (c.ledgers_of.ensures, c.effect_of-effect.ensures, c.own-share.ensures) at c.entered-paid.ensures)
    (rw (c.theirs-theirs.ensures, c.own-share.ensures) at c.ruled.ensures)
    _ c.in_ok-ruled.was
