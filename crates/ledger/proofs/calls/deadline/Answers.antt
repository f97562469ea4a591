-- 13, whether the cycles count, and then the closed form.
use Rattle.ledger.proofs.Deadlines.{not_sound, halted_so, running_so}
use Rattle.ledger.proofs.calls.deadline.Goals as goal

pub returns-in_default : goal.returns-in_default
returns-in_default c = not_sound _ _ _ _ c.in_default.ensures

pub returns-in-Some : goal.returns-in-Some
returns-in-Some c =
    let a = c.in-Ok.ensures in
    running_so _ _ _ _ a.1 a.0 _ c.in-Some.ensures

pub returns-in-None : goal.returns-in-None
returns-in-None c =
    let a = c.in-Ok.ensures in
    halted_so _ _ _ _ a.1 c.in-None.ensures
