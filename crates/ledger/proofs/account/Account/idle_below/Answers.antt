-- By the first cycle that fails.
use Rattle.ledger.proofs.Moves.{halted_none, running_none, running_fails}
use Rattle.ledger.proofs.Told.{told_some, told_none}
use Rattle.ledger.proofs.account.Account.idle_below.Goals as goal

pub returns-in-Some : goal.returns-in-Some
returns-in-Some c =
    let s = c.args.self in
    let f = c.in-Some.ensures in
    rw f.rule (told_some _ _ _ _ (running_fails _ s.ledger s.beat.positive s.low f.runs _ (rw f.cycle at c.if-cycle-until.true)) f.cycle)

pub returns-in_default : goal.returns-in_default
returns-in_default c =
    let s = c.args.self in
    let f = c.in-Some.ensures in
    told_none _ (running_none _ s.ledger s.beat.positive s.low f.runs _ (rw f.cycle at c.if-cycle-until.false))

pub returns-in_default-2 : goal.returns-in_default-2
returns-in_default-2 c = told_none _ (halted_none _ c.args.self.ledger (rw c.in_default.is at c.first_failing.ensures) _)
