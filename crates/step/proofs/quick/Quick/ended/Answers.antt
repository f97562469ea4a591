use Rattle.step.proofs.Begun.{end_ledger}
use Rattle.step.proofs.quick.Quick.ended.Goals as goal

pub returns : goal.returns
returns c = rw (end_ledger c.args.rec _ c.requires.end_args _ c.moved-moved.ensures)
