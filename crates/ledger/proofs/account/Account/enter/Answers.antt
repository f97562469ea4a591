-- 19 and 20 below the stamp, and then at it.
use mathlib.Core.Path.{◌∙◌}
use Rattle.ledger.proofs.Enters.{below_so, there_so, here_so}
use Rattle.ledger.proofs.Told.{nothing_so, refused_so, passed_on}
use Rattle.ledger.proofs.account.Account.enter.Goals as goal

pub returns-in_err-there : goal.returns-in_err-there
returns-in_err-there c =
    passed_on _ _ _ _ c.from_residual.ensures.1 (below_so _ _ _ _ _ _ c.from.ensures c.in_err-there.ensures)

pub returns-in_err-kept : goal.returns-in_err-kept
returns-in_err-kept c =
    let t = c.in_ok-there.ensures in
    passed_on _ _ _ _ c.from_residual-in_err-kept.ensures.1 (here_so _ _ _ _ _ _ t.1 c.changed-here.ensures _ c.from.ensures t.0 ∙ refused_so _ _ c.in_err-kept.ensures)

pub returns : goal.returns
returns c =
    let t = c.in_ok-there.ensures in (
      here_so _ _ _ _ _ _ t.1 c.changed-here.ensures _ c.from.ensures t.0 ∙ nothing_so _ c.in_ok-kept.ensures,
      there_so _ _ _ _ _ _ t.1 c.changed-here.ensures,
    )
