-- Each bank by its own test.
use mathlib.Core.Path.{refl, ◌∙◌}
use Rattle.std.proofs.Common.{rules, tests}
use Rattle.std.proofs.lemmas.Iterator.{YieldsList-from_range}
use Rattle.std.proofs.lemmas.Iterator.Search.{all_from_yields_List}
use Rattle.bank.specs.Clauses.{kept_at, stamp_at}
use Rattle.bank.proofs.Kept.{each_is}
use Rattle.bank.proofs.Each.kept_by.Goals as goal

pub returns : goal.returns
returns c =
    all_from_yields_List (λ b. kept_at c.args.last (stamp_at c.args.self b)) _ _ _ c.all.ensures.ran (YieldsList-from_range 0 8 8 (cc) refl)
    (λ x b q k. search (rules, tests))
    ∙ each_is c.args.last c.args.self
