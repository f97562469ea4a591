-- As many as there are, at most all four.
use mathlib.Core.Path.{◌∙◌}
use Rattle.std.specs.Prelude.{Some}
use Rattle.std.proofs.Common.{rules, tests}
use Rattle.std.proofs.lemmas.Iterator.{YieldsList-from_slice, YieldsList-from_take}
use Rattle.std.proofs.lemmas.Iterator.Search.{all_from_yields_List}
use Rattle.bank.specs.Clauses.{kept_at}
use Rattle.bank.proofs.Kept.{four_is}
use Rattle.bank.proofs.Four.kept_by.Goals as goal

pub returns : goal.returns
returns c =
    all_from_yields_List (λ t. kept_at c.args.last (Some t)) _ _ _ c.all.ensures.ran (YieldsList-from_take c.args.self.count (YieldsList-from_slice c.args.self.at (cc)) (cc))
    (λ x b q k. search (rules, tests))
    ∙ four_is c.args.last c.args.self (search rules)
