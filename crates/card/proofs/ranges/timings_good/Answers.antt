use Rattle.std.proofs.Common.{get_or, ◌<◌, ◌∙◌, arith, rules, tests}
use Rattle.std.proofs.lemmas.Iterator.{YieldsList-from_slice}
use Rattle.std.proofs.lemmas.Iterator.Search.{all_from_yields_List}
use Rattle.rules.specs.Ranges.{raise_good}
use Rattle.card.proofs.Columns.{durations_tell}
use Rattle.card.proofs.ranges.timings_good.Goals as goal

pub returns : goal.returns
returns c =
    all_from_yields_List raise_good _ _ c.all.result c.all.ensures.ran (YieldsList-from_slice c.args.card.durations c.iter.ensures.rest) (λ x b q k. search (rules, tests))
    ∙ durations_tell c.args.card (omega arith) (λ k. let low : get_or c.args.card.floors k 0 < 256 = search rules in omega arith)
