use Rattle.std.proofs.Common.{◌∙◌, ap}
use Rattle.std.specs.Option.{unwrap_or}
use Rattle.std.specs.Ordering.{max_by_ordering, nat_cmp}
use Rattle.std.proofs.lemmas.Iterator.{YieldsList-from_slice}
use Rattle.std.proofs.lemmas.Iterator.Consumers.{YieldsList-from_copied, YieldsList-at, reduce_from_yields_List}
use Rattle.bounds.proofs.Folded.{greatest_reduced}
use Rattle.bounds.proofs.folds.greatest.Goals as goal

pub returns : goal.returns
returns c =
    let e = reduce_from_yields_List (λ p z. max_by_ordering (nat_cmp p z) p z) _ _ c.max.ensures.ran (YieldsList-from_copied (YieldsList-at c.copied.ensures.source (YieldsList-from_slice c.args.bounds cc))) in
    c.unwrap_or.ensures ∙ ap (λ o. unwrap_or o 0) e ∙ greatest_reduced c.args.bounds
