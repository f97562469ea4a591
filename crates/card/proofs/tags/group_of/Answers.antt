-- The code's table is the rules', group for group.
use Rattle.std.proofs.Common.{◌&&◌, leb, map, sym, ◌∙◌, rules, tests}
use Rattle.std.proofs.lemmas.Iterator.{YieldsList-from_slice}
use Rattle.std.proofs.lemmas.Iterator.Adapters.{option_map_id}
use Rattle.std.proofs.lemmas.Iterator.Consumers.{YieldsList-from_copied, YieldsList-at}
use Rattle.std.proofs.lemmas.Iterator.Search.{find_from_yields_List}
use Rattle.rules.specs.Form.{◌up_to◌, groups}
use Rattle.card.specs.Tags.{group_of, group_at}
use Rattle.card.specs.declared.tags.Group.{Group}
use Rattle.card.proofs.Groups.{found_is}
use Rattle.card.proofs.tags.group_of.Goals as goal

pub returns : goal.returns
unfolding groups ◌up_to◌ group_of group_at
returns c =
    let tag = c.args.tag in
    sym (option_map_id c.find.result)
    ∙ find_from_yields_List (λ (g : Group). leb g.0 tag && leb tag g.1) _ _ c.find.result c.find.ensures.ran
    (YieldsList-from_copied (YieldsList-at c.copied.ensures.source (YieldsList-from_slice (map group_of groups) c.iter.ensures.rest)))
    (λ x b q k. search (rules, tests))
    ∙ found_is groups tag
