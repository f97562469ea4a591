-- The code's table is the rules', row for row.
use Rattle.std.proofs.Common.{◌%◌, eqb, map, refl, sym, ◌∙◌, rules, tests}
use Rattle.std.proofs.lemmas.Iterator.{YieldsList-from_slice}
use Rattle.std.proofs.lemmas.Iterator.Adapters.{option_map_id}
use Rattle.std.proofs.lemmas.Iterator.Consumers.{YieldsList-from_copied, YieldsList-at}
use Rattle.std.proofs.lemmas.Iterator.Search.{find_from_yields_List}
use Rattle.rules.specs.Registers.{row, latencies}
use Rattle.card.specs.Rows.{row_of, found_by}
use Rattle.card.specs.declared.registers.Row.{Row}
use Rattle.card.proofs.Found.{found_by_lem, first_is}
use Rattle.card.proofs.registers.row_at.Goals as goal

pub returns : goal.returns
unfolding latencies row row_of found_by
returns c =
    let code = c.args.mr2 % 16 in
    sym (option_map_id c.find.result)
    ∙ find_from_yields_List (λ (x : Row). eqb x.0 code) _ _ c.find.result c.find.ensures.ran
    (YieldsList-from_copied (YieldsList-at c.copied.ensures.source (YieldsList-from_slice (map row_of latencies) c.iter.ensures.rest)))
    (λ x b q k. search (rules, tests))
    ∙ first_is code latencies
    ∙ found_by_lem c.args.mr2 code refl
