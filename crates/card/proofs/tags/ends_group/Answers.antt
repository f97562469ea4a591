use Rattle.std.proofs.Common.{◌≡◌, eqb, false, refl, ◌∙◌, arith, rules}
use Rattle.std.specs.Prelude.{Option, Some, None}
use Rattle.std.specs.Option.{option_map_or}
use Rattle.card.specs.declared.tags.Group.{Group}
use Rattle.card.proofs.Groups.{ends_by}
use Rattle.card.proofs.tags.ends_group.Goals as goal

pub returns : goal.returns
returns c = by_group c.group_of.result refl ∙ rw c.group_of.ensures (ends_by c.args.tag (omega arith))
  where
    by_group : (o : Option Group) → c.group_of.result ≡ o → c.is_some_and.result ≡ option_map_or (λ (g : Group). eqb c.args.tag g.1) o false
    by_group None e = rw e at c.is_some_and.ensures
    by_group (Some g) e = let h = rw e at c.is_some_and.ensures in search rules
