use Rattle.std.proofs.Common.{ap, ◌∙◌, sym}
use Rattle.std.proofs.lemmas.Slice.Zip.{either_empty_from_Zip}
use Rattle.rules.specs.Checks.{named}
use Rattle.bounds.specs.Values.{refusal_of}
use Rattle.bounds.proofs.Folded.{all_hold}
use Rattle.bounds.proofs.folds.broken.Goals as goal

-- one of the two lists is at its end
pub returns : goal.returns
unfolding refusal_of named
returns c =
    let none_left = either_empty_from_Zip c.loop-rule.rule-iterator c.next.new.self _ c.in-None.is c.next.ensures.steps in
    ap (named 10) (sym (c.loop-rule.invariant ∙ all_hold _ _ _ none_left))
