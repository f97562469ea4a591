-- Both halves, by one computed test each.
use mathlib.Core.Path.{refl, sym, ◌∙◌}
use Rattle.rules.specs.Bits.{bits, on}
use Rattle.rules.specs.Commands.{code}
use Rattle.rules.specs.Pins.{by_levels, kind_at}
use Rattle.rules.proofs.Onward.{onward}
use Rattle.pins.proofs.Codes.{packed, high_fifth, low_fifth}
use Rattle.pins.proofs.table.kind_of.Goals as goal

pub returns-then-is_on : goal.returns-then-is_on
unfolding bits on code by_levels kind_at onward
returns-then-is_on c =
    let p = c.args.pins in
    c.kind_in.ensures ∙ packed _ 16 refl p (high_fifth p (sym c.is_on.ensures ∙ c.if-is_on.true))

pub returns-else-is_on : goal.returns-else-is_on
unfolding bits on code by_levels kind_at onward
returns-else-is_on c =
    let p = c.args.pins in
    c.kind_in-else-is_on.ensures ∙ packed _ 0 refl p (low_fifth p (sym c.is_on.ensures ∙ c.if-is_on.false))
