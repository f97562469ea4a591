-- By the tests of clock enable and CS_n, and then by the kind.
use mathlib.Core.Path.{sym, ◌∙◌}
use borrow.Author.Tests.{eq-eqb, ne_eqb}
use Rattle.rules.specs.Pins.{decode}
use Rattle.pins.specs.Values.{command_of, decoded_of}
use Rattle.pins.proofs.Codes.{by_kind}
use Rattle.pins.proofs.Values.{decoded_as}
use Rattle.pins.proofs.reader.decode.Goals as goal

pub returns-then-pins-ne1 : goal.returns-then-pins-ne1
unfolding decoded_of decode
returns-then-pins-ne1 c = decoded_as _ _ (rw (ne_eqb _ _ c.if-pins-ne1.true))

pub returns-then-is_on : goal.returns-then-is_on
unfolding decoded_of command_of decode
returns-then-is_on c = decoded_as _ _ (rw (eq-eqb _ _ c.if-pins-ne1.false, ← c.is_on.ensures, c.if-is_on.true))

pub returns : goal.returns
returns c =
    decoded_as _ _ (c.of_kind.ensures ∙ rw c.kind_of.ensures (sym (by_kind _ c.if-pins-ne1.false (sym c.is_on.ensures ∙ c.if-is_on.false))))
