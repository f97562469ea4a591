-- By the number of the kind.
use mathlib.Core.Path.{◌≡◌, ◌∙◌}
use native.Mathlib.Omega.{arith}
use Rattle.rules.specs.Pins.{decode}
use Rattle.step.specs.Ready.{hot_of}
use Rattle.step.proofs.Levels.{wrong_bits_lem, not_selected, hot_with, cold_with, by_kind}
use Rattle.step.proofs.kinds.kind_on.Goals as goal
use Rattle.step.proofs.kinds.kind_on.Goals.{After-kind_of}

numbered : (c : After-kind_of) → hot_with c.kind_of.result ≡ hot_of (decode c.args.pins)
numbered c = rw c.kind_of.ensures (by_kind c.args.pins c.if-pins-ne1.false c.if-pins-eq1.false)

pub returns-then-pins-ne1 : goal.returns-then-pins-ne1
returns-then-pins-ne1 c = wrong_bits_lem _ c.if-pins-ne1.true

pub returns-then-pins-eq1 : goal.returns-then-pins-eq1
returns-then-pins-eq1 c = not_selected _ c.if-pins-ne1.false c.if-pins-eq1.true

pub returns-in-0 : goal.returns-in-0
unfolding hot_with
returns-in-0 c = rw c.in-0.is at (numbered (goal.at.returns-in-0 c).After-kind_of)

pub returns-in-5 : goal.returns-in-5
unfolding hot_with
returns-in-5 c = rw c.in-5.is at (numbered (goal.at.returns-in-5 c).After-kind_of)

pub returns-in-6 : goal.returns-in-6
unfolding hot_with
returns-in-6 c = rw c.in-6.is at (numbered (goal.at.returns-in-6 c).After-kind_of)

pub returns-in-7 : goal.returns-in-7
unfolding hot_with
returns-in-7 c = rw c.in-7.is at (numbered (goal.at.returns-in-7 c).After-kind_of)

pub returns-in-8 : goal.returns-in-8
unfolding hot_with
returns-in-8 c = rw c.in-8.is at (numbered (goal.at.returns-in-8 c).After-kind_of)

pub returns-in_default : goal.returns-in_default
returns-in_default c =
    cold_with _ (λ e. omega arith) (λ e. omega arith) (λ e. omega arith) (λ e. omega arith) (λ e. omega arith)
    ∙ numbered (goal.at.returns-in_default c).After-kind_of
