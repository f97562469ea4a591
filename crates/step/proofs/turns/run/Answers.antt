-- 13 of the whole record, once; then by the card's parts.
use mathlib.Core.Path.{ap, sym, ◌∙◌}
use Rattle.step.specs.declared.single.Single.{Single}
use Rattle.step.specs.Runs.{run_of}
use Rattle.step.specs.Parts.{Prepared}
use Rattle.step.specs.Single.{single_of, whole, ran_with}
use Rattle.step.proofs.Leaves.{prepared}
use Rattle.step.proofs.Joining.{unsound, ready_of}
use Rattle.step.proofs.turns.run.Goals as goal
use Rattle.step.proofs.turns.run.Goals.{After-delays_at-delays}

ready : (c : After-delays_at-delays) → Prepared c.args.rec c.delays_at-delays.result
ready c = prepared _ _ (sym c.good.ensures ∙ c.if-not-good.false) c.delays_at-delays.ensures

pub returns-then-not-good : goal.returns-then-not-good
returns-then-not-good c = c.start.ensures ∙ unsound _ _ _ (sym c.good.ensures ∙ c.if-not-good.true)

pub pair_run-requires : goal.pair_run-requires
pair_run-requires c = ready (goal.at.pair_run-requires c).After-delays_at-delays

pub single_run-ran-requires : goal.single_run-ran-requires
single_run-ran-requires c =
    rw c.of.ensures (ready_of _ _ (ready (goal.at.single_run-ran-requires c).After-delays_at-delays) c.if-rec.false)

pub returns : goal.returns
unfolding single_of ran_with
returns c =
    let a = c.args in
    rw c.with.ensures (c.single_run-ran.ensures _ ∙ ap (λ (s : Single). run_of a.most (whole a.rec.second s) a.bytes.now) c.of.ensures)
