-- 13 of the whole record, and then what is ruled, of any entry that is read so. That what is gone by is what was ruled is a fact to be shown.
use mathlib.Core.Path.{◌≡◌, sym, ◌∙◌}
use mathlib.Core.Bool.{true}
use native.Mathlib.Omega.{arith}
use Rattle.rules.specs.Lent.{lent_good}
use Rattle.bank.specs.Values.{lent_of}
use Rattle.step.proofs.Answers.{handed_on}
use Rattle.step.proofs.Leaves.{offered_out, offered_in, bad, prepared}
use Rattle.step.proofs.Paced.{pace_stored}
use Rattle.step.proofs.offering.taken.Goals as goal

pub returns-then-not-good : goal.returns-then-not-good
returns-then-not-good c = λ e then whose reads. bad _ e (sym c.good.ensures ∙ c.if-not-good.true)

pub returns-in_err-ledgers : goal.returns-in_err-ledgers
returns-in_err-ledgers c =
    let good : lent_good (lent_of c.args.rec) ≡ true = sym c.good.ensures ∙ c.if-not-good.false in
    let sound = prepared c.args.rec _ good c.delays_at-delays.ensures in
    rw (handed_on _ _ c.from_residual.ensures) (offered_out _ _ _ _ good _ (rw sound.clocks at c.rule_on.ensures) _ (first_of (cc, grind (arith, c.in_err-ledgers.was))))

pub returns : goal.returns
returns c =
    let good : lent_good (lent_of c.args.rec) ≡ true = sym c.good.ensures ∙ c.if-not-good.false in
    let sound = prepared c.args.rec _ good c.delays_at-delays.ensures in
    offered_in _ _ _ _ good _ (rw sound.clocks at c.rule_on.ensures) _ (first_of (cc, grind (arith, c.in_ok-ledgers.was))) _
    (rw (pace_stored _ _ c.pace_after.ensures, c.move_of.ensures, c.recorded.ensures) at c.after.ensures)
