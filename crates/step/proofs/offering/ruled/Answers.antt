-- What the account tells, parted by its cycle, with what is judged between.
use Rattle.rules.specs.Folds.{or_else}
use Rattle.bank.specs.Values.{share_of}
use Rattle.ledger.specs.Values as paid
use Rattle.bounds.specs.Values.{look_with}
use Rattle.step.specs.Values.{refusal_of}
use Rattle.step.specs.Parts.{judged_refusal, ruled_refusal}
use Rattle.step.proofs.Answers.{handed_on, handed_told}
use Rattle.step.proofs.offering.ruled.Goals as goal

pub returns-in_err-opening : goal.returns-in_err-opening
unfolding ruled_refusal or_else refusal_of
returns-in_err-opening c = rw (handed_on _ _ c.from_residual.ensures, ← c.rises.ensures, ← c.in_err-opening.ensures)

pub returns-in_err-reading : goal.returns-in_err-reading
unfolding ruled_refusal judged_refusal share_of or_else refusal_of
returns-in_err-reading c =
    rw (handed_on _ _ c.from_residual-in_err-reading.ensures, ← c.rises.ensures, ← c.in_ok-opening.ensures, ← c.in_err-reading.ensures)

pub returns-in_err-delayed : goal.returns-in_err-delayed
unfolding ruled_refusal judged_refusal share_of look_with or_else refusal_of
returns-in_err-delayed c =
    rw (
      handed_on _ _ c.from_residual-in_err-delayed.ensures,
      ← c.rises.ensures,
      ← c.in_ok-opening.ensures,
      ← c.in_ok-reading.ensures,
      ← c.judged.ensures,
      ← c.move_of.ensures,
      ← c.in_err-delayed.ensures,
    )

pub returns-in_err-told : goal.returns-in_err-told
unfolding ruled_refusal judged_refusal share_of look_with or_else refusal_of paid.refusal_of
returns-in_err-told c =
    rw (
      handed_told _ _ c.from_residual-in_err-told.ensures,
      ← c.rises.ensures,
      ← c.in_ok-opening.ensures,
      ← c.in_ok-reading.ensures,
      ← c.judged.ensures,
      ← c.move_of.ensures,
      ← c.in_ok-delayed.ensures,
      c.in_err-told.was,
    )

pub returns : goal.returns
unfolding ruled_refusal judged_refusal share_of look_with or_else refusal_of paid.refusal_of
returns c =
    rw (
      ← c.rises.ensures,
      ← c.in_ok-opening.ensures,
      ← c.in_ok-reading.ensures,
      ← c.judged.ensures,
      ← c.move_of.ensures,
      ← c.in_ok-delayed.ensures,
      c.in_ok-told.was,
    )
