-- The pins; a move by the command that it is judged as; an entry asleep is good, what is barred is 16, both parts at once are 24, and a temperature goes by its code.
use mathlib.Core.Path.{ap, sym, ◌∙◌}
use mathlib.Core.Bool.{Bool}
use Rattle.pins.specs.Values.{decoded_of, read_of}
use Rattle.rules.specs.Checks.{unless}
use Rattle.step.specs.Values.{refusal_of}
use Rattle.step.proofs.Answers.{handed_on}
use Rattle.step.proofs.Split.{command_reads, undecoded_reads, move_reads, asleep_reads, barred_reads, clash_reads, sensed_reads}
use Rattle.step.proofs.reading.reading.Goals as goal

pub returns-in_err-decoded-in-Plain : goal.returns-in_err-decoded-in-Plain
unfolding read_of refusal_of
returns-in_err-decoded-in-Plain c =
    rw (handed_on _ _ c.from_residual.ensures, c.in-Plain.is, c.in_err-decoded-in-Plain.was) (undecoded_reads _ _ _ _)

pub returns-in_ok-decoded-in-Plain : goal.returns-in_ok-decoded-in-Plain
unfolding read_of decoded_of
returns-in_ok-decoded-in-Plain c = c.command_refused.ensures ∙ rw (c.in-Plain.is, c.in_ok-decoded-in-Plain.was) (command_reads _ _ _ _)

pub returns-in-Moved : goal.returns-in-Moved
unfolding read_of
returns-in-Moved c = c.command_refused-in-Moved.ensures ∙ rw (c.judged.ensures, c.in-Moved.is) (move_reads _ _ _ _)

pub returns-in-Asleep : goal.returns-in-Asleep
unfolding read_of refusal_of
returns-in-Asleep c = rw c.in-Asleep.is (asleep_reads _ _ _)

pub returns-in-Barred : goal.returns-in-Barred
unfolding read_of refusal_of
returns-in-Barred c = rw c.in-Barred.is (barred_reads _ _ _)

pub returns-in-Clash : goal.returns-in-Clash
unfolding read_of refusal_of
returns-in-Clash c = rw c.in-Clash.is (clash_reads _ _ _)

pub returns-in-Sensed : goal.returns-in-Sensed
unfolding read_of refusal_of unless
returns-in-Sensed c = rw c.in-Sensed.is (ap (λ (b : Bool). unless b 26) (sym c.if-not-mr4_good.true ∙ c.mr4_good.ensures) ∙ sensed_reads _ _ _ _)

pub returns-in-Sensed-2 : goal.returns-in-Sensed-2
unfolding read_of refusal_of unless
returns-in-Sensed-2 c = rw c.in-Sensed.is (ap (λ (b : Bool). unless b 26) (sym c.if-not-mr4_good.false ∙ c.mr4_good.ensures) ∙ sensed_reads _ _ _ _)
