-- Refused or taken as the step tells.
use Rattle.chunks.proofs.Taking.{whole_refused}
use Rattle.chunks.proofs.Sensed.{sensed_refused, sensed_taken}
use Rattle.chunks.proofs.State.take_sensed.Goals as goal

pub returns-in_err-stepped : goal.returns-in_err-stepped
returns-in_err-stepped c =
    whole_refused _ _ _ _ _ c.from_residual.ensures.1
    (sensed_refused _ _ c.requires.0 c.requires.1 c.sense-stepped.result (rw (← c.stamp_at.ensures) c.sense-stepped.ensures) _ c.in_err-stepped.was)

pub returns : goal.returns
returns c =
    rw c.with.ensures (sensed_taken _ _ c.requires.0 c.requires.1 c.sense-stepped.result (rw (← c.stamp_at.ensures) c.sense-stepped.ensures) _ c.in_ok-stepped.was)
