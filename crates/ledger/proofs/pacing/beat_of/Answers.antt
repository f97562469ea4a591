use native.Mathlib.Omega.{arith}
use Rattle.ledger.proofs.Spacing.{span_positive, span_small, beat_so}
use Rattle.ledger.proofs.pacing.beat_of.Goals as goal

pub invariant_of-result : goal.invariant_of-result
invariant_of-result c = record {
  positive = span_positive c.args.card _ _ c.interval_at.ensures;
  small = span_small c.args.card _ _ c.interval_at.ensures (omega arith);
}

pub returns : goal.returns
returns c = beat_so _ c.args.pace _ c.interval_at.ensures
