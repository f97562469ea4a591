-- 19 first, or 20; what is past the last number that there is comes after both.
use mathlib.Core.Path.{sym, ◌∙◌}
use native.Mathlib.Omega.{arith}
use Rattle.ledger.specs.Values.{deadline_by}
use Rattle.ledger.specs.Parts.{beat_as, number_in}
use Rattle.ledger.proofs.Closing.{closed_ahead, late_small, rule_over, rule_late}
use Rattle.ledger.proofs.Moves.{number_by}
use Rattle.ledger.proofs.account.Account.first_failing.Goals as goal
use Rattle.ledger.proofs.account.Account.first_failing.Goals.{then-over-late, else-over-late}

pub cycle_of-requires-clause-later : goal.cycle_of-requires-clause-later
cycle_of-requires-clause-later c =
    let s = c.args.self in
    omega (arith, closed_ahead (beat_as s.beat) (number_in s.ledger) s.ledger.owed s.ledger.since s.beat.positive)

pub cycle_of-requires-clause-small : goal.cycle_of-requires-clause-small
cycle_of-requires-clause-small c =
    let s = c.args.self in
    omega (arith, late_small s.beat.span (number_in s.ledger) s.ledger.since s.beat.small (omega (arith, number_by s.ledger)) (omega arith))

pub returns : goal.returns
unfolding deadline_by
returns c =
    let s = c.args.self in
    let l = late_small s.beat.span (number_in s.ledger) s.ledger.since s.beat.small (omega (arith, number_by s.ledger)) (omega arith) in
    record {
      runs = sym c.if-stopped.ensures;
      rule = elim c.if-over-late.branch [
        | then-over-late w ↦ w.result-is ∙ rule_over _ _ (omega (arith, l))
        | else-over-late w ↦ w.result-is ∙ rule_late _ _ (omega (arith, l))
      ];
      cycle = c.cycle_of.ensures ∙ omega (arith, l);
    }
