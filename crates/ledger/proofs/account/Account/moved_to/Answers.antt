-- The ledger as after a later cycle, by what falls due between the two numbers.
use Prim.Native.Nat.{◌+◌, ◌-◌, ◌≤◌}
use native.Mathlib.Omega.{arith}
use Rattle.ledger.specs.Parts.{beat_as}
use Rattle.ledger.proofs.Closing.{past_le}
use Rattle.ledger.proofs.Moves.{number_by, counts_by, owed_fits, reached}
use Rattle.ledger.proofs.account.Account.moved_to.Goals as goal
use Rattle.ledger.proofs.account.Account.moved_to.Goals.{After-fallen-2}

pub overflow_add-m : goal.overflow_add-m
overflow_add-m c = omega (arith, number_by c.args.self.ledger, counts_by c.args.self.ledger c.args.to)

pub overflow_sub-result : goal.overflow_sub-result
overflow_sub-result c =
    let s = c.args.self in
    let e = past_le (beat_as s.beat) c.number_of-n.result s.ledger.owed (c.number_of-n.result + c.counted_to.result) s.beat.positive s.low (omega arith) in
    rw (c.fallen.ensures, c.fallen-2.ensures) e

-- what is added fits
fits : (c : After-fallen-2) → c.args.self.ledger.owed + (c.fallen.result - c.fallen-2.result) ≤ 17
fits c =
    let s = c.args.self in
    rw (c.fallen.ensures, c.fallen-2.ensures, c.number_of-n.ensures, c.counted_to.ensures)
    (owed_fits (beat_as s.beat) s.ledger s.beat.positive s.low c.args.to c.requires)

pub overflow_cast-result : goal.overflow_cast-result
overflow_cast-result c = omega (arith, fits c)

pub overflow_add-result : goal.overflow_add-result
overflow_add-result c = omega (arith, fits (goal.at.overflow_add-result c).After-fallen-2)

pub returns : goal.returns
returns c =
    let s = c.args.self in
    rw c.saturating_sub.ensures
    (reached (beat_as s.beat) s.ledger s.beat.positive s.low c.args.to c.requires _ _ _ _ c.number_of-n.ensures c.counted_to.ensures c.fallen.ensures c.fallen-2.ensures)
