use Rattle.std.proofs.Common.{◌≡◌, ◌+◌, ◌<◌, ◌++◌, length, set, drop, sym, ap, ◌∙◌, arith}
use Rattle.rules.specs.Lines.{decimal}
use Rattle.lines.proofs.Decimals.{all_ahead, some_digit, digit_back, digit_first}
use Rattle.lines.proofs.numbers.put_number.Goals as goal

pub loop-i-init : goal.loop-i-init
loop-i-init c =
    let e = c.digits-size.ensures in
    let all = all_ahead c.digits-size.result c.args.x e in
    record { some = omega (arith, some_digit c.args.x); left = ap length all ∙ sym e; there = rw (all, e) }

pub loop-i-preserved : goal.loop-i-preserved
loop-i-preserved c =
    let l = c.loop-i in
    let more = digit_back l.i l.rest l.out _ (omega arith) (omega arith) l.invariant.left l.invariant.there in
    record { some = omega arith; left = more.0; there = more.1 }

-- behind the loop the first digit is left
first : (c : goal.After-loop-i) → (c.loop-i.rest < 10) × (set c.loop-i.out 0 (48 + c.loop-i.rest) ≡ decimal c.args.x ++ drop (length (decimal c.args.x)) c.args.out.now)
first c =
    let l = c.loop-i in
    let one : l.i ≡ 1 = omega (arith, l.invariant.some) in
    digit_first l.rest l.out _ (omega (arith, some_digit c.args.x)) (rw one at l.invariant.left) (rw one at l.invariant.there)

pub overflow_cast-out-2 : goal.overflow_cast-out-2
overflow_cast-out-2 c = omega (arith, (first c).0)

pub overflow_add-out-2 : goal.overflow_add-out-2
overflow_add-out-2 c = omega (arith, (first c).0)

pub bounds-out-0 : goal.bounds-out-0
bounds-out-0 c = omega (arith, some_digit c.args.x)

pub returns : goal.returns
returns c = record { count = c.digits-size.ensures; fits = omega arith; memory = (first c).1 }
