-- Nothing, or a run of entries with their lines.
use Rattle.std.proofs.Common.{length, sym, ◌∙◌, arith}
use Rattle.chunks.proofs.Bytes.{bytes_by}
use Rattle.chunks.proofs.Ranging.{small_by, ranged, asks, leapt_nowhere, leapt, lined_quiet, lined_loud}
use Rattle.chunks.proofs.State.leap.Goals as goal
use Rattle.chunks.proofs.State.leap.Goals.{then-quiet, else-quiet}

pub returns-then-not-may_come : goal.returns-then-not-may_come
returns-then-not-may_come c =
    let n = sym c.may_come.ensures ∙ c.if-not-may_come.true in
    leapt_nowhere _ _ _ _ (λ t. absurd cc)

pub returns-then-ran-eq0 : goal.returns-then-ran-eq0
returns-then-ran-eq0 c =
    let small = small_by c.args.self (omega arith) (omega arith) (omega arith) in
    let bytes = bytes_by c.args.bytes.now (λ i l. omega (arith, c.type_inv.bytes i)) in
    let comes = sym c.may_come.ensures ∙ c.if-not-may_come.false in
    let g = ranged _ _ (length c.args.out.now) _ _ comes bytes small c.most.ensures.1 in
    leapt_nowhere _ _ _ _ (λ t. g.stops c.most.ensures.0 (rw c.run-ran.ensures at c.if-ran-eq0.true))

pub put_lines-wrote-requires : goal.put_lines-wrote-requires
put_lines-wrote-requires c =
    let small = small_by c.args.self (omega arith) (omega arith) (omega arith) in
    let bytes = bytes_by c.args.bytes.now (λ i l. omega (arith, c.type_inv.bytes i)) in
    let comes = sym c.may_come.ensures ∙ c.if-not-may_come.false in
    let a = asks _ _ _ c.args.out.now (ranged _ _ _ _ _ comes bytes small c.most.ensures.1) c.most.ensures.1 in
    rw c.run-ran.ensures (a.0, a.1 c.if-quiet.false)

pub returns : goal.returns
returns c =
    let small = small_by c.args.self (omega arith) (omega arith) (omega arith) in
    let bytes = bytes_by c.args.bytes.now (λ i l. omega (arith, c.type_inv.bytes i)) in
    let comes = sym c.may_come.ensures ∙ c.if-not-may_come.false in
    let g = ranged _ _ (length c.args.out.now) _ _ comes bytes small c.most.ensures.1 in
    rw c.with.ensures
    (leapt _ _ _ _ (rw (← c.run-ran.ensures) at g) _ _ c.if-ran-eq0.false
    (elim c.if-quiet.branch [
      | then-quiet w ↦ lined_quiet _ _ _ _ _ _ _ w.if-quiet.true w.out-is w.wrote-is
      | else-quiet w ↦ lined_loud _ _ _ _ _ _ _ _ _ w.if-quiet.false w.out-is w.wrote-is w.put_lines-wrote.ensures
    ]))
