-- The whole run stays what it is at the start, turn by turn; the measure is what is left of the bytes.
use mathlib.Core.Path.{refl, ap}
use native.Mathlib.Omega.{arith}
use Rattle.bank.proofs.Sizes.{ShareWhole}
use Rattle.step.specs.declared.Ran.{Ran}
use Rattle.step.specs.declared.single.Single.{Single}
use Rattle.step.proofs.Onward.{rest_of}
use Rattle.step.proofs.Turning.{Turned, quick_fits, quick_then, table_fits, table_then, table_ends, whole_ends, turned, turns_begin, turns_end}
use Rattle.step.proofs.turns.single_run.Goals as goal
use Rattle.step.proofs.turns.single_run.Goals.{After-start-ran, After-then-ran}

-- the arrays of a record have their lengths
arrays : (c : After-start-ran) → ShareWhole c.args.rec.share
arrays c = record {
  opened = omega arith;
  refpb = record { seen = omega arith; at = omega arith };
  pre = record { seen = omega arith; at = omega arith };
  act = record { seen = omega arith; at = omega arith };
  rd = record { seen = omega arith; at = omega arith };
  rda = record { seen = omega arith; at = omega arith };
  wr = record { seen = omega arith; at = omega arith; modes = omega arith };
  wra = record { seen = omega arith; at = omega arith; modes = omega arith };
}

-- behind the quick run
between : (c : After-then-ran) → Turned c.args.delays c.args.bytes.now c.args.most c.args.rec c.then-ran.result
between c =
    let t = c.loop-ran.invariant in
    turned t (rw c.then-ran.ensures (quick_then _ _ _ _ t.so_far t.arrays (omega arith) _ c.quick_run-quick.ensures))

pub loop-ran-init : goal.loop-ran-init
loop-ran-init c = rw c.start-ran.ensures (turns_begin _ _ _ _ c.requires (arrays c))

pub slice_bounds-quick_run-count : goal.slice_bounds-quick_run-count
slice_bounds-quick_run-count c = c.loop-ran.invariant.so_far.within

pub overflow_sub-most : goal.overflow_sub-most
overflow_sub-most c =
    let s = c.loop-ran.invariant.so_far in
    omega (arith, s.used, s.few)

pub then-ran-requires : goal.then-ran-requires
then-ran-requires c =
    let t = c.loop-ran.invariant in
    quick_fits _ _ _ _ t.so_far t.arrays (omega arith) _ c.quick_run-quick.ensures

pub returns-then-most-ran : goal.returns-then-most-ran
returns-then-most-ran c =
    let t = between (goal.at.returns-then-most-ran c).After-then-ran in
    turns_end t (whole_ends _ _ _ c.if-most-ran.true)

pub slice_bounds-by_table-count : goal.slice_bounds-by_table-count
slice_bounds-by_table-count c = (between (goal.at.slice_bounds-by_table-count c).After-then-ran).so_far.within

pub slice_bounds-by_table-start : goal.slice_bounds-by_table-start
slice_bounds-by_table-start c = omega (arith, (between (goal.at.slice_bounds-by_table-start c).After-then-ran).so_far.within)

pub by_table-requires : goal.by_table-requires
by_table-requires c = (between (goal.at.by_table-requires c).After-then-ran).so_far.sound

pub returns-in_default : goal.returns-in_default
returns-in_default c =
    let t = between (goal.at.returns-in_default c).After-then-ran in
    turns_end t (table_ends _ _ _ (rw (rest_of c.args.bytes.now c.then-ran.result.used) at c.in_default.ensures))

pub then-ran-requires-in-loop-ran : goal.then-ran-requires-in-loop-ran
then-ran-requires-in-loop-ran c =
    let t = between (goal.at.then-ran-requires-in-loop-ran c).After-then-ran in
    table_fits _ _ _ _ t.so_far t.arrays (omega arith) c.if-most-ran.false _ (rw (rest_of c.args.bytes.now c.then-ran.result.used) at c.in-Some.ensures)

-- and behind one entry by the table
pub loop-ran-smaller : goal.loop-ran-smaller
loop-ran-smaller c =
    let t = between (goal.at.loop-ran-smaller c).After-then-ran in
    let one = rw (rest_of c.args.bytes.now c.then-ran.result.used) at c.in-Some.ensures in
    let j = table_then _ _ _ _ t.so_far t.arrays (omega arith) c.if-most-ran.false _ one in
    let u = ap (λ (g : Ran Single). g.used) c.then-ran.ensures in
    let v = ap (λ (g : Ran Single). g.used) c.then-ran-in-loop-ran.ensures in
    omega (arith, j.so_far.within, one.ten _ refl, u, v)

pub loop-ran-preserved : goal.loop-ran-preserved
loop-ran-preserved c =
    let t = between (goal.at.loop-ran-preserved c).After-then-ran in
    turned t
    (rw c.then-ran-in-loop-ran.ensures
    (table_then _ _ _ _ t.so_far t.arrays (omega arith) c.if-most-ran.false _ (rw (rest_of c.args.bytes.now c.then-ran.result.used) at c.in-Some.ensures)))
