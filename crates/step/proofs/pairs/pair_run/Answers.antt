-- So much of the run was run, and as many entries as are left may follow.
use Prim.Native.Nat.{◌+◌, ◌-◌}
use native.Mathlib.Nat.{sub-zero}
use native.Mathlib.Omega.{arith}
use Rattle.step.proofs.Onward.{rest_of}
use Rattle.step.proofs.ByEntry.{along_start, along_done, along_ends, along_fits, along_next}
use Rattle.step.proofs.pairs.pair_run.Goals as goal

pub loop-init : goal.loop-init
loop-init c = rw (sub-zero c.args.most, c.start-ran.ensures) (along_start _ _ _ _ c.requires)

pub slice_bounds-one_entry-count : goal.slice_bounds-one_entry-count
slice_bounds-one_entry-count c = c.loop.invariant.within

pub one_entry-requires : goal.one_entry-requires
one_entry-requires c = c.loop.invariant.sound

pub returns-in_default : goal.returns-in_default
returns-in_default c = along_ends _ _ _ _ _ c.loop.invariant (rw (rest_of c.args.bytes.now c.loop.ran.used) at c.in_default.ensures)

pub then-ran-requires : goal.then-ran-requires
then-ran-requires c =
    along_fits _ _ _ _ _ c.loop.invariant _ (rw (rest_of c.args.bytes.now c.loop.ran.used) at c.in-Some.ensures) (omega arith)

pub loop-preserved : goal.loop-preserved
loop-preserved c =
    along_next _ _ _ _ _ c.loop.invariant _ (rw (rest_of c.args.bytes.now c.loop.ran.used) at c.in-Some.ensures) (c.args.most - (c.loop.counter + 1)) (omega arith) _
    c.then-ran.ensures

pub returns : goal.returns
returns c = along_done _ _ _ _ _ c.loop.invariant (omega arith)
