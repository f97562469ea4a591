use Rattle.std.proofs.Common.{◌≡◌}
use Rattle.std.specs.Slice.Iter.{iter_rest}
use Rattle.std.specs.Iterator.Adapters.{zip_first, zip_second}
use Rattle.bounds.specs.Parts.{broken_from}
use Rattle.bounds.proofs.Folded.{broken_of}
use Rattle.bounds.proofs.folds.broken.Given as goal

-- the rules that are left are still to be asked
abbrev pub invariant-loop-rule : goal.invariant-loop-rule
invariant-loop-rule l = broken_from 0 l.fn.bounds l.stamp ≡ broken_of (iter_rest (zip_first l.rule-iterator)) (iter_rest (zip_second l.rule-iterator)) l.stamp
