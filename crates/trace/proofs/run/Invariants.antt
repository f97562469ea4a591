use Rattle.std.proofs.Common.{◌≡◌, ℕ, List, length}
use Rattle.trace.specs.Standing.{Went, Fits}
use Rattle.trace.proofs.run.Given as goal

-- `seen` is what the turns so far have read, `text` what they have put
abbrev pub invariant-loop : goal.invariant-loop
invariant-loop g l =
    (length l.buf ≡ 65536) × (length l.out ≡ 65536) × Fits l.at 65536 × ((seen : List ℕ) × (text : List ℕ) × Went l.quiet l.at l.buf seen text)
