-- The round counter of the code, below 8, is that of the rules.
use Prim.Native.Nat.{ℕ, ◌≤◌}
use mathlib.Core.Path.{◌≡◌}
use mathlib.Core.Bool.{true, false}
use mathlib.Core.Logic.{⊎_elim}
use native.Mathlib.Omega.{arith}
use lib.Dec.{eqb}
use borrow.Author.Tests.{le-leb, lt-leb}
use Rattle.rules.specs.Commands.{Command}
use Rattle.rules.specs.Levels.{Move}
use Rattle.rules.specs.Past.{counter_after}
use Rattle.rules.proofs.Tests.{eq_cases}
use Rattle.pins.specs.Counter.{counter_on}

pub counter_on_lem : (c : Command) (m : Move) (n : ℕ) → n ≤ 7 → counter_on c m n ≡ counter_after c m n
unfolding counter_on counter_after
counter_on_lem c m n h =
    ⊎_elim (λ (p : (n ≡ 7) × (eqb n 7 ≡ true)). rw (p.1, le-leb 7 n (omega arith)))
    (λ (p : (n ≡ 7 → ⊥) × (eqb n 7 ≡ false)). rw (p.1, lt-leb 7 n (omega arith)))
    (eq_cases n 7)
