-- The promise of each public function determines its answer.
use mathlib.Core.Path.{◌≡◌, refl, sym, ◌∙◌}
use Rattle.std.specs.Prelude as rust
use Rattle.std.specs.Prelude.{None, Some}
use mathlib.Core.Option.{Option, none, some}
use Rattle.rules.specs.Checks.{Refusal, refusal}
use Rattle.rules.proofs.Determined.{tells, Promise, Determined, determined, fact_of}
use Rattle.bounds.specs.Values.{refusal_of}
use Rattle.bounds.specs.declared.Broken.{Broken}
use Rattle.bounds.specs.contracts.folds.first_broken as first_broken
use Rattle.bounds.specs.contracts.folds.first_cycle as first_cycle

broken_in : Option Refusal → rust.Option Broken
broken_in none = None
broken_in (some x) = Some (record { rule = x.rule; cycle = x.cycle })

back : (r : rust.Option Broken) → broken_in (refusal_of r) ≡ r
unfolding broken_in refusal_of refusal
back None = refl
back (Some b) = refl

-- answers with the same numbers are one
one_broken : {z : Option Refusal} (x y : rust.Option Broken) → refusal_of x ≡ z → refusal_of y ≡ z → x ≡ y
one_broken = tells refusal_of broken_in back

abbrev first_broken_says : Promise first_broken.ended
first_broken_says w = first_broken.clauses w.𝓛 w.𝓜.mem w.𝓡.run

pub first_broken_determined : Determined first_broken.ended first_broken_says
first_broken_determined =
    determined first_broken.ended first_broken_says (λ κs a r e. fact_of _) (λ κs a r r' ws ws' p p'. (one_broken r r' p p', refl))

abbrev first_cycle_says : Promise first_cycle.ended
first_cycle_says w = first_cycle.clauses w.𝓛 w.𝓜.mem w.𝓡.run

pub first_cycle_determined : Determined first_cycle.ended first_cycle_says
first_cycle_determined =
    determined first_cycle.ended first_cycle_says (λ κs a r e. fact_of _) (λ κs a r r' ws ws' p p'. (p ∙ sym p', refl))
