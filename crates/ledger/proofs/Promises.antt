-- The promise of each public function determines its answer and the ledger that it leaves.
use Prim.Native.Nat.{ℕ, ◌≤◌, ◌<◌}
use mathlib.Core.Path.{◌≡◌, refl, ap, sym, ◌∙◌}
use mathlib.Core.Logic.{⊎_elim}
use mathlib.Core.Bool.{true, false, cond}
use Rattle.std.specs.Prelude.{Result, Ok, Err}
use mathlib.Core.Option.{Option, none, some}
use native.Mathlib.Omega.{arith}
use lib.Dec.{ltb, eqb}
use lib.IntN.{sub_ℕ}
use Rattle.rules.specs.Checks.{refusal}
use Rattle.rules.specs.Checks as checks
use Rattle.rules.specs.Lent as lent
use Rattle.rules.proofs.Tests.{lt_cases}
use Rattle.rules.proofs.Determined.{tells, Promise, Determined, determined, fact_of}
use Rattle.pins.specs.Values.{level_of}
use Rattle.pins.specs.declared.Level.{Level}
use Rattle.pins.specs.declared.Level.TheVariants.{Awake, PowerDown, SelfRefresh, Deep}
use Rattle.ledger.specs.declared.Ledger.{Ledger}
use Rattle.ledger.specs.declared.Pace.{Pace}
use Rattle.ledger.specs.declared.Refusal.{Refusal}
use Rattle.ledger.specs.declared.Refusal.TheVariants.{BadRecord, Earlier, Overdue}
use Rattle.ledger.specs.declared.After.{After}
use Rattle.ledger.specs.Values.{ledger_of, pace_of, stored, level_in, code_of, pace_in, refusal_of, Left}
use Rattle.ledger.specs.contracts.calls.moved as moved
use Rattle.ledger.specs.contracts.calls.entered as entered
use Rattle.ledger.specs.contracts.calls.deadline as deadline
use Rattle.ledger.specs.contracts.moving.number_of as number_of
use Rattle.ledger.specs.contracts.pacing.first_pace as first_pace
use Rattle.ledger.specs.contracts.pacing.respaced as respaced
use Rattle.ledger.specs.contracts.move_on as move_on

-- the case that has these numbers
abbrev answer_of : Option checks.Refusal → Result (Unit {0}) Refusal
answer_of none = Ok tt
answer_of (some x) = Err (cond (eqb x.number 13) BadRecord (cond (eqb x.number 5) Earlier (Overdue x.rule x.cycle)))

answer_is : (y : Result (Unit {0}) Refusal) → answer_of (refusal_of y) ≡ y
unfolding refusal_of refusal
answer_is (Ok x) = refl
answer_is (Err BadRecord) = refl
answer_is (Err Earlier) = refl
answer_is (Err (Overdue q t)) = refl

pub stored_is : (x : ℕ) → stored (sub_ℕ x 8) ≡ x
unfolding stored
stored_is x = ⊎_elim
    (λ (p : (x < 8) × (ltb x 8 ≡ true)). rw p.1 (omega arith))
    (λ (p : (8 ≤ x) × (ltb x 8 ≡ false)). rw p.1 (omega arith))
    (lt_cases x 8)

pub level_is : (l : Level) → level_in (level_of l) ≡ l
unfolding level_in level_of
level_is Awake = refl
level_is PowerDown = refl
level_is SelfRefresh = refl
level_is Deep = refl

pub code_is : (g : Ledger) → code_of (ledger_of g) ≡ g
unfolding ledger_of code_of
code_is g = λ i. record { at = g.at; owed = stored_is g.owed i; since = g.since; skipped = g.skipped; level = level_is g.level i }

pub pace_is : (p : Pace) → pace_in (pace_of p) ≡ p
unfolding pace_of pace_in
pace_is p = refl

-- two that are told and left so are one
pub one_left : (o : Option checks.Refusal) (old new : lent.Ledger) (r s : After) → Left o old new r → Left o old new s → r ≡ s
one_left o old new r s p q =
    let a : r.answer ≡ s.answer = tells refusal_of answer_of answer_is r.answer s.answer p.told q.told in
    let g : r.ledger ≡ s.ledger = tells ledger_of code_of code_is r.ledger s.ledger p.ledger q.ledger in
    λ i. record { ledger = g i; answer = a i }

abbrev moved_says : Promise moved.ended
moved_says w = moved.clauses w.𝓛 w.𝓜.mem w.𝓡.run

pub moved_determined : Determined moved.ended moved_says
moved_determined = determined moved.ended moved_says (λ κs a r e. fact_of _) (λ κs a r r' ws ws' p p'. (one_left _ _ _ r r' p p', refl))

abbrev entered_says : Promise entered.ended
entered_says w = entered.clauses w.𝓛 w.𝓜.mem w.𝓡.run

pub entered_determined : Determined entered.ended entered_says
entered_determined = determined entered.ended entered_says (λ κs a r e. fact_of _) (λ κs a r r' ws ws' p p'. (one_left _ _ _ r r' p p', refl))

abbrev deadline_says : Promise deadline.ended
deadline_says w = deadline.clauses w.𝓛 w.𝓜.mem w.𝓡.run

pub deadline_determined : Determined deadline.ended deadline_says
deadline_determined = determined deadline.ended deadline_says (λ κs a r e. fact_of _) (λ κs a r r' ws ws' p p'. (p ∙ sym p', refl))

abbrev number_of_says : Promise number_of.ended
number_of_says w = number_of.clauses w.𝓛 w.𝓜.mem w.𝓡.run

pub number_of_determined : Determined number_of.ended number_of_says
number_of_determined = determined number_of.ended number_of_says (λ κs a r e. fact_of _) (λ κs a r r' ws ws' p p'. (p ∙ sym p', refl))

abbrev first_pace_says : Promise first_pace.ended
first_pace_says w = first_pace.clauses w.𝓛 w.𝓜.mem w.𝓡.run

pub first_pace_determined : Determined first_pace.ended first_pace_says
first_pace_determined = determined first_pace.ended first_pace_says (λ κs a r e. fact_of _) (λ κs a r r' ws ws' p p'. (tells pace_of pace_in pace_is r r' p p', refl))

abbrev respaced_says : Promise respaced.ended
respaced_says w = respaced.clauses w.𝓛 w.𝓜.mem w.𝓡.run

pub respaced_determined : Determined respaced.ended respaced_says
respaced_determined = determined respaced.ended respaced_says (λ κs a r e. fact_of _) (λ κs a r r' ws ws' p p'. (tells pace_of pace_in pace_is r r' p p', refl))

abbrev move_on_says : Promise move_on.ended
move_on_says w = move_on.clauses w.𝓛 w.𝓜.mem w.𝓡.run

pub move_on_determined : Determined move_on.ended move_on_says
move_on_determined =
    determined move_on.ended move_on_says (λ κs a r e. fact_of _)
    (λ κs a r r' ws ws' p p'. let e = one_left _ _ _ _ _ p p' in (ap (λ (x : After). x.answer) e, λ i. ((e i).ledger, (tt, (tt, (tt, tt))))))
