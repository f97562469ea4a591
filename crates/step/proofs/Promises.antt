-- The promise of each public function determines its answer and the record that it leaves; and what those of `step`, `sense` and `run` claim.
use mathlib.Core.Path.{◌≡◌, refl, ap, sym, ◌∙◌}
use mathlib.Core.Bool.{cond}
use mathlib.Core.Option.{Option, none, some}
use lib.Dec.{eqb}
use Rattle.rules.specs.Entries.{Entry}
use Rattle.std.specs.Prelude.{Result, Ok, Err}
use Rattle.rules.specs.Checks.{refusal}
use Rattle.rules.specs.Checks as checks
use Rattle.rules.proofs.Determined.{tells, Promise, Plainly, Determined, determined, fact_of}
use Rattle.ledger.specs.Values as paid
use Rattle.ledger.proofs.Promises.{code_is}
use Rattle.bank.specs.declared.Ledgers.{Ledgers}
use Rattle.bank.specs.declared.Record.{Record}
use Rattle.bank.specs.Both.{ledgers_in, ledgers_as}
use Rattle.step.specs.declared.Refusal.{Refusal}
use Rattle.step.specs.declared.Refusal.TheVariants.{BadRecord, Early, Overdue, WrongBits, Clash, Reserved, State, Barred, Value, Code, TooSoon}
use Rattle.step.specs.declared.Stepped.{Stepped}
use Rattle.step.specs.Values.{refused_as, refusal_of, record_by, Left}
use Rattle.step.specs.contracts.account.RefusalFromLedgerRefusal.from as from
use Rattle.step.specs.contracts.account.as_told as as_told
use Rattle.step.specs.contracts.reading.RefusalFromUndecoded.from as undecoded
use Rattle.step.specs.contracts.offering.step as step
use Rattle.step.specs.contracts.offering.sense as sense
use Rattle.step.specs.contracts.turns.run as run

-- the case that has these numbers
abbrev numbered : checks.Refusal → Refusal
numbered x =
    cond (eqb x.number 13) BadRecord (
    cond (eqb x.number 5) Early (
    cond (eqb x.number 11) (Overdue x.rule x.cycle) (
    cond (eqb x.number 6) WrongBits (
    cond (eqb x.number 24) Clash (
    cond (eqb x.number 7) Reserved (
    cond (eqb x.number 8) State (
    cond (eqb x.number 16) Barred (
    cond (eqb x.number 9) Value (
    cond (eqb x.number 26) Code (TooSoon x.rule x.cycle))))))))))

numbered_is : (e : Refusal) → numbered (refused_as e) ≡ e
unfolding refusal
numbered_is BadRecord = refl
numbered_is Early = refl
numbered_is (Overdue q t) = refl
numbered_is WrongBits = refl
numbered_is Clash = refl
numbered_is Reserved = refl
numbered_is State = refl
numbered_is Barred = refl
numbered_is Value = refl
numbered_is Code = refl
numbered_is (TooSoon q t) = refl

abbrev answer_of : Option checks.Refusal → Result (Unit {0}) Refusal
answer_of none = Ok tt
answer_of (some x) = Err (numbered x)

answer_is : (y : Result (Unit {0}) Refusal) → answer_of (refusal_of y) ≡ y
unfolding refusal_of
answer_is (Ok u) = refl
answer_is (Err e) = ap (λ (x : Refusal). Err x) (numbered_is e)

-- two answers with the same numbers are one
one_answer : {z : Option checks.Refusal} (x y : Result (Unit {0}) Refusal) → refusal_of x ≡ z → refusal_of y ≡ z → x ≡ y
one_answer = tells refusal_of answer_of answer_is

pub one_refusal : {z : checks.Refusal} (x y : Refusal) → refused_as x ≡ z → refused_as y ≡ z → x ≡ y
one_refusal = tells refused_as numbered numbered_is

-- two that are told and left so are one
pub one_stepped : (o : Option checks.Refusal) (rec : Record) (e : Entry) (r s : Stepped) → Left o rec e r → Left o rec e s → r ≡ s
unfolding ledgers_in
one_stepped o rec e r s p q =
    let a : r.answer ≡ s.answer = one_answer r.answer s.answer p.told q.told in
    let first : r.rec.first.ledger ≡ s.rec.first.ledger = tells paid.ledger_of paid.code_of code_is _ _ p.first q.first in
    let second : r.rec.second.ledger ≡ s.rec.second.ledger = tells paid.ledger_of paid.code_of code_is _ _ p.second q.second in
    let g : ledgers_in r.rec ≡ ledgers_in s.rec = (λ i. ledgers_as (first i) (second i)) in
    let after : Ledgers → Record = λ z. paid.unless_refused o rec (record_by rec e z) in
    let x : r.rec ≡ s.rec = p.is ∙ ap after g ∙ sym q.is in
    λ i. record { rec = x i; answer = a i }

abbrev pub step_says : Promise step.ended
step_says w = step.clauses w.𝓛 w.𝓜.mem w.𝓡.run

abbrev pub step_claims : Plainly step.ended step_says
step_claims κs a r e = fact_of _

pub step_determined : Determined step.ended step_says
step_determined = determined step.ended step_says step_claims (λ κs a r r' ws ws' p p'. (one_stepped _ _ _ r r' p p', refl))

abbrev pub sense_says : Promise sense.ended
sense_says w = sense.clauses w.𝓛 w.𝓜.mem w.𝓡.run

abbrev pub sense_claims : Plainly sense.ended sense_says
sense_claims κs a r e = fact_of _

pub sense_determined : Determined sense.ended sense_says
sense_determined = determined sense.ended sense_says sense_claims (λ κs a r r' ws ws' p p'. (one_stepped _ _ _ r r' p p', refl))

abbrev as_told_says : Promise as_told.ended
as_told_says w = as_told.clauses w.𝓛 w.𝓜.mem w.𝓡.run

pub as_told_determined : Determined as_told.ended as_told_says
as_told_determined = determined as_told.ended as_told_says (λ κs a r e. fact_of _) (λ κs a r r' ws ws' p p'. (one_answer r r' p p', refl))

abbrev from_says : Promise from.ended
from_says w = from.clauses w.𝓛 w.𝓜.mem w.𝓡.run

pub from_determined : Determined from.ended from_says
from_determined = determined from.ended from_says (λ κs a r e. fact_of _) (λ κs a r r' ws ws' p p'. (one_refusal r r' p p', refl))

abbrev undecoded_says : Promise undecoded.ended
undecoded_says w = undecoded.clauses w.𝓛 w.𝓜.mem w.𝓡.run

pub undecoded_determined : Determined undecoded.ended undecoded_says
undecoded_determined = determined undecoded.ended undecoded_says (λ κs a r e. fact_of _) (λ κs a r r' ws ws' p p'. (p ∙ sym p', refl))

abbrev pub run_says : Promise run.ended
run_says w = run.clauses w.𝓛 w.𝓜.mem w.𝓡.run

abbrev pub run_claims : Plainly run.ended run_says
run_claims κs a r e = fact_of _

pub run_determined : Determined run.ended run_says
run_determined = determined run.ended run_says run_claims (λ κs a r r' ws ws' p p'. (p ∙ sym p', refl))
