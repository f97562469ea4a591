-- The promise of the judge determines its verdict; and what it claims of one.
use mathlib.Core.Path.{◌≡◌, refl, sym, ◌∙◌}
use mathlib.Core.List.{[], ◌∷◌}
use Rattle.rules.specs.File.{FileVerdict, accepted, refused}
use Rattle.rules.proofs.Determined.{tells, Promise, Plainly, Determined, determined, fact_of}
use Rattle.ledger.specs.Values.{stored}
use Rattle.ledger.proofs.Promises.{stored_is}
use Rattle.lines.specs.declared.Owed.TheVariants.{One, Two}
use Rattle.lines.specs.Values.{ledgers_of}
use Rattle.chunks.specs.declared.Verdict.{Verdict}
use Rattle.chunks.specs.declared.Verdict.TheVariants.{Accepted, Refused}
use Rattle.chunks.specs.Values.{verdict_of}
use Rattle.judge.specs.contracts.judge as judge

-- ---- no two verdicts read as one
code_for : FileVerdict → Verdict
code_for (accepted m n []) = Accepted m n (One 0)
code_for (accepted m n (l ∷ [])) = Accepted m n (One (stored l))
code_for (accepted m n (l ∷ k ∷ ls)) = Accepted m n (Two (stored l) (stored k))
code_for (refused k q at t) = Refused k q at t

code_for_lem : (r : Verdict) → code_for (verdict_of r) ≡ r
unfolding verdict_of ledgers_of code_for
code_for_lem (Accepted m n (One a)) = rw (stored_is a)
code_for_lem (Accepted m n (Two a b)) = rw (stored_is a, stored_is b)
code_for_lem (Refused k q at t) = refl

pub one_reading : (r s : Verdict) → verdict_of r ≡ verdict_of s → r ≡ s
one_reading r s e = tells verdict_of code_for code_for_lem r s e refl

-- ---- the promise
abbrev pub judge_says : Promise judge.ended
judge_says w = judge.clauses w.𝓛 w.𝓜.mem w.𝓡.run

abbrev pub judge_claims : Plainly judge.ended judge_says
judge_claims κs a r e = fact_of _

pub judge_determined : Determined judge.ended judge_says
judge_determined = determined judge.ended judge_says judge_claims (λ κs a r r' ws ws' p p'. (one_reading r r' (p ∙ sym p'), refl))
