-- What is told of a check, and that a refusal which is handed on by `?` is told as it was.
use Prim.Native.Nat.{ℕ}
use mathlib.Core.Path.{◌≡◌, sym}
use mathlib.Core.Option.{Option, none, some}
use Rattle.std.specs.Prelude.{Result, Ok, Err}
use Rattle.std.specs.Result.{IsErrAnd}
use Rattle.std.proofs.lemmas.Result.{err_from_is_err_and}
use Rattle.rules.specs.Checks.{named}
use Rattle.rules.specs.Checks as checks
use Rattle.ledger.specs.declared.Refusal.{Refusal}
use Rattle.ledger.specs.declared.Refusal.TheVariants.{Overdue}
use Rattle.ledger.specs.Values.{refusal_of, refused_as}
use Rattle.ledger.specs.Parts.{Checked}

-- what is told where a rule fails, and where none does
pub told_some : (o : Option (ℕ × ℕ)) (q t u : ℕ) → o ≡ some (q, u) → t ≡ u → refusal_of (Err (Overdue q t)) ≡ named 11 o
unfolding refusal_of named
told_some o q t u e f = rw (e, f)

pub told_none : (o : Option (ℕ × ℕ)) → o ≡ none → refusal_of (Ok tt) ≡ named 11 o
unfolding refusal_of named
told_none o e = rw e

pub nothing_so : (o : Option checks.Refusal) → refusal_of (Ok tt) ≡ o → o ≡ none
unfolding refusal_of
nothing_so o h = sym h

pub refused_so : (o : Option checks.Refusal) (e : Refusal) → refusal_of (Err e) ≡ o → o ≡ some (refused_as e)
unfolding refusal_of
refused_so o e h = sym h

pub passed_on : {A : Type 0} (o : Option checks.Refusal) (P : A → Type 0) (r : Result A Refusal) (e : Refusal) → IsErrAnd r (λ y. y ≡ e) →
    o ≡ some (refused_as e) → Checked o P r
passed_on o P r e i h = let p = err_from_is_err_and r i in rw (p.1, p.2) h
