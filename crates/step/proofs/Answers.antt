-- Answers, and what follows from their being refusals or none.
use mathlib.Core.Path.{◌≡◌, refl}
use mathlib.Core.Bool.{true}
use mathlib.Core.Option.{Option, none, some}
use Rattle.std.specs.Prelude.{Result, Ok, Err, Some, None, IsErr, IsErrAnd}
use Rattle.std.specs.Result.{result_ok}
use Rattle.rules.specs.Checks as checks
use Rattle.ledger.specs.Values as paid
use Rattle.ledger.specs.declared.Refusal as ledger
use Rattle.ledger.specs.Values.{is_none}
use Rattle.step.specs.declared.Refusal.{Refusal}
use Rattle.step.specs.Values.{refused_as, refusal_of}

pub none_so : (o : Option checks.Refusal) → is_none o ≡ true → o ≡ none
unfolding is_none
none_so none e = refl
none_so (some x) e = absurd cc

module _ {A : Type 0} (r : Result A Refusal) where
  -- of an answer that goes through, and of one that does not
  pub ok_none : (x : A) → r ≡ Ok x → refusal_of r ≡ none
  unfolding refusal_of
  ok_none x e = rw e

  pub err_some : (e : Refusal) → r ≡ Err e → refusal_of r ≡ some (refused_as e)
  unfolding refusal_of
  err_some x e = rw e

  -- told of another value, it is the same
  pub ok_same : {B : Type 0} (x : A) (z : B) → r ≡ Ok x → refusal_of {A = B} (Ok z) ≡ refusal_of r
  unfolding refusal_of
  ok_same x z e = rw e

  pub err_same : (B : Type 0) (x : Refusal) → r ≡ Err x → refusal_of {A = B} (Err x) ≡ refusal_of r
  unfolding refusal_of
  err_same B x e = rw e

  -- what `?` hands on of another answer
  pub handed_on : (x : Refusal) → IsErr r × IsErrAnd r (λ (e : Refusal). e ≡ x) → r ≡ Err x
  handed_on x h = go r h
    where
      go : (q : Result A Refusal) → IsErr q × IsErrAnd q (λ (e : Refusal). e ≡ x) → q ≡ Err x
      go (Ok u) k = absurd k.1
      go (Err e) k = rw k.1

  pub handed_told : (x : ledger.Refusal) → IsErr r × IsErrAnd r (λ (e : Refusal). refused_as e ≡ paid.refused_as x) → refusal_of r ≡ some (paid.refused_as x)
  unfolding refusal_of
  handed_told x h = go r h
    where
      go : (q : Result A Refusal) → IsErr q × IsErrAnd q (λ (e : Refusal). refused_as e ≡ paid.refused_as x) → refusal_of q ≡ some (paid.refused_as x)
      go (Ok u) k = absurd k.1
      go (Err e) k = rw k.1

-- of a result that is made an option
module _ {A E : Type 0} where
  pub ok_there : (r : Result A E) (x : A) → Some x ≡ result_ok r → r ≡ Ok x
  ok_there (Ok y) x e = cc
  ok_there (Err y) x e = absurd cc

  pub err_there : (r : Result A E) → None ≡ result_ok r → (y : E) × (r ≡ Err y)
  err_there (Ok y) e = absurd cc
  err_there (Err y) e = (y, refl)
