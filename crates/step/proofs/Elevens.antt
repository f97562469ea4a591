-- Of what the accounts of all parts are refused with, 13, 5 and 11 below the stamp come before the pins and 11 at the stamp behind all: the two 11 are told apart by the cycle.
use Prim.Native.Nat.{ℕ}
use mathlib.Core.Path.{◌≡◌, refl, sym, ◌∙◌}
use mathlib.Core.Bool.{Bool, true, false, ◌&&◌}
use mathlib.Core.List.{[], ◌∷◌, map}
use mathlib.Core.Option.{Option, none, some}
use native.Mathlib.Omega.{arith}
use borrow.Author.Tests.{le-leb, lt-leb}
use Rattle.rules.specs.Lists.{all}
use Rattle.rules.specs.Whose.{parts}
use Rattle.rules.specs.Folds.{or_else, first_of}
use Rattle.rules.specs.Checks.{Refusal, refusal, unless, named}
use Rattle.rules.specs.Lent.{Lent, beat_of, above_last, not_behind, Effect, entered, failing_of, failings_to, ledger_good, enter_refusal}
use Rattle.rules.proofs.Tests.{some_none}
use Rattle.rules.proofs.Decided.{or_none}
use Rattle.bank.specs.Both.{told_of}
use Rattle.bank.proofs.Elevens.{Below, There, below_any, here_any}
use Rattle.bank.proofs.Accounts.{told_both}
use Rattle.step.specs.Parts.{opening_refusal, opening_of}

-- 13, 5 and 11 below the stamp, of all that is told
told_opening : (good late rises : Bool) (t : ℕ) (before at : Option (ℕ × ℕ)) → Below t before → There t at →
    opening_of rises t (first_of (unless good 13 ∷ unless late 5 ∷ named 11 before ∷ named 11 at ∷ []))
    ≡ first_of (unless good 13 ∷ unless (rises && late) 5 ∷ named 11 before ∷ [])
unfolding opening_of first_of or_else unless named refusal
told_opening false late rises t before at b a = refl
told_opening true false true t before at b a = refl
told_opening true false false t before at b a = refl
told_opening true true true t (some x) at b a = rw (lt-leb t x.1 (b x refl))
told_opening true true false t (some x) at b a = refl
told_opening true true true t none (some y) b a = let h = a y refl in rw (le-leb t y.1 (omega arith))
told_opening true true false t none (some y) b a = refl
told_opening true true true t none none b a = refl
told_opening true true false t none none b a = refl

-- where they are not given, 11 at the stamp is what is told
told_here : (good late rises : Bool) (before at : Option (ℕ × ℕ)) → first_of (unless good 13 ∷ unless (rises && late) 5 ∷ named 11 before ∷ []) ≡ none →
    first_of (unless good 13 ∷ unless late 5 ∷ named 11 before ∷ named 11 at ∷ []) ≡ named 11 at
unfolding first_of or_else unless named
told_here false late rises before at e = absurd (some_none (sym e))
told_here true false true before at e = absurd (some_none (sym e))
told_here true false false before at e = absurd (some_none (sym e))
told_here true true false before at e = absurd (some_none (sym e))
told_here true true true (some x) at e = absurd (some_none (sym e))
told_here true true true none at e = or_none (named 11 at)

-- of a record, where the entry does this to each part's ledger
module _ (l : Lent) (t : ℕ) (x : ℕ → Effect) where
  abbrev pub told_by : Option Refusal
  told_by = told_of l.card.paired (enter_refusal (x 0) l.card l.pace (l.share 0).ledger t) (enter_refusal (x 1) l.card l.pace (l.share 1).ledger t)

  abbrev failing_at : Option (ℕ × ℕ)
  failing_at = first_of (map (λ p. failing_of (beat_of l.card l.pace) (entered (x p) (beat_of l.card l.pace) (l.share p).ledger t)) (parts l.card))

  abbrev good : Bool
  good = all (λ p. ledger_good l.card (l.share p).ledger) (parts l.card)

  pub opening_is : opening_of (above_last l.last t) t told_by ≡ opening_refusal l t
  unfolding opening_refusal
  opening_is = rw (told_both l t x) (told_opening good (not_behind l t) (above_last l.last t) t (failings_to l t) failing_at (below_any l t) (here_any l t x))

  pub here_is : opening_refusal l t ≡ none → told_by ≡ named 11 failing_at
  unfolding opening_refusal
  here_is n = told_both l t x ∙ told_here good (not_behind l t) (above_last l.last t) (failings_to l t) failing_at n
