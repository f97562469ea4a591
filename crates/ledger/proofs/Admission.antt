-- 13 and 5, which every question about a lent ledger begins with, and what a caller is told in the end.
use Prim.Native.Nat.{ℕ, suc, ◌+◌, ◌≤◌, ◌<◌}
use mathlib.Core.Path.{◌≡◌, refl, ap, sym, ◌∙◌}
use mathlib.Core.Bool.{Bool, true, false, ◌&&◌}
use mathlib.Core.List.{List, ◌∷◌}
use mathlib.Core.Option.{Option, none, some}
use Rattle.std.specs.Prelude.{Result, Ok, Err}
use native.Mathlib.Omega.{arith}
use lib.Dec.{leb}
use borrow.Author.Tests.{le-leb, lt-leb, leb-true}
use Rattle.rules.specs.Card.{Card}
use Rattle.rules.specs.Folds.{or_else, first_of}
use Rattle.rules.specs.Account.{Beat}
use Rattle.rules.specs.Checks.{refusal, unless, named}
use Rattle.rules.specs.Checks as checks
use Rattle.rules.specs.Ranges.{card_good}
use Rattle.rules.specs.Lent.{number_of, since_good, ledger_good}
use Rattle.rules.specs.Lent as lent
use Rattle.rules.proofs.Tests.{both_true}
use Rattle.rules.proofs.Decided.{or_none, or_assoc, unless_none}
use Rattle.rules.proofs.Taken.{owing_biased}
use Rattle.ledger.specs.declared.Refusal.{Refusal}
use Rattle.ledger.specs.declared.Ledger as code
use Rattle.ledger.specs.declared.account.Account.{Account}
use Rattle.ledger.specs.Values.{ledger_of, refusal_of, unless_refused, Left}
use Rattle.ledger.specs.Parts.{beat_as, Checked, Opened, admission, after_of}

module _ (card : Card) (g : lent.Ledger) (t : ℕ) where
  pub not_good : (x : checks.Refusal) → unless (ledger_good card g) 13 ≡ some x → admission card g t ≡ some x
  unfolding admission first_of or_else
  not_good x e = rw e

  pub too_early : unless (ledger_good card g) 13 ≡ none → t < g.at → admission card g t ≡ some (refusal 5 0 0)
  unfolding admission first_of or_else unless
  too_early e h = rw (unless_none _ _ e, lt-leb g.at t h)

  pub in_order : unless (ledger_good card g) 13 ≡ none → g.at ≤ t → admission card g t ≡ none
  unfolding admission first_of or_else unless
  in_order e h = rw (unless_none _ _ e, le-leb g.at t h)

  -- the checks that begin with the two
  pub admission_first : (rest : List (Option checks.Refusal)) →
      first_of (unless (ledger_good card g) 13 ∷ unless (leb g.at t) 5 ∷ rest) ≡ or_else (admission card g t) (first_of rest)
  unfolding admission first_of
  admission_first rest = sym (or_assoc _ _ _) ∙ ap (λ z. or_else z (first_of rest)) (ap (or_else _) (sym (or_none _)))

-- what an account answers is what is told of the ledger
checked_so : {A : Type 0} (o u : Option checks.Refusal) (P Q : A → Type 0) (r : Result A Refusal) → u ≡ o → ((x : A) → P x → Q x) → Checked o P r → Checked u Q r
checked_so o u P Q (Ok x) e f c = (e ∙ c.0, f x c.1)
checked_so o u P Q (Err y) e f c = e ∙ c

module _ (card : Card) (p : lent.Pace) (g : code.Ledger) (t : ℕ) where
  abbrev b : Beat
  b = lent.beat_of card p

  pub move_refused : (y : checks.Refusal) → admission card (ledger_of g) t ≡ some y → lent.move_refusal card p (ledger_of g) t ≡ some y
  unfolding lent.move_refusal or_else
  move_refused y e = admission_first card (ledger_of g) t _ ∙ rw e

  pub enter_refused : (x : lent.Effect) (y : checks.Refusal) → admission card (ledger_of g) t ≡ some y → lent.enter_refusal x card p (ledger_of g) t ≡ some y
  unfolding lent.enter_refusal or_else
  enter_refused x y e = admission_first card (ledger_of g) t _ ∙ rw e

  module _ (e : admission card (ledger_of g) t ≡ none) (a : Account) (o : Opened card p g a) (r : Result code.Ledger Refusal) where
    pub move_so : (u : ℕ) → u ≡ t →
        Checked (named 11 (lent.failing_to (beat_as a.beat) (ledger_of a.ledger) (u + 1))) (λ h. ledger_of h ≡ lent.ledger_to (beat_as a.beat) (ledger_of a.ledger) t) r →
        Checked (lent.move_refusal card p (ledger_of g) t) (λ h. ledger_of h ≡ lent.moved_on card p (ledger_of g) t) r
    unfolding lent.moved_on
    move_so u s c = checked_so _ _ _ _ r refusal_is (λ x q. q) (rw (o.ledger, o.beat, same) at c)
      where
        same : u + 1 ≡ suc t
        same = omega arith

        refusal_is : lent.move_refusal card p (ledger_of g) t ≡ named 11 (lent.failing_to b (ledger_of g) (suc t))
        refusal_is = unfold lent.move_refusal in (admission_first card (ledger_of g) t _ ∙ (unfold or_else first_of in rw (e, or_none)))

    pub enter_so : (x : lent.Effect) →
        Checked
        (or_else (named 11 (lent.failing_to (beat_as a.beat) (ledger_of a.ledger) t))
        (named 11 (lent.failing_of (beat_as a.beat) (lent.entered x (beat_as a.beat) (ledger_of a.ledger) t))))
        (λ h. ledger_of h ≡ lent.entered x (beat_as a.beat) (ledger_of a.ledger) t) r →
        Checked (lent.enter_refusal x card p (ledger_of g) t) (λ h. ledger_of h ≡ lent.entered x b (ledger_of g) t) r
    enter_so x c = checked_so _ _ _ _ r refusal_is (λ x q. q) (rw (o.ledger, o.beat) at c)
      where
        refusal_is : lent.enter_refusal x card p (ledger_of g) t
            ≡ or_else (named 11 (lent.failing_to b (ledger_of g) t)) (named 11 (lent.failing_of b (lent.entered x b (ledger_of g) t)))
        refusal_is = unfold lent.enter_refusal in (admission_first card (ledger_of g) t _ ∙ (unfold or_else first_of in rw (e, or_none)))

-- the ledger is as it was, where it is refused
pub left_by : (o : Option checks.Refusal) (new : lent.Ledger) (g : code.Ledger) (r : Result code.Ledger Refusal) → Checked o (λ h. ledger_of h ≡ new) r →
    Left o (ledger_of g) new (after_of g r)
unfolding refusal_of unless_refused
left_by o new g (Ok h) p = record { told = sym p.0; ledger = rw p.0 p.1 }
left_by o new g (Err e) p = record { told = sym p; ledger = rw p refl }

-- and so where what is handed back on a refusal is that ledger: a fact to be shown of it
pub left_of : (o : Option checks.Refusal) (new : lent.Ledger) (g x : code.Ledger) (r : Result code.Ledger Refusal) → Checked o (λ h. ledger_of h ≡ new) r →
    ((y : Refusal) → r ≡ Err y → x ≡ g) → Left o (ledger_of g) new (after_of x r)
unfolding refusal_of unless_refused
left_of o new g x (Ok h) p e = record { told = sym p.0; ledger = rw p.0 p.1 }
left_of o new g x (Err y) p e = rw (e y refl) (left_by o new g (Err y) p)

-- what 13 asks of a ledger, as the code finds it
module _ (card : Card) (g : code.Ledger) where
  abbrev good : Bool
  good = ledger_good card (ledger_of g)

  good_is : good ≡ (card_good card && leb g.owed 16 && leb g.since (number_of (ledger_of g)))
  unfolding ledger_good since_good ledger_of
  good_is = rw (owing_biased g.owed)

  pub good_so : card_good card ≡ true → g.owed ≤ 16 → g.since ≤ number_of (ledger_of g) → unless good 13 ≡ none
  unfolding unless
  good_so r o s = rw (good_is, r, le-leb g.owed 16 o, le-leb g.since (number_of (ledger_of g)) s)

  pub bad_range : card_good card ≡ false → unless good 13 ≡ some (refusal 13 0 0)
  unfolding unless
  bad_range r = rw (good_is, r)

  pub bad_owed : card_good card ≡ true → 16 < g.owed → unless good 13 ≡ some (refusal 13 0 0)
  unfolding unless
  bad_owed r o = rw (good_is, r, lt-leb g.owed 16 o)

  pub bad_since : card_good card ≡ true → g.owed ≤ 16 → number_of (ledger_of g) < g.since → unless good 13 ≡ some (refusal 13 0 0)
  unfolding unless
  bad_since r o s = rw (good_is, r, le-leb g.owed 16 o, lt-leb g.since (number_of (ledger_of g)) s)

-- what is known of a ledger that 13 lets pass
module _ (card : Card) (g : code.Ledger) where
  pub record Sound : Type 0 where
    pub good : ledger_good card (ledger_of g) ≡ true
    pub range : card_good card ≡ true
    pub low : g.owed ≤ 16
    pub since : g.since ≤ number_of (ledger_of g)

  pub sound_when : ledger_good card (ledger_of g) ≡ true → Sound
  unfolding ledger_good since_good ledger_of
  sound_when e =
      let a = both_true _ _ e in
      let b = both_true _ _ a.0 in
      record {
        good = e;
        range = b.0;
        low = leb-true g.owed 16 (sym (owing_biased g.owed) ∙ b.1);
        since = leb-true _ _ a.1;
      }
