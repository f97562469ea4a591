-- What two ledgers are refused with, against the rules: 13 of either, 5 of either, the earliest 11 below the stamp, and 11 at it, the first part's first.
use Prim.Native.Nat.{ℕ, suc, ◌+◌, ◌≤◌, ◌<◌}
use mathlib.Core.Path.{◌≡◌, refl, ap, sym, ◌∙◌}
use mathlib.Core.Logic.{⊎_elim}
use mathlib.Core.Bool.{Bool, true, false, cond, ◌&&◌}
use mathlib.Core.List.{List, [], ◌∷◌, map}
use mathlib.Core.Option.{Option, none, some}
use native.Mathlib.Omega.{arith}
use lib.Dec.{leb}
use borrow.Author.Tests.{lt-ltb, le-ltb}
use Rattle.rules.specs.Lists.{all}
use Rattle.rules.specs.Whose.{parts}
use Rattle.rules.specs.Folds.{or_else, first_of}
use Rattle.rules.specs.Account.{Beat, earlier, earliest}
use Rattle.rules.specs.Checks.{Refusal, refusal, unless, named}
use Rattle.rules.specs.Lent.{Lent, beat_of, not_behind, Effect, entered, failing_of, failing_to, failings_to, ledger_good, move_refusal, enter_refusal}
use Rattle.rules.proofs.Tests.{le_cases, some_none}
use Rattle.rules.proofs.Decided.{or_none}
use Rattle.bank.specs.Both.{place_of, comes_before, sooner_of, told_of}
use Rattle.bank.proofs.Elevens.{Below, There, below_cycle, here_cycle}

abbrev answered : (good late : Bool) → (before at : Option (ℕ × ℕ)) → Option Refusal
answered a b c d = first_of (unless a 13 ∷ unless b 5 ∷ named 11 c ∷ named 11 d ∷ [])

-- ---- 13, and 5, of the first and of the second
first_bad : (y : Option Refusal) → sooner_of (some (refusal 13 0 0)) y ≡ some (refusal 13 0 0)
unfolding sooner_of comes_before place_of refusal
first_bad none = refl
first_bad (some y) = rw (le-ltb (place_of y) 0 (omega arith))

second_bad : (b : Bool) (c d : Option (ℕ × ℕ)) → sooner_of (answered true b c d) (some (refusal 13 0 0)) ≡ some (refusal 13 0 0)
unfolding sooner_of comes_before place_of refusal first_of or_else unless named
second_bad false c d = refl
second_bad true (some x) d = rw (lt-ltb 0 (2 + x.1) (omega arith))
second_bad true none (some x) = rw (lt-ltb 0 (2 + x.1) (omega arith))
second_bad true none none = refl

first_early : (b : Bool) (c d : Option (ℕ × ℕ)) → sooner_of (some (refusal 5 0 0)) (answered true b c d) ≡ some (refusal 5 0 0)
unfolding sooner_of comes_before place_of refusal first_of or_else unless named
first_early false c d = refl
first_early true (some x) d = rw (le-ltb (2 + x.1) 1 (omega arith))
first_early true none (some x) = rw (le-ltb (2 + x.1) 1 (omega arith))
first_early true none none = refl

second_early : (c d : Option (ℕ × ℕ)) → sooner_of (answered true true c d) (some (refusal 5 0 0)) ≡ some (refusal 5 0 0)
unfolding sooner_of comes_before place_of refusal first_of or_else unless named
second_early (some x) d = rw (lt-ltb 1 (2 + x.1) (omega arith))
second_early none (some x) = rw (lt-ltb 1 (2 + x.1) (omega arith))
second_early none none = refl

-- ---- 11
overdue : (t : ℕ) (c c' d d' : Option (ℕ × ℕ)) → Below t c → Below t c' → There t d → There t d' →
    sooner_of (answered true true c d) (answered true true c' d') ≡ answered true true (earlier c c') (or_else d d')
unfolding sooner_of comes_before place_of refusal first_of or_else unless named earlier
overdue t (some x) (some y) d d' b b' h h' =
    ⊎_elim
    (λ (l : (x.1 ≤ y.1) × (leb x.1 y.1 ≡ true)). rw (l.1, le-ltb (2 + y.1) (2 + x.1) (omega (arith, l.0))))
    (λ (l : (y.1 < x.1) × (leb x.1 y.1 ≡ false)). rw (l.1, lt-ltb (2 + y.1) (2 + x.1) (omega (arith, l.0))))
    (le_cases x.1 y.1)
overdue t (some x) none d (some y) b b' h h' = let i = b x refl in let j = h' y refl in rw (le-ltb (2 + y.1) (2 + x.1) (omega arith))
overdue t (some x) none d none b b' h h' = refl
overdue t none (some y) (some x) d' b b' h h' = let i = b' y refl in let j = h x refl in rw (lt-ltb (2 + y.1) (2 + x.1) (omega arith))
overdue t none (some y) none d' b b' h h' = refl
overdue t none none (some x) (some y) b b' h h' = let i = h x refl in let j = h' y refl in rw (le-ltb (2 + y.1) (2 + x.1) (omega arith))
overdue t none none (some x) none b b' h h' = refl
overdue t none none none (some y) b b' h h' = refl
overdue t none none none none b b' h h' = refl

sooner_both : (t : ℕ) (a a' b b' : Bool) (c c' d d' : Option (ℕ × ℕ)) → Below t c → Below t c' → There t d → There t d' →
    sooner_of (answered a b c d) (answered a' b' c' d') ≡ answered (a && a') (b && b') (earlier c c') (or_else d d')
sooner_both t false a' b b' c c' d d' p p' q q' = unfold first_of or_else unless in first_bad (answered a' b' c' d')
sooner_both t true false b b' c c' d d' p p' q q' = unfold first_of or_else unless in second_bad b c d
sooner_both t true true false b' c c' d d' p p' q q' = unfold first_of or_else unless in first_early b' c' d'
sooner_both t true true true false c c' d d' p p' q q' = unfold first_of or_else unless in second_early c d
sooner_both t true true true true c c' d d' p p' q q' = overdue t c c' d d' p p' q q'

-- ---- over the parts of a record
and-true : (x : Bool) → (x && true) ≡ x
and-true true = refl
and-true false = refl

earlier_none : (x : Option (ℕ × ℕ)) → earlier x none ≡ x
unfolding earlier
earlier_none none = refl
earlier_none (some x) = refl

abbrev parts_of : (paired : Bool) → List ℕ
parts_of paired = cond paired (0 ∷ 1 ∷ []) (0 ∷ [])

-- each part's answers a, b, c, d
module _ (t : ℕ) (a b : ℕ → Bool) (c d : ℕ → Option (ℕ × ℕ)) (below : (p : ℕ) → Below t (c p)) (there : (p : ℕ) → There t (d p)) where
  told_over : (paired : Bool) → let ps = parts_of paired in
      told_of paired (answered (a 0) (b 0) (c 0) (d 0)) (answered (a 1) (b 1) (c 1) (d 1)) ≡ answered (all a ps) (all b ps) (earliest (map c ps)) (first_of (map d ps))
  unfolding told_of all earliest
  told_over true =
      rw (and-true (a 1), and-true (b 1), earlier_none (c 1))
      (sooner_both t (a 0) (a 1) (b 0) (b 1) (c 0) (c 1) (d 0) (d 1) (below 0) (below 1) (there 0) (there 1)
      ∙ ap (answered (a 0 && a 1) (b 0 && b 1) (earlier (c 0) (c 1))) (unfold first_of in ap (or_else (d 0)) (sym (or_none (d 1)))))
  told_over false =
      rw (and-true (a 0), and-true (b 0), earlier_none (c 0))
      (ap (answered (a 0) (b 0) (c 0)) (unfold first_of in sym (or_none (d 0))))

-- with nothing at the stamp
module _ (t : ℕ) (a b : ℕ → Bool) (c : ℕ → Option (ℕ × ℕ)) (below : (p : ℕ) → Below t (c p)) where
  abbrev moving : (good late : Bool) → (before : Option (ℕ × ℕ)) → Option Refusal
  moving x y z = first_of (unless x 13 ∷ unless y 5 ∷ named 11 z ∷ [])

  moved_over : (paired : Bool) → let ps = parts_of paired in
      told_of paired (moving (a 0) (b 0) (c 0)) (moving (a 1) (b 1) (c 1)) ≡ moving (all a ps) (all b ps) (earliest (map c ps))
  unfolding first_of or_else named
  moved_over true = told_over t a b c (λ p. none) below (λ p y e. absurd (some_none e)) true
  moved_over false = told_over t a b c (λ p. none) below (λ p y e. absurd (some_none e)) false

module _ (l : Lent) (t : ℕ) where
  abbrev beat : Beat
  beat = beat_of l.card l.pace

  abbrev good : ℕ → Bool
  good p = ledger_good l.card (l.share p).ledger

  abbrev from : ℕ → Bool
  from p = leb (l.share p).ledger.at t

  -- at an entry
  pub told_both : (x : ℕ → Effect) →
      told_of l.card.paired (enter_refusal (x 0) l.card l.pace (l.share 0).ledger t) (enter_refusal (x 1) l.card l.pace (l.share 1).ledger t)
      ≡ first_of (
      unless (all (λ p. ledger_good l.card (l.share p).ledger) (parts l.card)) 13 ∷
      unless (not_behind l t) 5 ∷
      named 11 (failings_to l t) ∷
      named 11 (first_of (map (λ p. failing_of (beat_of l.card l.pace) (entered (x p) (beat_of l.card l.pace) (l.share p).ledger t)) (parts l.card))) ∷ []
      )
  unfolding enter_refusal not_behind failings_to parts
  told_both x =
      told_over t good from (λ p. failing_to beat (l.share p).ledger t) (λ p. failing_of beat (entered (x p) beat (l.share p).ledger t))
      (λ p. below_cycle beat (l.share p).ledger t) (λ p. here_cycle (x p) beat (l.share p).ledger t) l.card.paired

  -- in idle time up to t and through it
  pub told_moved :
      told_of l.card.paired (move_refusal l.card l.pace (l.share 0).ledger t) (move_refusal l.card l.pace (l.share 1).ledger t)
      ≡ first_of (
      unless (all (λ p. ledger_good l.card (l.share p).ledger) (parts l.card)) 13 ∷
      unless (not_behind l t) 5 ∷
      named 11 (failings_to l (suc t)) ∷ []
      )
  unfolding move_refusal not_behind failings_to parts
  told_moved =
      moved_over (suc t) good from (λ p. failing_to beat (l.share p).ledger (suc t)) (λ p. below_cycle beat (l.share p).ledger (suc t)) l.card.paired
