-- The first cycle at which the ledger of any part fails is the earliest of the parts' own first ones, the first part's at one cycle.
use Prim.Native.Nat.{ℕ, zero, suc, ◌*◌, ◌-◌, ◌<◌}
use mathlib.Core.Path.{◌≡◌, refl, ap, ◌∙◌}
use mathlib.Core.Bool.{Bool, true, false, cond}
use mathlib.Core.List.{List, [], ◌∷◌, map, map-map}
use mathlib.Core.Option.{Option, none, some}
use native.Mathlib.Omega.{arith}
use lib.Dec.{leb}
use lib.Signed.{le_z}
use lib.IntN.{ℤ, pos}
use borrow.Author.Tests.{le-leb, lt-leb}
use Rattle.rules.specs.Folds.{or_else, first_of}
use Rattle.rules.specs.Card.{Card}
use Rattle.rules.specs.Whose.{parts}
use Rattle.rules.specs.Past.{Past, of_part}
use Rattle.rules.specs.Account.{Terms, lpddr3, Schedule, Book, ledger_on, failing, failing_on, first_on, failing_in, first_in, earlier, earliest}
use Rattle.rules.specs.Clock.{book_of, books_of}
use Rattle.rules.specs.Verdict.{ledgers_at}

-- a failing cycle is t, or lies below t
abbrev There : ℕ → Option (ℕ × ℕ) → Type 0
There t none = Unit {0}
There t (some x) = x.1 ≡ t

abbrev Below : ℕ → Option (ℕ × ℕ) → Type 0
Below t none = Unit {0}
Below t (some x) = x.1 < t

there_or : (t : ℕ) (x y : Option (ℕ × ℕ)) → There t x → There t y → There t (or_else x y)
unfolding or_else
there_or t none y a b = b
there_or t (some x) y a b = a

below_or : (t : ℕ) (x y : Option (ℕ × ℕ)) → Below t x → There t y → Below (suc t) (or_else x y)
unfolding or_else
below_or t none none a b = tt
below_or t none (some y) a b = omega arith
below_or t (some x) y a b = omega arith

module _ (k : Terms) where
  failing_at_lem : (s : Schedule) (z : ℤ) (last n t : ℕ) → There t (failing k s z last n t)
  unfolding failing
  failing_at_lem s z last n t = go (le_z z (pos k.limit)) (leb (n - s.since last n) (k.gap * s.span n))
    where
      go : (x y : Bool) → There t (cond x (cond y none (some (k.gap_rule, t))) (some (k.limit_rule, t)))
      go true true = tt
      go true false = refl
      go false y = refl

  failing_there : (b : Book) (t : ℕ) → There t (failing_on k b t)
  unfolding failing_on
  failing_there b t = failing_at_lem _ _ _ _ t

  in_there : (bs : List Book) (t : ℕ) → There t (failing_in k bs t)
  unfolding failing_in first_of
  in_there [] t = tt
  in_there (b ∷ bs) t = there_or t (failing_on k b t) _ (failing_there b t) (in_there bs t)

  on_below : (b : Book) (t : ℕ) → Below t (first_on k b t)
  unfolding first_on
  on_below b zero = tt
  on_below b (suc t) = below_or t (first_on k b t) (failing_on k b t) (on_below b t) (failing_there b t)

  in_below : (bs : List Book) (t : ℕ) → Below t (first_in k bs t)
  unfolding first_in
  in_below bs zero = tt
  in_below bs (suc t) = below_or t (first_in k bs t) (failing_in k bs t) (in_below bs t) (in_there bs t)

-- one cycle more
both : (t : ℕ) (F G f g : Option (ℕ × ℕ)) → Below t F → Below t G → There t f → There t g →
    or_else (earlier F G) (or_else f g) ≡ earlier (or_else F f) (or_else G g)
unfolding or_else earlier
both t none none none g a b c d = refl
both t none none (some x) none a b c d = refl
both t none none (some x) (some y) a b c d = rw (le-leb x.1 y.1 (omega arith))
both t none (some y) none g a b c d = refl
both t none (some y) (some x) g a b c d = rw (lt-leb x.1 y.1 (omega arith))
both t (some x) none f none a b c d = refl
both t (some x) none f (some y) a b c d = rw (le-leb x.1 y.1 (omega arith))
both t (some x) (some y) f g a b c d = go (leb x.1 y.1)
  where
    go : (z : Bool) → or_else (cond z (some x) (some y)) (or_else f g) ≡ cond z (some x) (some y)
    go true = refl
    go false = refl

module _ (k : Terms) where
  first_cons : (b : Book) (bs : List Book) (t : ℕ) → first_in k (b ∷ bs) t ≡ earlier (first_on k b t) (first_in k bs t)
  unfolding first_in first_on failing_in first_of
  first_cons b bs zero = unfold earlier in refl
  first_cons b bs (suc t) =
      rw (first_cons b bs t)
      (both t (first_on k b t) (first_in k bs t) (failing_on k b t) (first_of (map (λ b. failing_on k b t) bs)) (on_below k b t) (in_below k bs t) (failing_there k b t)
      (unfold failing_in in in_there k bs t))

  none_yet : (t : ℕ) → first_in k [] t ≡ none
  unfolding first_in failing_in first_of or_else
  none_yet zero = refl
  none_yet (suc t) = rw (none_yet t)

  pub first_in_lem : (bs : List Book) (t : ℕ) → first_in k bs t ≡ earliest (map (λ b. first_on k b t) bs)
  unfolding earliest
  first_in_lem [] t = none_yet t
  first_in_lem (b ∷ bs) t = first_cons b bs t ∙ ap (earlier (first_on k b t)) (first_in_lem bs t)

-- ---- 11 over a trace: the earliest of the parts' own first failing cycles; at a cycle the first part's that fails; and each part's ledger
module _ (card : Card) (past : Past) where
  abbrev own_book : ℕ → Book
  own_book p = book_of card (of_part p past)

  pub first_parts : (t : ℕ) → first_in lpddr3 (books_of card past) t ≡ earliest (map (λ p. first_on lpddr3 (book_of card (of_part p past)) t) (parts card))
  unfolding books_of
  first_parts t = first_in_lem lpddr3 (map own_book (parts card)) t ∙ ap earliest (map-map (λ b. first_on lpddr3 b t) own_book (parts card))

  pub failing_parts : (t : ℕ) → failing_in lpddr3 (books_of card past) t ≡ first_of (map (λ p. failing_on lpddr3 (book_of card (of_part p past)) t) (parts card))
  unfolding books_of failing_in
  failing_parts t = ap first_of (map-map (λ b. failing_on lpddr3 b t) own_book (parts card))

  pub ledgers_parts : (t : ℕ) → ledgers_at card past t ≡ map (λ p. ledger_on lpddr3.credit (book_of card (of_part p past)) t) (parts card)
  unfolding books_of ledgers_at
  ledgers_parts t = map-map (λ b. ledger_on lpddr3.credit b t) own_book (parts card)
