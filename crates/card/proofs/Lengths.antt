-- The lengths that the code goes by are those that the rules list: a computed test each way.
use Prim.Native.Nat.{ℕ, ◌≤◌, ◌<◌}
use mathlib.Core.Path.{◌≡◌, refl, sym}
use mathlib.Core.Bool.{Bool, true, false, cond, not, ◌&&◌, ◌||◌}
use mathlib.Core.Logic.{◌⊎◌, inl, inr}
use mathlib.Core.List.{List, [], ◌∷◌}
use native.Mathlib.Omega.{arith}
use lib.Dec.{leb, ltb, eqb}
use borrow.Author.Tests.{leb-true, le-leb, eqb-true, ne_eqb}
use Rattle.rules.specs.Lists.{all, is_one_of}
use Rattle.rules.specs.Ranges.{within}
use Rattle.rules.specs.Form.{Listed, ◌up_to◌, groups, in_group, in_groups, of_card, ◌of◌, ◌of◌or◌, lengths, is_listed, length_good}
use Rattle.rules.proofs.Onward.{onward, at_each}
use Rattle.rules.proofs.Tests.{both_true}
use Rattle.rules.proofs.Tags.{within_of}
use Rattle.rules.proofs.CardTags.{card_bounds}
use Rattle.card.specs.Reading.{sizes_of}

differ : {A : Type 0} → Path Bool false true → A
differ e = let z : ◌≡◌ {A = ℕ} 0 1 = cc in absurd (omega arith)

same : (a b : Bool) → (a ≡ true → b ≡ true) → (b ≡ true → a ≡ true) → a ≡ b
same true b f g = sym (f refl)
same false true f g = g refl
same false false f g = refl

pub is_within : (a b x : ℕ) → a ≤ x → x ≤ b → within a b x ≡ true
unfolding within
is_within a b x low high = rw (le-leb a x low, le-leb x b high)

above_four : (t : ℕ) → 1 ≤ t → (t ≡ 1 → ⊥) → (t ≡ 2 → ⊥) → (t ≡ 3 → ⊥) → (t ≡ 4 → ⊥) → 5 ≤ t
above_four t low a b c d = omega arith

below_start : (t : ℕ) → (t ≡ 23 → ⊥) → (t ≡ 25 → ⊥) → (t ≡ 26 → ⊥) → (t ≤ 23) ⊎ ((t ≡ 25) ⊎ (t ≡ 26)) → t ≤ 22
below_start t s f g (inl q) = omega (arith, q, s)
below_start t s f g (inr (inl q)) = absurd (f q)
below_start t s f g (inr (inr q)) = absurd (g q)

-- a card's tag that is none of a number's is a timing's
pub a_timing : (t : ℕ) → of_card t ≡ true → (t ≡ 1 → ⊥) → (t ≡ 2 → ⊥) → (t ≡ 3 → ⊥) → (t ≡ 4 → ⊥) → (t ≡ 23 → ⊥) → (t ≡ 25 → ⊥) → (t ≡ 26 → ⊥) → (5 ≤ t) × (t ≤ 22)
a_timing t e a b c d s f g = let p = card_bounds t (within_of t e) in (above_four t p.0 a b c d, below_start t s f g p.1)

-- what holds of each row holds of a tag and a length that are listed
one_of : (p : ℕ → Bool) (ls : List ℕ) (l : ℕ) → all p ls ≡ true → is_one_of ls l ≡ true → p l ≡ true
unfolding all is_one_of
one_of p [] l h e = differ e
one_of p (x ∷ ls) l h e = let b = both_true (p x) (all p ls) h in go (eqb x l) refl b.0 (one_of p ls l b.1) e
  where
    go : (here : Bool) → eqb x l ≡ here → p x ≡ true → (is_one_of ls l ≡ true → p l ≡ true) → (here || is_one_of ls l) ≡ true → p l ≡ true
    go true q f later e = rw (← eqb-true x l q) f
    go false q f later e = later e

pub listed_has : (p : ℕ → ℕ → Bool) (xs : List Listed) (t l : ℕ)
    → all (λ x. all (p x.tag) x.sizes) xs ≡ true → is_listed xs t l ≡ true → p t l ≡ true
unfolding all is_listed
listed_has p [] t l h e = differ e
listed_has p (x ∷ xs) t l h e =
    let b = both_true (all (p x.tag) x.sizes) (all (λ y. all (p y.tag) y.sizes) xs) h in
    go (eqb x.tag t && is_one_of x.sizes l) refl b.0 (listed_has p xs t l b.1) e
  where
    go : (here : Bool) → (eqb x.tag t && is_one_of x.sizes l) ≡ here → all (p x.tag) x.sizes ≡ true → (is_listed xs t l ≡ true → p t l ≡ true)
        → (here || is_listed xs t l) ≡ true → p t l ≡ true
    go true q f later e =
        let b = both_true (eqb x.tag t) (is_one_of x.sizes l) q in
        rw (← eqb-true x.tag t b.0) (one_of (p x.tag) x.sizes l f b.1)
    go false q f later e = later e

-- the sizes that the code goes by, 0 for no such tag
abbrev pub is_size : (tag size : ℕ) → Bool
is_size t l = ltb 0 (sizes_of t).0 && (eqb (sizes_of t).0 l || eqb (sizes_of t).1 l)

pub as_listed : (t l : ℕ) → t < 256 → is_size t l ≡ length_good t l
unfolding length_good is_listed is_one_of lengths ◌of◌ ◌of◌or◌ all onward sizes_of within
as_listed t l h =
    same (is_size t l) (is_listed lengths t l)
    (λ e.
    let b = both_true (ltb 0 (sizes_of t).0) (eqb (sizes_of t).0 l || eqb (sizes_of t).1 l) e in
    let g = at_each (λ k. cond (ltb 0 (sizes_of k).0) (is_listed lengths k (sizes_of k).0 && is_listed lengths k (sizes_of k).1) true) 0 256 refl t (omega arith) (omega arith) in
    either (both_true _ _ (rw b.0 at g)) (eqb (sizes_of t).0 l) refl b.1)
    (listed_has is_size lengths t l refl)
  where
    either : (is_listed lengths t (sizes_of t).0 ≡ true) × (is_listed lengths t (sizes_of t).1 ≡ true) → (x : Bool) → eqb (sizes_of t).0 l ≡ x →
        (x || eqb (sizes_of t).1 l) ≡ true → is_listed lengths t l ≡ true
    either g true q e = rw (← eqb-true (sizes_of t).0 l q) g.0
    either g false q e = rw (← eqb-true (sizes_of t).1 l e) g.1

pub by_size : (t l : ℕ) → t < 256 → length_good t l ≡ is_size t l
by_size t l h = sym (as_listed t l h)

-- tags of which p holds have lengths up to b
at_most : (p : ℕ → Bool) (b t l : ℕ) → all (λ x. all (λ s. cond (p x.tag) (leb s b) true) x.sizes) lengths ≡ true → length_good t l ≡ true → p t ≡ true → l ≤ b
unfolding length_good
at_most p b t l rows e h = leb-true l b (rw h at (listed_has (λ k s. cond (p k) (leb s b) true) lengths t l rows e))

-- a card's value but the period, and one that is no timing either
pub card_length : (t l : ℕ) → of_card t ≡ true → (t ≡ 1 → ⊥) → length_good t l ≡ true → (l ≤ 5) × (within 5 22 t ≡ false → l ≤ 4)
unfolding lengths ◌of◌ ◌of◌or◌ all of_card in_groups in_group groups ◌up_to◌ within
card_length t l c o e = (
  at_most (λ k. of_card k && not (eqb k 1)) 5 t l refl e (rw (c, ne_eqb t 1 o)),
  λ n. at_most (λ k. of_card k && not (eqb k 1) && not (within 5 22 k)) 4 t l refl e (rw (c, ne_eqb t 1 o, n)),
)

-- a period's
pub period_length : (l : ℕ) → length_good 1 l ≡ true → (l ≡ 4) ⊎ (l ≡ 8)
unfolding length_good lengths ◌of◌ ◌of◌or◌ all
period_length l e = go (eqb l 4) refl (listed_has (λ k s. cond (eqb k 1) (eqb s 4 || eqb s 8) true) lengths 1 l refl e)
  where
    go : (x : Bool) → eqb l 4 ≡ x → (x || eqb l 8) ≡ true → (l ≡ 4) ⊎ (l ≡ 8)
    go true q h = inl (eqb-true l 4 q)
    go false q h = inr (eqb-true l 8 h)
