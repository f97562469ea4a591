-- The bounds one after the other: what the folds over them are held to.
use Rattle.std.proofs.Common.{ℕ, zero, suc, ◌<◌, ◌≤◌, length, cond, max, ◌≡◌, List, [], ◌∷◌, map, refl, ap, sym, ◌∙◌, arith}
use Rattle.std.specs.Option.{unwrap_or}
use Rattle.std.specs.Ordering.{max_by_ordering, nat_cmp}
use Rattle.std.specs.List.{reduce, fold}
use Rattle.std.proofs.lemmas.List.Folds.{max_of_map}
use borrow.Author.Tests.{le-leb, lt-leb}
use lib.Dec.{leb}
use mathlib.Core.Logic.{◌⊎◌, inl, inr}
use mathlib.Core.Option.{Option, none, some}
use Rattle.bounds.specs.Parts.{rule_at, broken_from, greatest_of}

-- the greatest so far
folded : (best : ℕ) (l : List ℕ) → fold (λ a x. max a x) best l ≡ max best (greatest_of l)
unfolding greatest_of
folded best [] = omega arith
folded best (b ∷ l) = omega (arith, folded (max best b) l)

same : (l : List ℕ) → map (λ x. x) l ≡ l
same [] = refl
same (x ∷ l) = ap (λ k. x ∷ k) (same l)

pub greatest_reduced : (l : List ℕ) → unwrap_or (reduce (λ p z. max_by_ordering (nat_cmp p z) p z) l) 0 ≡ greatest_of l
greatest_reduced l =
    let e = max_of_map (λ (x : ℕ). x) l in
    let f = folded 0 l in
    ap (λ k. unwrap_or (reduce (λ p z. max_by_ordering (nat_cmp p z) p z) k) 0) (sym (same l)) ∙ e ∙ omega (arith, f)

-- the first that is broken of these rules, by their bounds
unfoldable pub broken_of : (rules bounds : List ℕ) → (stamp : ℕ) → Option (ℕ × ℕ)
broken_of [] bs t = none
broken_of (r ∷ rs) [] t = none
broken_of (r ∷ rs) (b ∷ bs) t = cond (leb b t) (broken_of rs bs t) (some (r, b))

-- `n` rules, from place i on
rules_from : (i n : ℕ) → List ℕ
rules_from i zero = []
rules_from i (suc n) = rule_at i ∷ rules_from (suc i) n

numbered : (i : ℕ) (bs : List ℕ) (t : ℕ) → broken_from i bs t ≡ broken_of (rules_from i (length bs)) bs t
unfolding broken_from broken_of rules_from
numbered i [] t = refl
numbered i (b ∷ bs) t = ap (λ o. cond (leb b t) o (some (rule_at i, b))) (numbered (suc i) bs t)

pub begins : (bs : List ℕ) (t : ℕ) → length bs ≡ 25
    → broken_from 0 bs t ≡ broken_of (1 ∷ 2 ∷ 3 ∷ 4 ∷ 5 ∷ 6 ∷ 7 ∷ 8 ∷ 9 ∷ 10 ∷ 11 ∷ 12 ∷ 13 ∷ 14 ∷ 15 ∷ 16 ∷ 17 ∷ 18 ∷ 21 ∷ 22 ∷ 23 ∷ 24 ∷ 25 ∷ 26 ∷ 27 ∷ []) bs t
unfolding rule_at rules_from
begins bs t h = numbered 0 bs t ∙ ap (λ n. broken_of (rules_from 0 n) bs t) h

pub breaks : (r b t : ℕ) (rs bs : List ℕ) → t < b → broken_of (r ∷ rs) (b ∷ bs) t ≡ some (r, b)
unfolding broken_of
breaks r b t rs bs h = rw (lt-leb b t h)

pub holds : (r b t : ℕ) (rs bs : List ℕ) → b ≤ t → broken_of (r ∷ rs) (b ∷ bs) t ≡ broken_of rs bs t
unfolding broken_of
holds r b t rs bs h = rw (le-leb b t h)

pub all_hold : (rs bs : List ℕ) (t : ℕ) → (rs ≡ []) ⊎ (bs ≡ []) → broken_of rs bs t ≡ none
unfolding broken_of
all_hold [] bs t h = refl
all_hold (r ∷ rs) [] t h = refl
all_hold (r ∷ rs) (b ∷ bs) t (inl h) = cc
all_hold (r ∷ rs) (b ∷ bs) t (inr h) = cc

pub ruleset by_place = (begins, breaks, holds, all_hold)
