-- The sizes of fields.
use Rattle.std.proofs.Common.{◌≡◌, ℕ, ◌-◌, ◌<◌, ◌≤◌, Bool, true, false, ◌||◌, eqb, ltb, List, length, refl, ◌∙◌, arith, lit<, length-drop, eqb-true}
use Rattle.rules.specs.Ranges.{within}
use Rattle.rules.specs.Form as form
use Rattle.rules.proofs.Tests.{both_true}
use Rattle.card.specs.Reading as reading
use Rattle.card.proofs.Lengths.{as_listed}
use Rattle.chunks.specs.Parts.{field_in}

pub size_in : (bs : List ℕ) → 3 ≤ length bs → form.size_of (field_in bs) ≡ length bs
unfolding form.size_of field_in
size_in bs h = rw length-drop (omega arith)

-- the length of a field whose tag is k, where it has but one
sized_at : (t k l : ℕ) → t ≡ k → k < 256 → (reading.sizes_of k).0 ≡ (reading.sizes_of k).1 → form.length_good t l ≡ true → (reading.sizes_of k).0 ≡ l
sized_at t k l e h one g = go (eqb (reading.sizes_of k).0 l) refl (both_true (ltb 0 (reading.sizes_of k).0) (eqb (reading.sizes_of k).0 l || eqb (reading.sizes_of k).1 l) (as_listed k l h ∙ rw (← e) g)).1
  where
    go : (x : Bool) → eqb (reading.sizes_of k).0 l ≡ x → (x || eqb (reading.sizes_of k).1 l) ≡ true → (reading.sizes_of k).0 ≡ l
    go true q h = eqb-true (reading.sizes_of k).0 l q
    go false q h = one ∙ eqb-true (reading.sizes_of k).1 l h

pub entry_size : (t l : ℕ) → t ≡ 32 → 3 ≤ l → form.length_good t (l - 3) ≡ true → l ≡ 10
unfolding reading.sizes_of within
entry_size t l e h g = omega (arith, sized_at t 32 (l - 3) e (lit< tt) refl g)

pub sensed_size : (t l : ℕ) → t ≡ 34 → 3 ≤ l → form.length_good t (l - 3) ≡ true → l ≡ 8
unfolding reading.sizes_of within
sensed_size t l e h g = omega (arith, sized_at t 34 (l - 3) e (lit< tt) refl g)

pub end_size : (t l : ℕ) → t ≡ 33 → 3 ≤ l → form.length_good t (l - 3) ≡ true → l ≡ 7
unfolding reading.sizes_of within
end_size t l e h g = omega (arith, sized_at t 33 (l - 3) e (lit< tt) refl g)
