-- That no bank is open, by the array.
use mathlib.Core.Path.{◌≡◌, refl, ◌∙◌}
use mathlib.Core.Bool.{Bool, true, false, not, beq}
use mathlib.Core.List.{List, [], ◌∷◌}
use native.Mathlib.Omega.{arith}
use lib.ListN.{length, get_or}
use Rattle.std.specs.List.{list_any}
use Rattle.rules.specs.Lists.{all}
use Rattle.rules.specs.Commands.{banks}
use Rattle.rules.specs.States.{all_closed}

none_open : (xs : List Bool) → not (list_any (λ y. beq y true) xs) ≡ all not xs
unfolding all
none_open [] = refl
none_open (true ∷ xs) = refl
none_open (false ∷ xs) = none_open xs

pub closed_so : (xs : List Bool) → length xs ≡ 8 → not (list_any (λ y. beq y true) xs) ≡ all_closed (λ b. get_or xs b false)
unfolding all all_closed banks
closed_so xs n = none_open xs ∙ go xs n
  where
    go : (ys : List Bool) → length ys ≡ 8 → all not ys ≡ all_closed (λ b. get_or ys b false)
    go (a ∷ b ∷ c ∷ d ∷ e ∷ f ∷ g ∷ h ∷ []) n = refl
    go [] n = absurd (omega arith)
    go (a ∷ []) n = absurd (omega arith)
    go (a ∷ b ∷ []) n = absurd (omega arith)
    go (a ∷ b ∷ c ∷ []) n = absurd (omega arith)
    go (a ∷ b ∷ c ∷ d ∷ []) n = absurd (omega arith)
    go (a ∷ b ∷ c ∷ d ∷ e ∷ []) n = absurd (omega arith)
    go (a ∷ b ∷ c ∷ d ∷ e ∷ f ∷ []) n = absurd (omega arith)
    go (a ∷ b ∷ c ∷ d ∷ e ∷ f ∷ g ∷ []) n = absurd (omega arith)
    go (a ∷ b ∷ c ∷ d ∷ e ∷ f ∷ g ∷ h ∷ i ∷ zs) n = absurd (omega arith)
