-- The group that the code finds for a tag, in the rules' table; and the tests of a tag by it, each one computed test over all bytes.
use Prim.Native.Nat.{ℕ, ◌<◌}
use mathlib.Core.Path.{◌≡◌, refl}
use mathlib.Core.Bool.{Bool, false, ◌&&◌}
use Rattle.std.specs.Prelude.{Option, Some, None, MatchOption, is_some, find}
use Rattle.std.specs.Option.{option_map_or}
use mathlib.Core.List.{List, [], ◌∷◌, map}
use lib.Dec.{leb, eqb}
use Rattle.rules.specs.Form as form
use Rattle.rules.proofs.Onward.{onward, alike, by_bytes}
use Rattle.card.specs.Tags.{group_of, group_in, group_at}
use Rattle.card.specs.declared.tags.Group.{Group}

-- ---- in the code's table
pub found_is : (gs : List form.Group) (t : ℕ) → find (λ (g : Group). leb g.0 t && leb t g.1) (map group_of gs) ≡ group_in gs t
unfolding group_in group_of form.in_group
found_is [] t = refl
found_is (g ∷ gs) t = rw (found_is gs t)

-- what `is_some_and` answers
pub some_and : {A : Type 0} {Q : A → Type 0} (test : A → Bool) (o : Option A) (r : Bool) → MatchOption o (r ≡ false) Q → ((x : A) → Q x → r ≡ test x) → r ≡ option_map_or test o false
some_and test None r h g = h
some_and test (Some x) r h g = g x h

-- ---- the tests
module _ (t : ℕ) (h : t < 256) where
  pub of_card_by : is_some (group_at t) ≡ form.of_card t
  unfolding onward alike group_at group_in group_of form.of_card form.in_groups form.in_group form.groups form.◌up_to◌
  of_card_by = by_bytes (λ k. is_some (group_at k)) form.of_card refl t h

  pub ends_by : option_map_or (λ (g : Group). eqb t g.1) (group_at t) false ≡ form.ends_group form.groups t
  unfolding onward alike group_at group_in group_of form.ends_group form.in_group form.groups form.◌up_to◌
  ends_by = by_bytes (λ k. option_map_or (λ (g : Group). eqb k g.1) (group_at k) false) (form.ends_group form.groups) refl t h

  pub begins_by : option_map_or (λ (g : Group). eqb t g.0) (group_at t) false ≡ form.begins_group form.groups t
  unfolding onward alike group_at group_in group_of form.begins_group form.in_group form.groups form.◌up_to◌
  begins_by = by_bytes (λ k. option_map_or (λ (g : Group). eqb k g.0) (group_at k) false) (form.begins_group form.groups) refl t h
