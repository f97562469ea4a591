-- A tag's group in the rules' table, and what is wrong with a tag, as the code has them.
use Rattle.std.specs.Prelude.{ℕ, cond, List, [], ◌∷◌, Option, Some, None}
use Rattle.rules.specs.Checks.{Refusal, refusal}
use Rattle.rules.specs.Form as form
use Rattle.card.specs.declared.Misplaced.{Misplaced}
use Rattle.card.specs.declared.Misplaced.TheVariants.{Unknown, Passed, Early}
use Rattle.card.specs.declared.Wrong.{Wrong}
use Rattle.card.specs.declared.tags.Group.{Group}

unfoldable pub group_of : form.Group → Group
group_of g = record { 0 = g.first; 1 = g.last }

-- the first of these that has the tag
unfoldable pub group_in : List form.Group → (tag : ℕ) → Option Group
group_in [] t = None
group_in (g ∷ gs) t = cond (form.in_group g t) (Some (group_of g)) (group_in gs t)

unfoldable pub group_at : (tag : ℕ) → Option Group
group_at = group_in form.groups

-- the documents' number
unfoldable pub number_of : Misplaced → ℕ
number_of Unknown = 17
number_of Passed = 18
number_of Early = 19

-- the rule place has the tag that is expected
unfoldable pub wrong_of : Wrong → Refusal
wrong_of w = refusal (number_of w.why) w.expected 0
