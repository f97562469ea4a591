-- The ledgers of a verdict, read as the values of the rules.
use Rattle.std.specs.Prelude.{List, [], ◌∷◌, ℤ}
use Rattle.std.proofs.Math.IntN.{sub_ℕ}
use Rattle.lines.specs.declared.Owed.{Owed}
use Rattle.lines.specs.declared.Owed.TheVariants.{One, Two}

unfoldable pub ledgers_of : Owed → List ℤ
ledgers_of (One a) = sub_ℕ a 8 ∷ []
ledgers_of (Two a b) = sub_ℕ a 8 ∷ sub_ℕ b 8 ∷ []
