-- What the line of an entry shows of a bank, in the code's types.
use Rattle.std.specs.Prelude.{ℕ, List, [], ◌∷◌, Option, None, Some}
use Rattle.rules.specs.Lines.{decimal}

-- a number, or a dash
unfoldable pub shown_bank : Option ℕ → List ℕ
shown_bank (Some b) = 32 ∷ decimal b
shown_bank None = 32 ∷ 45 ∷ []
