-- The parts of a line, each with the blank before it.
use Rattle.std.specs.Prelude.{ℕ, cond, List, [], ◌∷◌}
use Rattle.std.proofs.Math.IntN.{sub_ℕ}
use Rattle.rules.specs.Commands.{Command, kind_of, ap_of}
use Rattle.rules.specs.Past.{bank_at}
use Rattle.rules.specs.Lines.{decimal, signed, name_of, shows_bank}

abbrev pub name_part : Command → List ℕ
name_part c = 32 ∷ name_of (kind_of c) (ap_of c)

abbrev pub bank_part : Command → (counter : ℕ) → List ℕ
bank_part c n = 32 ∷ cond (shows_bank (kind_of c)) (decimal (bank_at c n)) (45 ∷ [])

abbrev pub owed_part : (owed : ℕ) → List ℕ
owed_part o = 32 ∷ signed (sub_ℕ o 8)
