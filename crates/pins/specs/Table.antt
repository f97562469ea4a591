-- The kinds by their numbers.
use Rattle.std.specs.Prelude.{ℕ, List, [], ◌∷◌, get_or}
use Rattle.rules.specs.Commands.{Kind, NOP, MRW, MRR, REFPB, REFAB, ACT, RD, WR, PRE, PREA, RESERVED}

-- the kinds but RESERVED, by their numbers
abbrev pub kinds_in_order : List Kind
kinds_in_order = NOP ∷ MRW ∷ MRR ∷ REFPB ∷ REFAB ∷ ACT ∷ RD ∷ WR ∷ PRE ∷ PREA ∷ []

-- the kind with this number
unfoldable pub kind_with : ℕ → Kind
kind_with n = get_or kinds_in_order n RESERVED
