-- The lines of the rules, from the texts that are put one behind another.
use Rattle.std.proofs.Common.{◌≡◌, ℕ, List, [], ◌∷◌, ◌++◌, ℤ, sym, refl, ap, ◌∙◌, append_assoc, append-nil}
use lib.IntN.{sub_ℕ}
use Rattle.rules.specs.Commands.{Command}
use Rattle.rules.specs.Whose.{Whose, sole}
use Rattle.rules.specs.File.{accepted, refused}
use Rattle.rules.specs.Lines.{decimal, signed, shown_part, entry_line, ledger_parts, verdict_line}
use Rattle.lines.specs.Parts.{name_part, bank_part, owed_part}

abbrev accepted_word : List ℕ
accepted_word = 97 ∷ 99 ∷ 99 ∷ 101 ∷ 112 ∷ 116 ∷ 101 ∷ 100 ∷ 32 ∷ []

abbrev refused_word : List ℕ
refused_word = 114 ∷ 101 ∷ 102 ∷ 117 ∷ 115 ∷ 101 ∷ 100 ∷ 32 ∷ []

pub entry_joined : (t : ℕ) (c : Command) (w : Whose) (n : ℕ) → decimal t ++ (name_part c ++ bank_part c n) ++ shown_part w ++ (10 ∷ []) ≡ entry_line t c w n
unfolding entry_line
entry_joined t c w n = rw (← append_assoc (decimal t) (name_part c) (bank_part c n))

-- of the one part, with all that stands behind the stamp as one text
pub quick_joined : (t : ℕ) (c : Command) (n : ℕ) (tail : List ℕ) → tail ≡ name_part c ++ bank_part c n ++ (10 ∷ []) → decimal t ++ tail ≡ entry_line t c sole n
unfolding shown_part
quick_joined t c n tail h =
    let front = decimal t ++ (name_part c ++ bank_part c n) in
    rw h
    (sym (append_assoc (decimal t) (name_part c ++ bank_part c n) (10 ∷ [])) ∙ ap (λ (l : List ℕ). l ++ (10 ∷ [])) (sym (append-nil front)) ∙ entry_joined t c sole n)

pub one_owed : (a : ℕ) → owed_part a ≡ ledger_parts (sub_ℕ a 8 ∷ [])
unfolding ledger_parts
one_owed a = rw (append-nil (signed (sub_ℕ a 8)))

pub two_owed : (a b : ℕ) → owed_part a ++ owed_part b ≡ ledger_parts (sub_ℕ a 8 ∷ sub_ℕ b 8 ∷ [])
unfolding ledger_parts
two_owed a b = rw (append-nil (signed (sub_ℕ b 8)))

pub accepted_joined : (m n : ℕ) (ls : List ℤ)
    → accepted_word ++ decimal m ++ (32 ∷ decimal n) ++ ledger_parts ls ++ (10 ∷ []) ≡ verdict_line (accepted m n ls)
unfolding verdict_line
accepted_joined m n ls = refl

pub refused_joined : (k q at t : ℕ)
    → refused_word ++ decimal k ++ (32 ∷ decimal q) ++ (32 ∷ decimal at) ++ (32 ∷ decimal t) ++ (10 ∷ []) ≡ verdict_line (refused k q at t)
unfolding verdict_line
refused_joined k q at t = refl
