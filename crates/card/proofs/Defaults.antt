-- The card whose fields are each the default is the blank one.
use Prim.Native.Nat.{ℕ}
use mathlib.Core.Path.{◌≡◌, sym, ◌∙◌}
use mathlib.Core.Bool.{false}
use mathlib.Core.List.{List}
use native.Mathlib.Omega.{arith}
use lib.ListN.{replicate}
use Rattle.std.specs.Array.{AllOfLen}
use Rattle.std.proofs.lemmas.Grind.{same_number_lists}
use Rattle.std.proofs.lemmas.List.{get_or-replicate}
use Rattle.card.specs.Reading.{blank_card}
use Rattle.card.specs.declared.Card.{Card}

abbrev pub IsDefault : Card → Type 0
IsDefault card =
    (card.period.0 ≡ 0)
    × ((card.mr2 ≡ 0)
    × ((card.groups ≡ 0)
    × ((card.trefi ≡ 0)
    × (AllOfLen (λ x. x ≡ 0) card.durations 18
    × (AllOfLen (λ x. x ≡ 0) card.floors 18
    × ((card.sleeps ≡ false) × ((card.programmed ≡ false) × ((card.mr1 ≡ 0) × ((card.paired ≡ false) × ((card.gap ≡ 0) × (card.raise ≡ 0)))))))))))

zeros : (xs : List ℕ) → AllOfLen (λ x. x ≡ 0) xs 18 → xs ≡ replicate 18 0
zeros xs h =
    same_number_lists xs (replicate 18 0) h.long (λ k lt. h.at k 0 (omega (arith, lt, h.long)) ∙ sym (get_or-replicate 18 k 0 0 (omega (arith, lt, h.long))))

pub default_is : (card : Card) → IsDefault card → card ≡ blank_card
unfolding blank_card
default_is card (period, (mr2, (groups, (trefi, (durations, (floors, (sleeps, (programmed, (mr1, (paired, (gap, raise))))))))))) = λ i. record {
  period = record { 0 = period i };
  mr2 = mr2 i;
  groups = groups i;
  trefi = trefi i;
  durations = zeros card.durations durations i;
  floors = zeros card.floors floors i;
  sleeps = sleeps i;
  programmed = programmed i;
  mr1 = mr1 i;
  paired = paired i;
  gap = gap i;
  raise = raise i;
}
