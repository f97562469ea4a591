-- Document 01's bench card in the code's columns; that it is the rules' own is a law (proofs/BenchCard).
use Rattle.std.specs.Prelude.{false, [], ◌∷◌}
use Rattle.card.specs.declared.Card.{Card}

unfoldable pub bench_card : Card
bench_card = record {
  period = record { 0 = 1_250_000 };
  mr2 = 0x1a;
  groups = 8192;
  trefi = 3_900_000;
  durations =
      18000 ∷ 18000 ∷ 21000 ∷ 42000 ∷ 10000 ∷ 50000 ∷ 7500 ∷ 15000 ∷ 7500 ∷ 5500 ∷ 130000 ∷ 60000 ∷ 0 ∷ 0 ∷ 0 ∷ 0 ∷ 0 ∷ 0 ∷ [];
  floors = 3 ∷ 3 ∷ 3 ∷ 3 ∷ 2 ∷ 8 ∷ 4 ∷ 4 ∷ 4 ∷ 0 ∷ 0 ∷ 0 ∷ 4 ∷ 10 ∷ 0 ∷ 0 ∷ 0 ∷ 0 ∷ [];
  sleeps = false;
  programmed = false;
  mr1 = 0;
  paired = false;
  gap = 0;
  raise = 0;
}
