-- All that the delay rules ask of the other part is its latest RD, RD or MRR, and WR: where two answerers agree in these, every rule has the same bound.
use Prim.Native.Nat.{ℕ}
use mathlib.Core.Path.{◌≡◌, refl}
use mathlib.Core.Logic.{inl, inr}
use mathlib.Core.List.{List, [], ◌∷◌}
use Rattle.rules.specs.Lists.{Every}
use Rattle.rules.specs.Units.{Delays}
use Rattle.rules.specs.Commands.{Command}
use Rattle.rules.specs.Registers.{Modes}
use Rattle.rules.specs.Levels.{Move}
use Rattle.rules.specs.Folds.{Source, Rule, permitted_by, bound, first_broken, greatest}
use Rattle.rules.specs.Delays.{Ask, last_rd, last_wr, last_rd_or_mrr, Asked, Answers, Lookup, look_both, delay_rules}
use Rattle.rules.proofs.Table.{OnBus, each_source}

-- for any bank
abbrev pub SameOn : Answers → Answers → Ask → Type 0
SameOn f g a = (b : ℕ) → f (record { ask = a; bank = b }) ≡ g (record { ask = a; bank = b })

pub record SameBus (f g : Answers) : Type 0 where
  pub rd : SameOn f g last_rd
  pub rd_or_mrr : SameOn f g last_rd_or_mrr
  pub wr : SameOn f g last_wr

-- ---- lookups that agree on what a rule asks
module _ (look look' : Lookup) where
  abbrev Agrees : Source Asked Modes → Type 0
  Agrees s = look s.ask ≡ look' s.ask

  abbrev SameBound : Rule Asked Modes → Type 0
  SameBound q = bound look q ≡ bound look' q

  permitted_same : (ss : List (Source Asked Modes)) → Every Agrees ss → permitted_by look ss ≡ permitted_by look' ss
  unfolding Every permitted_by
  permitted_same [] h = refl
  permitted_same (s ∷ ss) h = rw (h.0, permitted_same ss h.1)

  bounds_same : (qs : List (Rule Asked Modes)) → Every (λ q. Every Agrees q.sources) qs → Every SameBound qs
  unfolding Every bound
  bounds_same [] h = tt
  bounds_same (q ∷ qs) h = (permitted_same q.sources h.0, bounds_same qs h.1)

  broken_same : (qs : List (Rule Asked Modes)) (t : ℕ) → Every SameBound qs → first_broken look qs t ≡ first_broken look' qs t
  unfolding Every first_broken
  broken_same [] t h = refl
  broken_same (q ∷ qs) t h = rw (h.0, broken_same qs t h.1)

  greatest_same : (qs : List (Rule Asked Modes)) → Every SameBound qs → greatest look qs ≡ greatest look' qs
  unfolding Every greatest
  greatest_same [] h = refl
  greatest_same (q ∷ qs) h = rw (h.0, greatest_same qs h.1)

-- ---- the own part's answers beside those of two that agree on the bus
module _ (own f g : Answers) (same : SameBus f g) where
  on_bus : (a : Ask) → OnBus a → SameOn f g a
  on_bus a (inl h) = rw h same.rd
  on_bus a (inr (inl h)) = rw h same.rd_or_mrr
  on_bus a (inr (inr h)) = rw h same.wr

  module _ (d : Delays) (c : Command) (m : Move) (n : ℕ) where
    pub bus_bounds : Every (λ q. bound (look_both own f) q ≡ bound (look_both own g) q) (delay_rules d c m n)
    unfolding look_both
    bus_bounds = bounds_same (look_both own f) (look_both own g) (delay_rules d c m n)
        (each_source (Agrees (look_both own f) (look_both own g)) (λ a b d. refl) (λ a b d l. refl) (λ a b d o. on_bus a o b) (λ a b d o l. on_bus a o b) d c m n)

    pub bus_broken : (t : ℕ) → first_broken (look_both own f) (delay_rules d c m n) t ≡ first_broken (look_both own g) (delay_rules d c m n) t
    bus_broken t = broken_same (look_both own f) (look_both own g) (delay_rules d c m n) t bus_bounds

    pub bus_greatest : greatest (look_both own f) (delay_rules d c m n) ≡ greatest (look_both own g) (delay_rules d c m n)
    bus_greatest = greatest_same (look_both own f) (look_both own g) (delay_rules d c m n) bus_bounds
