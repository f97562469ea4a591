-- What holds of every source of the table of delay rules, from what holds of each kind of source: a fixed delay, one by the mode registers, and either from the other
-- part's answers, of which only the latest RD, RD or MRR, and WR are asked.
use Prim.Native.Nat.{ℕ, ◌+◌}
use mathlib.Core.Path.{◌≡◌, refl}
use mathlib.Core.Logic.{◌⊎◌, inl, inr}
use mathlib.Core.Bool.{true}
use mathlib.Core.List.{List, [], ◌∷◌, ◌++◌}
use Rattle.rules.specs.Lists.{Every}
use Rattle.rules.specs.Units.{Delays}
use Rattle.rules.specs.Commands.{Command}
use Rattle.rules.specs.Registers.{rl_of, wl_of, Modes, nwr_of}
use Rattle.rules.specs.Levels.{Move}
use Rattle.rules.specs.Folds.{Source}
use Rattle.rules.specs.Delays.{Ask, last_rd, last_wr, last_rd_or_mrr, Question, Asked, mine, theirs, turned, means, lagging_of, from, lagging, recovering, across, rule, delay_rules}
use Rattle.rules.proofs.Tests.{◌&◌}

abbrev pub OnBus : Ask → Type 0
OnBus a = (a ≡ last_rd) ⊎ ((a ≡ last_rd_or_mrr) ⊎ (a ≡ last_wr))

abbrev pub source : (Question → Asked) → Ask → ℕ → (Modes → ℕ) → Source Asked Modes
source whom a b d = record { ask = whom (record { ask = a; bank = b }); delay = d }

pub every_both : {A : Type 0} (P : A → Type 0) (xs ys : List A) → Every P xs → Every P ys → Every P (xs ++ ys)
unfolding Every
every_both P [] ys p q = q
every_both P (x ∷ xs) ys p q = (p.0, every_both P xs ys p.1 q)

across_both : (g : ℕ) (xs ys : List (Source Asked Modes)) → across g (xs ++ ys) ≡ across g xs ++ across g ys
unfolding across
across_both g [] ys = refl
across_both g (x ∷ xs) ys = rw (across_both g xs ys)

module _ (S : Source Asked Modes → Type 0)
    (fixed : (a : Ask) (b d : ℕ) → S (source mine a b (λ m. d)))
    (lags : (a : Ask) (b : ℕ) (d : Modes → ℕ) → (means a).lags ≡ true → S (source mine a b d))
    (far_fixed : (a : Ask) (b d : ℕ) → OnBus a → S (source theirs a b (λ m. d)))
    (far_lags : (a : Ask) (b : ℕ) (d : Modes → ℕ) → OnBus a → (means a).lags ≡ true → S (source theirs a b d)) where
  one : (bs : List ℕ) (d : ℕ) (a : Ask) → Every S (from bs d a)
  unfolding Every from
  one [] d a = tt
  one (b ∷ bs) d a = (fixed a b d, one bs d a)

  lag : (bs : List ℕ) (d : ℕ → ℕ → ℕ) (a : Ask) → (means a).lags ≡ true → Every S (lagging bs d a)
  unfolding Every lagging
  lag [] d a l = tt
  lag (b ∷ bs) d a l = (lags a b (λ m. d (rl_of m.mr2) (wl_of m.mr2)) l, lag bs d a l)

  recovers : (bs : List ℕ) (w : ℕ) (d : ℕ → ℕ → ℕ) (a : Ask) → (means a).lags ≡ true → Every S (recovering bs w d a)
  unfolding Every recovering
  recovers [] w d a l = tt
  recovers (b ∷ bs) w d a l = (lags a b (λ m. d (wl_of m.mr2) (nwr_of w m)) l, recovers bs w d a l)

  far_one : (g : ℕ) (bs : List ℕ) (d : ℕ) (a : Ask) → OnBus a → Every S (across g (from bs d a))
  unfolding Every from across turned
  far_one g [] d a o = tt
  far_one g (b ∷ bs) d a o = (far_fixed a b (d + g) o, far_one g bs d a o)

  far_lag : (g : ℕ) (bs : List ℕ) (d : ℕ → ℕ → ℕ) (a : Ask) → OnBus a → (means a).lags ≡ true → Every S (across g (lagging bs d a))
  unfolding Every lagging across turned
  far_lag g [] d a o l = tt
  far_lag g (b ∷ bs) d a o l = (far_lags a b (λ m. d (rl_of m.mr2) (wl_of m.mr2) + g) o l, far_lag g bs d a o l)

  two : (bs bs' : List ℕ) (d d' : ℕ) (a a' : Ask) → Every S (from bs d a ++ from bs' d' a')
  two bs bs' d d' a a' = every_both S (from bs d a) (from bs' d' a') (one bs d a) (one bs' d' a')

  three : (bs bs' bs'' : List ℕ) (d d' d'' : ℕ) (a a' a'' : Ask) → Every S (from bs d a ++ (from bs' d' a' ++ from bs'' d'' a''))
  three bs bs' bs'' d d' d'' a a' a'' = every_both S (from bs d a) (from bs' d' a' ++ from bs'' d'' a'') (one bs d a) (two bs' bs'' d' d'' a' a'')

  far_two : (g : ℕ) (bs bs' : List ℕ) (d d' : ℕ) (a a' : Ask) → OnBus a → OnBus a' → Every S (across g (from bs d a ++ from bs' d' a'))
  far_two g bs bs' d d' a a' o o' =
      rw (across_both g (from bs d a) (from bs' d' a')) (every_both S (across g (from bs d a)) (across g (from bs' d' a')) (far_one g bs d a o) (far_one g bs' d' a' o'))

  pub each_source : (d : Delays) (c : Command) (m : Move) (n : ℕ) → Every (λ q. Every S q.sources) (delay_rules d c m n)
  unfolding Every delay_rules rule means lagging_of
  each_source d c m n =
      one _ _ _ & one _ _ _ & one _ _ _ & two _ _ _ _ _ _ & one _ _ _ & one _ _ _ & one _ _ _ & one _ _ _ & one _ _ _ &
      two _ _ _ _ _ _ & one _ _ _ & two _ _ _ _ _ _ & lag _ _ _ refl & lag _ _ _ refl & one _ _ _ & one _ _ _ & lag _ _ _ refl & recovers _ _ _ _ refl &
      three _ _ _ _ _ _ _ _ _ & one _ _ _ & one _ _ _ & one _ _ _ &
      far_two _ _ _ _ _ _ _ (inl refl) (inr (inr refl)) & far_lag _ _ _ _ (inr (inl refl)) refl & far_lag _ _ _ _ (inr (inr refl)) refl & tt
