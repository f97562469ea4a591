-- The banks that a rule asks for, one after the other: what the loop over them is held to.
use Prim.Native.Nat.{ℕ, suc, ◌+◌, ◌-◌, ◌≤◌, ◌<◌, max}
use mathlib.Core.Path.{◌≡◌, refl, ap, ◌∙◌}
use mathlib.Core.Bool.{Bool, true, false, cond}
use mathlib.Core.List.{List, [], ◌∷◌, ◌++◌}
use mathlib.Core.Option.{Option, none, some}
use Rattle.std.specs.Prelude as rust
use Rattle.std.specs.Prelude.{None, Some}
use Rattle.std.specs.Bool.{then_some}
use Rattle.std.specs.List.{range_with_len}
use Rattle.std.specs.Option.{option_eq}
use native.Mathlib.Omega.{arith}
use lib.Dec.{eqb}
use Rattle.rules.specs.Folds as folds
use Rattle.rules.specs.Folds.{Source, permitted, permitted_by}
use Rattle.rules.specs.Lists.{when}
use Rattle.rules.specs.Commands.{banks, code, is, kind_of, bank_of, carries, bare}
use Rattle.rules.specs.Registers.{Modes}
use Rattle.rules.specs.Past.{bank_at}
use Rattle.rules.specs.Delays.{Answers, without, idle_use, precharged}
use Rattle.pins.specs.Values.{command_of}
use Rattle.bounds.specs.Parts.{asked_for, banks_but, asked_of, delay_in, permitted_after, sources_of}
use Rattle.bounds.specs.declared.answers.Ask.{Ask}
use Rattle.bounds.specs.declared.banks.Banks.TheVariants.{One, AllBut}
use Rattle.bounds.specs.declared.delays.Lag.{Lag}

-- named by the files of the banks and of the kinds: what unfolds this unfolds all these
unfoldable pub opened : ℕ
unfolding asked_of idle_use precharged when bank_at banks is code kind_of bank_of carries bare command_of
opened = 0

pub same_permitted : {Q : Type 0} (s : Source Q Modes) (g : Lag) (d : ℕ) (o : Option (folds.Found Modes)) → ((m : Modes) → s.delay m ≡ delay_in g d m)
    → permitted s o ≡ permitted_after g d o
unfolding permitted permitted_after
same_permitted s g d none e = refl
same_permitted s g d (some f) e = rw (e f.noted)

pub joined : {Q : Type 0} (look : Q → Option (folds.Found Modes)) (xs ys : List (Source Q Modes)) → permitted_by look (xs ++ ys) ≡ max (permitted_by look xs) (permitted_by look ys)
unfolding permitted_by
joined look [] ys = omega arith
joined look (x ∷ xs) ys = omega (arith, joined look xs ys)

-- and by what asks for banks
unfoldable pub asked_opened : ℕ
unfolding asked_of banks_but sources_of permitted_by
asked_opened = 0

-- a command's own bank, and the others, where a rule asks for them
pub own_if : (w : Bool) (b : ℕ) → asked_of (then_some w (One b)) ≡ when w (b ∷ [])
unfolding asked_of when
own_if true b = refl
own_if false b = refl

pub others_if : (w : Bool) (b : ℕ) → asked_of (then_some w (AllBut b)) ≡ when w (without b banks)
unfolding asked_of when
others_if true b = refl
others_if false b = refl

module _ (look : Answers) (a : Ask) (g : Lag) (d : ℕ) where
  abbrev over : List ℕ → ℕ
  over bs = permitted_by look (sources_of bs a g d)

  abbrev at : ℕ → ℕ
  at bank = permitted_after g d (look (asked_for a bank))

  -- `n` banks from `first` on
  abbrev left : rust.Option ℕ → (first n : ℕ) → ℕ
  left but first n = over (banks_but but (range_with_len first n))

  pub first_of : (b : ℕ) (bs : List ℕ) → over (b ∷ bs) ≡ max (at b) (over bs)
  unfolding sources_of permitted_by
  first_of b bs = rw (same_permitted (record { ask = asked_for a b; delay = delay_in g d }) g d (look (asked_for a b)) (λ m. refl))

  pub one_asked : (b : ℕ) → over (b ∷ []) ≡ at b
  unfolding sources_of permitted_by
  one_asked b = let e = first_of b [] in omega (arith, e)

  one_more : (but : rust.Option ℕ) (first n : ℕ)
      → left but first (suc n) ≡ cond (option_eq eqb (Some first) but) (left but (first + 1) n) (max (at first) (left but (first + 1) n))
  unfolding banks_but without
  one_more None first n = first_of first (range_with_len (first + 1) n)
  one_more (Some b) first n = go (eqb first b)
    where
      go : (t : Bool) → over (cond t (without b (range_with_len (first + 1) n)) (first ∷ without b (range_with_len (first + 1) n)))
          ≡ cond t (over (without b (range_with_len (first + 1) n))) (max (at first) (over (without b (range_with_len (first + 1) n))))
      go true = refl
      go false = first_of first (without b (range_with_len (first + 1) n))

  -- the banks that are left, of eight: the first of them is passed over, or asked
  module _ (but : rust.Option ℕ) (b : ℕ) where
    next : b < 8 → left but b (8 - b) ≡ cond (option_eq eqb (Some b) but) (left but (b + 1) (8 - (b + 1))) (max (at b) (left but (b + 1) (8 - (b + 1))))
    next h =
        let n : 8 - b ≡ suc (8 - (b + 1)) = omega arith in
        ap (left but b) n ∙ one_more but b (8 - (b + 1))

    pub passed : b < 8 → option_eq eqb (Some b) but ≡ true → left but b (8 - b) ≡ left but (b + 1) (8 - (b + 1))
    passed h t = next h ∙ rw t

    pub goes_on : b < 8 → option_eq eqb (Some b) but ≡ false → left but b (8 - b) ≡ max (at b) (left but (b + 1) (8 - (b + 1)))
    goes_on h t = next h ∙ rw t

  pub begins : (but : rust.Option ℕ) → over (banks_but but banks) ≡ left but 0 8
  unfolding banks
  begins but = refl

  pub none_left : (but : rust.Option ℕ) (b : ℕ) → 8 ≤ b → left but b (8 - b) ≡ 0
  unfolding banks_but without sources_of permitted_by
  none_left but b h = let n : 8 - b ≡ 0 = omega arith in ap (left but b) n ∙ empty but
    where
      empty : (but : rust.Option ℕ) → left but b 0 ≡ 0
      empty None = refl
      empty (Some o) = refl

pub ruleset by_bank = (begins, passed, goes_on, none_left)
