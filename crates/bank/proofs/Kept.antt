-- A stamp that may be there, as a flag with a number beside it and as an Option, where None is below each.
use Prim.Native.Nat.{ℕ, zero, suc}
use mathlib.Core.Path.{◌≡◌, refl, ◌∙◌}
use mathlib.Core.Bool.{Bool, true, false, cond}
use mathlib.Core.List.{List, [], ◌∷◌}
use mathlib.Core.Option.{none, some}
use native.Mathlib.Omega.{arith}
use lib.Dec.{leb}
use lib.ListN.{length, get_or, take}
use lib.Seq.{take-nil}
use Rattle.std.specs.List.{list_all, range_with_len}
use Rattle.rules.specs.Lists.{all}
use Rattle.rules.specs.Commands.{banks}
use Rattle.std.specs.Prelude.{Option, Some, None}
use Rattle.std.specs.Bool.{then_some}
use Rattle.std.specs.Option.{option_partial_cmp}
use Rattle.std.specs.Ordering.{is_le, nat_cmp, partial_le}
use Rattle.rules.specs.Lent.{not_above, last_by}
use Rattle.bank.specs.Values.{no_modes, last_of, four}
use Rattle.bank.specs.Clauses.{kept_by, kept_at, stamp_at, each_by, four_by, note_good, note_at, mr2_at, notes_good}
use Rattle.bank.specs.declared.Once.{Once}
use Rattle.bank.specs.declared.Each.{Each}
use Rattle.bank.specs.declared.NotedEach.{NotedEach}
use Rattle.bank.specs.declared.Four.{Four}

pub seen : (last : Once) (s : Bool) (t : ℕ) → kept_at last (then_some s t) ≡ kept_by last s t
unfolding kept_at kept_by
seen last true t = refl
seen last false t = refl

pub noted : (period : ℕ) (s : Bool) (n : ℕ) → note_at period (then_some s n) ≡ note_good period s n
unfolding note_at note_good
noted period true n = refl
noted period false n = refl

-- ---- in the order of Options
le_is : (t u : ℕ) → is_le (nat_cmp t u) ≡ leb t u
le_is t u = grind arith

abbrev at_most : Option ℕ → Option ℕ → Bool
at_most = partial_le (option_partial_cmp (λ x y. Some (nat_cmp x y)))

pub kept_is : (last : Once) (stamp : Option ℕ) → at_most stamp (then_some last.seen last.at) ≡ kept_at last stamp
unfolding kept_at last_of not_above
kept_is last None = go last.seen
  where
    go : (s : Bool) → at_most None (then_some s last.at) ≡ true
    go true = refl
    go false = refl
kept_is last (Some t) = go last.seen
  where
    go : (s : Bool) → at_most (Some t) (then_some s last.at) ≡ not_above (cond s (some last.at) none) t
    go true = le_is t last.at
    go false = refl

pub last_is : (last : Once) (cycle : ℕ) → at_most (then_some last.seen last.at) (Some cycle) ≡ last_by (last_of last) cycle
unfolding last_of last_by
last_is last cycle = go last.seen
  where
    go : (s : Bool) → at_most (then_some s last.at) (Some cycle) ≡ last_by (cond s (some last.at) none) cycle
    go true = le_is last.at cycle
    go false = refl

-- ---- over the eight banks, and the last four
over_banks : (p : ℕ → Bool) → list_all p (range_with_len 0 8) ≡ all p banks
unfolding all banks
over_banks p = refl

pub each_is : (last : Once) (x : Each) → list_all (λ b. kept_at last (stamp_at x b)) (range_with_len 0 8) ≡ each_by last x.seen x.at
unfolding each_by stamp_at
each_is last x = over_banks _ ∙ (λ i. all (λ b. seen last (get_or x.seen b false) (get_or x.at b 0) i) banks)

pub notes_are : (period : ℕ) (x : NotedEach) → list_all (λ b. note_at period (mr2_at x b)) (range_with_len 0 8) ≡ notes_good period x.seen x.modes
unfolding notes_good mr2_at
notes_are period x = over_banks _ ∙ (λ i. all (λ b. noted period (get_or x.seen b false) (get_or x.modes b no_modes).mr2 i) banks)

four_places : (last : Once) (n : ℕ) (a b c d : ℕ) →
    list_all (λ t. kept_at last (Some t)) (take n (a ∷ b ∷ c ∷ d ∷ [])) ≡ four_by last (record { count = n; at = a ∷ b ∷ c ∷ d ∷ [] })
unfolding four_by four all kept_at
four_places last zero a b c d = refl
four_places last (suc zero) a b c d = refl
four_places last (suc (suc zero)) a b c d = refl
four_places last (suc (suc (suc zero))) a b c d = refl
four_places last (suc (suc (suc (suc n)))) a b c d = rw (take-nil {A = ℕ} n, take-nil n)

pub four_is : (last : Once) (x : Four) → length x.at ≡ 4 → list_all (λ t. kept_at last (Some t)) (take x.count x.at) ≡ four_by last x
four_is last x e = go x.at e
  where
    go : (l : List ℕ) → length l ≡ 4 → list_all (λ t. kept_at last (Some t)) (take x.count l) ≡ four_by last (record { count = x.count; at = l })
    go (a ∷ b ∷ c ∷ d ∷ []) h = four_places last x.count a b c d
    go [] h = absurd (omega arith)
    go (a ∷ []) h = absurd (omega arith)
    go (a ∷ b ∷ []) h = absurd (omega arith)
    go (a ∷ b ∷ c ∷ []) h = absurd (omega arith)
    go (a ∷ b ∷ c ∷ d ∷ e ∷ l) h = absurd (omega arith)
