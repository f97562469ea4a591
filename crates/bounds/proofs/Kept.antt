-- What a record remembers, as the answer to a question.
use Prim.Native.Nat.{ℕ, zero, suc}
use mathlib.Core.Path.{◌≡◌, refl}
use mathlib.Core.Bool.{Bool, true, false, cond}
use mathlib.Core.List.{[], ◌∷◌}
use native.Mathlib.Omega.{arith}
use lib.Dec.{leb, ltb}
use mathlib.Core.Option.{none, some}
use Rattle.std.specs.Bool.{then_some}
use borrow.Author.Tests.{le-leb}
use lib.ListN.{get_or, get_elem?, take}
use Rattle.rules.specs.Delays.{unnoted, means, latest_of, lagging_of, fourth_of, latest_if, latest_move}
use Rattle.rules.specs.Lent.{look_in}
use Rattle.card.specs.Values.{mr1_if, modes_of}
use Rattle.bank.specs.Values.{entry, outweighed, kept, no_modes, place, four, once, noted, each, noted_each, pre_of, prea_of, asked, share_of}
use Rattle.bank.specs.declared.Four.{Four}
use Rattle.bounds.specs.Parts.{answer_of, unless_later, ask_of, asked_for}

-- named by `look`: what unfolds this unfolds all these
unfoldable pub opened : ℕ
unfolding look_in share_of asked pre_of prea_of once noted each noted_each asked_for ask_of means latest_of lagging_of fourth_of latest_if latest_move
opened = 0

-- named by what answers for a kind
unfoldable pub kept_opened : ℕ
unfolding answer_of kept once noted each noted_each modes_of mr1_if unnoted
kept_opened = 0

-- the first, unless the second came later
pub first_unless : (s r : Bool) (t u : ℕ) → unless_later (get_elem? (kept s t unnoted) 0) (get_elem? (kept r u unnoted) 0) ≡ get_elem? (cond (outweighed s r t u) [] (kept s t unnoted)) 0
unfolding unless_later kept outweighed
first_unless true true t u = cases (ltb t u)
  where
    cases : (b : Bool) → cond b none (some (entry t unnoted)) ≡ get_elem? (cond b [] (entry t unnoted ∷ [])) 0
    cases true = refl
    cases false = refl
first_unless true false t u = refl
first_unless false true t u = refl
first_unless false false t u = refl

-- fewer than four: there is none
pub fourth_kept : (x : Four) → answer_of (then_some (leb 4 x.count) (record { at = get_or x.at 3 0; modes = no_modes })) ≡ get_elem? (four x) 3
unfolding answer_of four modes_of mr1_if unnoted
fourth_kept x = go x.count
  where
    go : (n : ℕ) → answer_of (then_some (leb 4 n) (record { at = get_or x.at 3 0; modes = no_modes })) ≡ get_elem? (take n (place x 0 ∷ place x 1 ∷ place x 2 ∷ place x 3 ∷ [])) 3
    go zero = refl
    go (suc zero) = refl
    go (suc (suc zero)) = refl
    go (suc (suc (suc zero))) = refl
    go (suc (suc (suc (suc n)))) = rw (le-leb 4 (suc (suc (suc (suc n)))) (omega arith))
