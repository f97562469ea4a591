-- One place of an array changed, the flags of open banks, and the four activations.
use Prim.Native.Nat.{ℕ, zero, suc, ◌+◌, ◌≤◌, ◌<◌}
use mathlib.Core.Path.{◌≡◌, refl, ap, ◌∙◌}
use mathlib.Core.Bool.{Bool, true, false, cond, ◌&&◌, ◌||◌}
use mathlib.Core.List.{List, ◌∷◌}
use mathlib.Core.Logic.{⊎_elim}
use native.Mathlib.Omega.{arith}
use borrow.Author.Tests.{le-leb}
use lib.Dec.{eqb, leb}
use lib.ListN.{length, get_or, set, take, replicate, length-set}
use lib.Seq.{get_or-set_same, get_or-set_other}
use Rattle.rules.specs.Commands.{Command, ACT, RD, WR, PRE, PREA, is, bank_of, ap_of}
use Rattle.rules.specs.Delays.{unnoted}
use Rattle.rules.specs.Past.{opens, precharges, closes, open_after}
use Rattle.rules.proofs.Tests.{eq_cases}
use Rattle.bank.specs.Values.{entry, four}
use Rattle.bank.specs.After.{shifted, pushed_on, shuts, opened_after}
use Rattle.bank.specs.declared.Four.{Four}

pub set_read : {A : Type 0} (l : List A) (k b : ℕ) (v d : A) → k < length l → get_or (set l k v) b d ≡ cond (eqb k b) v (get_or l b d)
set_read l k b v d h =
    ⊎_elim (λ (p : (k ≡ b) × (eqb k b ≡ true)). rw (p.1, p.0, get_or-set_same l b v d (omega arith)))
    (λ (p : (k ≡ b → ⊥) × (eqb k b ≡ false)). rw (p.1, get_or-set_other l k b v d (omega arith)))
    (eq_cases k b)

pub same_everywhere : {A : Type 0} (n b : ℕ) (d : A) → get_or (replicate n d) b d ≡ d
same_everywhere zero b d = refl
same_everywhere (suc n) zero d = refl
same_everywhere (suc n) (suc b) d = same_everywhere n b d

-- ---- open banks
put_if : (now : Bool) (l : List Bool) (k b : ℕ) (v : Bool) → k < length l
    → get_or (cond now (set l k v) l) b false ≡ cond (now && eqb k b) v (get_or l b false)
put_if true l k b v h = set_read l k b v false h
put_if false l k b v h = refl

put_length : (now : Bool) (l : List Bool) (k : ℕ) (v : Bool) → length (cond now (set l k v) l) ≡ length l
put_length true l k v = length-set l k v
put_length false l k v = refl

cleared : (now : Bool) (l : List Bool) (b : ℕ) → get_or (cond now (replicate 8 false) l) b false ≡ cond now false (get_or l b false)
cleared true l b = same_everywhere 8 b false
cleared false l b = refl

cleared_length : (now : Bool) (l : List Bool) → length l ≡ 8 → length (cond now (replicate 8 false) l) ≡ 8
cleared_length true l e = refl
cleared_length false l e = e

neither : (b : Bool) → cond b false false ≡ false
neither true = refl
neither false = refl

-- all that closes: PRE-all z, PRE q, RD or WR w with AP p, of the bank where e holds
closing : (z q w p e o : Bool) → cond ((q || (w && p)) && e) false (cond z false o) ≡ cond ((z || (q && e)) || (w && (p && e))) false o
closing true q w p e o = neither ((q || (w && p)) && e)
closing false true w p true o = refl
closing false true true true false o = refl
closing false true true false false o = refl
closing false true false p false o = refl
closing false false true true e o = refl
closing false false true false e o = refl
closing false false false p e o = refl

pub opened_after_lem : (c : Command) (l : List Bool) (b : ℕ) → length l ≡ 8 → bank_of c ≤ 7
    → get_or (opened_after c l) b false ≡ open_after b c (get_or l b false)
unfolding opened_after shuts open_after opens closes precharges
opened_after_lem c l b e h =
    let k = bank_of c in
    let l0 = cond (is PREA c) (replicate 8 false) l in
    let l1 = cond (shuts c) (set l0 k false) l0 in
    let e0 : length l0 ≡ 8 = cleared_length (is PREA c) l e in
    let e1 : length l1 ≡ 8 = put_length (shuts c) l0 k false ∙ e0 in
    put_if (is ACT c) l1 k b true (omega arith)
    ∙ ap (cond (is ACT c && eqb k b) true)
    (put_if (shuts c) l0 k b false (omega arith)
    ∙ ap (cond (shuts c && eqb k b) false) (cleared (is PREA c) l b)
    ∙ closing (is PREA c) (is PRE c) (is RD c || is WR c) (ap_of c) (eqb k b) (get_or l b false))

-- ---- the four activations
pushed_four : (t : ℕ) (x : Four) → four (pushed_on t x) ≡ entry t unnoted ∷ take 3 (four x)
unfolding four pushed_on
pushed_four t x = go x.count x.at
  where
    go : (n : ℕ) (l : List ℕ) → four (record { count = cond (leb 4 n) 4 (n + 1); at = shifted t l }) ≡ entry t unnoted ∷ take 3 (four (record { count = n; at = l }))
    go zero l = refl
    go (suc zero) l = refl
    go (suc (suc zero)) l = refl
    go (suc (suc (suc zero))) l = refl
    go (suc (suc (suc (suc n)))) l = rw (le-leb 4 (suc (suc (suc (suc n)))) (omega arith))

pub four_after_lem : (now : Bool) (t : ℕ) (x : Four) → four (cond now (pushed_on t x) x) ≡ cond now (entry t unnoted ∷ take 3 (four x)) (four x)
four_after_lem true t x = pushed_four t x
four_after_lem false t x = refl
