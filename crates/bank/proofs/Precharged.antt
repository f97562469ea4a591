-- A PRE of a bank against the latest PRE-all: the later one counts.
use Prim.Native.Nat.{ℕ, zero, suc, ◌≤◌, ◌<◌}
use mathlib.Core.Path.{◌≡◌, refl, sym, ◌∙◌}
use mathlib.Core.Bool.{Bool, true, false, cond, ◌&&◌, ◌||◌}
use mathlib.Core.List.{List, [], ◌∷◌}
use mathlib.Core.Logic.{⊎_elim}
use mathlib.Core.Option.{Option, none, some}
use native.Mathlib.Omega.{arith}
use borrow.Author.Tests.{lt-ltb, le-ltb, leb-true, ltb-true}
use lib.Dec.{ltb}
use lib.ListN.{length, get_or, get_or-eq_default}
use Rattle.rules.specs.Lists.{all}
use Rattle.rules.specs.Folds.{Found}
use Rattle.rules.specs.Commands.{banks}
use Rattle.rules.specs.Registers.{Modes}
use Rattle.rules.specs.Delays.{last_pre_to, unnoted}
use Rattle.rules.specs.Lent.{History, asks, all_stored, not_above, above_last, stamps_good}
use Rattle.rules.proofs.Onward.{at_each}
use Rattle.rules.proofs.Tests.{lt_cases, both_true}
use Rattle.bank.specs.Values.{entry, kept, once, each, outweighed, pre_of, prea_of, asked, share_of}
use Rattle.bank.specs.declared.Share.{Share}
use Rattle.bank.proofs.Stored.{all_onward}
use Rattle.bank.proofs.Sizes.{ShareWhole}

-- this one, unless the other came later
abbrev pub shown : (seen : Bool) (at : ℕ) (other : Bool) (later : ℕ) → List (Found Modes)
shown s p r u = cond (outweighed s r p u) [] (kept s p unnoted)

false_true : {A : Type 0} → false ≡ true → A
false_true e = absurd (let z : ◌≡◌ {A = ℕ} 0 1 = cc in omega arith)

-- the first comes now where x holds, the other where y holds
shown_after : (t p u : ℕ) (x y s r : Bool) → (x && y) ≡ false → (s ≡ true → p < t) → (r ≡ true → u < t)
    → shown (cond x true s) (cond x t p) (cond y true r) (cond y t u) ≡ cond (x || y) (cond x (entry t unnoted ∷ []) []) (shown s p r u)
unfolding outweighed kept
shown_after t p u false false s r n f g = refl
shown_after t p u true false s false n f g = refl
shown_after t p u true false s true n f g = rw (le-ltb t u (omega (arith, g refl)))
shown_after t p u false true false r n f g = refl
shown_after t p u false true true r n f g = rw (lt-ltb p t (f refl))
shown_after t p u true true s r n f g = false_true (sym n)

-- PRE-all comes where z holds, PRE where q holds, of the bank where e holds
pub both_after : (t p u : ℕ) (z q e s r : Bool) → (z && q) ≡ false → (s ≡ true → p < t) → (r ≡ true → u < t)
    → (shown (cond (q && e) true s) (cond (q && e) t p) (cond z true r) (cond z t u) ≡ cond (z || (q && e)) (cond q (entry t unnoted ∷ []) []) (shown s p r u))
    × (shown (cond z true r) (cond z t u) (cond (q && e) true s) (cond (q && e) t p) ≡ cond (z || (q && e)) (cond z (entry t unnoted ∷ []) []) (shown r u s p))
both_after t p u false false e s r n f g = (refl, refl)
both_after t p u false true false s r n f g = (refl, refl)
both_after t p u false true true s r n f g = (shown_after t p u true false s r refl f g, shown_after t u p false true r s refl g f)
both_after t p u true false e s r n f g = (shown_after t p u false true s r refl f g, shown_after t u p true false r s refl g f)
both_after t p u true true e s r n f g = false_true (sym n)

-- ---- what is kept is below a rising stamp
all_at : {A : Type 0} (p : A → Bool) (l : List A) (i : ℕ) (d : A) → i < length l → all p l ≡ true → p (get_or l i d) ≡ true
unfolding all
all_at p [] i d h e = absurd (omega arith)
all_at p (x ∷ l) zero d h e = (both_true (p x) (all p l) e).0
all_at p (x ∷ l) (suc i) d h e = all_at p l i d (omega arith) (both_true (p x) (all p l) e).1

rising_stamp : (last : Option ℕ) (s t : ℕ) → not_above last s ≡ true → above_last last t ≡ true → s < t
unfolding not_above above_last
rising_stamp none s t e f = false_true e
rising_stamp (some l) s t e f = let a = leb-true s l e in let b = ltb-true l t f in omega arith

module _ (P : ℕ → Bool) (t : ℕ) (below : (s : ℕ) → P s ≡ true → s < t) where
  first : (s : ℕ) → all (λ (f : Found Modes). P f.stamp) (entry s unnoted ∷ []) ≡ true → s < t
  unfolding all
  first s e = below s (both_true (P s) true e).0

  both_below : (s r : Bool) (p u : ℕ) → all (λ (f : Found Modes). P f.stamp) (shown s p r u) ≡ true
      → all (λ (f : Found Modes). P f.stamp) (shown r u s p) ≡ true → (s ≡ true → p < t) × (r ≡ true → u < t)
  unfolding outweighed kept
  both_below false false p u e f = (λ x. false_true x, λ x. false_true x)
  both_below true false p u e f = (λ x. first p e, λ x. false_true x)
  both_below false true p u e f = (λ x. false_true x, λ x. first u f)
  both_below true true p u e f =
      ⊎_elim
      (λ (l : (p < u) × (ltb p u ≡ true)).
      let a = first u (rw (le-ltb u p (omega (arith, l.0))) at f) in
      (λ x. omega (arith, a, l.0), λ x. a))
      (λ (l : (u ≤ p) × (ltb p u ≡ false)).
      let a = first p (rw l.1 at e) in
      (λ x. a, λ x. omega (arith, a, l.0)))
      (lt_cases p u)

module _ (last : Option ℕ) (x : Share) (t : ℕ) (w : ShareWhole x) (good : stamps_good last (share_of x) ≡ true) (rising : above_last last t ≡ true) where
  stored : (i : ℕ) → i < length asks → (b : ℕ) → b < 8
      → all (λ (f : Found Modes). not_above last f.stamp) ((share_of x).history (record { ask = get_or asks i last_pre_to; bank = b })) ≡ true
  unfolding stamps_good all_stored
  stored i hi b hb =
      let P : Found Modes → Bool = λ f. not_above last f.stamp in
      let h : History = (share_of x).history in
      let inner = all_at (λ a. all (λ k. all P (h (record { ask = a; bank = k }))) banks) asks i last_pre_to hi good in
      at_each (λ k. all P (h (record { ask = get_or asks i last_pre_to; bank = k }))) 0 8 (sym (all_onward _) ∙ inner) b (omega arith) (omega arith)

  below_at : (b : ℕ) → b < 8
      → (get_or x.banks.pre.seen b false ≡ true → get_or x.banks.pre.at b 0 < t) × (x.latest.prea.seen ≡ true → x.latest.prea.at < t)
  unfolding asks share_of asked pre_of prea_of each once
  below_at b h =
      both_below (not_above last) t (λ s e. rising_stamp last s t e rising)
      (get_or x.banks.pre.seen b false) x.latest.prea.seen (get_or x.banks.pre.at b 0) x.latest.prea.at
      (stored 5 (omega arith) b h) (stored 6 (omega arith) b h)

  pub pre_below : (b : ℕ) → get_or x.banks.pre.seen b false ≡ true → get_or x.banks.pre.at b 0 < t
  pre_below b e =
      ⊎_elim (λ (l : (b < 8) × (ltb b 8 ≡ true)). (below_at b l.0).0 e)
      (λ (l : (8 ≤ b) × (ltb b 8 ≡ false)).
      let z = w.pre.seen in
      false_true (sym (get_or-eq_default x.banks.pre.seen false {n = b} (omega arith)) ∙ e))
      (lt_cases b 8)

  pub prea_below : x.latest.prea.seen ≡ true → x.latest.prea.at < t
  prea_below = (below_at 0 (omega arith)).1
