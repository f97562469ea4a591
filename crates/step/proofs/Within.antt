-- A rule whose first permitted cycle is no later than the stamp does not speak; what the quick test sums up is no less than any of those cycles, whether the
-- entry was there or not.
use Prim.Native.Nat.{ℕ, zero, suc, ◌+◌, ◌-◌, ◌≤◌, max}
use mathlib.Core.Path.{◌≡◌, refl}
use mathlib.Core.Bool.{Bool, true, false, cond}
use mathlib.Core.List.{List, [], ◌∷◌}
use mathlib.Core.Option.{none}
use mathlib.Core.Logic.{⊎_elim}
use native.Mathlib.Omega.{arith}
use lib.Dec.{eqb}
use lib.ListN.{get_or, get_elem?, take}
use borrow.Author.Tests.{le-leb}
use Rattle.rules.specs.Lists.{Every}
use Rattle.rules.specs.Bits.{bits, on}
use Rattle.rules.specs.Commands.{banks}
use Rattle.rules.specs.Registers.{Latency, row, latencies, at_code, rl_of, wl_of, Modes}
use Rattle.rules.specs.Folds.{Source, Rule, permitted, permitted_by, bound, first_broken}
use Rattle.rules.specs.Delays.{Ask, Asked, mine, Lookup, unnoted, without, from}
use Rattle.rules.proofs.Tests.{eq_cases, ◌&◌}
use Rattle.bank.specs.Values.{kept, once, place, four}
use Rattle.bank.specs.declared.Once.{Once}
use Rattle.bank.specs.declared.Four.{Four}
use Rattle.step.specs.Ready.{max4, top_of}

pub quiet : (look : Lookup) (t : ℕ) (qs : List (Rule Asked Modes)) → Every (λ q. bound look q ≤ t) qs → first_broken look qs t ≡ none
unfolding Every first_broken
quiet look t [] h = refl
quiet look t (q ∷ qs) h = rw (le-leb (bound look q) t h.0) (quiet look t qs h.1)

pub silent : {t : ℕ} → 0 ≤ t
silent {t} = omega arith

-- one source
pub alone : {x t : ℕ} → x ≤ t → max x 0 ≤ t
alone {x} {t} h = omega arith

pub both : {x y t : ℕ} → x ≤ t → y ≤ t → max x y ≤ t
both {x} {y} {t} p q = omega arith

module _ (s : Source Asked Modes) (t : ℕ) where
  pub none_within : permitted s none ≤ t
  unfolding permitted
  none_within = omega arith

  -- the entry need not have been there
  pub kept_within : (seen : Bool) (at : ℕ) (noted : Modes) → at + s.delay noted ≤ t → permitted s (get_elem? (kept seen at noted) 0) ≤ t
  unfolding permitted kept
  kept_within true at noted h = h
  kept_within false at noted h = omega arith

  pub once_within : (x : Once) → x.at + s.delay unnoted ≤ t → permitted s (get_elem? (once x) 0) ≤ t
  unfolding once
  once_within x h = kept_within x.seen x.at unnoted h

  -- nor be the one that counts
  pub unless_within : (o seen : Bool) (at : ℕ) (noted : Modes) → at + s.delay noted ≤ t → permitted s (get_elem? (cond o [] (kept seen at noted)) 0) ≤ t
  unfolding permitted
  unless_within true seen at noted h = omega arith
  unless_within false seen at noted h = kept_within seen at noted h

  pub fourth_within : (x : Four) → get_or x.at 3 0 + s.delay unnoted ≤ t → permitted s (get_elem? (four x) 3) ≤ t
  unfolding four permitted
  fourth_within x h = go x.count
    where
      go : (n : ℕ) → permitted s (get_elem? (take n (place x 0 ∷ place x 1 ∷ place x 2 ∷ place x 3 ∷ [])) 3) ≤ t
      go zero = unfold permitted in omega arith
      go (suc zero) = unfold permitted in omega arith
      go (suc (suc zero)) = unfold permitted in omega arith
      go (suc (suc (suc zero))) = unfold permitted in omega arith
      go (suc (suc (suc (suc n)))) = unfold permitted in h

-- ---- the greatest of eight stamps
pub two : (a b t : ℕ) → max a b ≤ t → (a ≤ t) × (b ≤ t)
two a b t h = (omega arith, omega arith)

pub four_parts : (a b c d t : ℕ) → max4 a b c d ≤ t → (a ≤ t) × (b ≤ t) × (c ≤ t) × (d ≤ t)
four_parts a b c d t h = (omega arith, omega arith, omega arith, omega arith)

-- a question asked for bank k
abbrev pub about : Ask → (delay k : ℕ) → Source Asked Modes
about a x k = record { ask = mine (record { ask = a; bank = k }); delay = λ m. x }

pub others_within : (look : Lookup) (a : Ask) (x own t : ℕ) (bs : List ℕ) → Every (λ k. permitted (about a x k) (look (mine (record { ask = a; bank = k }))) ≤ t) bs
    → permitted_by look (from (without own bs) x a) ≤ t
unfolding Every from without permitted_by
others_within look a x own t [] h = omega arith
others_within look a x own t (k ∷ bs) h = go (eqb k own) (others_within look a x own t bs h.1)
  where
    go : (b : Bool) → permitted_by look (from (without own bs) x a) ≤ t → permitted_by look (from (cond b (without own bs) (k ∷ without own bs)) x a) ≤ t
    go true r = r
    go false r = both h.0 r

pub eight_within : (a : Ask) (seen : List Bool) (at : List ℕ) (x t : ℕ) → top_of at + x ≤ t
    → Every (λ k. permitted (about a x k) (get_elem? (kept (get_or seen k false) (get_or at k 0) unnoted) 0) ≤ t) banks
unfolding Every banks
eight_within a seen at x t h =
    let p = two _ _ (top_of at) (self (top_of at)) in
    let l = four_parts _ _ _ _ (top_of at) p.0 in
    let u = four_parts _ _ _ _ (top_of at) p.1 in
    one 0 l.0 & one 1 l.1 & one 2 l.2 & one 3 l.3 & one 4 u.0 & one 5 u.1 & one 6 u.2 & one 7 u.3 & tt
  where
    self : (n : ℕ) → n ≤ n
    self n = omega arith

    one : (k : ℕ) → get_or at k 0 ≤ top_of at → permitted (about a x k) (get_elem? (kept (get_or seen k false) (get_or at k 0) unnoted) 0) ≤ t
    one k l = kept_within (about a x k) t (get_or seen k false) (get_or at k 0) unnoted (within (top_of at) l h)
      where
        within : (m : ℕ) → get_or at k 0 ≤ m → m + x ≤ t → get_or at k 0 + x ≤ t
        within m p q = omega arith

-- ---- RL and WL are small
picked : (k n : ℕ) (g : Latency → ℕ) (rows : List Latency) → Every (λ x. g x ≤ n) rows → at_code k g 0 rows ≤ n
unfolding Every at_code
picked k n g [] h = omega arith
picked k n g (x ∷ rows) h = go (eqb x.code k) (picked k n g rows h.1)
  where
    go : (b : Bool) → at_code k g 0 rows ≤ n → cond b (g x) (at_code k g 0 rows) ≤ n
    go true r = h.0
    go false r = r

rl_small : (m : ℕ) → rl_of m ≤ 16
unfolding rl_of
rl_small m = picked (bits m 0 4) 16 (λ x. x.rl) latencies rows
  where
    rows : Every (λ x. x.rl ≤ 16) latencies
    rows = unfold Every latencies row in
        (omega arith & omega arith & omega arith & omega arith & omega arith & omega arith & omega arith & omega arith & omega arith & tt)

wl_small : (m : ℕ) → wl_of m ≤ 16
unfolding wl_of
wl_small m = go (on m 6)
  where
    go : (b : Bool) → at_code (bits m 0 4) (λ x. cond b x.wl_b x.wl_a) 0 latencies ≤ 16
    go true = picked (bits m 0 4) 16 (λ x. x.wl_b) latencies (unfold Every latencies row in
        (omega arith & omega arith & omega arith & omega arith & omega arith & omega arith & omega arith & omega arith & omega arith & tt))
    go false = picked (bits m 0 4) 16 (λ x. x.wl_a) latencies (unfold Every latencies row in
        (omega arith & omega arith & omega arith & omega arith & omega arith & omega arith & omega arith & omega arith & omega arith & tt))

-- the slack is enough
wrote_within : (m now : ℕ) → wl_of m ≤ wl_of now + cond (eqb m now) 0 32
wrote_within m now = ⊎_elim
    (λ (p : (m ≡ now) × (eqb m now ≡ true)). rw (p.1, p.0) (omega arith))
    (λ (p : (m ≡ now → ⊥) × (eqb m now ≡ false)). rw p.1 (omega (arith, wl_small m)))
    (eq_cases m now)

turned_within : (m now d : ℕ) → rl_of m + d + 5 - wl_of m ≤ rl_of now + d + 5 - wl_of now + cond (eqb m now) 0 32
turned_within m now d = ⊎_elim
    (λ (p : (m ≡ now) × (eqb m now ≡ true)). rw (p.1, p.0) (omega arith))
    (λ (p : (m ≡ now → ⊥) × (eqb m now ≡ false)). rw p.1 (omega (arith, rl_small m, wl_small now)))
    (eq_cases m now)

-- after WR, with one delay and with two, and after RD or MRR
pub after_wr : (at d m now t : ℕ) → at + d + (wl_of now + 5 + cond (eqb m now) 0 32) ≤ t → at + (wl_of m + 5 + d) ≤ t
after_wr at d m now t h = omega (arith, wrote_within m now)

pub after_two : (at d e m now t : ℕ) → at + (d + e) + (wl_of now + 5 + cond (eqb m now) 0 32) ≤ t → at + (wl_of m + 5 + d + e) ≤ t
after_two at d e m now t h = omega (arith, wrote_within m now)

pub after_turn : (at d m now t : ℕ) → at + (rl_of now + d + 5 - wl_of now) + cond (eqb m now) 0 32 ≤ t → at + (rl_of m + d + 5 - wl_of m) ≤ t
after_turn at d m now t h = omega (arith, turned_within m now d)
