-- Demand 3's consequence: where each refresh of a bank takes the next of its R row groups in turn, from any first group, every row group is taken in
-- every stretch of (R + 17)·I counted cycles of an accepted trace in which no temperature field lies, for each part, and two takings of one group in a row with
-- no such field between are at most that far apart. I is the interval in force before the stretch.
use Prim.Native.Nat.{ℕ, suc, ◌+◌, ◌*◌, ◌-◌, ◌/◌, ◌%◌, ◌≤◌, ◌<◌}
use mathlib.Core.Path.{◌≡◌, refl, ap, ◌∙◌, subst}
use mathlib.Core.Logic.{◌⊎◌, inl, inr, ⊎_elim}
use mathlib.Core.Bool.{true, false}
use mathlib.Core.List.{List, [], ◌∷◌}
use native.Mathlib.Nat.{div-add-mod', mod-lt, le-div_iff_mul-le}
use native.Mathlib.Omega.{arith}
use lib.Arith.{digits_mod}
use lib.Dec.{ltb, eqb}
use lib.IntN.{ℤ}
use lib.ListN.{length}
use Rattle.rules.specs.Card.{Card}
use Rattle.rules.specs.Past.{Past, of_part, mr4_at, refreshes, refresh_stamps}
use Rattle.rules.specs.Entries.{Entry, past_of}
use Rattle.rules.specs.Verdict.{accepted, judge}
use Rattle.rules.specs.Clock.{counted_from, past_below, interval_below}
use Rattle.rules.specs.Stretch.{count_in, Free, Took}
use Rattle.rules.proofs.Tests.{lt_cases, eq_cases}
use Rattle.rules.proofs.Counted.{below, count_below}
use Rattle.rules.proofs.Rounds.{Less, Falling, less_where, falling_where}
use Rattle.rules.proofs.Filtered.{IsPart}
use Rattle.rules.proofs.Clocks.{one_at_most, Counting, counted_all}
use Rattle.rules.proofs.Beats.{interval_least}
use Rattle.rules.proofs.Refreshed.{traced, refreshed}

below_all : (m n : ℕ) (ss : List ℕ) → m ≤ n → Less m ss → below n ss ≡ length ss
unfolding below Less
below_all m n [] h l = refl
below_all m n (s ∷ ss) h l = ⊎_elim
    (λ (q : (s < n) × (ltb s n ≡ true)). rw q.1 (omega (arith, below_all m n ss h l.1)))
    (λ (q : (n ≤ s) × (ltb s n ≡ false)). absurd (no_way l.0 q.0))
    (lt_cases s n)
  where
    no_way : s < m → n ≤ s → ⊥
    no_way a b = omega arith

module _ (R first g : ℕ) where
  -- a stretch in which the group is taken
  abbrev pub TakenIn : List ℕ → ℕ → ℕ → Type 0
  TakenIn ss lo hi = (s : ℕ) × (lo ≤ s) × (s < hi) × Took R first g ss s

  -- refresh number n, counted from 0, lies in the stretch if n is between the counts below its two ends
  took : (lo hi : ℕ) (ss : List ℕ) → Falling ss → (n : ℕ) → below lo ss ≤ n → n < below hi ss → (first + n) % R ≡ g → TakenIn ss lo hi
  unfolding Falling Took below
  took lo hi [] f n h₁ h₂ e = absurd (none h₂)
    where
      none : n < 0 → ⊥
      none h = omega arith
  took lo hi (s ∷ ss) f n h₁ h₂ e = ⊎_elim
      (λ (q : (s < hi) × (ltb s hi ≡ true)). ⊎_elim
      (λ (p : (n ≡ length ss) × (eqb n (length ss) ≡ true)). (s, from_lo q p, q.0, inl (refl, rw p.0 at e)))
      (λ (p : (n ≡ length ss → ⊥) × (eqb n (length ss) ≡ false)). older q p (λ x y. took lo hi ss f.1 n x y e))
      (eq_cases n (length ss)))
      (λ (q : (hi ≤ s) × (ltb s hi ≡ false)).
      let h₂' : n < 0 + below hi ss = rw q.1 at h₂ in
      let t = took lo hi ss f.1 n (omega arith) (omega arith) e in
      (t.0, t.1, t.2, inr t.3))
      (lt_cases s hi)
    where
      from_lo : (s < hi) × (ltb s hi ≡ true) → (n ≡ length ss) × (eqb n (length ss) ≡ true) → lo ≤ s
      from_lo q p = ⊎_elim
          (λ (x : (s < lo) × (ltb s lo ≡ true)).
          let h₁' : 1 + below lo ss ≤ n = rw x.1 at h₁ in
          omega (arith, below_all s lo ss (omega arith) f.0, p.0))
          (λ (x : (lo ≤ s) × (ltb s lo ≡ false)). x.0)
          (lt_cases s lo)

      older : (s < hi) × (ltb s hi ≡ true) → (n ≡ length ss → ⊥) × (eqb n (length ss) ≡ false) →
          (below lo ss ≤ n → n < below hi ss → TakenIn ss lo hi) → TakenIn (s ∷ ss) lo hi
      older q p again =
          let h₂' : n < 1 + below hi ss = rw q.1 at h₂ in
          let full : below hi ss ≡ length ss = below_all s hi ss (omega arith) f.0 in
          let t = again (omega arith) (omega (arith, p.0)) in
          (t.0, t.1, t.2, inr t.3)

  -- among R numbers in a row each rest modulo R occurs
  rest_in : (m : ℕ) → g < R → (n : ℕ) × (m ≤ n) × (n < m + R) × (n % R ≡ g)
  rest_in m h = ⊎_elim
      (λ (q : (g < m % R) × (ltb g (m % R) ≡ true)).
      (suc (m / R) * R + g, omega (arith, whole, small), omega (arith, whole, small, q.0), digits_mod (suc (m / R)) h))
      (λ (q : (m % R ≤ g) × (ltb g (m % R) ≡ false)).
      (m / R * R + g, omega (arith, whole, q.0), omega (arith, whole, q.0), digits_mod (m / R) h))
      (lt_cases g (m % R))
    where
      whole : m / R * R + m % R ≡ m
      whole = div-add-mod' m R

      small : m % R < R
      small = mod-lt m (omega arith)

  -- R refreshes in a stretch take every group
  enough : (lo hi : ℕ) (ss : List ℕ) → Falling ss → lo ≤ hi → g < R → R ≤ count_in lo hi ss → TakenIn ss lo hi
  enough lo hi ss f l h c =
      let n = rest_in (first + below lo ss) h in
      let z : first + (n.0 - first) ≡ n.0 = omega (arith, n.1) in
      took lo hi ss f (n.0 - first) (omega (arith, n.1)) (omega (arith, n.1, n.2, count_below lo hi l ss)) (ap (λ (x : ℕ). x % R) z ∙ n.3)

  took_less : (m : ℕ) (ss : List ℕ) → Less m ss → (s : ℕ) → Took R first g ss s → s < m
  unfolding Took Less
  took_less m [] l s t = absurd t
  took_less m (x ∷ xs) l s (inl t) = subst (λ (y : ℕ). y < m) t.0 l.0
  took_less m (x ∷ xs) l s (inr t) = took_less m xs l.1 s t

module _ (card : Card) (es : List Entry) (end m n : ℕ) (l : List ℤ) (e : judge card es end ≡ accepted m n l) (p : ℕ) (ip : IsPart card p)
    (first b g : ℕ) (hb : b < 8) (hg : g < card.groups) where
  abbrev own : Past
  own = of_part p (past_of card es)

  abbrev Taken_at : ℕ → Type 0
  Taken_at s = Took card.groups first g (refresh_stamps b own) s

  positive : (a : ℕ) → 0 < interval_below card a own
  unfolding interval_below
  positive a = interval_least card (mr4_at (past_below a own))

  -- the group is taken in every stretch of n cycles that has so many counted ones
  pub every_group : (a n : ℕ) → a + n ≤ end + 1 → Free own a n → (card.groups + 17) * interval_below card a own ≤ counted_from own a n →
      (s : ℕ) × (a ≤ s) × (s < a + n) × Taken_at s
  unfolding refresh_stamps
  every_group a k h f c =
      enough card.groups first g a (a + k) (refresh_stamps b own)
      (falling_where (refreshes b) own (traced card es end m n l e p ip).rising) (omega arith) hg
      (omega (
        arith,
        refreshed card es end m n l e p ip b a k hb h f,
        (le-div_iff_mul-le {x = card.groups + 17} {y = counted_from own a k} (positive a)).1 c,
      ))

  -- two takings with none between: as many counted cycles at most after the one, up to and with the other
  pub in_a_row : (s t : ℕ) → Taken_at s → Taken_at t → s < t → ((u : ℕ) → Taken_at u → (u ≤ s) ⊎ (t ≤ u)) → Free own (suc s) (t - suc s) →
      counted_from own (suc s) (t - s) ≤ (card.groups + 17) * interval_below card (suc s) own
  in_a_row s t hs ht lt next f = ⊎_elim
      (λ (q : (Between < Most) × (ltb Between Most ≡ true)).
      let z : t - s ≡ suc (t - suc s) = omega arith in
      rw z (omega (arith, q.0, one_at_most own (suc s) (t - suc s))))
      (λ (q : (Most ≤ Between) × (ltb Between Most ≡ false)). absurd (between (every_group (suc s) (t - suc s) (omega (arith, last)) f q.0)))
      (lt_cases Between Most)
    where
      Between : ℕ
      Between = counted_from own (suc s) (t - suc s)

      Most : ℕ
      Most = (card.groups + 17) * interval_below card (suc s) own

      last : t < suc end
      last = unfold refresh_stamps in took_less card.groups first g (suc end) (refresh_stamps b own)
          (less_where (refreshes b) (suc end) own (traced card es end m n l e p ip).ended) t ht

      between : (u : ℕ) × (suc s ≤ u) × (u < suc s + (t - suc s)) × Taken_at u → ⊥
      between u = ⊎_elim
          (λ (x : u.0 ≤ s). clash u.1 x)
          (λ (x : t ≤ u.0). clash' u.2 x)
          (next u.0 u.3)
        where
          clash : suc s ≤ u.0 → u.0 ≤ s → ⊥
          clash x y = omega arith

          clash' : u.0 < suc s + (t - suc s) → t ≤ u.0 → ⊥
          clash' x y = omega arith

  -- where every cycle counts: in every stretch of so many cycles, and so far apart at most
  module _ (c : Counting own) where
    pub every_group_awake : (a : ℕ) → a + (card.groups + 17) * interval_below card a own ≤ end + 1 → Free own a ((card.groups + 17) * interval_below card a own) →
        (s : ℕ) × (a ≤ s) × (s < a + (card.groups + 17) * interval_below card a own) × Taken_at s
    every_group_awake a h f = every_group a ((card.groups + 17) * interval_below card a own) h f (rw (counted_all own c a _) (omega arith))

    pub in_a_row_awake : (s t : ℕ) → Taken_at s → Taken_at t → s < t → ((u : ℕ) → Taken_at u → (u ≤ s) ⊎ (t ≤ u)) → Free own (suc s) (t - suc s) →
        t ≤ s + (card.groups + 17) * interval_below card (suc s) own
    in_a_row_awake s t hs ht lt next f =
        let k : t - s ≤ (card.groups + 17) * interval_below card (suc s) own = rw (counted_all own c (suc s) (t - s)) at (in_a_row s t hs ht lt next f) in
        omega arith
