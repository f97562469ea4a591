-- A whole card that was read field by field, each in range when it came, is in range as a card: no later field has its tag.
use Prim.Native.Nat.{ℕ, zero, suc, ◌+◌, ◌≤◌, ◌<◌}
use mathlib.Core.Path.{◌≡◌, refl, ◌∙◌}
use mathlib.Core.Logic.{◌⊎◌, inl, inr, ⊎_elim}
use mathlib.Core.Bool.{Bool, true, false, cond, not, ◌&&◌, and-false}
use mathlib.Core.Option.{none, some}
use mathlib.Core.List.{List, [], ◌∷◌, map}
use native.Mathlib.Omega.{arith}
use lib.Dec.{leb, eqb}
use borrow.Author.Tests.{ne_eqb, not-true}
use Rattle.rules.specs.Lists.{all}
use Rattle.rules.specs.Ranges.{timing_good, start_good, mr1_start, raise_good, timings, sleep_timings, card_good}
use Rattle.rules.specs.Form.{Field, number, number_from, last_tag, card_whole, value_of, has, number_at, period_at, number_if, timing_of, timing_at, card_of, gap_good, field_good}
use Rattle.rules.specs.FileReading.{CardRight}
use Rattle.rules.proofs.Tests.{eq_cases, both_true}
use Rattle.rules.proofs.CardGood.{parts_good}
use Rattle.rules.proofs.Tags.{ends_high}
use Rattle.rules.proofs.CardTags.{Follows, goes_on, begins, follows}

tagged : ℕ → List ℕ → Field
tagged t v = record { tag = t; high = 0; low = 0; value = v }

-- a newer field leaves the test of tag t as it was: a test that reads the period comes behind it, and the gap's behind tag 19
in_front : (g : Field) (fs : List Field) (t : ℕ) (v : List ℕ) → 1 ≤ t → t ≤ g.tag → field_good (g ∷ fs) (tagged t v) ≡ field_good fs (tagged t v)
unfolding field_good period_at value_of tagged gap_good has
in_front g fs t v low le = ⊎_elim
    (λ (p : (t ≡ 1) × (eqb t 1 ≡ true)). rw p.0)
    (λ (p : (t ≡ 1 → ⊥) × (eqb t 1 ≡ false)). ⊎_elim
    (λ (q : (t ≡ 25) × (eqb t 25 ≡ true)). rw (q.0, ne_eqb g.tag 19 (λ e. omega (arith, q.0))))
    (λ (q : (t ≡ 25 → ⊥) × (eqb t 25 ≡ false)). rw (q.1, ne_eqb g.tag 1 (λ e. omega (arith, p.0))))
    (eq_cases t 25))
    (eq_cases t 1)

tags_from : ℕ → ℕ → List ℕ
tags_from t zero = []
tags_from t (suc n) = t ∷ tags_from (suc t) n

-- a field with this tag came
unfoldable Came : ℕ → List Field → Type 0
Came t [] = ⊥
Came t (f ∷ fs) = (f.tag ≡ t) ⊎ Came t fs

-- a later field has a higher tag
rises : (f : Field) (fs : List Field) → CardRight (f ∷ fs) → last_tag fs < f.tag
unfolding CardRight
rises f fs r = go (follows f fs r.0 r.1)
  where
    go : Follows fs f.tag → last_tag fs < f.tag
    go (goes_on w e) = omega arith
    go (begins w l g) = l

came_low : (t : ℕ) (fs : List Field) → CardRight fs → Came t fs → (1 ≤ t) × (t ≤ last_tag fs)
unfolding Came last_tag
came_low t [] r c = absurd c
came_low t (f ∷ fs) r (inl e) = let l = rises f fs r in (omega arith, omega arith)
came_low t (f ∷ fs) r (inr c) = let l = rises f fs r in let p = came_low t fs (unfold CardRight in r.3) c in (p.0, omega (arith, p.1))

-- each value that came is in range, held against all that came
each_good : (fs : List Field) → CardRight fs → (t : ℕ) → Came t fs → field_good fs (tagged t (value_of t fs)) ≡ true
unfolding CardRight value_of Came
each_good [] r t c = absurd c
each_good (f ∷ fs) r t c = ⊎_elim
    (λ (q : (f.tag ≡ t) × (eqb f.tag t ≡ true)). rw q.1 (in_front f fs t f.value (low q.0) (omega (arith, q.0)) ∙ newest q.0))
    (λ (q : (f.tag ≡ t → ⊥) × (eqb f.tag t ≡ false)). rw q.1 (older q.0 c (λ d. each_good fs r.3 t d)))
    (eq_cases f.tag t)
  where
    low : f.tag ≡ t → 1 ≤ t
    low same = let l = rises f fs (unfold CardRight in r) in omega arith

    newest : f.tag ≡ t → field_good fs (tagged t f.value) ≡ true
    newest same = rw (← same) (unfold field_good tagged in r.2)

    older : (f.tag ≡ t → ⊥) → (f.tag ≡ t) ⊎ Came t fs → (Came t fs → field_good fs (tagged t (value_of t fs)) ≡ true) →
        field_good (f ∷ fs) (tagged t (value_of t fs)) ≡ true
    older n (inl e) ih = absurd (n e)
    older n (inr d) ih =
        let p = came_low t fs r.3 d in
        let l = rises f fs (unfold CardRight in r) in
        in_front f fs t (value_of t fs) p.0 (omega (arith, p.1, l)) ∙ ih d

-- what did not come has no value, and the card does not have it
not_came : (t : ℕ) (fs : List Field) → Came t fs ⊎ ((value_of t fs ≡ []) × (has t fs ≡ false))
unfolding Came value_of has
not_came t [] = inr (refl, refl)
not_came t (f ∷ fs) = ⊎_elim
    (λ (q : (f.tag ≡ t) × (eqb f.tag t ≡ true)). inl (inl q.0))
    (λ (q : (f.tag ≡ t → ⊥) × (eqb f.tag t ≡ false)). ⊎_elim
    (λ (c : Came t fs). inl (inr c))
    (λ (e : (value_of t fs ≡ []) × (has t fs ≡ false)). inr (rw q.1 e.0, rw q.1 e.1))
    (not_came t fs))
    (eq_cases f.tag t)

-- up to 18 every tag comes before a higher one
all_came : (fs : List Field) → CardRight fs → (t : ℕ) → 1 ≤ t → t ≤ 18 → t ≤ last_tag fs → Came t fs
unfolding CardRight Came last_tag
all_came [] r t low high h = absurd (none low h)
  where
    none : 1 ≤ t → t ≤ 0 → ⊥
    none a b = omega arith
all_came (f ∷ fs) r t low high h = ⊎_elim
    (λ (q : (f.tag ≡ t) × (eqb f.tag t ≡ true)). inl q.0)
    (λ (q : (f.tag ≡ t → ⊥) × (eqb f.tag t ≡ false)). inr (all_came fs r.3 t low high (before q.0 (follows f fs r.0 r.1))))
    (eq_cases f.tag t)
  where
    before : (f.tag ≡ t → ⊥) → Follows fs f.tag → t ≤ last_tag fs
    before n (goes_on w e) = omega (arith, n)
    before n (begins w l g) = omega (arith, ends_high (last_tag fs) (unfold card_whole in w))

module _ (fs : List Field) (r : CardRight fs) (w : card_whole fs ≡ true) where
  good_at : (t : ℕ) → 1 ≤ t → t < 19 → field_good fs (tagged t (value_of t fs)) ≡ true
  good_at t low high = each_good fs r t (all_came fs r t low (omega arith) (omega (arith, ends_high (last_tag fs) (unfold card_whole in w))))

  -- a timing that came is in range, and one that did not is 0
  timing_at_lem : (t : ℕ) → 5 ≤ t → t < 23 → timing_good (timing_at t fs) ≡ true
  unfolding field_good tagged timing_at
  timing_at_lem t low high = ⊎_elim
      (λ (c : Came t fs).
      rw (ne_eqb t 1 (omega arith), ne_eqb t 2 (omega arith), ne_eqb t 3 (omega arith), ne_eqb t 4 (omega arith), ne_eqb t 23 (omega arith), ne_eqb t 25 (omega arith), ne_eqb t 26 (omega arith)) at (each_good fs r t c))
      (λ (e : (value_of t fs ≡ []) × (has t fs ≡ false)). rw e.0 (unfold timing_of number number_from timing_good in refl))
      (not_came t fs)

  timings_from : (n t : ℕ) → 5 ≤ t → t + n ≤ 23 → all timing_good (map (λ u. timing_at u fs) (tags_from t n)) ≡ true
  unfolding all tags_from
  timings_from zero t low high = refl
  timings_from (suc n) t low high = rw (timing_at_lem t low (omega arith)) (timings_from n (suc t) (omega arith) (omega arith))

  -- the gap, and that no card has it beside tag 19
  gap_good_lem : (leb (number_at 25 fs) 255 ≡ true) × (not (has 19 fs && has 25 fs) ≡ true)
  unfolding field_good tagged gap_good number_at
  gap_good_lem = ⊎_elim
      (λ (c : Came 25 fs).
      let p = both_true (leb (number (value_of 25 fs)) 255) (not (has 19 fs)) (each_good fs r 25 c) in
      (p.0, rw (not-true (has 19 fs) p.1)))
      (λ (e : (value_of 25 fs ≡ []) × (has 25 fs ≡ false)). (rw e.0 (unfold number number_from in refl), rw (e.1, and-false (has 19 fs))))
      (not_came 25 fs)

  raise_good_lem : raise_good (number_at 26 fs) ≡ true
  unfolding field_good tagged number_at
  raise_good_lem = ⊎_elim
      (λ (c : Came 26 fs). each_good fs r 26 c)
      (λ (e : (value_of 26 fs ≡ []) × (has 26 fs ≡ false)). rw e.0 (unfold number number_from raise_good in refl))
      (not_came 26 fs)

  start_good_lem : mr1_start (number_if 23 fs) ≡ true
  unfolding field_good tagged number_if number_at mr1_start
  start_good_lem = ⊎_elim
      (λ (c : Came 23 fs). go (has 23 fs) (each_good fs r 23 c))
      (λ (e : (value_of 23 fs ≡ []) × (has 23 fs ≡ false)). rw e.1)
      (not_came 23 fs)
    where
      go : (x : Bool) → start_good (number (value_of 23 fs)) ≡ true → mr1_start (cond x (some (number (value_of 23 fs))) none) ≡ true
      go true g = g
      go false g = refl

  pub card_good_lem : card_good (card_of fs) ≡ true
  unfolding card_of timings sleep_timings tags_from field_good tagged number_at period_at
  card_good_lem = parts_good (card_of fs) (record {
    period = good_at 1 (omega arith) (omega arith);
    mr2 = good_at 2 (omega arith) (omega arith);
    groups = good_at 3 (omega arith) (omega arith);
    trefi = good_at 4 (omega arith) (omega arith);
    timed = timings_from 18 5 (omega arith) (omega arith);
    gap = gap_good_lem.0;
    apart = gap_good_lem.1;
    raise = raise_good_lem;
    mr1 = start_good_lem;
  })
