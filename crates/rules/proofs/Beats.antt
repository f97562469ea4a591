-- The schedule of a past: a later temperature field changes no due up to its own number; after the last entry it keeps one beat; and so it does over a
-- stretch of cycles in which no such field lies.
use Prim.Native.Nat.{ℕ, suc, ◌+◌, ◌≤◌, ◌<◌, max}
use mathlib.Core.Path.{◌≡◌, refl, ◌∙◌}
use mathlib.Core.Logic.{◌⊎◌, inl, inr, ⊎_elim}
use mathlib.Core.Bool.{true, false, cond, ◌&&◌}
use mathlib.Core.List.{[], ◌∷◌}
use mathlib.Core.Option.{Option, none, some}
use native.Mathlib.Omega.{arith}
use lib.Dec.{leb, ltb}
use borrow.Author.Tests.{lt-ltb, le-ltb, le-leb, lt-leb}
use Rattle.rules.specs.Card.{Card}
use Rattle.rules.specs.Heat.{start_mr4, interval_at}
use Rattle.rules.specs.Past.{Taken, Past, last_cycle, mr4_at, sensed_with, sensed_stamps}
use Rattle.rules.specs.Account.{every, on_beat, respaced, replaced}
use Rattle.rules.specs.Clock.{clock, beat_by, beat_at, schedule_by, schedule_of, past_below, interval_below}
use Rattle.rules.specs.Stretch.{count_in, Free}
use Rattle.rules.proofs.Tests.{lt_cases}
use Rattle.rules.proofs.Rounds.{AllBelow, Rising, below_more}
use Rattle.rules.proofs.Clocks.{clock_other, N, N_clock, N_up, below_other}
use Rattle.rules.proofs.Clocked.{clock_up}

pub interval_least : (card : Card) (v : ℕ) → 0 < interval_at card v
unfolding interval_at
interval_least card v = omega arith

-- ---- an entry more
module _ (card : Card) (e : Taken) (p : Past) where
  abbrev own : ℕ
  own = clock p e.stamp

  -- any but a temperature field changes nothing
  pub plain_beat : e.mr4 ≡ none → beat_at card (e ∷ p) ≡ beat_at card p
  unfolding beat_at beat_by
  plain_beat h = rw h

  pub plain_schedule : e.mr4 ≡ none → schedule_of card (e ∷ p) ≡ schedule_of card p
  unfolding schedule_of schedule_by
  plain_schedule h = rw h

  pub plain_mr4 : e.mr4 ≡ none → mr4_at (e ∷ p) ≡ mr4_at p
  unfolding mr4_at
  plain_mr4 h = rw h

  module _ (v : ℕ) (h : e.mr4 ≡ some v) where
    pub sensed_beat : beat_at card (e ∷ p) ≡ respaced (beat_at card p) own (interval_at card v)
    unfolding beat_at beat_by
    sensed_beat = rw h

    pub sensed_schedule : schedule_of card (e ∷ p) ≡ replaced (schedule_of card p) own (beat_at card (e ∷ p))
    unfolding schedule_of schedule_by
    sensed_schedule = rw h

    pub sensed_mr4 : mr4_at (e ∷ p) ≡ v
    unfolding mr4_at
    sensed_mr4 = rw h

  -- no due up to its own number, and nothing below it
  pub due_other : (m : ℕ) → m ≤ own → (schedule_of card (e ∷ p)).due m ≡ (schedule_of card p).due m
  due_other m l = go e.mr4 refl
    where
      go : (o : Option ℕ) → e.mr4 ≡ o → (schedule_of card (e ∷ p)).due m ≡ (schedule_of card p).due m
      go none h = rw (plain_schedule h)
      go (some v) h = rw (sensed_schedule v h) (unfold replaced in rw (le-leb m own l))

  pub gap_other : (m : ℕ) → m < own →
      ((schedule_of card (e ∷ p)).span m ≡ (schedule_of card p).span m) × ((last : ℕ) → (schedule_of card (e ∷ p)).since last m ≡ (schedule_of card p).since last m)
  gap_other m l = go e.mr4 refl
    where
      go : (o : Option ℕ) → e.mr4 ≡ o →
          ((schedule_of card (e ∷ p)).span m ≡ (schedule_of card p).span m) × ((last : ℕ) → (schedule_of card (e ∷ p)).since last m ≡ (schedule_of card p).since last m)
      go none h = rw (plain_schedule h) (refl, λ last. refl)
      go (some v) h = rw (sensed_schedule v h) (unfold replaced in (rw (lt-ltb m own l), λ last. rw (lt-ltb m own l)))

-- ---- after the last entry
pub last_below : (past : Past) (t : ℕ) → AllBelow t past → last_cycle past ≤ t
unfolding last_cycle AllBelow
last_below [] t b = omega arith
last_below (e ∷ p) t b = omega (arith, b.0)

-- the number of the latest temperature field, or 0
unfoldable pub sensed_number : Past → ℕ
sensed_number [] = 0
sensed_number (e ∷ p) = elim e.mr4 [ none ↦ sensed_number p | some v ↦ clock p e.stamp ]

module _ (card : Card) where
  pub beat_span : (past : Past) → (beat_at card past).span ≡ interval_at card (mr4_at past)
  beat_span [] = unfold beat_at mr4_at every in refl
  beat_span (e ∷ p) = go e.mr4 refl (beat_span p)
    where
      go : (o : Option ℕ) → e.mr4 ≡ o → (beat_at card p).span ≡ interval_at card (mr4_at p) → (beat_at card (e ∷ p)).span ≡ interval_at card (mr4_at (e ∷ p))
      go none h ih = rw (plain_beat card e p h, plain_mr4 card e p h) ih
      go (some v) h ih = rw (sensed_beat card e p v h, sensed_mr4 card e p v h) (unfold respaced in refl)

  pub beat_positive : (past : Past) → 0 < (beat_at card past).span
  beat_positive past = rw (beat_span past) (interval_least card (mr4_at past))

  pub sensed_by : (past : Past) → Rising past → sensed_number past ≤ clock past (last_cycle past)
  unfolding sensed_number last_cycle
  sensed_by [] r = omega arith
  sensed_by (e ∷ p) r = rw (clock_other e p e.stamp (omega arith)) (go e.mr4 (sensed_by p (unfold Rising in r.1)))
    where
      go : (o : Option ℕ) → sensed_number p ≤ clock p (last_cycle p) → elim o as (λ x. ℕ) [ none ↦ sensed_number p | some v ↦ clock p e.stamp ] ≤ clock p e.stamp
      go none ih = omega (arith, ih, clock_up p (last_cycle p) e.stamp (last_below p e.stamp (unfold Rising in r.0)))
      go (some v) ih = omega arith

  -- its next due is at most an interval after that
  pub beat_next : (past : Past) → (beat_at card past).next ≤ sensed_number past + (beat_at card past).span
  unfolding sensed_number
  beat_next [] = unfold beat_at every in omega arith
  beat_next (e ∷ p) = go e.mr4 refl (beat_next p)
    where
      go : (o : Option ℕ) → e.mr4 ≡ o → (beat_at card p).next ≤ sensed_number p + (beat_at card p).span →
          (beat_at card (e ∷ p)).next ≤ elim o as (λ x. ℕ) [ none ↦ sensed_number p | some v ↦ clock p e.stamp ] + (beat_at card (e ∷ p)).span
      go none h ih = rw (plain_beat card e p h) ih
      go (some v) h ih = rw (sensed_beat card e p v h) (unfold respaced in omega arith)

  -- the dues after the last entry, and from it on the interval and where the gap counts from
  pub due_after : (past : Past) → Rising past → (m : ℕ) → clock past (last_cycle past) < m → (schedule_of card past).due m ≡ on_beat (beat_at card past) m
  unfolding last_cycle
  due_after [] r m l = unfold schedule_of in refl
  due_after (e ∷ p) r m l = go e.mr4 refl (λ g. due_after p (unfold Rising in r.1) m g)
    where
      l' : clock p e.stamp < m
      l' = rw (clock_other e p e.stamp (omega arith)) at l

      go : (o : Option ℕ) → e.mr4 ≡ o → (clock p (last_cycle p) < m → (schedule_of card p).due m ≡ on_beat (beat_at card p) m) →
          (schedule_of card (e ∷ p)).due m ≡ on_beat (beat_at card (e ∷ p)) m
      go none h ih = rw (plain_schedule card e p h, plain_beat card e p h) (ih (omega (arith, l', clock_up p (last_cycle p) e.stamp (last_below p e.stamp (unfold Rising in r.0)))))
      go (some v) h ih = rw (sensed_schedule card e p v h) (unfold replaced in rw (lt-leb m (clock p e.stamp) l'))

  pub gap_after : (past : Past) → Rising past → (m : ℕ) → clock past (last_cycle past) ≤ m →
      ((schedule_of card past).span m ≡ (beat_at card past).span) × ((last : ℕ) → (schedule_of card past).since last m ≡ max last (sensed_number past))
  unfolding last_cycle sensed_number
  gap_after [] r m l = (unfold schedule_of in refl, λ last. unfold schedule_of in omega arith)
  gap_after (e ∷ p) r m l = go e.mr4 refl (λ g. gap_after p (unfold Rising in r.1) m g)
    where
      l' : clock p e.stamp ≤ m
      l' = rw (clock_other e p e.stamp (omega arith)) at l

      go : (o : Option ℕ) → e.mr4 ≡ o →
          (clock p (last_cycle p) ≤ m → ((schedule_of card p).span m ≡ (beat_at card p).span) × ((last : ℕ) → (schedule_of card p).since last m ≡ max last (sensed_number p))) →
          ((schedule_of card (e ∷ p)).span m ≡ (beat_at card (e ∷ p)).span) ×
          ((last : ℕ) → (schedule_of card (e ∷ p)).since last m ≡ max last (elim o as (λ x. ℕ) [ none ↦ sensed_number p | some v ↦ clock p e.stamp ]))
      go none h ih =
          rw (plain_schedule card e p h, plain_beat card e p h) (ih (omega (arith, l', clock_up p (last_cycle p) e.stamp (last_below p e.stamp (unfold Rising in r.0)))))
      go (some v) h ih = rw (sensed_schedule card e p v h) (unfold replaced in (rw (le-ltb m (clock p e.stamp) l'), λ last. rw (le-ltb m (clock p e.stamp) l')))

-- ---- over the n cycles from cycle a on
-- each temperature field from cycle a on has at least the number M less 1
unfoldable Late : (M a : ℕ) → Past → Type 0
Late M a [] = Unit {0}
Late M a (e ∷ p) = ((v : ℕ) → e.mr4 ≡ some v → a ≤ e.stamp → M ≤ suc (clock p e.stamp)) × Late M a p

module _ (e : Taken) (p : Past) (a n : ℕ) (f : Free (e ∷ p) a n) where
  free_less : Free p a n
  unfolding sensed_stamps sensed_with count_in
  free_less = go e.mr4 f
    where
      go : (o : Option ℕ) → count_in a (a + n) (sensed_with o e.stamp (sensed_stamps p)) ≡ 0 → count_in a (a + n) (sensed_stamps p) ≡ 0
      go none h = h
      go (some v) h = omega arith

  free_here : (v : ℕ) → e.mr4 ≡ some v → a ≤ e.stamp → a + n ≤ e.stamp
  unfolding sensed_stamps sensed_with count_in
  free_here v h l = ⊎_elim
      (λ (q : (e.stamp < a + n) × (ltb e.stamp (a + n) ≡ true)).
      let g : cond (leb a e.stamp && ltb e.stamp (a + n)) 1 0 + count_in a (a + n) (sensed_stamps p) ≡ 0 = rw h at f in
      let g' : 1 + count_in a (a + n) (sensed_stamps p) ≡ 0 = rw (le-leb a e.stamp l, q.1) at g in
      absurd (never (count_in a (a + n) (sensed_stamps p)) g'))
      (λ (q : (a + n ≤ e.stamp) × (ltb e.stamp (a + n) ≡ false)). q.0)
      (lt_cases e.stamp (a + n))
    where
      never : (x : ℕ) → 1 + x ≡ 0 → ⊥
      never x h = omega arith

none_late : (M a n : ℕ) (past : Past) → AllBelow (a + n) past → Free past a n → Late M a past
unfolding AllBelow Late
none_late M a n [] b f = tt
none_late M a n (e ∷ p) b f = (λ v h l. absurd (clash b.0 (free_here e p a n f v h l)), none_late M a n p b.1 (free_less e p a n f))
  where
    clash : e.stamp < a + n → a + n ≤ e.stamp → ⊥
    clash x y = omega arith

late : (M a n : ℕ) (past : Past) → Rising past → Free past a n → M ≤ N past (a + n) → Late M a past
unfolding Rising Late
late M a n [] r f h = tt
late M a n (e ∷ p) r f h = (here, later (lt_cases e.stamp (a + n)) (λ g. late M a n p r.1 (free_less e p a n f) g))
  where
    here : (v : ℕ) → e.mr4 ≡ some v → a ≤ e.stamp → M ≤ suc (clock p e.stamp)
    here v g l =
        let s : a + n ≤ e.stamp = free_here e p a n f v g l in
        omega (arith, h, below_other e p (a + n) (omega arith), N_up p (a + n) (suc e.stamp) (omega arith), N_clock p e.stamp)

    later : ((e.stamp < a + n) × (ltb e.stamp (a + n) ≡ true)) ⊎ ((a + n ≤ e.stamp) × (ltb e.stamp (a + n) ≡ false)) →
        (M ≤ N p (a + n) → Late M a p) → Late M a p
    later (inl q) ih = none_late M a n p (below_more e.stamp (a + n) p (omega (arith, q.0)) r.0) (free_less e p a n f)
    later (inr q) ih = ih (omega (arith, h, below_other e p (a + n) (omega (arith, q.0))))

module _ (card : Card) where
  -- the last entry below cycle a has a lower number than the first counted cycle from there on
  number_below : (e : Taken) (p : Past) (a : ℕ) → e.stamp < a → clock (e ∷ p) e.stamp < N (e ∷ p) a
  number_below e p a l = omega (arith, N_clock (e ∷ p) e.stamp, N_up (e ∷ p) (suc e.stamp) a l)

  due_in : (past : Past) → Rising past → (a m : ℕ) → N past a ≤ m → Late (suc m) a past → (schedule_of card past).due m ≡ on_beat (beat_at card (past_below a past)) m
  unfolding past_below Late
  due_in [] r a m h t = unfold schedule_of in refl
  due_in (e ∷ p) r a m h t = ⊎_elim
      (λ (q : (e.stamp < a) × (ltb e.stamp a ≡ true)).
      rw q.1 (due_after card (e ∷ p) r m (unfold last_cycle in omega (arith, h, number_below e p a q.0))))
      (λ (q : (a ≤ e.stamp) × (ltb e.stamp a ≡ false)).
      rw q.1 (before q.0 ∙ due_in p (unfold Rising in r.1) a m (omega (arith, h, below_other e p a (omega (arith, q.0)))) t.1))
      (lt_cases e.stamp a)
    where
      before : a ≤ e.stamp → (schedule_of card (e ∷ p)).due m ≡ (schedule_of card p).due m
      before l = go e.mr4 refl
        where
          go : (o : Option ℕ) → e.mr4 ≡ o → (schedule_of card (e ∷ p)).due m ≡ (schedule_of card p).due m
          go none g = rw (plain_schedule card e p g)
          go (some v) g = due_other card e p m (omega (arith, t.0 v g l))

  -- the schedule keeps the beat of the entries below the stretch
  pub keeps : (past : Past) → Rising past → (a n : ℕ) → Free past a n → (m : ℕ) → N past a ≤ m → m < N past (a + n) →
      (schedule_of card past).due m ≡ on_beat (beat_at card (past_below a past)) m
  keeps past r a n f m l h = due_in past r a m l (late (suc m) a n past r f h)

  -- whose next due, before the first counted cycle of the stretch, is at most an interval away
  pub next_within : (past : Past) → Rising past → (a k : ℕ) → N past a ≡ suc k → (beat_at card (past_below a past)).next ≤ k + (beat_at card (past_below a past)).span
  unfolding past_below
  next_within [] r a k h = unfold beat_at every in omega arith
  next_within (e ∷ p) r a k h = ⊎_elim
      (λ (q : (e.stamp < a) × (ltb e.stamp a ≡ true)).
      rw q.1 (omega (arith, h, beat_next card (e ∷ p), last (sensed_by card (e ∷ p) r), number_below e p a q.0)))
      (λ (q : (a ≤ e.stamp) × (ltb e.stamp a ≡ false)).
      rw q.1 (next_within p (unfold Rising in r.1) a k (omega (arith, h, below_other e p a (omega (arith, q.0))))))
      (lt_cases e.stamp a)
    where
      last : sensed_number (e ∷ p) ≤ clock (e ∷ p) (last_cycle (e ∷ p)) → sensed_number (e ∷ p) ≤ clock (e ∷ p) e.stamp
      last h = unfold last_cycle in h

  pub none_below : (past : Past) → beat_at card (past_below 0 past) ≡ every (interval_at card start_mr4)
  unfolding past_below
  none_below [] = unfold beat_at in refl
  none_below (e ∷ p) = rw (le-ltb e.stamp 0 (omega arith)) (none_below p)

  pub interval_below_lem : (past : Past) (a : ℕ) → (beat_at card (past_below a past)).span ≡ interval_below card a past
  unfolding interval_below
  interval_below_lem past a = beat_span card (past_below a past)
