-- A tag that may not come: what the definitions say of it is what is read of the fields before it, and the three numbers exclude each other and cover all such tags.
use Prim.Native.Nat.{ℕ, suc, ◌≤◌, ◌<◌}
use mathlib.Core.Path.{◌≡◌, refl, sym, ◌∙◌}
use mathlib.Core.Logic.{◌⊎◌, inl, inr, ⊎_elim, ◌↔◌}
use mathlib.Core.Bool.{Bool, true, false, cond, not, ◌&&◌, or-true}
use mathlib.Core.List.{List, []}
use native.Mathlib.Omega.{arith}
use lib.Dec.{leb, ltb, eqb}
use borrow.Author.Tests.{leb-true, leb-false, le-leb, ltb-true, ltb-false, lt-ltb, eqb-true, eqb-false}
use Rattle.rules.specs.Form.{Field, ◌up_to◌, sleep_tags, groups, last_tag, has, ends_group, begins_group, card_whole, of_entry, of_trace, may_follow, may_come, in_group, of_card, known, passed_by, wrong_number, expected_after}
use Rattle.rules.specs.FileReading.{CardRight, Required, always, together, Expected, lowest, all_read, Passed, again, behind, behind_entry, Wrong, unknown, passed, early}
use Rattle.rules.proofs.Tests.{lt_cases, eq_cases, both_true}
use Rattle.rules.proofs.Tags.{Within, begins_within, next_within, within_between, first_within, ends_high, ends_apart, begins_apart, behind_first, of_within, within_of, neither}
use Rattle.rules.proofs.CardTags.{ReadTo, read_to, inside, next_small, within, entry_high}

apart : {A : Type 0} {x : Bool} → x ≡ true → x ≡ false → A
apart p q = let z : true ≡ false = sym p ∙ q in let y : ◌≡◌ {A = ℕ} 0 1 = cc in absurd (omega arith)

-- a tag of the trace is above all of the card's
trace_high : (t : ℕ) → of_trace t ≡ true → 31 < t
unfolding of_trace
trace_high t e = go (of_entry t) refl
  where
    go : (x : Bool) → of_entry t ≡ x → 31 < t
    go true p = entry_high t p
    go false p = let q = eqb-true t 33 (unfold of_trace in rw p at e) in omega (arith, q)

-- ---- what it is to be passed, in numbers
above_newest : (b : Bool) (last t : ℕ) → passed_by b last t ≡ false → (b ≡ false) × (last < t)
unfolding passed_by
above_newest b last t e = let n = neither b _ e in let h = n.1 in (n.0, omega (arith, leb-false, ltb-false))

below_newest : (last t : ℕ) → passed_by false last t ≡ true → t ≤ last
unfolding passed_by
below_newest last t e = omega (arith, leb-true, ltb-true)

is_passed : (b : Bool) (last t : ℕ) → (b ≡ true) ⊎ (t ≤ last) → passed_by b last t ≡ true
is_passed b last t h = go (passed_by b last t) refl h
  where
    go : (x : Bool) → passed_by b last t ≡ x → (b ≡ true) ⊎ (t ≤ last) → passed_by b last t ≡ true
    go true e h = e
    go false e (inl h) = apart h (above_newest b last t e).0
    go false e (inr h) = absurd (omega (arith, h, (above_newest b last t e).1))

-- ---- one tag is expected
expected_one : {fs : List Field} {t m n : ℕ} → Expected fs t m → Expected fs t n → m ≡ n
expected_one (all_read f) (all_read g) = refl
expected_one (all_read f) (lowest n q u g) = apart (f n q) u
expected_one (lowest m p u f) (all_read g) = apart (g m p) u
expected_one (lowest m p u f) (lowest n q v g) = ⊎_elim
    (λ (l : (m < n) × (ltb m n ≡ true)). apart (g m l.0 p) u)
    (λ (l : (n ≤ m) × (ltb m n ≡ false)). ⊎_elim
    (λ (k : (n < m) × (ltb n m ≡ true)). apart (f n k.0 q) v)
    (λ (k : (m ≤ n) × (ltb n m ≡ false)). omega (arith, l.0, k.0))
    (lt_cases n m))
    (lt_cases m n)

-- one of 19 to 22
sleep_is : (t : ℕ) → in_group sleep_tags t ≡ true → (19 ≤ t) × (t ≤ 22)
unfolding in_group ◌up_to◌
sleep_is t e = let b = both_true (leb 19 t) (leb t 22) e in (leb-true 19 t b.0, leb-true t 22 b.1)

sleep_not : {A : Type 0} (t : ℕ) → in_group sleep_tags t ≡ false → 19 ≤ t → t ≤ 22 → A
unfolding in_group ◌up_to◌
sleep_not t e a b = apart (rw (le-leb 19 t a, le-leb t 22 b)) e

module _ (fs : List Field) (r : CardRight fs) where
  abbrev last : ℕ
  last = last_tag fs

  there : ReadTo fs
  there = read_to fs r

  ends_as : {x : Bool} → card_whole fs ≡ x → ends_group groups last ≡ x
  unfolding card_whole
  ends_as w = w

  unread : (n : ℕ) → last < n → has n fs ≡ false
  unread n l = go (has n fs) refl
    where
      go : (x : Bool) → has n fs ≡ x → has n fs ≡ false
      go true h = absurd (omega (arith, l, there.rising n h))
      go false h = h

  -- where one of 19 to 22 was read and the card could end, all four were
  all_four : card_whole fs ≡ true → (m : ℕ) → 19 ≤ m → m ≤ 22 → has m fs ≡ true → (n : ℕ) → 19 ≤ n → n ≤ 22 → has n fs ≡ true
  all_four w m a b h n c d = go (ends_apart last (ends_as w))
    where
      first : has 19 fs ≡ true
      first = there.first m a b h

      go : (last ≤ 18) ⊎ (22 ≤ last) → has n fs ≡ true
      go (inl q) = absurd (omega (arith, q, there.rising 19 first))
      go (inr q) = there.four n c d (omega (arith, d, q)) first

  -- and all of 1 to 18
  all_low : card_whole fs ≡ true → (n : ℕ) → 1 ≤ n → n ≤ 18 → has n fs ≡ true
  all_low w n a b = there.low n a b (omega (arith, b, ends_high last (ends_as w)))

  -- ---- the tag that is expected
  next_required : (t : ℕ) → card_whole fs ≡ false → Required fs t (suc last)
  next_required t w = go (inside fs r w)
    where
      go : (last < 18) ⊎ ((19 ≤ last) × (last < 22)) → Required fs t (suc last)
      go (inl q) = always (omega arith) (omega (arith, q))
      go (inr q) = together (omega (arith, q.0)) (omega (arith, q.1)) last q.0 (omega (arith, q.1)) (inl (there.newest (omega (arith, q.0))))

  -- what is required below the next one was read
  below_read : (t : ℕ) → card_whole fs ≡ false → (m : ℕ) → m ≤ last → Required fs t m → has m fs ≡ true
  below_read t w m l (always a b) = there.low m a b l
  below_read t w m l (together a b n c d e) = go (inside fs r w)
    where
      go : (last < 18) ⊎ ((19 ≤ last) × (last < 22)) → has m fs ≡ true
      go (inl q) = absurd (omega (arith, a, l, q))
      go (inr q) = there.four m a b l (there.first last q.0 (omega (arith, q.1)) (there.newest (omega (arith, q.0))))

  module _ (t : ℕ) where
    abbrev expected : ℕ
    expected = expected_after last (has 19 fs) t

    at_next : card_whole fs ≡ false → expected ≡ suc last
    unfolding expected_after
    at_next w = rw (ends_as w) (omega (arith, next_small fs r w))

    at_19 : card_whole fs ≡ true → in_group sleep_tags t ≡ true → has 19 fs ≡ false → expected ≡ 19
    unfolding expected_after ◌up_to◌
    at_19 w s h = rw (ends_as w, s, h)

    at_end_lem : card_whole fs ≡ true → (in_group sleep_tags t && not (has 19 fs)) ≡ false → expected ≡ 33
    unfolding expected_after
    at_end_lem w s = rw (ends_as w, s)

    all_there : card_whole fs ≡ true → (in_group sleep_tags t ≡ false) ⊎ (has 19 fs ≡ true) → (m : ℕ) → Required fs t m → has m fs ≡ true
    all_there w s m (always a b) = all_low w m a b
    all_there w s m (together a b n c d (inl h)) = all_four w n c d h m a b
    all_there w (inl s) m (together a b n c d (inr e)) = sleep_not t s (omega (arith, c, e)) (omega (arith, d, e))
    all_there w (inr h) m (together a b n c d (inr e)) = all_four w 19 (omega arith) (omega arith) h m a b

    below_19 : card_whole fs ≡ true → (m : ℕ) → m < 19 → Required fs t m → has m fs ≡ true
    below_19 w m l (always a b) = all_low w m a b
    below_19 w m l (together a b n c d e) = absurd (omega (arith, l, a))

    pub expected_is : Expected fs t (expected_after last (has 19 fs) t)
    expected_is = go (card_whole fs) (in_group sleep_tags t) (has 19 fs) refl refl refl
      where
        go : (w s h : Bool) → card_whole fs ≡ w → in_group sleep_tags t ≡ s → has 19 fs ≡ h → Expected fs t expected
        go false s h w p q = rw (at_next w) (lowest (suc last) (next_required t w) (unread (suc last) (omega arith)) (λ m l. below_read t w m (omega (arith, l))))
        go true true false w p q = let b = sleep_is t p in rw (at_19 w p q) (lowest 19 (together (omega arith) (omega arith) t b.0 b.1 (inr refl)) q (below_19 w))
        go true true true w p q = rw (at_end_lem w (rw (p, q))) (all_read (all_there w (inr q)))
        go true false h w p q = rw (at_end_lem w (rw p)) (all_read (all_there w (inl p)))

  pub expected_only : (t : ℕ) {n : ℕ} → Expected fs t n → expected_after last (has 19 fs) t ≡ n
  expected_only t e = expected_one (expected_is t) e

  -- ---- the number
  passed_is : (b : Bool) (t : ℕ) → of_card t ≡ true → passed_by b last t ≡ true → Passed b fs t
  passed_is true t o e = behind_entry refl
  passed_is false t o e =
      let l = below_newest last t e in
      let h = there.newest (omega (arith, l, (within_between t (within_of t o)).0)) in
      ⊎_elim
      (λ (q : (last ≡ t) × (eqb last t ≡ true)). again (rw (← q.0) h))
      (λ (q : (last ≡ t → ⊥) × (eqb last t ≡ false)). behind last (omega (arith, l, q.0)) h)
      (eq_cases last t)

  passed_only : (b : Bool) (t : ℕ) → Passed b fs t → passed_by b last t ≡ true
  passed_only b t (again h) = is_passed b last t (inr (there.rising t h))
  passed_only b t (behind n l h) = is_passed b last t (inr (omega (arith, l, there.rising n h)))
  passed_only b t (behind_entry e) = is_passed b last t (inl e)

  not_passed : (b : Bool) (t : ℕ) → passed_by b last t ≡ false → of_card t ≡ true → Passed b fs t → ⊥
  not_passed b t e o p = apart (passed_only b t p) e

  -- a tag that may not come and was not passed waits for a lower one
  record Waits (t : ℕ) : Type 0 where
    tag : ℕ
    lower : tag < t
    required : Required fs t tag
    missing : has tag fs ≡ false

  module _ (b : Bool) (t : ℕ) (m : may_come b fs t ≡ false) where
    waits_next : card_whole fs ≡ false → suc last < t → Waits t
    waits_next w l = record { tag = suc last; lower = l; required = next_required t w; missing = unread (suc last) (omega arith) }

    waits_trace : of_trace t ≡ true → Waits t
    unfolding may_come may_follow
    waits_trace o = go (card_whole fs) refl
      where
        go : (w : Bool) → card_whole fs ≡ w → Waits t
        go true w = apart (rw (ends_as w, o)) (unfold may_come may_follow in m)
        go false w = waits_next w (omega (arith, trace_high t o, next_small fs r w))

    waits_card : of_card t ≡ true → passed_by b last t ≡ false → Waits t
    unfolding may_come may_follow
    waits_card o e = go (card_whole fs) refl
      where
        higher : last < t
        higher = (above_newest b last t e).1

        for_19 : card_whole fs ≡ true → (t ≤ 18) ⊎ ((19 < t) × (t ≤ 22)) → (last ≤ 18) ⊎ (22 ≤ last) → Waits t
        for_19 w (inl q) p = absurd (omega (arith, q, higher, ends_high last (ends_as w)))
        for_19 w (inr q) (inr p) = absurd (omega (arith, q.1, higher, p))
        for_19 w (inr q) (inl p) = record {
          tag = 19;
          lower = q.0;
          required = together (omega arith) (omega arith) t (omega (arith, q.0)) q.1 (inr refl);
          missing = unread 19 (omega (arith, p));
        }

        not_first : card_whole fs ≡ true → begins_group groups t ≡ false
        not_first w = go (begins_group groups t) (of_trace t) refl refl
          where
            go : (x y : Bool) → begins_group groups t ≡ x → of_trace t ≡ y → begins_group groups t ≡ false
            go false y p q = p
            go true true p q = absurd (omega (arith, trace_high t q, (within_between t (within_of t o)).1))
            go true false p q = apart (rw (ends_as w, q, (above_newest b last t e).0, lt-ltb last t higher, p)) (unfold may_come may_follow in m)

        go : (w : Bool) → card_whole fs ≡ w → Waits t
        go true w = for_19 w (behind_first t (within_of t o) (not_first w)) (ends_apart last (ends_as w))
        go false w = waits_next w (omega (arith, higher, eqb-false t (suc last) (unfold may_come may_follow in rw (ends_as w) at m)))

    too_early : known t ≡ true → (of_card t ≡ true → Passed b fs t → ⊥) → Waits t → Wrong b fs t 19
    too_early k n w = early k n w.tag w.lower w.required w.missing

    pub wrong_is : Wrong b fs t (wrong_number b last t)
    unfolding wrong_number
    wrong_is = go (of_card t) (of_trace t) (passed_by b last t) refl refl refl
      where
        go : (x y z : Bool) → of_card t ≡ x → of_trace t ≡ y → passed_by b last t ≡ z → Wrong b fs t (cond (known t) (cond (of_card t && passed_by b last t) 18 19) 17)
        go true y true o q e = unfold known in rw (o, e) (passed o (passed_is b t o e))
        go true y false o q e = unfold known in rw (o, e) (too_early (rw o) (not_passed b t e) (waits_card o e))
        go false true z o q e = unfold known in rw (o, q) (too_early (rw (o, q)) (λ p. apart p o) (waits_trace q))
        go false false z o q e = unfold known in rw (o, q) (unknown (rw (o, q)))

  pub wrong_only : (b : Bool) (t : ℕ) {k : ℕ} → Wrong b fs t k → wrong_number b last t ≡ k
  unfolding wrong_number known
  wrong_only b t (unknown e) = rw e
  wrong_only b t (passed o p) = rw (o, passed_only b t p)
  wrong_only b t (early k n m l q u) = rw k (go (of_card t) (passed_by b last t) refl refl)
    where
      go : (x y : Bool) → of_card t ≡ x → passed_by b last t ≡ y → ◌≡◌ {A = ℕ} (cond (x && y) 18 19) 19
      go true true o e = absurd (n o (passed_is b t o e))
      go true false o e = refl
      go false y o e = refl

  -- ---- so a tag has one such number at most, and none where it may come
  module _ (b : Bool) (behind_card : b ≡ true → card_whole fs ≡ true) (t : ℕ) where
    -- a tag that may come is the trace's behind a whole card, or the card's: it is known, was not passed, and waits for none
    data Comes : Type 0 where
      to_trace : card_whole fs ≡ true → of_trace t ≡ true → Comes
      to_next : card_whole fs ≡ false → t ≡ suc last → b ≡ false → Comes
      to_group : card_whole fs ≡ true → b ≡ false → last < t → begins_group groups t ≡ true → Comes

    comes : may_come b fs t ≡ true → Comes
    unfolding may_come may_follow
    comes m = go (card_whole fs) (of_trace t) b refl refl refl
      where
        go : (w o x : Bool) → card_whole fs ≡ w → of_trace t ≡ o → b ≡ x → Comes
        go true true x w o e = to_trace w o
        go true false true w o e = apart (unfold may_come may_follow in m) (rw (ends_as w, o, e))
        go true false false w o e =
            let p = both_true (ltb last t) (begins_group groups t) (unfold may_come may_follow in rw (ends_as w, o, e) at m) in
            to_group w e (ltb-true last t p.0) p.1
        go false o true w p e = apart (behind_card e) w
        go false o false w p e = to_next w (eqb-true t (suc last) (unfold may_come may_follow in rw (ends_as w) at m)) e

    next_known : card_whole fs ≡ false → t ≡ suc last → of_card t ≡ true
    next_known w e = go (within fs r)
      where
        go : (fs ≡ []) ⊎ Within groups last → of_card t ≡ true
        go (inl n) = rw (e, n) (unfold last_tag in of_within 1 first_within)
        go (inr p) = rw e (of_within (suc last) (next_within last p (ends_as w)))

    is_known : Comes → known t ≡ true
    unfolding known
    is_known (to_trace w o) = rw o (or-true (of_card t))
    is_known (to_next w e x) = rw (next_known w e)
    is_known (to_group w x l g) = rw (of_within t (begins_within t g))

    not_above_lem : last < t → b ≡ false → Passed b fs t → ⊥
    not_above_lem l x (again h) = omega (arith, l, there.rising t h)
    not_above_lem l x (behind n k h) = omega (arith, l, k, there.rising n h)
    not_above_lem l x (behind_entry e) = apart e x

    is_new : Comes → of_card t ≡ true → Passed b fs t → ⊥
    is_new (to_trace w o) c p = absurd (omega (arith, trace_high t o, (within_between t (within_of t c)).1))
    is_new (to_next w e x) c p = not_above_lem (omega (arith, e)) x p
    is_new (to_group w x l g) c p = not_above_lem l x p

    waits_for_none : Comes → (n : ℕ) → n < t → Required fs t n → has n fs ≡ true
    waits_for_none (to_next w e x) n l q = below_read t w n (omega (arith, e, l)) q
    waits_for_none (to_trace w o) n l (always a d) = all_low w n a d
    waits_for_none (to_trace w o) n l (together a d m c f (inl h)) = all_four w m c f h n a d
    waits_for_none (to_trace w o) n l (together a d m c f (inr e)) = absurd (omega (arith, trace_high t o, e, f))
    waits_for_none (to_group w x s g) n l (always a d) = all_low w n a d
    waits_for_none (to_group w x s g) n l (together a d m c f (inl h)) = all_four w m c f h n a d
    waits_for_none (to_group w x s g) n l (together a d m c f (inr e)) = ⊎_elim (λ (q : t ≤ 19). absurd (omega (arith, q, l, a))) (λ (q : 23 ≤ t). absurd (omega (arith, q, e, f))) (begins_apart t g)

    never_comes : {k : ℕ} → Wrong b fs t k → Comes → ⊥
    never_comes (unknown e) c = apart (is_known c) e
    never_comes (passed o p) c = is_new c o p
    never_comes (early k n m l q u) c = apart (waits_for_none c m l q) u

    wrong_bars : {k : ℕ} → Wrong b fs t k → may_come b fs t ≡ false
    wrong_bars v = go (may_come b fs t) refl
      where
        go : (x : Bool) → may_come b fs t ≡ x → may_come b fs t ≡ false
        go true m = absurd (never_comes v (comes m))
        go false m = m

    pub wrong_iff : (may_come b fs t ≡ false) ↔ ((k : ℕ) × Wrong b fs t k)
    wrong_iff = (λ m. (wrong_number b last t, wrong_is b t m), λ v. wrong_bars v.1)

    pub wrong_one : {j k : ℕ} → Wrong b fs t j → Wrong b fs t k → j ≡ k
    wrong_one v w = sym (wrong_only b t v) ∙ wrong_only b t w
