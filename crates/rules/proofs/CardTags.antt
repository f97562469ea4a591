-- What the tags of a right card tell: which one a field goes on with, that they rise within the table's groups, and what was read by the time a tag comes.
use Prim.Native.Nat.{ℕ, suc, ◌≤◌, ◌<◌}
use mathlib.Core.Path.{◌≡◌, refl}
use mathlib.Core.Logic.{◌⊎◌, inl, inr, ⊎_elim}
use mathlib.Core.Bool.{Bool, true, false, not, ◌&&◌, or-true}
use mathlib.Core.List.{List, [], ◌∷◌}
use native.Mathlib.Omega.{arith}
use lib.ListN.{length}
use lib.Dec.{ltb, eqb}
use borrow.Author.Tests.{ltb-true, eqb-true, eq-eqb}
use Rattle.rules.specs.Form.{Field, groups, last_tag, has, ends_group, begins_group, card_whole, of_entry, of_trace, ◌up_to◌, may_follow, may_come}
use Rattle.rules.specs.FileReading.{RightForm, CardRight}
use Rattle.rules.proofs.Tests.{eq_cases, both_true}
use Rattle.rules.proofs.Tags.{Within, begins_within, next_within, within_between, first_within, ends_high, ends_apart, begins_apart, inner}

-- behind the fields of a card a field of the card goes on with the next tag, or begins a group where the card could end
pub data Follows (fs : List Field) (t : ℕ) : Type 0 where
  goes_on : card_whole fs ≡ false → t ≡ suc (last_tag fs) → Follows fs t
  begins : card_whole fs ≡ true → last_tag fs < t → begins_group groups t ≡ true → Follows fs t

pub follows : {b : Bool} (f : Field) (fs : List Field) → RightForm b fs f → of_trace f.tag ≡ false → Follows fs f.tag
unfolding may_come may_follow card_whole
follows {b} f fs h o = go (card_whole fs) refl
  where
    parts : (x y z : Bool) → (not x && (y && z)) ≡ true → (y ≡ true) × (z ≡ true)
    parts true y z e = let q : ◌≡◌ {A = ℕ} 0 1 = cc in absurd (omega arith)
    parts false y z e = both_true y z e

    go : (x : Bool) → card_whole fs ≡ x → Follows fs f.tag
    go false w = goes_on w (eqb-true f.tag (suc (last_tag fs)) (rw w at h.tag))
    go true w =
        let p = parts b (ltb (last_tag fs) f.tag) (begins_group groups f.tag) (rw (w, o) at h.tag) in
        begins w (ltb-true (last_tag fs) f.tag p.0) p.1

-- an entry and the end may come before the first entry and behind it alike; behind an entry nothing else may
pub any_form : {b : Bool} (c : Bool) (fs : List Field) (f : Field) → of_trace f.tag ≡ true → RightForm b fs f → RightForm c fs f
unfolding may_come may_follow card_whole
any_form c fs f o h = record { tag = rw o (rw o at h.tag); size = h.size; whole = h.whole }

pub no_more : (fs : List Field) (f : Field) → RightForm true fs f → card_whole fs ≡ true → of_trace f.tag ≡ false → ⊥
unfolding may_come may_follow card_whole
no_more fs f h w o = let e : false ≡ true = rw (w, o) at h.tag in let z : ◌≡◌ {A = ℕ} 0 1 = cc in omega arith

pub entry_tag : (t : ℕ) → of_entry t ≡ true → of_trace t ≡ true
unfolding of_trace
entry_tag t e = rw e

pub end_tag : (t : ℕ) → t ≡ 33 → of_trace t ≡ true
unfolding of_trace of_entry
end_tag t e = rw e

-- an entry's tag is 32 or 34
pub entry_high : (t : ℕ) → of_entry t ≡ true → 31 < t
unfolding of_entry
entry_high t e = ⊎_elim
    (λ (p : (t ≡ 32) × (eqb t 32 ≡ true)). omega (arith, p.0))
    (λ (p : (t ≡ 32 → ⊥) × (eqb t 32 ≡ false)). let q = eqb-true t 34 (rw p.1 at e) in omega (arith, q))
    (eq_cases t 32)

-- the tags of a right card lie within the table's groups
within_next : (fs : List Field) (t : ℕ) → Follows fs t → (fs ≡ []) ⊎ Within groups (last_tag fs) → Within groups t
within_next fs t (begins w l g) p = begins_within t g
within_next fs t (goes_on w e) (inl n) = rw (e, n) (unfold last_tag in first_within)
within_next fs t (goes_on w e) (inr p) = rw e (next_within (last_tag fs) p (unfold card_whole in w))

pub within : (fs : List Field) → CardRight fs → (fs ≡ []) ⊎ Within groups (last_tag fs)
unfolding last_tag CardRight
within [] r = inl refl
within (f ∷ fs) r = inr (within_next fs f.tag (follows f fs r.0 r.1) (within fs r.3))

pub next_small : (fs : List Field) → CardRight fs → card_whole fs ≡ false → suc (last_tag fs) < 32
unfolding card_whole
next_small fs r w = go fs w (within fs r)
  where
    go : (fs : List Field) → ends_group groups (last_tag fs) ≡ false → (fs ≡ []) ⊎ Within groups (last_tag fs) → suc (last_tag fs) < 32
    go fs w (inl e) = rw e (unfold last_tag in omega arith)
    go fs w (inr p) = (within_between (suc (last_tag fs)) (next_within (last_tag fs) p w)).1

-- they rise, so a card has no more fields than its newest tag says
pub tags_rise : (fs : List Field) → CardRight fs → length fs ≤ last_tag fs
unfolding last_tag CardRight
tags_rise [] r = omega arith
tags_rise (f ∷ fs) r = go (follows f fs r.0 r.1) (tags_rise fs r.3)
  where
    go : Follows fs f.tag → length fs ≤ last_tag fs → suc (length fs) ≤ f.tag
    go (begins w l g) h = omega arith
    go (goes_on w e) h = omega arith

pub tag_below : (fs : List Field) → CardRight fs → last_tag fs < 32
tag_below fs r = ⊎_elim
    (λ (e : fs ≡ []). rw e (unfold last_tag in omega arith))
    (λ (p : Within groups (last_tag fs)). (within_between (last_tag fs) p).1)
    (within fs r)

-- a tag of the table, in numbers
pub card_bounds : (t : ℕ) → Within groups t → (1 ≤ t) × ((t ≤ 23) ⊎ ((t ≡ 25) ⊎ (t ≡ 26)))
unfolding Within groups ◌up_to◌
card_bounds t (inl p) = (p.0, inl (omega arith))
card_bounds t (inr (inl p)) = (omega arith, inl (omega arith))
card_bounds t (inr (inr (inl p))) = (omega arith, inl p.1)
card_bounds t (inr (inr (inr (inl p)))) = (omega arith, inr (inl (omega arith)))
card_bounds t (inr (inr (inr (inr (inl p))))) = (omega arith, inr (inr (omega arith)))
card_bounds t (inr (inr (inr (inr (inr p))))) = absurd p

-- a field of the card that may come has one
pub card_tag : {b : Bool} (fs : List Field) (f : Field) → CardRight fs → RightForm b fs f → of_trace f.tag ≡ false → Within groups f.tag
card_tag fs f r h o = within_next fs f.tag (follows f fs h o) (within fs r)

-- ---- which tags were read
module _ (n : ℕ) (f : Field) (fs : List Field) where
  -- a field more adds its tag alone
  has_more : has n (f ∷ fs) ≡ true → (f.tag ≡ n) ⊎ (has n fs ≡ true)
  unfolding has
  has_more e = ⊎_elim
      (λ (q : (f.tag ≡ n) × (eqb f.tag n ≡ true)). inl q.0)
      (λ (q : (f.tag ≡ n → ⊥) × (eqb f.tag n ≡ false)). inr (rw q.1 at e))
      (eq_cases f.tag n)

  has_new : f.tag ≡ n → has n (f ∷ fs) ≡ true
  unfolding has
  has_new e = rw (eq-eqb f.tag n e)

  has_old : has n fs ≡ true → has n (f ∷ fs) ≡ true
  unfolding has
  has_old e = rw (e, or-true (eqb f.tag n))

-- none above the newest; of 1 to 18 all up to it; of 19 to 22 none, or all up to it
pub record ReadTo (fs : List Field) : Type 0 where
  pub rising : (n : ℕ) → has n fs ≡ true → n ≤ last_tag fs
  pub newest : 1 ≤ last_tag fs → has (last_tag fs) fs ≡ true
  pub low : (n : ℕ) → 1 ≤ n → n ≤ 18 → n ≤ last_tag fs → has n fs ≡ true
  pub first : (n : ℕ) → 19 ≤ n → n ≤ 22 → has n fs ≡ true → has 19 fs ≡ true
  pub four : (n : ℕ) → 19 ≤ n → n ≤ 22 → n ≤ last_tag fs → has 19 fs ≡ true → has n fs ≡ true

-- the next tag of a right card is one more, or it begins a group above 22
data Next (last t : ℕ) : Type 0 where
  by_one : t ≡ suc last → Next last t
  above : 23 ≤ t → 18 ≤ last → last < t → (last ≤ 18) ⊎ (22 ≤ last) → Next last t

next_is : (fs : List Field) (t : ℕ) → Follows fs t → Next (last_tag fs) t
next_is fs t (goes_on w e) = by_one e
next_is fs t (begins w l g) = go (begins_apart t g)
  where
    ends : ends_group groups (last_tag fs) ≡ true
    ends = unfold card_whole in w

    go : (t ≤ 19) ⊎ (23 ≤ t) → Next (last_tag fs) t
    go (inl h) = by_one (omega (arith, l, ends_high (last_tag fs) ends))
    go (inr h) = above h (ends_high (last_tag fs) ends) l (ends_apart (last_tag fs) ends)

module _ (f : Field) (fs : List Field) (k : ReadTo fs) where
  more_by_one : f.tag ≡ suc (last_tag fs) → ReadTo (f ∷ fs)
  unfolding last_tag
  more_by_one e = record {
    rising = λ n h. ⊎_elim (λ (q : f.tag ≡ n). omega (arith, q)) (λ (q : has n fs ≡ true). omega (arith, e, k.rising n q)) (has_more n f fs h);
    newest = λ l. has_new f.tag f fs refl;
    low = λ n a b l. reached n l (k.low n a b);
    first = λ n a b h. ⊎_elim (λ (q : f.tag ≡ n). from_19 (omega (arith, q, a)) (omega (arith, q, b))) (λ (q : has n fs ≡ true). has_old 19 f fs (k.first n a b q)) (has_more n f fs h);
    four = λ n a b l h. reached n l (λ m. k.four n a b m (before_19 n a m (has_more 19 f fs h)));
  }
    where
      reached : (n : ℕ) → n ≤ f.tag → (n ≤ last_tag fs → has n fs ≡ true) → has n (f ∷ fs) ≡ true
      reached n l h = ⊎_elim
          (λ (q : (f.tag ≡ n) × (eqb f.tag n ≡ true)). has_new n f fs q.0)
          (λ (q : (f.tag ≡ n → ⊥) × (eqb f.tag n ≡ false)). has_old n f fs (h (omega (arith, e, l, q.0))))
          (eq_cases f.tag n)

      from_19 : 19 ≤ f.tag → f.tag ≤ 22 → has 19 (f ∷ fs) ≡ true
      from_19 a b = ⊎_elim
          (λ (q : (f.tag ≡ 19) × (eqb f.tag 19 ≡ true)). has_new 19 f fs q.0)
          (λ (q : (f.tag ≡ 19 → ⊥) × (eqb f.tag 19 ≡ false)). has_old 19 f fs (k.first (last_tag fs) (omega (arith, e, a, q.0)) (omega (arith, e, b)) (k.newest (omega (arith, e, a)))))
          (eq_cases f.tag 19)

      before_19 : (n : ℕ) → 19 ≤ n → n ≤ last_tag fs → (f.tag ≡ 19) ⊎ (has 19 fs ≡ true) → has 19 fs ≡ true
      before_19 n a m (inl q) = absurd (omega (arith, e, q, a, m))
      before_19 n a m (inr h) = h

  more_above : 23 ≤ f.tag → 18 ≤ last_tag fs → last_tag fs < f.tag → (last_tag fs ≤ 18) ⊎ (22 ≤ last_tag fs) → ReadTo (f ∷ fs)
  unfolding last_tag
  more_above t l s p = record {
    rising = λ n h. ⊎_elim (λ (q : f.tag ≡ n). omega (arith, q)) (λ (q : has n fs ≡ true). omega (arith, s, k.rising n q)) (has_more n f fs h);
    newest = λ l. has_new f.tag f fs refl;
    low = λ n a b m. has_old n f fs (k.low n a b (omega (arith, b, l)));
    first = λ n a b h. has_old 19 f fs (k.first n a b (older n b (has_more n f fs h)));
    four = λ n a b m h. has_old n f fs (let g = older 19 (omega arith) (has_more 19 f fs h) in k.four n a b (far n b g p) g);
  }
    where
      older : (n : ℕ) → n ≤ 22 → (f.tag ≡ n) ⊎ (has n fs ≡ true) → has n fs ≡ true
      older n b (inl q) = absurd (omega (arith, q, b, t))
      older n b (inr h) = h

      far : (n : ℕ) → n ≤ 22 → has 19 fs ≡ true → (last_tag fs ≤ 18) ⊎ (22 ≤ last_tag fs) → n ≤ last_tag fs
      far n b g (inl q) = absurd (omega (arith, k.rising 19 g, q))
      far n b g (inr q) = omega (arith, b, q)

none_read : ReadTo []
unfolding last_tag has
none_read = record {
  rising = λ n h. absurd (never h);
  newest = λ l. absurd (omega arith);
  low = λ n a b l. absurd (omega arith);
  first = λ n a b h. absurd (never h);
  four = λ n a b l h. absurd (never h);
}
  where
    never : false ≡ true → ⊥
    never h = let z : ◌≡◌ {A = ℕ} 0 1 = cc in omega arith

pub read_to : (fs : List Field) → CardRight fs → ReadTo fs
unfolding CardRight
read_to [] r = none_read
read_to (f ∷ fs) r = go (next_is fs f.tag (follows f fs r.0 r.1)) (read_to fs r.3)
  where
    go : Next (last_tag fs) f.tag → ReadTo fs → ReadTo (f ∷ fs)
    go (by_one e) k = more_by_one f fs k e
    go (above t l s p) k = more_above f fs k t l s p

-- behind a tag that ends no group, in numbers
pub inside : (fs : List Field) → CardRight fs → card_whole fs ≡ false → (last_tag fs < 18) ⊎ ((19 ≤ last_tag fs) × (last_tag fs < 22))
unfolding card_whole
inside fs r w = go fs w (within fs r)
  where
    go : (fs : List Field) → ends_group groups (last_tag fs) ≡ false → (fs ≡ []) ⊎ Within groups (last_tag fs) → (last_tag fs < 18) ⊎ ((19 ≤ last_tag fs) × (last_tag fs < 22))
    go fs w (inl e) = inl (rw e (unfold last_tag in omega arith))
    go fs w (inr p) = inner (last_tag fs) p w
