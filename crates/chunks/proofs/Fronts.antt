-- The head of some bytes, by how many they are, their first and the two behind it; and the field that a whole head has.
use Rattle.std.specs.Prelude.{Option, Some, None, Result, Ok, Err}
use Rattle.std.proofs.Common.{◌≡◌, ℕ, suc, ◌+◌, ◌-◌, ◌*◌, ◌<◌, ◌≤◌, Bool, true, false, cond, eqb, ltb, leb, ◌⊎◌, List, [], ◌∷◌, length, get_or, take, drop, refl, ap, ◌∙◌, inl, inr, ⊎_elim, arith, length-take-le, le-ltb, lt-ltb, ne_eqb}
use Rattle.rules.specs.Checks.{Refusal, refusal}
use Rattle.rules.specs.Form as form
use Rattle.rules.proofs.Tests.{le_cases, eq_cases}
use Rattle.chunks.specs.Took.{tagged, newest}
use Rattle.chunks.specs.Parts.{field_in, head_as}

-- ---- where an entry may come
pub come_as : (b : Bool) (last : ℕ) (s : Bool) (tag : ℕ) → form.may_come b (newest last s) tag ≡ form.may_follow b last tag
unfolding form.may_come form.last_tag newest tagged
come_as b last s tag = refl

-- what is wrong with a tag behind these fields is so by the newest one's tag and by whether 19 was read: behind tag 19 itself 20 is expected anyhow
pub wrong_as : (b : Bool) (last : ℕ) (s : Bool) (tag : ℕ) → form.wrong_tag b (newest last s) tag ≡ form.wrong_after b last s tag
unfolding form.wrong_tag form.wrong_after form.last_tag newest tagged form.◌up_to◌
wrong_as b last s tag = ap (λ (e : ℕ). refusal (form.wrong_number b last tag) e 0) (expected_as (eq_cases last 19))
  where
    expected_as : ((last ≡ 19) × (eqb last 19 ≡ true)) ⊎ ((last ≡ 19 → ⊥) × (eqb last 19 ≡ false)) →
        form.expected_after last (form.has 19 (newest last s)) tag ≡ form.expected_after last s tag
    expected_as (inl p) = unfold form.expected_after form.ends_group form.groups form.◌up_to◌ in rw p.0
    expected_as (inr p) = ap (λ (x : Bool). form.expected_after last x tag) (unfold form.has newest tagged form.◌up_to◌ in rw p.1 (read s))
      where
        read : (s : Bool) → form.has 19 (cond s (tagged 19 ∷ []) []) ≡ s
        read true = unfold form.has tagged in refl
        read false = unfold form.has in refl

-- and behind it another
pub still_comes : (b : Bool) (last : ℕ) → form.may_follow b last 32 ≡ true → form.may_follow true last 32 ≡ true
unfolding form.may_follow form.of_trace form.of_entry
still_comes b last e = e

-- but none behind the end field
pub not_behind_lem : (b : Bool) (last : ℕ) → form.may_follow b last 32 ≡ true → last ≡ 33 → ⊥
unfolding form.may_follow form.ends_group form.groups form.◌up_to◌
not_behind_lem b last e z = let f : false ≡ true = rw z at e in cc

-- ---- the head, where the length of what is behind the tag and the two bytes is l
abbrev Sized : Type 0
Sized = Result (Option ℕ) Refusal

abbrev whole : ℕ → Sized
whole n = Ok (Some n)

abbrev cut : Sized
cut = Ok None

abbrev bad_tag : Refusal → Sized
bad_tag x = Err (refusal x.number x.rule 0)

abbrev bad_length : Sized
bad_length = Err (refusal 3 0 0)

abbrev sized : (tag size l : ℕ) → Sized
sized t n l = cond (form.length_good t n) (cond (ltb l n) cut (whole (3 + n))) bad_length

abbrev decided : Bool → List form.Field → (tag size l : ℕ) → Sized
decided b fs t n l = cond (eqb l 0) cut (cond (form.may_come b fs t) (cond (ltb l 3) cut (sized t n (l - 3))) (bad_tag (form.wrong_tag b fs t)))

valued_is : (t h l : ℕ) (bs : List ℕ) → head_as (form.valued t h l bs) ≡ cond (ltb (length bs) (256 * h + l)) cut (whole (3 + (256 * h + l)))
unfolding head_as form.valued form.size_of
valued_is t h l bs =
    let n : ℕ = 256 * h + l in
    ⊎_elim
    (λ (p : (n ≤ length bs) × (leb n (length bs) ≡ true)). rw (p.1, le-ltb (length bs) n p.0, length-take-le n bs p.0))
    (λ (p : (length bs < n) × (leb n (length bs) ≡ false)). rw (p.1, lt-ltb (length bs) n p.0))
    (le_cases n (length bs))

sized_is : (good : Bool) (h : form.Head) → head_as (cond good h form.bad_length) ≡ cond good (head_as h) bad_length
unfolding head_as
sized_is true h = refl
sized_is false h = refl

tagged_is : (comes : Bool) (h : form.Head) (x : Refusal) → head_as (cond comes h (form.bad_tag x)) ≡ cond comes (head_as h) (bad_tag x)
unfolding head_as
tagged_is true h x = refl
tagged_is false h x = refl

pub head_is : (b : Bool) (fs : List form.Field) (bs : List ℕ) → head_as (form.head_of b fs bs) ≡ decided b fs (get_or bs 0 0) (256 * get_or bs 1 0 + get_or bs 2 0) (length bs)
unfolding form.head_of form.sized head_as
head_is b fs [] = refl
head_is b fs (t ∷ []) = tagged_is (form.may_come b fs t) form.cut (form.wrong_tag b fs t)
head_is b fs (t ∷ h ∷ []) = tagged_is (form.may_come b fs t) form.cut (form.wrong_tag b fs t)
head_is b fs (t ∷ h ∷ l ∷ bs) =
    let n : ℕ = length (t ∷ h ∷ l ∷ bs) in
    let m : n - 3 ≡ length bs = omega arith in
    tagged_is (form.may_come b fs t) (cond (form.length_good t (256 * h + l)) (form.valued t h l bs) form.bad_length) (form.wrong_tag b fs t)
    ∙ rw (sized_is (form.length_good t (256 * h + l)) (form.valued t h l bs), valued_is t h l bs, ne_eqb n 0 (omega arith), le-ltb n 3 (omega arith), m)

-- ---- a whole field
pub record Fronted (b : Bool) (fs : List form.Field) (bs : List ℕ) (n : ℕ) : Type 0 where
  pub is : form.head_of b fs bs ≡ form.whole (field_in (take n bs)) (drop n bs)
  pub least : 3 ≤ n
  pub long : n ≤ length bs
  pub count : n ≡ 3 + (256 * get_or bs 1 0 + get_or bs 2 0)
  pub tag : form.may_come b fs (get_or bs 0 0) ≡ true
  pub size : form.length_good (get_or bs 0 0) (n - 3) ≡ true

module _ (b : Bool) (fs : List form.Field) (t h l : ℕ) (bs : List ℕ) (n : ℕ) where
  abbrev size : ℕ
  size = 256 * h + l

  front_all : form.may_come b fs t ≡ true → form.length_good t size ≡ true → (size ≤ length bs) × (leb size (length bs) ≡ true) → Fronted b fs (t ∷ h ∷ l ∷ bs) (suc (suc (suc size)))
  unfolding form.head_of form.sized form.valued field_in
  front_all comes good p = record {
    is = rw (comes, good, p.1);
    least = omega arith;
    long = let q = p.0 in omega arith;
    count = omega arith;
    tag = comes;
    size = let d : suc (suc (suc size)) - 3 ≡ size = omega arith in rw d good;
  }

  front_long : form.may_come b fs t ≡ true → form.length_good t size ≡ true → ((size ≤ length bs) × (leb size (length bs) ≡ true)) ⊎ ((length bs < size) × (leb size (length bs) ≡ false))
      → head_as (form.valued t h l bs) ≡ whole n → Fronted b fs (t ∷ h ∷ l ∷ bs) n
  unfolding head_as form.valued form.size_of
  front_long comes good (inl p) e =
      let f : whole (3 + length (take size bs)) ≡ whole n = rw p.1 at e in
      let g : 3 + length (take size bs) ≡ n = cc in
      let k : 3 + size ≡ n = rw (length-take-le size bs p.0) at g in
      let m : suc (suc (suc size)) ≡ n = omega arith in
      rw (← m) (front_all comes good p)
  front_long comes good (inr p) e = let f : cut ≡ whole n = rw p.1 at e in absurd cc

  front_good : (g : Bool) → form.length_good t size ≡ g → form.may_come b fs t ≡ true → head_as (cond g (form.valued t h l bs) form.bad_length) ≡ whole n → Fronted b fs (t ∷ h ∷ l ∷ bs) n
  unfolding head_as
  front_good true good comes e = front_long comes good (le_cases size (length bs)) e
  front_good false good comes e = absurd cc

  front_comes : (m : Bool) → form.may_come b fs t ≡ m → head_as (cond m (cond (form.length_good t size) (form.valued t h l bs) form.bad_length) (form.bad_tag (form.wrong_tag b fs t))) ≡ whole n → Fronted b fs (t ∷ h ∷ l ∷ bs) n
  unfolding head_as
  front_comes true comes e = front_good (form.length_good t size) refl comes e
  front_comes false comes e = absurd cc

no_front : (m : Bool) (x : Refusal) {n : ℕ} → head_as (cond m form.cut (form.bad_tag x)) ≡ whole n → ⊥
unfolding head_as
no_front true x e = cc
no_front false x e = cc

pub front : (b : Bool) (fs : List form.Field) (bs : List ℕ) (n : ℕ) → head_as (form.head_of b fs bs) ≡ whole n → Fronted b fs bs n
unfolding head_as form.head_of form.sized
front b fs [] n e = absurd cc
front b fs (t ∷ []) n e = absurd (no_front (form.may_come b fs t) (form.wrong_tag b fs t) e)
front b fs (t ∷ h ∷ []) n e = absurd (no_front (form.may_come b fs t) (form.wrong_tag b fs t) e)
front b fs (t ∷ h ∷ l ∷ bs) n e = front_comes b fs t h l bs n (form.may_come b fs t) refl e
