-- What is left of a file begins in exactly one way: with a whole field of right form, cut off, with a wrong tag, with a wrong length.
use Prim.Native.Nat.{ℕ, ◌+◌, ◌*◌, ◌≤◌, ◌<◌}
use mathlib.Core.Path.{◌≡◌, refl, subst}
use mathlib.Core.Logic.{⊎_elim}
use mathlib.Core.Bool.{Bool, true, false, cond}
use mathlib.Core.List.{List, [], ◌∷◌, ◌++◌}
use native.Mathlib.Omega.{arith}
use lib.Dec.{leb}
use lib.ListN.{length, take, drop, length-append, length-take, take-append-drop}
use lib.Seq.{take_at, drop_at}
use borrow.Author.Tests.{le-leb, lt-leb}
use Rattle.rules.specs.Form.{Field, bytes_of, may_come, wrong_tag, length_good, Head, whole, cut, bad_tag, bad_length, valued, sized, head_of}
use Rattle.rules.specs.FileReading.{RightForm, Cut, no_tag, no_length, half_length, short_value}
use Rattle.rules.proofs.Tests.{le_cases}

pub data HeadSays (b : Bool) (fs : List Field) : List ℕ → Head → Type 0 where
  is_whole : (f : Field) (rest : List ℕ) → RightForm b fs f → HeadSays b fs (bytes_of f ++ rest) (whole f rest)
  is_cut : {bs : List ℕ} → Cut b fs bs → HeadSays b fs bs cut
  is_bad_tag : {t : ℕ} {bs : List ℕ} → may_come b fs t ≡ false → HeadSays b fs (t ∷ bs) (bad_tag (wrong_tag b fs t))
  is_bad_length : {t h l : ℕ} {bs : List ℕ} → may_come b fs t ≡ true → length_good t (256 * h + l) ≡ false → HeadSays b fs (t ∷ h ∷ l ∷ bs) bad_length

-- a head with this tag and length, by whether its value is whole
pub by_value : (P : List ℕ → Head → Type 0) (t h l : ℕ) (bs : List ℕ) →
    ((v rest : List ℕ) → length v ≡ 256 * h + l → P (t ∷ h ∷ l ∷ v ++ rest) (whole (record { tag = t; high = h; low = l; value = v }) rest)) →
    (length bs < 256 * h + l → P (t ∷ h ∷ l ∷ bs) cut) → P (t ∷ h ∷ l ∷ bs) (valued t h l bs)
unfolding valued
by_value P t h l bs full short = ⊎_elim
    (λ (q : (256 * h + l ≤ length bs) × (leb (256 * h + l) (length bs) ≡ true)). rw q.1 (here q.0))
    (λ (q : (length bs < 256 * h + l) × (leb (256 * h + l) (length bs) ≡ false)). rw q.1 (short q.0))
    (le_cases (256 * h + l) (length bs))
  where
    field : Field
    field = record { tag = t; high = h; low = l; value = take (256 * h + l) bs }

    here : 256 * h + l ≤ length bs → P (t ∷ h ∷ l ∷ bs) (whole field (drop (256 * h + l) bs))
    here q = subst (λ (z : List ℕ). P (t ∷ h ∷ l ∷ z) (whole field (drop (256 * h + l) bs))) (take-append-drop (256 * h + l) bs)
        (full (take (256 * h + l) bs) (drop (256 * h + l) bs) (rw length-take (omega arith)))

module _ (b : Bool) (fs : List Field) where
  valued_says : (t h l : ℕ) (bs : List ℕ) → may_come b fs t ≡ true → length_good t (256 * h + l) ≡ true → HeadSays b fs (t ∷ h ∷ l ∷ bs) (valued t h l bs)
  valued_says t h l bs m g = by_value (HeadSays b fs) t h l bs full (λ s. is_cut (short_value m g s))
    where
      full : (v rest : List ℕ) → length v ≡ 256 * h + l → HeadSays b fs (t ∷ h ∷ l ∷ v ++ rest) (whole (record { tag = t; high = h; low = l; value = v }) rest)
      full v rest e = unfold bytes_of in is_whole (record { tag = t; high = h; low = l; value = v }) rest (record { tag = m; size = g; whole = e })

  sized_says : (t : ℕ) (bs : List ℕ) → may_come b fs t ≡ true → HeadSays b fs (t ∷ bs) (sized t bs)
  unfolding sized
  sized_says t [] m = is_cut (no_length m)
  sized_says t (h ∷ []) m = is_cut (half_length m)
  sized_says t (h ∷ l ∷ bs) m = go (length_good t (256 * h + l)) refl
    where
      go : (x : Bool) → length_good t (256 * h + l) ≡ x → HeadSays b fs (t ∷ h ∷ l ∷ bs) (cond x (valued t h l bs) bad_length)
      go true g = valued_says t h l bs m g
      go false g = is_bad_length m g

  pub head_says : (bs : List ℕ) → HeadSays b fs bs (head_of b fs bs)
  unfolding head_of
  head_says [] = is_cut no_tag
  head_says (t ∷ bs) = go (may_come b fs t) refl
    where
      go : (x : Bool) → may_come b fs t ≡ x → HeadSays b fs (t ∷ bs) (cond x (sized t bs) (bad_tag (wrong_tag b fs t)))
      go true m = sized_says t bs m
      go false m = is_bad_tag m

  cut_head : {bs : List ℕ} → Cut b fs bs → head_of b fs bs ≡ cut
  unfolding head_of sized valued
  cut_head no_tag = refl
  cut_head (no_length m) = rw m
  cut_head (half_length m) = rw m
  cut_head (short_value {h = h} {l = l} {bs = bs} m g s) = rw (m, g, lt-leb (256 * h + l) (length bs) s)

  whole_head : (f : Field) (rest : List ℕ) → RightForm b fs f → head_of b fs (bytes_of f ++ rest) ≡ whole f rest
  unfolding head_of sized valued bytes_of
  whole_head f rest r =
      let n = 256 * f.high + f.low in
      let fits : n ≤ length (f.value ++ rest) = rw length-append (omega (arith, r.whole)) in
      rw (r.tag, r.size, le-leb n (length (f.value ++ rest)) fits, take_at f.value rest n r.whole, drop_at f.value rest n r.whole)

  pub head_only : {bs : List ℕ} {h : Head} → HeadSays b fs bs h → head_of b fs bs ≡ h
  unfolding head_of sized
  head_only (is_whole f rest r) = whole_head f rest r
  head_only (is_cut c) = cut_head c
  head_only (is_bad_tag m) = rw m
  head_only (is_bad_length m g) = rw (m, g)
