-- What stands at a place of some bytes: an entry field, or a stamp.
use Prim.Native.Nat.{ℕ, ◌+◌, ◌*◌, ◌-◌, ◌/◌, ◌%◌, ◌^◌, ◌≤◌, ◌<◌}
use mathlib.Core.Path.{◌≡◌, refl, sym, ◌∙◌}
use mathlib.Core.Logic.{⊎_elim}
use mathlib.Core.Bool.{Bool, true, false, cond, ◌&&◌}
use mathlib.Core.List.{List, [], ◌∷◌, ◌++◌}
use native.Mathlib.Nat.{div-one}
use native.Mathlib.Omega.{arith}
use lib.Dec.{leb, ltb, eqb}
use lib.ListN.{length, get_or, take, drop, length-append, length-take, length-drop, take-append-drop, get_or-append}
use lib.Seq.{take_all, take-append-le, drop-append-le}
use borrow.Author.Tests.{le-leb, lt-leb, leb-true, eq-eqb, eqb-true, ne_eqb}
use Rattle.std.specs.Prelude.{Some, None}
use Rattle.rules.specs.Form.{number}
use Rattle.rules.specs.Writer.{big_endian, field_bytes, entry_bytes}
use Rattle.rules.proofs.Tests.{lt_cases, both_true}
use Rattle.rules.proofs.Bytes.{number_bytes}
use Rattle.rules.proofs.Numbers.{three_bytes, four_bytes}
use Rattle.pins.specs.declared.Front.{Front}
use Rattle.pins.specs.Fronts.{is_head, is_entry, front_as, front_of, stamp_in}

-- ---- ten bytes, the first two of them also as one number from the lower place on
module _ (f : List ℕ) where
  other_head : (a b c : Bool) → a && b && c ≡ false → (room : Bool)
      → None ≡ cond (room && (a && b && c)) (Some (front_as (number (take 4 (drop 3 f))) (number (take 3 (drop 7 f))))) None
  other_head a b c e true = rw e
  other_head a b c e false = refl

  pub other_tag : (n : ℕ) → n ≡ get_or f 0 0 + get_or f 1 0 * 256 → (n ≡ 32 → ⊥) → None ≡ front_of f
  unfolding front_of is_entry
  other_tag n e h = go (eqb (get_or f 0 0) 32) (eqb (get_or f 1 0) 0) refl refl
    where
      go : (a b : Bool) → eqb (get_or f 0 0) 32 ≡ a → eqb (get_or f 1 0) 0 ≡ b
          → None ≡ cond (leb 10 (length f) && (a && b && eqb (get_or f 2 0) 7)) (Some (front_as (number (take 4 (drop 3 f))) (number (take 3 (drop 7 f))))) None
      go true true x y =
          let tag = eqb-true (get_or f 0 0) 32 x in
          let high = eqb-true (get_or f 1 0) 0 y in
          absurd (h (omega arith))
      go true false x y = other_head true false (eqb (get_or f 2 0) 7) refl (leb 10 (length f))
      go false b x y = other_head false b (eqb (get_or f 2 0) 7) refl (leb 10 (length f))

  pub other_length : (get_or f 2 0 ≡ 7 → ⊥) → None ≡ front_of f
  unfolding front_of is_entry
  other_length h = other_head (eqb (get_or f 0 0) 32) (eqb (get_or f 1 0) 0) (eqb (get_or f 2 0) 7) (rw (ne_eqb _ _ h) (go (eqb (get_or f 0 0) 32) (eqb (get_or f 1 0) 0))) (leb 10 (length f))
    where
      go : (a b : Bool) → a && b && false ≡ false
      go true true = refl
      go true false = refl
      go false b = refl

  pub whole_field : 10 ≤ length f → (n : ℕ) → n ≡ get_or f 0 0 + get_or f 1 0 * 256 → n ≡ 32 → get_or f 2 0 ≡ 7
      → (t : ℕ) → t ≡ get_or f 3 0 * 16777216 + get_or f 4 0 * 65536 + get_or f 5 0 * 256 + get_or f 6 0
      → (p : ℕ) → p ≡ 65536 * get_or f 7 0 + 256 * get_or f 8 0 + get_or f 9 0 → Some (front_as t p) ≡ front_of f
  unfolding front_of is_entry
  whole_field room n e head seven t et p ep =
      let stamp : number (take 4 (drop 3 f)) ≡ t = omega (arith, four_bytes f 3 (omega arith)) in
      rw
      (le-leb 10 (length f) room, eq-eqb (get_or f 0 0) 32 (omega arith), eq-eqb (get_or f 1 0) 0 (omega arith), seven, stamp, three_bytes f 7 (omega arith), ep)

-- ---- at a place
module _ (v : List ℕ) (at : ℕ) where
  pub no_entry : length v < at + 10 → None ≡ front_of (drop at v)
  unfolding front_of is_entry
  no_entry h = rw (length-drop, lt-leb 10 (length v - at) (omega arith))

  -- four bytes, or fewer
  pub no_stamp : length v < at + 4 → 0 ≡ stamp_in (drop at v)
  unfolding stamp_in
  no_stamp h = rw (length-drop, lt-leb 4 (length v - at) (omega arith))

  pub stamp_there : at + 4 ≤ length v → (xs : List ℕ) → xs ≡ take 4 (drop at v)
      → (t : ℕ) → t ≡ get_or xs 0 0 * 16777216 + get_or xs 1 0 * 65536 + get_or xs 2 0 * 256 + get_or xs 3 0 → t ≡ stamp_in (drop at v)
  unfolding stamp_in
  stamp_there h xs e t s =
      let four : length xs ≡ 4 = rw (e, length-take, length-drop) (omega arith) in
      let sum = rw (take_all 4 xs (omega arith)) at (four_bytes xs 0 (omega arith)) in
      let same : t ≡ number xs = omega arith in
      same ∙ rw (e, length-drop, le-leb 4 (length v - at) (omega arith))

-- a whole field has its ten bytes
pub entry_room : (bs : List ℕ) (f : Front) → front_of bs ≡ Some f → 10 ≤ length bs
unfolding front_of
entry_room bs f = go (is_entry bs) refl
  where
    go : (x : Bool) → is_entry bs ≡ x → cond x (Some (front_as (number (take 4 (drop 3 bs))) (number (take 3 (drop 7 bs))))) None ≡ Some f → 10 ≤ length bs
    go true e h = leb-true 10 (length bs) (both_true (leb 10 (length bs)) (is_head bs) (unfold is_entry in e)).0
    go false e h = absurd cc

-- and is told by them alone
pub front_append : (a b : List ℕ) → 10 ≤ length a → front_of (a ++ b) ≡ front_of a
unfolding front_of is_entry
front_append a b h =
    rw (
      length-append,
      le-leb 10 (length a + length b) (omega arith),
      le-leb 10 (length a) h,
      get_or-append a b 0 0 (omega arith),
      get_or-append a b 0 1 (omega arith),
      get_or-append a b 0 2 (omega arith),
      drop-append-le 3 a b (omega arith),
      drop-append-le 7 a b (omega arith),
      take-append-le 4 (drop 3 a) b (rw length-drop (omega arith)),
      take-append-le 3 (drop 7 a) b (rw length-drop (omega arith)),
    )

-- so what stands at a place is in its ten bytes
pub front_there : (v : List ℕ) (at : ℕ) → at + 10 ≤ length v → (xs : List ℕ) → xs ≡ take 10 (drop at v) → front_of xs ≡ front_of (drop at v)
front_there v at h xs e =
    rw e
    (rw (take-append-drop 10 (drop at v)) at (sym (front_append (take 10 (drop at v)) (drop 10 (drop at v)) (rw (length-take, length-drop) (omega arith)))))

-- and does not hang on where the bytes are cut behind it
pub front_take : (v : List ℕ) (size at : ℕ) → (at + 10 ≤ length v → at + 10 ≤ size) → front_of (drop at (take size v)) ≡ front_of (drop at v)
front_take v size at h = ⊎_elim
    (λ (p : (length v < at + 10) × (ltb (length v) (at + 10) ≡ true)). sym (no_entry (take size v) at (rw length-take (omega arith))) ∙ no_entry v at p.0)
    (λ (p : (at + 10 ≤ length v) × (ltb (length v) (at + 10) ≡ false)).
    sym (front_append (drop at (take size v)) (drop size v) (rw (length-drop, length-take) (omega (arith, h p.0))))
    ∙ rw (← drop-append-le at (take size v) (drop size v) (rw length-take (omega (arith, h p.0))), take-append-drop size v))
    (lt_cases (length v) (at + 10))

-- ---- the ten bytes that are put, and how they are read
abbrev pub field_of : (stamp pins : ℕ) → List ℕ
field_of t p = 32 ∷ 0 ∷ 7 ∷ t / 16777216 % 256 ∷ t / 65536 % 256 ∷ t / 256 % 256 ∷ t % 256 ∷ p / 65536 % 256 ∷ p / 256 % 256 ∷ p % 256 ∷ []

pub field_is : (stamp pins : ℕ) → field_of stamp pins ≡ entry_bytes stamp pins
unfolding big_endian field_bytes entry_bytes
field_is t p = rw (div-one t, div-one p)

pub put_read : (stamp pins : ℕ) (rest : List ℕ) → stamp < 256 ^ 4 → pins < 256 ^ 3 → front_of (entry_bytes stamp pins ++ rest) ≡ Some (front_as stamp pins)
unfolding front_of is_entry entry_bytes field_bytes big_endian
put_read stamp pins rest s p =
    rw (le-leb 10 (length (entry_bytes stamp pins ++ rest)) (omega arith), number_bytes 4 stamp s, number_bytes 3 pins p)
