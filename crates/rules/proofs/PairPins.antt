-- Demand 2's round trips where two parts share the bus: what is written for a part is read back as its own, and pins read and written again differ in
-- ignored bits alone. The pins as the part sees them are those of a file of one part.
use Prim.Native.Nat.{ℕ, zero, suc, ◌-◌, ◌+◌, ◌*◌, ◌/◌, ◌^◌, ◌≤◌, ◌<◌}
use mathlib.Core.Path.{◌≡◌, refl, ap, sym, ◌∙◌}
use mathlib.Core.Logic.{◌⊎◌, inl, inr, ⊎_elim}
use mathlib.Core.Bool.{Bool, true, false, cond, ◌&&◌}
use native.Mathlib.Omega.{arith}
use native.Mathlib.Nat.{div-one}
use lib.Dec.{ltb, eqb}
use lib.Pow.{shr-shr}
use borrow.Author.Tests.{eqb-true}
use Rattle.rules.specs.Bits.{bits, on, bit}
use Rattle.rules.specs.Commands.{NOP, Command, nop, mrw, mrr, refpb, refab, act, rd, wr, pre, prea, code, bare, carries, kind_of, is}
use Rattle.rules.specs.Pins.{good, wrong_bits, kind_at, of_kind, decode, writable, byte_sized, enabled, encode, encode_pair, ignored, mask, masks, mask_of, CAr, CAf}
use Rattle.rules.specs.Whose.{part, neither, by_selects, whose}
use Rattle.rules.specs.Levels.{plain, seen, selected, read_pair}
use Rattle.rules.proofs.Tests.{lt_cases}
use Rattle.rules.proofs.Fields.{bits_lt, field_at, above, joined, inside, over, on_zero, as_bit, same_above}
use Rattle.rules.proofs.PinParts.{not_nop}
use Rattle.rules.proofs.WriteRead.{write_read}
use Rattle.rules.proofs.ReadWrite.{read_fits, read_write, written_zero, ignored_on_reading}

-- ---- the CA pins and what stands above them
module _ (y v h : ℕ) (fits : v < 2 ^ 20) (e : y ≡ v + 2 ^ 20 * h) where
  whole : y / 2 ^ 0 ≡ v + 2 ^ 20 * h
  whole = div-one y ∙ e

  ca : bits y 0 20 ≡ v
  ca = field_at y 0 20 h v fits whole

  top : y / 2 ^ 20 ≡ h
  top = above y 0 20 h v fits whole

-- the four pins above CA
high_bits : (x : ℕ) → x / 2 ^ 20 ≡ bit (on x 20) + 2 * (bit (on x 21) + 2 * (bit (on x 22) + 2 * (x / 2 ^ 23)))
high_bits x = omega (arith, joined x 20 1, joined x 21 1, joined x 22 1, as_bit x 20, as_bit x 21, as_bit x 22)

by_ca : (x : ℕ) → x ≡ bits x 0 20 + 2 ^ 20 * (x / 2 ^ 20)
by_ca x = sym (div-one x) ∙ joined x 0 20

on_high : (x h i : ℕ) → x / 2 ^ 20 ≡ h → 20 ≤ i → on x i ≡ on h (i - 20)
on_high x h i e l = over x 20 i l ∙ ap (λ (n : ℕ). on n (i - 20)) e

same_low : (x y : ℕ) → bits x 0 20 ≡ bits y 0 20 → (i : ℕ) → i < 20 → on x i ≡ on y i
same_low x y e i h = inside 0 20 i (omega arith) h x ∙ ap (λ (n : ℕ). on n (i - 0)) e ∙ sym (inside 0 20 i (omega arith) h y)

-- as the part sees them
seen_ca : (x : ℕ) → (bits (seen x) 0 20 ≡ bits x 0 20) × (seen x / 2 ^ 20 ≡ 2)
unfolding seen enabled
seen_ca x = (ca _ (bits x 0 20) 2 (bits_lt x 0 20) (omega arith), top _ (bits x 0 20) 2 (bits_lt x 0 20) (omega arith))

seen_same : (x y : ℕ) → y / 2 ^ 20 ≡ 2 → bits x 0 20 ≡ bits y 0 20 → seen x ≡ y
unfolding seen enabled
seen_same x y h e = omega (arith, by_ca y)

-- a command that is no NOP is read with CS_n low and clock-enable high
selected_high : (p : ℕ) (c : Command) → decode p ≡ good c → is NOP c ≡ false → p / 2 ^ 20 ≡ 2
unfolding decode
selected_high p c e n = go (eqb (p / 2 ^ 21) 1) (on p 20) refl refl e
  where
    go : (x y : Bool) → eqb (p / 2 ^ 21) 1 ≡ x → on p 20 ≡ y → cond x (cond y (good nop) (of_kind (kind_at (bits p 0 10)) p)) wrong_bits ≡ good c → p / 2 ^ 20 ≡ 2
    go false y a b q = let z : ◌≡◌ {A = ℕ} 0 1 = cc in absurd (omega arith)
    go true true a b q =
        let s : nop ≡ c = cc in
        not_nop (ap (is NOP) s ∙ n)
    go true false a b q =
        let t = eqb-true (p / 2 ^ 21) 1 a in
        let l : bits p 20 1 ≡ 0 = as_bit p 20 ∙ rw b (unfold bit in refl) in
        omega (arith, joined p 20 1, t, l)

-- ---- which part: the four pins are 6 (part 0), 3 (part 1), 7 (both high)
reads_by : (x h : ℕ) → x / 2 ^ 20 ≡ h → read_pair x ≡ cond (on h 1 && eqb (h / 2 ^ 3) 0) (selected (on h 0) (on h 2) x) (plain wrong_bits)
unfolding read_pair
reads_by x h e =
    let t : x / 2 ^ 23 ≡ h / 2 ^ 3 = sym (shr-shr x 20 3) ∙ ap (λ (n : ℕ). n / 2 ^ 3) e in
    rw (on_high x h 20 e (omega arith), on_high x h 21 e (omega arith), on_high x h 22 e (omega arith), t)

whose_by : (x h : ℕ) → x / 2 ^ 20 ≡ h → whose true x ≡ by_selects (on h 0) (on h 2)
unfolding whose
whose_by x h e = rw (on_high x h 20 e (omega arith), on_high x h 22 e (omega arith))

-- what stands above the CA pins where part p alone is selected
unfoldable selects : ℕ → ℕ
selects p = cond (eqb p 0) 6 3

one_or_other : (p : ℕ) → p ≤ 1 → (p ≡ 0) ⊎ (p ≡ 1)
one_or_other zero h = inl refl
one_or_other (suc zero) h = inr refl
one_or_other (suc (suc p)) h = absurd (no_more h)
  where
    no_more : suc (suc p) ≤ 1 → ⊥
    no_more h = omega arith

at_part : (p : ℕ) → p ≤ 1 → (x : ℕ) → x / 2 ^ 20 ≡ selects p → (read_pair x ≡ plain (decode (seen x))) × (whose true x ≡ part p)
unfolding selects selected by_selects on bits
at_part p l x e = ⊎_elim
    (λ (z : p ≡ 0). let h : x / 2 ^ 20 ≡ 6 = rw z at e in rw z (reads_by x 6 h, whose_by x 6 h))
    (λ (z : p ≡ 1). let h : x / 2 ^ 20 ≡ 3 = rw z at e in rw z (reads_by x 3 h, whose_by x 3 h))
    (one_or_other p l)

-- pins that part p is read from have that above their CA pins
part_high : (x p : ℕ) (c : Command) → read_pair x ≡ plain (good c) → whose true x ≡ part p → (p ≤ 1) × (x / 2 ^ 20 ≡ selects p)
unfolding read_pair whose selects selected by_selects bit
part_high x p c r w = go (on x 21) (eqb (x / 2 ^ 23) 0) (on x 20) (on x 22) refl refl refl refl r w
  where
    no_way : {A : Type 0} → ◌≡◌ {A = ℕ} 0 1 → A
    no_way z = absurd (omega arith)

    go : (a b y z : Bool) → on x 21 ≡ a → eqb (x / 2 ^ 23) 0 ≡ b → on x 20 ≡ y → on x 22 ≡ z →
        cond (a && b) (selected y z x) (plain wrong_bits) ≡ plain (good c) → by_selects y z ≡ part p → (p ≤ 1) × (x / 2 ^ 20 ≡ cond (eqb p 0) 6 3)
    go false b y z ea eb ey ez q v = let s : ◌≡◌ {A = ℕ} 0 1 = cc in no_way s
    go true false y z ea eb ey ez q v = let s : ◌≡◌ {A = ℕ} 0 1 = cc in no_way s
    go true true false true ea eb ey ez q v =
        let s : 0 ≡ p = cc in
        (omega arith, rw (← s) (omega (arith, rw (ea, ey, ez) at (high_bits x), eqb-true (x / 2 ^ 23) 0 eb)))
    go true true true false ea eb ey ez q v =
        let s : 1 ≡ p = cc in
        (omega arith, rw (← s) (omega (arith, rw (ea, ey, ez) at (high_bits x), eqb-true (x / 2 ^ 23) 0 eb)))
    go true true true true ea eb ey ez q v = let s : ◌≡◌ {A = ℕ} 0 1 = cc in no_way s
    go true true false false ea eb ey ez q v = let s : ◌≡◌ {A = ℕ} 0 1 = cc in no_way s

-- ---- writing
module _ (p : ℕ) (l : p ≤ 1) (c : Command) (w : writable c ≡ true) (s : byte_sized c ≡ true) (n : is NOP c ≡ false) where
  pair_sum : encode_pair p c ≡ bits (encode c) 0 20 + 2 ^ 20 * selects p
  unfolding encode_pair selects
  pair_sum = rw n (⊎_elim
      (λ (z : p ≡ 0). rw z (omega (arith, by_ca (encode c), selected_high (encode c) c (write_read c w s) n)))
      (λ (z : p ≡ 1). rw z (omega (arith, by_ca (encode c), selected_high (encode c) c (write_read c w s) n)))
      (one_or_other p l))

  pair_ca : bits (encode_pair p c) 0 20 ≡ bits (encode c) 0 20
  pair_ca = ca (encode_pair p c) (bits (encode c) 0 20) (selects p) (bits_lt (encode c) 0 20) pair_sum

  pair_top : encode_pair p c / 2 ^ 20 ≡ selects p
  pair_top = top (encode_pair p c) (bits (encode c) 0 20) (selects p) (bits_lt (encode c) 0 20) pair_sum

  -- what is written for a part is read back, as its own
  pub pair_write_read : (read_pair (encode_pair p c) ≡ plain (good c)) × (whose true (encode_pair p c) ≡ part p)
  pair_write_read =
      let a = at_part p l (encode_pair p c) pair_top in
      let z : seen (encode_pair p c) ≡ encode c = seen_same (encode_pair p c) (encode c) (selected_high (encode c) c (write_read c w s) n) pair_ca in
      (a.0 ∙ ap plain (ap decode z ∙ write_read c w s), a.1)

-- both CS_n high is a NOP for both, whatever the CA pins
pub both_high : (x : ℕ) → on x 21 ≡ true → x / 2 ^ 23 ≡ 0 → on x 20 ≡ true → on x 22 ≡ true → (read_pair x ≡ plain (good nop)) × (whose true x ≡ neither)
unfolding read_pair selected whose by_selects
both_high x cke top first second = (rw (cke, top, first, second), rw (first, second))

-- NOP is written so, 70 00 00, for any part
pub pair_nop : (p : ℕ) → (encode_pair p nop ≡ 0x70_0000) × (read_pair 0x70_0000 ≡ plain (good nop)) × (whose true 0x70_0000 ≡ neither)
unfolding encode_pair is code kind_of carries bare read_pair selected whose by_selects on bits
pair_nop p = (refl, refl, refl)

-- ---- reading
-- what part p is read from is, as the part sees it, the command's pins
seen_decodes : (x p : ℕ) (c : Command) → read_pair x ≡ plain (good c) → whose true x ≡ part p → decode (seen x) ≡ good c
seen_decodes x p c r w = let h = part_high x p c r w in let a = (at_part p h.0 x h.1).0 in let q : plain (decode (seen x)) ≡ plain (good c) = sym a ∙ r in cc

module _ (x p : ℕ) (c : Command) (r : read_pair x ≡ plain (good c)) (w : whose true x ≡ part p) where
  pub pair_read_fits : (writable c ≡ true) × (byte_sized c ≡ true)
  pair_read_fits = read_fits (seen x) c (seen_decodes x p c r w)

  -- the bits that come out different are ignored ones
  pub pair_read_write : is NOP c ≡ false → (i : ℕ) → on (ignored (kind_of c)) i ≡ false → on x i ≡ on (encode_pair p c) i
  pair_read_write n i off = ⊎_elim
      (λ (q : (i < 20) × (ltb i 20 ≡ true)).
      same_low x (seen x) (sym (seen_ca x).0) i q.0
      ∙ read_write (seen x) c (seen_decodes x p c r w) n i off
      ∙ sym (same_low (encode_pair p c) (encode c) (pair_ca p h.0 c f.0 f.1 n) i q.0))
      (λ (q : (20 ≤ i) × (ltb i 20 ≡ false)).
      on_high x (selects p) i h.1 q.0 ∙ sym (on_high (encode_pair p c) (selects p) i (pair_top p h.0 c f.0 f.1 n) q.0))
      (lt_cases i 20)
    where
      h : (p ≤ 1) × (x / 2 ^ 20 ≡ selects p)
      h = part_high x p c r w

      f : (writable c ≡ true) × (byte_sized c ≡ true)
      f = pair_read_fits

-- no ignored bit of a command lies above the CA pins
ignored_low : (c : Command) → is NOP c ≡ false → ignored (kind_of c) / 2 ^ 20 ≡ 0
unfolding ignored masks mask_of kind_of carries bare code mask CAr CAf
ignored_low nop n = not_nop n
ignored_low (mrw ma op) n = refl
ignored_low (mrr ma) n = refl
ignored_low refpb n = refl
ignored_low refab n = refl
ignored_low (act b w) n = refl
ignored_low (rd b k a) n = refl
ignored_low (wr b k a) n = refl
ignored_low (pre b) n = refl
ignored_low prea n = refl

-- what is written has them zero
pub pair_written_zero : (p : ℕ) → p ≤ 1 → (c : Command) → writable c ≡ true → byte_sized c ≡ true → is NOP c ≡ false →
    (i : ℕ) → on (ignored (kind_of c)) i ≡ true → on (encode_pair p c) i ≡ false
pair_written_zero p l c w s n i off = ⊎_elim
    (λ (q : (i < 20) × (ltb i 20 ≡ true)). same_low (encode_pair p c) (encode c) (pair_ca p l c w s n) i q.0 ∙ written_zero c n i off)
    (λ (q : (20 ≤ i) × (ltb i 20 ≡ false)).
    let z : true ≡ false = sym off ∙ on_high (ignored (kind_of c)) 0 i (ignored_low c n) q.0 ∙ on_zero (i - 20) in
    let y : ◌≡◌ {A = ℕ} 0 1 = cc in
    absurd (omega arith))
    (lt_cases i 20)

-- and they are read as anything
pub pair_ignored : (x y p : ℕ) (c : Command) → read_pair x ≡ plain (good c) → whose true x ≡ part p → is NOP c ≡ false →
    ((i : ℕ) → on (ignored (kind_of c)) i ≡ false → on x i ≡ on y i) → (read_pair y ≡ plain (good c)) × (whose true y ≡ part p)
pair_ignored x y p c r w n same = (b.0 ∙ ap plain (ignored_on_reading (seen x) (seen y) c (seen_decodes x p c r w) n sees), b.1)
  where
    h : (p ≤ 1) × (x / 2 ^ 20 ≡ selects p)
    h = part_high x p c r w

    high : y / 2 ^ 20 ≡ selects p
    high = sym (same_above x y 20 (λ i from. same i (on_high (ignored (kind_of c)) 0 i (ignored_low c n) from ∙ on_zero (i - 20)))) ∙ h.1

    b : (read_pair y ≡ plain (decode (seen y))) × (whose true y ≡ part p)
    b = at_part p h.0 y high

    sees : (i : ℕ) → on (ignored (kind_of c)) i ≡ false → on (seen x) i ≡ on (seen y) i
    sees i off = ⊎_elim
        (λ (q : (i < 20) × (ltb i 20 ≡ true)).
        same_low (seen x) x (seen_ca x).0 i q.0 ∙ same i off ∙ sym (same_low (seen y) y (seen_ca y).0 i q.0))
        (λ (q : (20 ≤ i) × (ltb i 20 ≡ false)). on_high (seen x) 2 i (seen_ca x).1 q.0 ∙ sym (on_high (seen y) 2 i (seen_ca y).1 q.0))
        (lt_cases i 20)
