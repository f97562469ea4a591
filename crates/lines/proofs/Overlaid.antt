-- Texts put over one another at places of a list: what stands then is one text, and the other bytes stay.
use Rattle.std.proofs.Common.{◌≡◌, ℕ, ◌+◌, ◌-◌, ◌<◌, ◌≤◌, List, [], ◌∷◌, ◌++◌, length, take, drop, set, sym, refl, ap, subst, ◌∙◌, append_assoc, zero-add, add_assoc, suc-add, arith, length-append, length-drop, length-set, take-append-drop, length-take-le, take-take, drop-drop, take_at, drop_at}
use borrow.Rule.Slice.PartMut.{put_mid}
use lib.Seq.{take-append-le, drop-append-le, set-append_left}
use Rattle.lines.specs.Written.{Lined}
use Rattle.lines.specs.Stamps.{LeadGood}
use Rattle.lines.specs.Quick.{TailFits, tail_part}
use Rattle.lines.specs.declared.tails.Tail.{Tail}

-- the text in place of as many bytes
abbrev pub placed : ℕ → List ℕ → List ℕ → List ℕ
placed at text old = take at old ++ text ++ drop (at + length text) old

-- the text at a place, and the place behind it
pub record Put (at : ℕ) (text old new : List ℕ) (r : ℕ) : Type 0 where
  pub behind : r ≡ at + length text
  pub memory : new ≡ placed at text old

length_front : (at : ℕ) (a old : List ℕ) → at ≤ length old → length (take at old ++ a) ≡ at + length a
length_front at a old h = rw (length-append, length-take-le at old h)

put_put : (at : ℕ) (a b old : List ℕ) → at ≤ length old → placed (at + length a) b (placed at a old) ≡ placed at (a ++ b) old
put_put at a b old h =
    let front = length_front at a old h in
    rw (
      take_at (take at old ++ a) (drop (at + length a) old) (at + length a) front,
      ← drop-drop (length b) (at + length a) (placed at a old),
      drop_at (take at old ++ a) (drop (at + length a) old) (at + length a) front,
      drop-drop (length b) (at + length a) old,
      length-append a b,
      add_assoc at (length a) (length b),
      append_assoc (take at old) a b,
    )

-- a text over one that is no longer
cover : (at : ℕ) (a b old : List ℕ) → at ≤ length old → length a ≤ length b → placed at b (placed at a old) ≡ placed at b old
cover at a b old h l =
    let e : at + length b ≡ at + length a + (length b - length a) = omega arith in
    let front : take at (placed at a old) ≡ take at old =
    ap (take at) (append_assoc (take at old) a (drop (at + length a) old)) ∙
    take_at (take at old) (a ++ drop (at + length a) old) at (length-take-le at old h) in
    let rest : drop (at + length b) (placed at a old) ≡ drop (at + length b) old =
    rw (
      e,
      ← drop-drop (length b - length a) (at + length a) (placed at a old),
      drop_at (take at old ++ a) (drop (at + length a) old) (at + length a) (length_front at a old h),
      drop-drop (length b - length a) (at + length a) old,
    ) in
    rw (front, rest)

-- a byte within a text
set_behind : (xs ys : List ℕ) (i b : ℕ) → set (xs ++ ys) (length xs + i) b ≡ xs ++ set ys i b
set_behind [] ys i b = rw zero-add
set_behind (x ∷ xs) ys i b = rw suc-add (ap (λ (l : List ℕ). x ∷ l) (set_behind xs ys i b))

put_within : (at i b : ℕ) (a old : List ℕ) → at ≤ length old → i < length a → set (placed at a old) (at + i) b ≡ placed at (set a i b) old
put_within at i b a old h l =
    let within : set (take at old ++ a) (at + i) b ≡ take at old ++ set a i b = rw (length-take-le at old h) at (set_behind (take at old) a i b) in
    rw (set-append_left (take at old ++ a) (drop (at + length a) old) (at + i) b (rw (length_front at a old h) (omega arith)), within, length-set)

-- a text before one whose first bytes it covers
put_under : (at k : ℕ) (a b old : List ℕ) → at + k ≤ length old → k ≤ length a → length a ≤ k + length b
    → placed at a (placed (at + k) b old) ≡ placed at (a ++ drop (length a - k) b) old
put_under at k a b old h n l =
    let rest = drop (at + k + length b) old in
    let front : take at (placed (at + k) b old) ≡ take at old =
    rw (append_assoc (take (at + k) old) b rest, take-append-le at (take (at + k) old) (b ++ rest) (rw (length-take-le (at + k) old h) (omega arith)), take-take at (at + k) old (omega arith)) in
    let e : at + length a ≡ at + k + (length a - k) = omega arith in
    let behind : drop (at + length a) (placed (at + k) b old) ≡ drop (length a - k) b ++ rest =
    rw (
      e,
      append_assoc (take (at + k) old) b rest,
      ← drop-drop (length a - k) (at + k) (take (at + k) old ++ (b ++ rest)),
      drop_at (take (at + k) old) (b ++ rest) (at + k) (length-take-le (at + k) old h),
      drop-append-le (length a - k) b rest (omega arith),
    ) in
    let m : at + length (a ++ drop (length a - k) b) ≡ at + k + length b = rw (length-append, length-drop) (omega arith) in
    rw (front, behind, m) (simp append_assoc)

-- ---- in these words
pub put_size : {at : ℕ} {a old new : List ℕ} {r : ℕ} → at + length a ≤ length old → Put at a old new r → length new ≡ length old
put_size {at} {a} {old} h x = rw (x.memory, length-append, length_front at a old (omega arith), length-drop) (omega arith)

-- the second over the end of the first
pub over : {at : ℕ} {a b old mid new : List ℕ} {p r : ℕ} (k : ℕ) → at ≤ length old → k ≤ length a → length a ≤ k + length b
    → Put at a old mid p → Put (at + k) b mid new r → Put at (take k a ++ b) old new r
over {at} {a} {b} {old} {mid} k h n l x y =
    let s = length-take-le k a n in
    let e : at + k ≡ at + length (take k a) = omega arith in
    let m = placed at (take k a) old in
    let split : placed at a old ≡ placed (at + length (take k a)) (drop k a) m =
    ap (λ (t : List ℕ). placed at t old) (sym (take-append-drop k a)) ∙ sym (put_put at (take k a) (drop k a) old h) in
    let long : at + length (take k a) ≤ length m = rw (length-append, length_front at (take k a) old h) (omega arith) in
    let less : length (drop k a) ≤ length b = rw length-drop (omega arith) in
    record {
      behind = y.behind ∙ rw length-append (omega arith);
      memory =
          y.memory ∙
          (ap (λ (q : ℕ). placed q b mid) e ∙
          (ap (placed (at + length (take k a)) b) (x.memory ∙ split) ∙
          (cover (at + length (take k a)) (drop k a) b m long less ∙ put_put at (take k a) b old h)));
    }

-- the second before the end of the first
pub under : {at : ℕ} {a b old mid new : List ℕ} {p r : ℕ} (k : ℕ) → at + k ≤ length old → k ≤ length a → length a ≤ k + length b
    → Put (at + k) b old mid p → Put at a mid new r → Put at (a ++ drop (length a - k) b) old new p
under {at} {a} {b} {old} k h n l x y = record {
  behind = x.behind ∙ rw (length-append, length-drop) (omega arith);
  memory = y.memory ∙ rw x.memory (put_under at k a b old h n l);
}

pub within : {at i : ℕ} {a old new : List ℕ} {r : ℕ} (b : ℕ) → at ≤ length old → i < length a → Put at a old new r → Put at (set a i b) old (set new (at + i) b) r
within {at} {i} {a} {old} b h l x = record { behind = x.behind ∙ rw length-set; memory = rw x.memory (put_within at i b a old h l) }

pub lined : {text old new : List ℕ} {r : ℕ} → length new ≡ length old → Put 0 text old new r → Lined text old new r
lined {text} {old} {new} {r} e x =
    let n = x.behind in
    let m : length new ≡ length text + (length old - length text) = ap length x.memory ∙ rw (length-append, length-drop, zero-add) in
    record { count = rw (zero-add) at x.behind; fits = omega arith; memory = x.memory ∙ rw zero-add }

-- what a copy leaves, at the start and at a place
start_put : (n : ℕ) (xs ys : List ℕ) → length ys ≡ n → Put 0 ys xs (ys ++ drop n xs) n
start_put n xs ys h = record { behind = rw (zero-add, h); memory = rw (zero-add, h) }

mid_put : (a k r : ℕ) (xs ys : List ℕ) → length ys ≡ k → r ≡ a + length ys → Put a ys xs (put_mid a k xs ys) r
mid_put a k r xs ys h e = record { behind = e; memory = ap (λ (z : List ℕ). take a xs ++ (ys ++ z)) (drop-drop k a xs ∙ ap (λ (n : ℕ). drop (a + n) xs) (sym h)) ∙ sym (append_assoc (take a xs) ys (drop (a + length ys) xs)) }

-- ---- a line from its parts
tail_put : (four : List ℕ) (t : Tail) (mark : ℕ) {at q r : ℕ} {old mid new : List ℕ} → at + 16 ≤ length old → length four ≡ 4 → TailFits t
    → Put (at + t.size - 4) t.text old mid q → Put at four (set mid (q - 2) mark) new r
    → Put at (four ++ tail_part t mark) old new q × (q ≡ at + t.size + 4)
tail_put four t mark {at} {q} {r} {old} {mid} room four_long fits a b =
    let long = fits.long in
    let low = fits.some in
    let high = fits.fits in
    let k = t.size - 4 in
    let e : at + t.size - 4 ≡ at + k = omega arith in
    let there : Put (at + k) t.text old mid q = rw e at a in
    let end : q ≡ at + k + 8 = there.behind ∙ rw long in
    let mark_at : q - 2 ≡ at + k + 6 = omega arith in
    let j : length four - k ≡ 8 - t.size = omega arith in
    let both = under k (omega arith) (omega arith) (rw length-set (omega arith)) (within {i = 6} mark (omega arith) (omega arith) there) (rw mark_at at b) in
    (rw j at both, omega arith)

pub quick_put : {base : ℕ} (text : List ℕ) (size : ℕ) (four : List ℕ) (t : Tail) (mark : ℕ) {at p q r : ℕ} {old m n new : List ℕ}
    → at + 64 ≤ length old → LeadGood base text size → length four ≡ 4 → TailFits t
    → Put at text old m p → Put (at + size + t.size - 4) t.text m n q → Put (at + size) four (set n (q - 2) mark) new r
    → Put at (take size text ++ four ++ tail_part t mark) old new q × (q ≤ at + 24)
quick_put text size four t mark {at} {p} {q} {r} {old} {m} room good four_long fits a b c =
    let long = good.long in
    let small = good.fits in
    let low = fits.some in
    let high = fits.fits in
    let wide = put_size (omega arith) a in
    let x = tail_put four t mark (omega arith) four_long fits b c in
    let n : length (four ++ tail_part t mark) ≡ 4 + t.size = rw (length-append, length-drop, length-set) (omega (arith, fits.long)) in
    (rw append_assoc (over size (omega arith) (omega arith) (omega arith) a x.0), omega arith)

module _ {base : ℕ} {text : List ℕ} {size : ℕ} (four : List ℕ) (t : Tail) (digit : ℕ) (old : List ℕ)
    (room : 64 ≤ length old) (good : LeadGood base text size) (four_long : length four ≡ 4) (fits : TailFits t) where
  abbrev end : ℕ
  end = size + 4 + t.size

  -- the tail and the bank's digit behind the first digits, and then the four between them
  abbrev ends : List ℕ
  ends = put_mid (end - 8) (end - (end - 8)) (text ++ drop 8 old) t.text

  abbrev whole : List ℕ
  whole = put_mid size (size + 4 - size) (set ends (end - 2) digit) four

  pub quick_lined : Lined (take size text ++ four ++ tail_part t digit) old whole end
  quick_lined =
      let low = fits.some in
      let p : end - 8 ≡ 0 + size + t.size - 4 = omega arith in
      let k : length t.text ≡ end - (end - 8) = omega (arith, fits.long) in
      let e : end ≡ end - 8 + length t.text = omega (arith, fits.long) in
      let m : length four ≡ size + 4 - size = omega (arith, four_long) in
      let a = start_put 8 old text good.long in
      let b : Put (0 + size + t.size - 4) t.text (text ++ drop 8 old) ends end =
      subst (λ (z : ℕ). Put z t.text (text ++ drop 8 old) ends end) p (mid_put (end - 8) (end - (end - 8)) end (text ++ drop 8 old) t.text k e) in
      let c : Put (0 + size) four (set ends (end - 2) digit) whole (size + length four) = rw zero-add (mid_put size (size + 4 - size) (size + length four) (set ends (end - 2) digit) four m refl) in
      let both = (quick_put text size four t digit (omega arith) good four_long fits a b c).0 in
      lined (put_size (rw zero-add (omega arith)) both) both
