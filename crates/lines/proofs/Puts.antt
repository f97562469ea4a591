-- A text at the start of a slice, and more behind it.
use Rattle.std.proofs.Common.{◌≡◌, ℕ, ◌+◌, ◌-◌, ◌<◌, ◌≤◌, List, [], ◌∷◌, ◌++◌, length, take, drop, set, sym, refl, ◌∙◌, append_assoc, append-nil, add-one, arith, length-append, length-drop, length-take, drop_of_length-le, take_all, drop-drop, take_at, drop_at, le-leb}
use borrow.Rule.Slice.PartMut.{put_mid}
use lib.Seq.{set_split}
use borrow.Author.Tests.{lt-leb}
use Rattle.lines.specs.Written.{Written, Lined}

pub lined_nothing : (old : List ℕ) → Lined [] old old 0
lined_nothing old = record { count = refl; fits = omega arith; memory = refl }

module _ {text old new : List ℕ} {wrote : ℕ} (l : Lined text old new wrote) where
  pub lined_length : length new ≡ length old
  lined_length = let c = l.count in let f = l.fits in rw (l.memory, length-append, length-drop) (omega arith)

  pub lined_as : {line : List ℕ} → text ≡ line → Lined line old new wrote
  lined_as e = rw e at l

  -- what is lent behind it has the room that is left
  pub lined_room : {k : ℕ} → wrote + k ≤ length old → k ≤ length (take (length new - wrote) (drop wrote new))
  lined_room h = rw (length-take, length-drop, lined_length) (omega arith)

  -- more of it, put there
  module _ {line part : List ℕ} {r : ℕ} (m : Lined line (take (length new - wrote) (drop wrote new)) part r) where
    front : take wrote new ≡ text
    front = rw l.memory (take_at text (drop (length text) old) wrote (sym l.count))

    rest : drop wrote new ≡ drop (length text) old
    rest = rw l.memory (drop_at text (drop (length text) old) wrote (sym l.count))

    lent : take (length new - wrote) (drop wrote new) ≡ drop (length text) old
    lent = take_all (length new - wrote) (drop wrote new) (rw length-drop (omega arith)) ∙ rest

    more_fits : wrote + r ≤ length old
    more_fits =
        let a : r ≤ length old - length text = rw (lent, length-drop) at m.fits in
        let b = l.fits in
        let e = l.count in
        omega arith

    more_memory : put_mid wrote (length new - wrote) new part ≡ (text ++ line) ++ drop (length (text ++ line)) old
    more_memory =
        let z : drop (length new - wrote) (drop wrote new) ≡ [] = drop_of_length-le (drop wrote new) {i = length new - wrote} (rw length-drop (omega arith)) in
        rw (z, append-nil, front, m.memory, lent, drop-drop, length-append, append_assoc)

    pub lined_more : Lined (text ++ line) old (put_mid wrote (length new - wrote) new part) (wrote + r)
    lined_more = record { count = rw (length-append, ← l.count, ← m.count); fits = more_fits; memory = more_memory }

  -- a byte more
  pub lined_byte : (b : ℕ) → wrote < length old → Lined (text ++ (b ∷ [])) old (set new wrote b) (wrote + 1)
  lined_byte b h =
      let a : take wrote new ≡ text = rw l.memory (take_at text (drop (length text) old) wrote (sym l.count)) in
      let d : drop (wrote + 1) new ≡ drop (length text + 1) old = rw (← drop-drop 1 wrote new, ← drop-drop 1 (length text) old, l.memory, drop_at text (drop (length text) old) wrote (sym l.count)) in
      record {
        count = rw (length-append, ← l.count);
        fits = omega arith;
        memory = set_split new wrote b (rw lined_length h) ∙ rw (← add-one, a, d, length-append, append_assoc);
      }

-- ---- the promises of a verdict's line
pub written : {text line old new : List ℕ} {r : ℕ} → 64 ≤ length old → r ≤ 64 → text ≡ line → Lined text old new r → Written line old new r
written {text} {line} {old} h s e x = record {
  answer = x.count ∙ rw (le-leb 64 (length old) h, e);
  memory = x.memory ∙ rw (le-leb 64 (length old) h, e);
  short = s;
}

pub no_room : {line old : List ℕ} → length old < 64 → Written line old old 0
no_room {line} {old} h = record { answer = rw (lt-leb 64 (length old) h); memory = rw (lt-leb 64 (length old) h); short = omega arith }

pub one_lined : {text old new new' : List ℕ} {r r' : ℕ} → Lined text old new r → Lined text old new' r' → (r ≡ r') × (new ≡ new')
one_lined x y = (x.count ∙ sym y.count, x.memory ∙ sym y.memory)

pub one_written : {line old new new' : List ℕ} {r r' : ℕ} → Written line old new r → Written line old new' r' → (r ≡ r') × (new ≡ new')
one_written x y = (x.answer ∙ sym y.answer, x.memory ∙ sym y.memory)
