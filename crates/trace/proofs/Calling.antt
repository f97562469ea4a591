-- What a call of the judge and a read leave.
use Prim.Native.Nat.{ℕ, ◌+◌, ◌-◌, ◌≤◌, ◌<◌}
use native.Mathlib.Omega.{arith}
use mathlib.Core.Path.{◌≡◌, refl, sym, ap, subst, ◌∙◌}
use mathlib.Core.Bool.{Bool, true, false}
use mathlib.Core.List.{List, ◌++◌}
use lib.ListN.{length, take, drop, length-take, length-drop, length-append}
use lib.Seq.{length-take-le, take_at, take-append-le, take-append-add}
use borrow.Rule.Slice.PartMut.{post_of, put_mid}
use Rattle.chunks.specs.declared.State.{State}
use Rattle.chunks.specs.declared.Verdict.{Verdict}
use Rattle.chunks.specs.declared.Fed.{Fed}
use Rattle.chunks.specs.declared.What.{What}
use Rattle.chunks.specs.declared.What.TheVariants.{More, Full, Over}
use Rattle.chunks.specs.Heard.{Heard, heard_of, FedAs, finished_of}
use Rattle.judge.proofs.Progress.{used_fits, left_short}
use Rattle.judge.proofs.Chunks.{Run, call}
use Rattle.trace.specs.declared.turns.Next.TheVariants.{Read, Judge, Tell}
use Rattle.trace.specs.declared.turns.Turn.{Turn}
use Rattle.trace.specs.Calls.{next_of, CalledAs, silent, ReadAs, came, none}
use Rattle.trace.specs.Standing.{Fits}

-- what was used was there
pub used_there : (q : Bool) (room : ℕ) (st : State) (bs : List ℕ) {old new : List ℕ} {r : Fed} → FedAs (heard_of q room st bs) old new r → r.used ≤ length bs
used_there q room st bs p = omega (arith, p.used, used_fits q room st bs)

-- ---- what a call leaves
module _ (h : Heard) {bytes old new after : List ℕ} {r : Turn} (p : CalledAs h bytes old new after r) where
  pub put_is : take r.wrote new ≡ h.text
  put_is = rw (p.wrote, p.text) (take_at h.text (drop (length h.text) old) (length h.text) refl)

  pub wrote_fits : r.wrote ≤ length new
  wrote_fits = rw (p.wrote, p.text, length-append h.text (drop (length h.text) old)) (omega arith)

  pub left_fits : r.have ≤ length bytes
  left_fits = omega (arith, p.have, length-drop h.used bytes)

  -- with what is behind the bytes in the buffer
  pub behind_it : (tail : List ℕ) → length after ≡ length bytes → CalledAs h bytes old new (after ++ tail) r
  behind_it tail e = record {
    next = p.next;
    ended = p.ended;
    wrote = p.wrote;
    state = p.state;
    text = p.text;
    have = p.have;
    rest = take-append-le r.have after tail (omega (arith, left_fits)) ∙ p.rest;
  }

read_more : (w : What) → next_of w ≡ Read → w ≡ More
unfolding next_of
read_more More e = refl
read_more Full e = let z : ◌≡◌ {A = ℕ} 0 1 = cc in absurd (omega arith)
read_more (Over v) e = let z : ◌≡◌ {A = ℕ} 0 1 = cc in absurd (omega arith)

module _ (q : Bool) (room : ℕ) (st : State) (bs : List ℕ) {old new after : List ℕ} {r : Turn} (p : CalledAs (heard_of q room st bs) bs old new after r) where
  pub call_runs : {seen text : List ℕ} → Run q st seen text bs → Run q r.state seen (text ++ take r.wrote new) (take r.have after)
  call_runs run = rw (p.state, p.rest, put_is _ p) (call run room)

  -- what a call that asks for more bytes leaves is less than one field, so that there is room to read behind it
  pub call_fits : (size : ℕ) → length bs ≤ size → 11 ≤ size → Fits r size
  call_fits size h l = (
    omega (arith, left_fits _ p),
    (λ e. omega (arith, p.have, left_short q room st bs (read_more (heard_of q room st bs).what (sym p.next ∙ e)))),
  )

-- ---- what a read leaves: `room` is what then is behind the bytes that were there
module _ (st : State) (have : ℕ) (buf room : List ℕ) (h : have ≤ length buf) where
  abbrev bytes : List ℕ
  bytes = take have buf

  abbrev tail : List ℕ
  tail = post_of have (length buf - have) buf

  abbrev after : List ℕ
  after = put_mid have (length buf - have) buf room

  size : have ≡ length bytes
  size = sym (length-take-le have buf h)

  so : {r t : Turn} → r ≡ t → ReadAs st bytes after t → ReadAs st bytes after r
  so e p = subst (λ (t : Turn). ReadAs st bytes after t) (sym e) p

  still_there : take (length bytes) after ≡ bytes
  still_there = take_at bytes (room ++ tail) (length bytes) refl

  pub none_came : {r : Turn} (v : Verdict) → v ≡ finished_of st (take have after) → r ≡ silent (Tell v) true st have → ReadAs st bytes after r
  none_came v f e =
      let g : v ≡ finished_of st bytes = f ∙ ap (λ (n : ℕ). finished_of st (take n after)) size ∙ ap (finished_of st) still_there in
      so (e ∙ (λ i. silent (Tell (g i)) true st (size i))) (none still_there)

  module _ (more : ℕ) (l : more ≤ length room) where
    all : have + more ≡ length (bytes ++ take more room)
    all = sym (length-append bytes (take more room) ∙ (λ i. sym size i + length-take-le more room l i))

    all_there : take (have + more) after ≡ bytes ++ take more room
    all_there =
        ap (λ (n : ℕ). take (n + more) after) size
        ∙ take-append-add bytes (room ++ tail) more
        ∙ ap (λ (t : List ℕ). bytes ++ t) (take-append-le more room tail l)

    pub some_came : {r : Turn} → 0 < more → r ≡ silent Judge false st (have + more) → ReadAs st bytes after r
    some_came s e =
        so (e ∙ ap (silent Judge false st) all)
        (came (take more room) (rw (length-take-le more room l) s) (ap (λ (n : ℕ). take n after) (sym all) ∙ all_there))

pub there : (bytes buffer : List ℕ) {n : ℕ} → n ≡ length bytes → take n buffer ≡ bytes → n ≤ length buffer
there bytes buffer {n} s e = let k : length (take n buffer) ≡ length bytes = ap length e in omega (arith, length-take n buffer)

pub read_fits : {st : State} {bytes buffer : List ℕ} {r : Turn} → ReadAs st bytes buffer r → Fits r (length buffer)
read_fits {bytes = bytes} {buffer = buffer} (came got s e) =
    (there (bytes ++ got) buffer refl e, (λ x. let z : ◌≡◌ {A = ℕ} 0 1 = cc in absurd (omega arith)))
read_fits {bytes = bytes} {buffer = buffer} (none e) = (there bytes buffer refl e, (λ x. let z : ◌≡◌ {A = ℕ} 0 1 = cc in absurd (omega arith)))

pub read_silent : {st : State} {bytes buffer : List ℕ} {r : Turn} → ReadAs st bytes buffer r → r.wrote ≡ 0
read_silent (came got s e) = refl
read_silent (none e) = refl
