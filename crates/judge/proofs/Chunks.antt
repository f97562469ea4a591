-- A file may be cut anywhere. A caller puts what a call left over in front of the bytes that come next and writes out the text of each call: so it gets the
-- verdict and the lines of the whole file.
use Prim.Native.Nat.{ℕ}
use mathlib.Core.Path.{◌≡◌, refl, sym, ap, ◌∙◌}
use mathlib.Core.Bool.{Bool, false}
use mathlib.Core.List.{List, [], ◌++◌, append_assoc, append-nil}
use lib.ListN.{drop}
use lib.Seq.{drop-append-le, drop-drop}
use Rattle.chunks.specs.declared.State.{State}
use Rattle.chunks.specs.declared.Verdict.{Verdict}
use Rattle.chunks.specs.declared.What.{What}
use Rattle.chunks.specs.declared.What.TheVariants.{More, Full, Over}
use Rattle.chunks.specs.Took.{Move, On, Wait, End, took_of}
use Rattle.chunks.specs.Heard.{start_of, line_of, Heard, behind, heard_of, finished_of}
use Rattle.chunks.proofs.Turns.{line_if}
use Rattle.chunks.proofs.Advances.{taken_size}
use Rattle.chunks.proofs.Walks.{Walk, stops_full, stops_more, stops_over, takes, walk}
use Rattle.judge.proofs.Prefix.{took_stays, line_stays}
use Rattle.judge.proofs.Outcome.{text_of, text_on, text_wait, text_end, finished_on, finished_end}

-- ---- why a call came back, at the state and the bytes that it left
abbrev pub Says : What → Move → Type 0
Says More m = m ≡ Wait
Says Full m = Unit {0}
Says (Over v) m = m ≡ End v

pub left_over : {q : Bool} {room : ℕ} {st : State} {bs : List ℕ} {h : Heard} → Walk q room st bs h → Says h.what (took_of h.state (drop h.used bs)).how
unfolding behind
left_over (stops_full r) = tt
left_over (stops_more r e) = e
left_over (stops_over r e) = e
left_over (takes {bs = bs} {n = n} {h = h} r e w) = rw (drop-drop h.used n bs) at (left_over w)

-- ---- an outcome that goes by the first field
record Follows {X : Type 0} (q : Bool) (out : State → List ℕ → X) (after : List ℕ → X → X) : Type 0 where
  none : (x : X) → after [] x ≡ x
  join : (s t : List ℕ) (x : X) → after (s ++ t) x ≡ after s (after t x)
  first : (st : State) (bs : List ℕ) (n : ℕ) → (took_of st bs).how ≡ On n → out st bs ≡ after (line_if q st bs) (out (took_of st bs).state (drop n bs))

verdict_follows : (q : Bool) → Follows q finished_of (λ t v. v)
verdict_follows q = record { none = λ v. refl; join = λ s t v. refl; first = finished_on }

text_follows : Follows false text_of (λ s t. s ++ t)
text_follows = record { none = λ t. refl; join = append_assoc; first = text_on }

-- what comes out of these bytes and more: the text of a call, and what comes out of the rest
module _ {X : Type 0} (q : Bool) (out : State → List ℕ → X) (after : List ℕ → X → X) (f : Follows q out after) where
  first_ahead : (st : State) (bs : List ℕ) (n : ℕ) → (took_of st bs).how ≡ On n → (ys : List ℕ) →
      out st (bs ++ ys) ≡ after (line_if q st bs) (out (took_of st bs).state (drop n bs ++ ys))
  first_ahead st bs n e ys =
      let t : took_of st (bs ++ ys) ≡ took_of st bs = took_stays st bs (λ w. cc) ys in
      let l : line_of st (bs ++ ys) ≡ line_of st bs = line_stays st bs n e ys in
      let d : drop n (bs ++ ys) ≡ drop n bs ++ ys = drop-append-le n bs ys (taken_size st bs n e).1 in
      f.first st (bs ++ ys) n (rw t e) ∙ rw (t, l, d)

  ahead : {room : ℕ} {st : State} {bs : List ℕ} {h : Heard} → Walk q room st bs h → (ys : List ℕ) →
      out st (bs ++ ys) ≡ after h.text (out h.state (drop h.used bs ++ ys))
  unfolding behind
  ahead (stops_full r) ys = sym (f.none _)
  ahead (stops_more r e) ys = sym (f.none _)
  ahead (stops_over r e) ys = sym (f.none _)
  ahead (takes {st = st} {bs = bs} {n = n} {h = h} r e w) ys =
      first_ahead st bs n e ys
      ∙ ap (after (line_if q st bs)) (ahead w ys)
      ∙ sym (f.join _ _ _)
      ∙ rw (drop-drop h.used n bs)

-- ---- one call
module _ (q : Bool) (room : ℕ) (st : State) (bs : List ℕ) where
  ended : (v : Verdict) → (heard_of q room st bs).what ≡ Over v → (ys : List ℕ) →
      (took_of (heard_of q room st bs).state (drop (heard_of q room st bs).used bs ++ ys)).how ≡ End v
  ended v e ys =
      let t = rw e at (left_over (walk q room st bs)) in
      rw (took_stays (heard_of q room st bs).state (drop (heard_of q room st bs).used bs) (λ w. cc) ys) t

  -- what is judged is judged, whatever comes behind
  pub call_over : (v : Verdict) → (heard_of q room st bs).what ≡ Over v → (ys : List ℕ) → finished_of st (bs ++ ys) ≡ v
  call_over v e ys = ahead q finished_of _ (verdict_follows q) (walk q room st bs) ys ∙ finished_end _ _ v (ended v e ys)

module _ (room : ℕ) (st : State) (bs : List ℕ) where
  pub call_text_over : (v : Verdict) → (heard_of false room st bs).what ≡ Over v → (ys : List ℕ) → text_of st (bs ++ ys) ≡ (heard_of false room st bs).text
  call_text_over v e ys =
      ahead false text_of _ text_follows (walk false room st bs) ys ∙ rw (text_end _ _ v (ended false room st bs v e ys)) (append-nil _)

  -- no more bytes come
  pub call_text_more : (heard_of false room st bs).what ≡ More → text_of st bs ≡ (heard_of false room st bs).text
  call_text_more e =
      let t = rw e at (left_over (walk false room st bs)) in
      let a = ahead false text_of _ text_follows (walk false room st bs) [] in
      rw (append-nil bs, append-nil (drop (heard_of false room st bs).used bs), text_wait _ _ t, append-nil (heard_of false room st bs).text) at a

-- ---- a run of calls: bytes come, behind those that are left; a call is made, with any room
pub data Run (q : Bool) : State → (seen text rest : List ℕ) → Type 0 where
  begin : Run q start_of [] [] []
  bytes : {st : State} {seen text rest : List ℕ} → Run q st seen text rest → (more : List ℕ) → Run q st (seen ++ more) text (rest ++ more)
  call : {st : State} {seen text rest : List ℕ} → Run q st seen text rest → (room : ℕ) →
      Run q (heard_of q room st rest).state seen (text ++ (heard_of q room st rest).text) (drop (heard_of q room st rest).used rest)

module _ {X : Type 0} (q : Bool) (out : State → List ℕ → X) (after : List ℕ → X → X) (f : Follows q out after) where
  -- what comes out of all that was seen and may still come, comes out from here
  onward : {st : State} {seen text rest : List ℕ} → Run q st seen text rest → (ys : List ℕ) → out start_of (seen ++ ys) ≡ after text (out st (rest ++ ys))
  onward begin ys = sym (f.none _)
  onward (bytes {seen = seen} {rest = rest} r more) ys = rw (append_assoc seen more ys, append_assoc rest more ys) (onward r (more ++ ys))
  onward (call {st} {seen} {text} {rest} r room) ys = onward r ys ∙ ap (after text) (ahead q out after f (walk q room st rest) ys) ∙ sym (f.join _ _ _)

-- ---- the verdict, and the text, of the whole file
module _ {q : Bool} {st : State} {seen text rest : List ℕ} (r : Run q st seen text rest) where
  pub goes_on : (ys : List ℕ) → finished_of start_of (seen ++ ys) ≡ finished_of st (rest ++ ys)
  goes_on ys = onward q finished_of _ (verdict_follows q) r ys

  pub finished : finished_of st rest ≡ finished_of start_of seen
  finished = sym (rw (append-nil seen, append-nil rest) at (goes_on []))

  pub over : (room : ℕ) (v : Verdict) → (heard_of q room st rest).what ≡ Over v → (ys : List ℕ) → finished_of start_of (seen ++ ys) ≡ v
  over room v e ys = goes_on ys ∙ call_over q room st rest v e ys

module _ {st : State} {seen text rest : List ℕ} (r : Run false st seen text rest) where
  pub text_goes_on : (ys : List ℕ) → text_of start_of (seen ++ ys) ≡ text ++ text_of st (rest ++ ys)
  text_goes_on ys = onward false text_of _ text_follows r ys

  pub text_over : (room : ℕ) (v : Verdict) → (heard_of false room st rest).what ≡ Over v → (ys : List ℕ) →
      text_of start_of (seen ++ ys) ≡ text ++ (heard_of false room st rest).text
  text_over room v e ys = text_goes_on ys ∙ ap (λ (t : List ℕ). text ++ t) (call_text_over room st rest v e ys)

  pub text_finished : (room : ℕ) → (heard_of false room st rest).what ≡ More → text_of start_of seen ≡ text ++ (heard_of false room st rest).text
  text_finished room e =
      let t = rw (append-nil seen, append-nil rest) at (text_goes_on []) in
      t ∙ ap (λ (t : List ℕ). text ++ t) (call_text_more room st rest e)
