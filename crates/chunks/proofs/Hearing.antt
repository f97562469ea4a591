-- A run of bytes, field by field: what was heard so far, and what is heard from here.
use Rattle.std.specs.Prelude.{Option, Some, None, Result, Ok, Err}
use Rattle.std.proofs.Common.{◌≡◌, ℕ, ◌+◌, ◌-◌, ◌≤◌, Bool, true, false, List, [], ◌++◌, length, take, drop, sym, refl, ap, ◌∙◌, append-nil, add-zero, arith, length-drop}
use borrow.Rule.Slice.PartMut.{put_mid}
use Rattle.step.proofs.Onward.{rest_of}
use Rattle.lines.specs.Written.{Lined}
use Rattle.lines.proofs.Puts.{lined_nothing, lined_length, lined_more}
use Rattle.chunks.specs.declared.State.{State}
use Rattle.chunks.specs.declared.numbers.Numbers.{Numbers}
use Rattle.chunks.specs.declared.fields.Taken.{Taken}
use Rattle.chunks.specs.declared.What.{What}
use Rattle.chunks.specs.declared.Fed.{Fed}
use Rattle.chunks.specs.declared.What.TheVariants.{More, Full, Over}
use Rattle.chunks.specs.declared.leaps.Ahead.{Ahead}
use Rattle.chunks.specs.Took.{On, Took, took_as, refused_here, took_of}
use Rattle.chunks.specs.Heard.{heard, behind, heard_of, FedAs, over_at, finished_of}
use Rattle.chunks.specs.Parts.{refusal_in, verdict_at, took_in, Leads, NoneHere, wrote_by, Leapt, fed_of}
use Rattle.chunks.proofs.Turns.{has_room, line_if}
use Rattle.chunks.proofs.Advances.{taken_size, no_line}
use Rattle.chunks.proofs.Walks.{stops_full, stops_more, stops_over, only}
use Rattle.chunks.proofs.Leads.{leads_nowhere, leads_on, leads_then}

pub none_by : {A : Type 0} (r : Option A) → ((a : A) → r ≡ Some a → ⊥) → r ≡ None
none_by None n = refl
none_by (Some a) n = absurd (n a refl)

-- ---- what the loop keeps: what was heard so far, its lines, and then what is heard from here
pub record Going (q : Bool) (st : State) (bs old : List ℕ) (used wrote : ℕ) (cur : State) (new : List ℕ) : Type 0 where
  pub text : List ℕ
  pub put : Lined text old new wrote
  pub inside : used ≤ length bs
  pub says : Leads q (length old) st bs used text cur

-- and where no entry that is taken stands at the start of what is left, and a line may be written
pub record Stands (q : Bool) (st : State) (bs old : List ℕ) (used wrote : ℕ) (cur : State) (new : List ℕ) : Type 0 where
  pub going : Going q st bs old used wrote cur new
  pub room : has_room q (length new - wrote) ≡ true
  pub gone : NoneHere cur (drop used bs)

pub going : (q : Bool) (st : State) (bs old : List ℕ) → Going q st bs old 0 0 st old
going q st bs old = record {
  text = [];
  put = lined_nothing old;
  inside = omega arith;
  says = leads_nowhere q (length old) st bs;
}

module _ {q : Bool} {st : State} {bs old : List ℕ} {used wrote : ℕ} {cur : State} {new : List ℕ} (g : Going q st bs old used wrote cur new) where
  pub going_length : length new ≡ length old
  going_length = lined_length g.put

  -- the room that is left
  left_is : length new - wrote ≡ length old - length g.text
  left_is = rw (going_length, g.put.count)

  stopped : (w : What) → heard_of q (length new - wrote) cur (drop used bs) ≡ heard w cur → FedAs (heard_of q (length old) st bs) old new (fed_of w used wrote cur)
  unfolding behind
  stopped w e =
      let h : heard_of q (length old) st bs ≡ behind used g.text (heard w cur) = g.says ∙ ap (behind used g.text) (rw left_is at e) in
      rw (h, behind) (record {
        what = refl;
        used = sym (add-zero used);
        wrote = rw append-nil g.put.count;
        state = refl;
        memory = rw append-nil g.put.memory;
      })

  pub going_full : has_room q (length new - wrote) ≡ false → FedAs (heard_of q (length old) st bs) old new (fed_of Full used wrote cur)
  going_full r = stopped Full (only (stops_full r))

  -- ---- some bytes further on, with their lines at the place where the room begins
  module _ {lines part : List ℕ} {r : ℕ} (lined : Lined lines (take (length new - wrote) (drop wrote new)) part r) where
    put_more : Lined (g.text ++ lines) old (put_mid wrote (length new - wrote) new part) (wrote + r)
    put_more = lined_more g.put lined

    pub lines_fit : wrote + r ≤ length old
    lines_fit = put_more.fits

    pub going_further : (n : ℕ) (next : State) → n ≤ length (drop used bs) → Leads q (length new - wrote) cur (drop used bs) n lines next →
        Going q st bs old (used + n) (wrote + r) next (put_mid wrote (length new - wrote) new part)
    going_further n next short l = record {
      text = g.text ++ lines;
      put = put_more;
      inside = let a : n ≤ length bs - used = rw length-drop at short in let b = g.inside in omega arith;
      says = leads_then q (length old) st bs used n g.text lines cur next g.says (rw left_is at l);
    }

  -- ---- some entries at once
  pub room_here : has_room q (length new - wrote) ≡ true → has_room q (length (take (length new - wrote) (drop wrote new))) ≡ true
  room_here h = rw (rest_of new wrote, length-drop) h

  module _ {part : List ℕ} {r : Option Ahead} (l : Leapt q cur (take (length bs - used) (drop used bs)) (take (length new - wrote) (drop wrote new)) part r) where
    leapt : Leapt q cur (drop used bs) (take (length new - wrote) (drop wrote new)) part r
    leapt = rw (rest_of bs used) at l

    module _ (a : Ahead) (is : r ≡ Some a) where
      pub leap_size : (1 ≤ a.used) × (used + a.used ≤ length bs)
      leap_size =
          let (s, t, _) = leapt.some a is in
          let u : a.used ≤ length bs - used = rw length-drop at t in
          let i = g.inside in
          (s, omega arith)

      pub going_leap : Going q st bs old (used + a.used) (wrote + a.wrote) a.state (put_mid wrote (length new - wrote) new part)
      going_leap =
          let (_, t, h) = leapt.some a is in
          going_further (rw (ap wrote_by is) at leapt.put) a.used a.state t (rw (rest_of new wrote, length-drop) at h)

    -- where it leads nowhere, there is as much room as before, and no entry that is taken
    module _ (gone : (a : Ahead) → r ≡ Some a → ⊥) where
      nowhere : (r ≡ None) × (leapt.lines ≡ []) × NoneHere cur (drop used bs)
      nowhere = let n = none_by r gone in let e = leapt.none n in (n, e.0, e.1)

      pub none_asked : NoneHere cur (take (length bs - used) (drop used bs))
      none_asked = rw (rest_of bs used) nowhere.2

      going_still : Going q st bs old used wrote cur (put_mid wrote (length new - wrote) new part)
      going_still = record {
        text = g.text;
        put = rw (append-nil, add-zero wrote) at (put_more (rw (nowhere.1, nowhere.0) at leapt.put));
        inside = g.inside;
        says = g.says;
      }

      pub stands : has_room q (length new - wrote) ≡ true → Stands q st bs old used wrote cur (put_mid wrote (length new - wrote) new part)
      stands h = record { going = going_still; room = rw (lined_length going_still.put, ← going_length) h; gone = nowhere.2 }

-- ---- one field
module _ {q : Bool} {st : State} {bs old : List ℕ} {used wrote : ℕ} {cur : State} {new : List ℕ} (s : Stands q st bs old used wrote cur new) where
  module _ (t : Result (Option Taken) Numbers) (told : took_in cur t ≡ took_of cur (take (length bs - used) (drop used bs))) where
    took_here : took_of cur (drop used bs) ≡ took_in cur t
    took_here = sym (told ∙ ap (took_of cur) (rest_of bs used))

    pub going_wait : {o : Option Taken} → t ≡ Ok o → o ≡ None → FedAs (heard_of q (length old) st bs) old new (fed_of More used wrote cur)
    unfolding took_in
    going_wait e f = stopped s.going More (only (stops_more s.room (rw (took_here, e, f))))

    pub going_end : {x : Numbers} → t ≡ Err x → FedAs (heard_of q (length old) st bs) old new (fed_of (Over (verdict_at cur.offset (refusal_in x))) used wrote cur)
    unfolding took_in refused_here verdict_at
    going_end e = stopped s.going (Over _) (only (stops_over s.room (rw (took_here, e))))

    -- whatever is told, where that is this verdict: a fact to be shown of it
    pub going_over : {x : Numbers} → t ≡ Err x → (w : What) → w ≡ Over (verdict_at cur.offset (refusal_in x)) →
        FedAs (heard_of q (length old) st bs) old new (fed_of w used wrote cur)
    going_over e w f = rw f (going_end e)

    module _ {o : Option Taken} {x : Taken} (is : t ≡ Ok o) (some : o ≡ Some x) where
      took_on : took_of cur (drop used bs) ≡ took_as (On x.size) x.state
      unfolding took_in
      took_on = took_here ∙ rw (is, some)

      on_here : (took_of cur (drop used bs)).how ≡ On x.size
      on_here = ap (λ (y : Took). y.how) took_on

      pub size_here : (3 ≤ x.size) × (used + x.size ≤ length bs)
      size_here =
          let (a, b) = taken_size cur (drop used bs) x.size on_here in
          let c : x.size ≤ length bs - used = rw length-drop at b in
          let i = s.going.inside in
          (omega arith, omega arith)

      no_line_here : line_if q cur (drop used bs) ≡ []
      no_line_here = go q
        where
          go : (x : Bool) → line_if x cur (drop used bs) ≡ []
          go true = refl
          go false = no_line cur (drop used bs) x.size s.gone on_here

      leads : Leads q (length new - wrote) cur (drop used bs) x.size [] x.state
      leads = rw (took_on, no_line_here) at (leads_on q (length new - wrote) cur (drop used bs) x.size s.room on_here)

      pub going_on : Going q st bs old (used + x.size) wrote x.state new
      going_on = record {
        text = s.going.text;
        put = s.going.put;
        inside = size_here.1;
        says = rw append-nil at (leads_then q (length old) st bs used x.size s.going.text [] cur x.state s.going.says (rw (left_is s.going) at leads));
      }

-- ---- where no more bytes come
pub over_says : (st : State) (bs old new : List ℕ) (r : Fed) (w : What) → FedAs (heard_of true 0 st bs) old new r → r.what ≡ w → over_at r.state w ≡ finished_of st bs
unfolding finished_of
over_says st bs old new r w f e = rw (← e, f.what, f.state)
