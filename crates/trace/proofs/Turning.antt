-- Each kind of turn keeps what stands; what is printed in the end is what the rules give of the whole file.
use Prim.Native.Nat.{ℕ, ◌≤◌, ◌<◌}
use native.Mathlib.Omega.{arith}
use mathlib.Core.Path.{◌≡◌, refl, ap}
use mathlib.Core.Bool.{Bool, true, false}
use mathlib.Core.List.{List, [], ◌++◌, append-nil}
use lib.ListN.{length, take, drop, length-drop, drop_of_length-le}
use lib.Seq.{length-take-le, drop_at}
use Rattle.rules.specs.Form.{head_of}
use Rattle.rules.specs.Lines.{verdict_line}
use Rattle.chunks.specs.declared.State.{State}
use Rattle.chunks.specs.declared.Verdict.{Verdict}
use Rattle.chunks.specs.declared.What.{What}
use Rattle.chunks.specs.declared.What.TheVariants.{More, Full, Over}
use Rattle.chunks.specs.Values.{verdict_of}
use Rattle.chunks.specs.Took.{Wait, head_took, head_at, took_of}
use Rattle.chunks.specs.Heard.{start_of, Heard, behind, heard_of, finished_of}
use Rattle.chunks.proofs.Walks.{Walk, stops_full, stops_more, stops_over, takes, walk}
use Rattle.judge.proofs.Chunks.{Run, begin, bytes, call}
use Rattle.judge.proofs.Streams.{chunks_end, chunks_over, chunks_end_lines, chunks_over_lines, waits}
use Rattle.trace.specs.declared.turns.Next.{Next}
use Rattle.trace.specs.declared.turns.Next.TheVariants.{Read, Judge, Tell, Done}
use Rattle.trace.specs.declared.turns.Turn.{Turn}
use Rattle.trace.specs.Calls.{next_of, CalledAs, first_turn, ReadAs, came, none, gone_to}
use Rattle.trace.specs.Standing.{printed, Prints, StandsTo, Stands, Turned, Went, begins, turns, Fits}
use Rattle.trace.proofs.Calling.{put_is, wrote_fits, call_runs, call_fits, there, read_fits, read_silent}

-- ---- without lines nothing is written before the verdict
walk_silent : {room : ℕ} {st : State} {bs : List ℕ} {h : Heard} → Walk true room st bs h → h.text ≡ []
unfolding behind
walk_silent (stops_full r) = refl
walk_silent (stops_more r e) = refl
walk_silent (stops_over r e) = refl
walk_silent (takes r e w) = walk_silent w

run_silent : {st : State} {seen text rest : List ℕ} → Run true st seen text rest → text ≡ []
run_silent begin = refl
run_silent (bytes r more) = run_silent r
run_silent (call {st} {seen} {text} {rest} r room) = rw (run_silent r) (walk_silent (walk true room st rest))

-- ---- the verdict is known: where the input ends, or once a call says so, whatever is behind
pub end_prints : (q : Bool) {st : State} {seen text rest : List ℕ} → Run q st seen text rest → (took_of st rest).how ≡ Wait →
    Prints q true seen (text ++ verdict_line (verdict_of (finished_of st rest)))
unfolding printed
end_prints true r w file b e = rw (run_silent r, chunks_end r (rw e at b), e)
end_prints false r w file b e = rw e (chunks_end_lines r w (rw e at b))

pub over_prints : (q : Bool) (room : ℕ) {st : State} {seen text rest : List ℕ} → Run q st seen text rest → (v : Verdict) → (heard_of q room st rest).what ≡ Over v →
    Prints q false seen ((text ++ (heard_of q room st rest).text) ++ verdict_line (verdict_of v))
unfolding printed
over_prints true room r v x file b (ys, e) = rw (run_silent (call r room), chunks_over r room v x ys (rw e at b), e)
over_prints false room r v x file b (ys, e) = rw e (chunks_over_lines r room v x ys (rw e at b))

-- ---- before the first byte
first_waits : (took_of start_of []).how ≡ Wait
unfolding took_of start_of head_at head_took head_of
first_waits = refl

pub first_fits : {at : Turn} → at ≡ first_turn → (size : ℕ) → 0 < size → Fits at size
first_fits e size h = rw e (omega arith, (λ x. h))

-- ---- a run of turns
pub went_stands : {q : Bool} {at : Turn} {buffer seen text : List ℕ} → Went q at buffer seen text → Stands q seen text at buffer
went_stands (begins buffer) = (begin, first_waits)
went_stands (turns {seen = seen} {text = text} w r after room t) = t seen text (went_stands w)

-- where it is done, all that was put is what the program prints of the file
pub printed_is : {q : Bool} {at : Turn} {buffer seen text : List ℕ} → Went q at buffer seen text → at.next ≡ Done → Prints q at.ended seen text
printed_is w e = rw e at (went_stands w)

-- ---- what a turn promises
abbrev Goes : (q : Bool) → (at : Turn) → (buf : List ℕ) → (r : Turn) → (after room : List ℕ) → Type 0
Goes q at buf r after room = record { fits : Fits r (length after); wrote : r.wrote ≤ length room; stands : Turned q at buf r after room }

-- where nothing was read
none_read : (n : ℕ) (seen xs : List ℕ) → length xs ≤ n → seen ++ drop n xs ≡ seen
none_read n seen xs h = rw (drop_of_length-le xs h) (append-nil seen)

module _ (q : Bool) (at : Turn) (buf : List ℕ) (h : at.have ≤ length buf) where
  abbrev rest : List ℕ
  rest = take at.have buf

  -- ---- a call
  module _ (room : ℕ) {old new after : List ℕ} {r : Turn} (p : CalledAs (heard_of q room at.state rest) rest old new after r) where
    call_stands : {seen text : List ℕ} → Run q at.state seen text rest → (w : What) → (heard_of q room at.state rest).what ≡ w →
        StandsTo (next_of w) q seen (text ++ take r.wrote new) r.ended r.state (take r.have after)
    unfolding next_of
    call_stands run More e = (call_runs q room at.state rest p run, rw (p.state, p.rest) (waits q room at.state rest e))
    call_stands run Full e = call_runs q room at.state rest p run
    call_stands run (Over v) e = rw (p.ended, put_is _ p) (over_prints q room run v e)

    pub call_goes : at.next ≡ Judge → 11 ≤ length buf → length after ≡ length buf → Goes q at buf r after new
    call_goes e l k = record {
      fits = rw k (call_fits q room at.state rest p (length buf) (omega (arith, length-take-le at.have buf h)) l);
      wrote = wrote_fits _ p;
      stands = λ seen text s.
          let run : Run q at.state seen text rest = rw e at s in
          let l = length-drop (heard_of q room at.state rest).used rest in
          let g = none_read at.have seen (take r.have after) (rw p.rest (omega (arith, l, length-take-le at.have buf h))) in
          rw (g, p.next) (call_stands run (heard_of q room at.state rest).what refl);
    }

  -- ---- a read
  module _ (room : List ℕ) {after : List ℕ} where
    read_stands : {r : Turn} → ReadAs at.state rest after r → {seen text : List ℕ} → Run q at.state seen text rest → (took_of at.state rest).how ≡ Wait →
        Stands q (seen ++ drop at.have (take r.have after)) (text ++ take r.wrote room) r after
    read_stands (came got s e) {seen} {text} run w =
        rw (append-nil text, e, drop_at rest got at.have (length-take-le at.have buf h)) (bytes run got)
    read_stands (none e) {seen} {text} run w =
        rw (append-nil text, e, none_read at.have seen rest (omega (arith, length-take-le at.have buf h))) (end_prints q run w)

    pub read_goes : {r : Turn} → at.next ≡ Read → ReadAs at.state rest after r → Goes q at buf r after room
    read_goes e p = record {
      fits = read_fits p;
      wrote = rw (read_silent p) (omega arith);
      stands = λ seen text s. let t : Run q at.state seen text rest × ((took_of at.state rest).how ≡ Wait) = rw e at s in read_stands p t.0 t.1;
    }

  -- ---- the bytes and the state stay
  module _ (room : List ℕ) where
    same_seen : (seen : List ℕ) → seen ++ drop at.have rest ≡ seen
    same_seen seen = none_read at.have seen rest (omega (arith, length-take-le at.have buf h))

    pub told_goes : {r : Turn} (v : Verdict) → at.next ≡ Tell v →
        (r ≡ gone_to at Done (length (verdict_line (verdict_of v)))) × (take r.wrote room ≡ verdict_line (verdict_of v)) → Goes q at buf r buf room
    told_goes v e (d, t) = record {
      fits = rw d (h, (λ x. let z : ◌≡◌ {A = ℕ} 0 1 = cc in absurd (omega arith)));
      wrote = there (verdict_line (verdict_of v)) room (ap (λ (x : Turn). x.wrote) d) t;
      stands = λ seen text s. let s' : Prints q at.ended seen (text ++ verdict_line (verdict_of v)) = rw e at s in rw (t, d, same_seen seen) s';
    }

    pub still_goes : {r : Turn} (n : Next) → at.next ≡ n → Fits at (length buf) → r ≡ gone_to at n 0 → Goes q at buf r buf room
    still_goes n e f d = record {
      fits = rw (d, ← e) f;
      wrote = rw d (omega arith);
      stands = λ seen text s. rw (d, same_seen seen, append-nil text, ← e) s;
    }
