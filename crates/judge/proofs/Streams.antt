-- Demand 2 for any way of cutting a file into chunks: the verdict and the lines are those that the rules give of the whole file.
use Prim.Native.Nat.{ℕ, suc, ◌+◌, ◌*◌}
use mathlib.Core.Path.{◌≡◌, refl, ap, sym, ◌∙◌}
use mathlib.Core.Bool.{Bool, false}
use mathlib.Core.List.{List, [], ◌++◌, append-nil}
use native.Mathlib.Omega.{arith}
use lib.ListN.{length, drop}
use Rattle.rules.specs.File.{judged, judge_file}
use Rattle.rules.specs.Lines.{entry_lines, verdict_line, lines_of}
use Rattle.chunks.specs.declared.State.{State}
use Rattle.chunks.specs.declared.Verdict.{Verdict}
use Rattle.chunks.specs.declared.What.{What}
use Rattle.chunks.specs.declared.What.TheVariants.{More, Full, Over}
use Rattle.chunks.specs.Values.{verdict_of}
use Rattle.chunks.specs.Took.{Wait, took_of}
use Rattle.chunks.specs.Heard.{start_of, heard_of, finished_of}
use Rattle.chunks.proofs.Bytes.{Bytes}
use Rattle.chunks.proofs.Walks.{walk}
use Rattle.judge.proofs.Whole.{judged_is, lines_from}
use Rattle.judge.proofs.Room.{roomy_goes}
use Rattle.judge.proofs.Stands.{start_stands}
use Rattle.judge.proofs.Outcome.{text_of, text_wait}
use Rattle.judge.proofs.Chunks.{left_over, Run, call_text_over, call_text_more, finished, over, text_goes_on, text_over}

-- ---- the text of a run that never lacks room, then the verdict, are the lines of the file
text_heard : (room : ℕ) (bs : List ℕ) (w : What) → (heard_of false room start_of bs).what ≡ w → (w ≡ Full → ⊥) → text_of start_of bs ≡ (heard_of false room start_of bs).text
text_heard room bs More e f = call_text_more room start_of bs e
text_heard room bs Full e f = absurd (f refl)
text_heard room bs (Over v) e f = rw (append-nil bs) at (call_text_over room start_of bs v e [])

pub text_is : (bs : List ℕ) → Bytes bs → text_of start_of bs ++ verdict_line (judge_file bs) ≡ lines_of bs
unfolding lines_of judge_file judged entry_lines heard_of
text_is bs b =
    let k = suc (length bs) in
    let room = 64 + 64 * length bs in
    let t = text_heard room bs (heard_of false room start_of bs).what refl (roomy_goes k false room bs start_stands b (omega arith)) in
    let a = lines_from start_stands bs b k room (omega arith) (omega arith) in
    rw (t, a.lines refl)

-- ---- a run of calls (`Chunks.Run`): `seen` is all that came of the file, `text` all that was written, `rest` what the last call left over
module _ {q : Bool} {st : State} {seen text rest : List ℕ} (r : Run q st seen text rest) where
  -- no more bytes come
  pub chunks_end : Bytes seen → verdict_of (finished_of st rest) ≡ judge_file seen
  chunks_end b = ap verdict_of (finished r) ∙ judged_is seen b

  -- a call says that the file is judged: so it is, whatever bytes come behind
  pub chunks_over : (room : ℕ) (v : Verdict) → (heard_of q room st rest).what ≡ Over v → (ys : List ℕ) → Bytes (seen ++ ys) → verdict_of v ≡ judge_file (seen ++ ys)
  chunks_over room v e ys b = ap verdict_of (sym (over r room v e ys)) ∙ judged_is (seen ++ ys) b

module _ {st : State} {seen text rest : List ℕ} (r : Run false st seen text rest) where
  -- the same with what was written: the lines of the file
  pub chunks_end_lines : (took_of st rest).how ≡ Wait → Bytes seen → text ++ verdict_line (verdict_of (finished_of st rest)) ≡ lines_of seen
  chunks_end_lines w b =
      let t = rw (append-nil seen, append-nil rest, text_wait st rest w, append-nil text) at (text_goes_on r []) in
      rw (chunks_end r b, ← t) (text_is seen b)

  pub chunks_over_lines : (room : ℕ) (v : Verdict) → (heard_of false room st rest).what ≡ Over v → (ys : List ℕ) → Bytes (seen ++ ys)
      → (text ++ (heard_of false room st rest).text) ++ verdict_line (verdict_of v) ≡ lines_of (seen ++ ys)
  chunks_over_lines room v e ys b = rw (chunks_over r room v e ys b, ← text_over r room v e ys) (text_is (seen ++ ys) b)

-- where a call wants more bytes, the bytes that it left over are no whole field
pub waits : (q : Bool) (room : ℕ) (st : State) (bs : List ℕ) → (heard_of q room st bs).what ≡ More
    → (took_of (heard_of q room st bs).state (drop (heard_of q room st bs).used bs)).how ≡ Wait
waits q room st bs e = rw e at (left_over (walk q room st bs))
