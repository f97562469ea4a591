-- No run from a fresh state comes near the end of a count or of the offset: the state always stands for what was read, or for a file that is closed.
use Prim.Native.Nat.{ℕ, ◌^◌, ◌≤◌, ◌<◌}
use mathlib.Core.Path.{◌≡◌, sym, ap, ◌∙◌}
use mathlib.Core.Bool.{Bool}
use mathlib.Core.List.{List, [], ◌∷◌, ◌++◌}
use native.Mathlib.Omega.{arith}
use Rattle.rules.specs.Lists.{Every}
use Rattle.rules.specs.Past.{Past}
use Rattle.rules.specs.Form.{Field}
use Rattle.rules.specs.File.{FileVerdict, Step}
use Rattle.chunks.specs.declared.State.{State}
use Rattle.chunks.specs.Took.{On, Took, took_of}
use Rattle.chunks.specs.Heard.{Heard, behind, heard_of}
use Rattle.chunks.proofs.Bytes.{Bytes, bytes_part, bytes_drop}
use Rattle.chunks.proofs.Advances.{behind_on}
use Rattle.chunks.proofs.Walks.{Walk, stops_full, stops_more, stops_over, takes, walk}
use Rattle.judge.proofs.Stands.{Stands, start_stands, far_below}
use Rattle.judge.proofs.StandsEnd.{Ended}
use Rattle.judge.proofs.Moves.{Moves, waits, stopped, goes, closes, moves}
use Rattle.judge.proofs.Agrees.{behind_took_lem}
use Rattle.judge.proofs.Chunks.{Run, begin, bytes, call}

data Standing (st : State) : Type 0 where
  reading : {fs : List Field} {past : Past} {at : ℕ} → Stands st fs past at → Standing st
  closed : {v : FileVerdict} {at : ℕ} → Ended st v at → Standing st

-- ---- one field
on_stands : {st : State} {past : Past} {at n : ℕ} {bs : List ℕ} {t : Took} {x : Step} → Moves st past at bs t x → t.how ≡ On n → Standing t.state
on_stands waits e = absurd cc
on_stands (stopped v) e = absurd cc
on_stands (goes n l m s w) e = reading s
on_stands (closes n v at l m s w) e = closed s

took_stands : {st : State} → Standing st → (bs : List ℕ) (n : ℕ) → Bytes bs → (took_of st bs).how ≡ On n → Standing (took_of st bs).state
took_stands (reading s) bs n b e = on_stands (moves s bs b) e
took_stands {st} (closed x) bs n b e = behind_on st bs n (sym (ap (λ (t : Took). t.how) (behind_took_lem x bs)) ∙ e)

-- ---- one call
call_stands : {q : Bool} {room : ℕ} {st : State} {bs : List ℕ} {h : Heard} → Walk q room st bs h → Standing st → Bytes bs → Standing h.state
unfolding behind
call_stands (stops_full r) s b = s
call_stands (stops_more r e) s b = s
call_stands (stops_over r e) s b = s
call_stands (takes {bs = bs} {n = n} r e w) s b = call_stands w (took_stands s bs n b e) (bytes_drop n bs b)

-- ---- a run of calls
bytes_join : (xs ys : List ℕ) → Bytes xs → Bytes ys → Bytes (xs ++ ys)
unfolding Every
bytes_join [] ys p q = q
bytes_join (x ∷ xs) ys p q = (p.0, bytes_join xs ys p.1 q)

run_stands : {q : Bool} {st : State} {seen text rest : List ℕ} → Run q st seen text rest → Bytes seen → Standing st × Bytes rest
unfolding Every
run_stands begin b = (reading start_stands, tt)
run_stands (bytes {seen = seen} {rest = rest} r more) b =
    let p = bytes_part seen more b in
    let s = run_stands r p.0 in
    (s.0, bytes_join rest more s.1 p.1)
run_stands {q} (call {st} {seen} {text} {rest} r room) b =
    let s = run_stands r b in
    (call_stands (walk q room st rest) s.0 s.1, bytes_drop (heard_of q room st rest).used rest s.1)

abbrev Near : State → Type 0
Near st = (st.commands ≤ 2 ^ 32) × (st.refreshes ≤ 2 ^ 32) × (st.offset < 2 ^ 37)

near : {st : State} → Standing st → Near st
near (reading s) = let f = far_below s in (f.0, f.1, omega (arith, f.2))
near (closed x) = x.near

pub run_near : {q : Bool} {st : State} {seen text rest : List ℕ} → Run q st seen text rest → Bytes seen → Near st
run_near r b = near (run_stands r b).0
