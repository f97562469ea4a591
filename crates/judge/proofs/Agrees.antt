-- A run of bytes from a state that stands for what was read, if it does not lack room, is judged as the rules judge the file from there: the verdict, and the
-- lines of the entries.
use Prim.Native.Nat.{ℕ, zero, suc, ◌-◌, ◌<◌}
use mathlib.Core.Path.{◌≡◌, refl, ap, sym, ◌∙◌}
use mathlib.Core.Bool.{Bool, true, false, ◌||◌}
use mathlib.Core.List.{List, [], ◌∷◌, ◌++◌, append_assoc, append-nil}
use native.Mathlib.Omega.{arith}
use lib.Dec.{leb}
use lib.ListN.{length, drop, length-drop}
use Rattle.rules.specs.Past.{Past}
use Rattle.rules.specs.Form.{Field}
use Rattle.rules.specs.File.{FileVerdict, refused, Step, goes_on, ends, closing, step_of, Judged, file_from}
use Rattle.rules.specs.Lines.{entry_lines}
use Rattle.rules.proofs.Tests.{nowhere}
use Rattle.chunks.specs.declared.State.{State}
use Rattle.chunks.specs.declared.What.TheVariants.{Full}
use Rattle.chunks.specs.Values.{verdict_of}
use Rattle.chunks.specs.Took.{Took, refused_by, behind_took, took_of}
use Rattle.chunks.specs.Heard.{Heard, behind, heard_from, ended_at, over_at}
use Rattle.chunks.proofs.Bytes.{Bytes, bytes_drop}
use Rattle.chunks.proofs.Turns.{line_if, heard_full, heard_on, heard_waits, heard_ends, what_behind}
use Rattle.judge.proofs.Stands.{Stands, not_ended}
use Rattle.judge.proofs.StandsEnd.{Ended}
use Rattle.judge.proofs.Moves.{Moves, waits, stopped, goes, closes, moves}

-- ---- one turn of the rules' file
module _ (k : ℕ) (fs : List Field) (past : Past) (at : ℕ) (bs : List ℕ) where
  file_on : {fs' : List Field} {past' : Past} {at' : ℕ} {rest : List ℕ} → step_of fs past at bs ≡ goes_on fs' past' at' rest →
      file_from (suc k) fs past at bs ≡ file_from k fs' past' at' rest
  unfolding file_from
  file_on e = rw (e, file_from)

  file_ends : {v : FileVerdict} → step_of fs past at bs ≡ ends v → file_from (suc k) fs past at bs ≡ record { past = past; verdict = v }
  unfolding file_from
  file_ends e = rw (e, file_from)

-- ---- behind the end field: the verdict, or 12 for any byte
pub record Closed (v : FileVerdict) (at : ℕ) (bs : List ℕ) (h : Heard) : Type 0 where
  pub verdict : closing v at bs ≡ ends (verdict_of (over_at h.state h.what))
  pub text : h.text ≡ []

module _ {st : State} {v : FileVerdict} {at : ℕ} (x : Ended st v at) where
  pub behind_took_lem : (bs : List ℕ) → took_of st bs ≡ behind_took st bs
  unfolding took_of
  behind_took_lem bs = rw x.tag

  closed : (k : ℕ) (q : Bool) (room : ℕ) (bs : List ℕ) → length bs < k → ((heard_from k q room st bs).what ≡ Full → ⊥) → Closed v at bs (heard_from k q room st bs)
  unfolding closing over_at behind_took refused_by verdict_of
  closed zero q room bs h nf = absurd (nowhere h)
  closed (suc k) q room bs h nf = by_room (q || leb 64 room) refl bs nf
    where
      by_room : (y : Bool) → (q || leb 64 room) ≡ y → (cs : List ℕ) → ((heard_from (suc k) q room st cs).what ≡ Full → ⊥) → Closed v at cs (heard_from (suc k) q room st cs)
      by_room false r cs nf = absurd (nf (ap (λ (z : Heard). z.what) (heard_full k q room st cs r)))
      by_room true r [] nf = rw (heard_waits k q room st [] r (behind_took_lem [])) (record { verdict = ap ends (sym x.says); text = refl })
      by_room true r (c ∷ cs) nf =
          rw (heard_ends k q room st (c ∷ cs) r (behind_took_lem (c ∷ cs))) (record { verdict = rw x.offset; text = refl })

-- ---- any run that does not lack room
pub record Agree (q : Bool) (past : Past) (h : Heard) (j : Judged) : Type 0 where
  pub verdict : verdict_of (over_at h.state h.what) ≡ j.verdict
  pub lines : q ≡ false → entry_lines j.past ≡ entry_lines past ++ h.text

ended_short : {st : State} {fs : List Field} {past : Past} {at : ℕ} → Stands st fs past at → verdict_of (ended_at st) ≡ refused 1 0 at 0
unfolding ended_at verdict_of
ended_short s = rw (not_ended s, s.offset)

agree_behind : {q : Bool} {past past' : Past} {h : Heard} {j : Judged} (n : ℕ) (line : List ℕ) → Agree q past' h j →
    (q ≡ false → entry_lines past' ≡ entry_lines past ++ line) → Agree q past (behind n line h) j
unfolding behind
agree_behind {past = past} {h = h} n line a l = record {
  verdict = a.verdict;
  lines = λ z. a.lines z ∙ rw (l z) (append_assoc (entry_lines past) line h.text);
}

agree_closed : {q : Bool} {past : Past} {v : FileVerdict} {at : ℕ} {bs : List ℕ} {h : Heard} (n : ℕ) (line : List ℕ) → Closed v at bs h →
    (q ≡ false → line ≡ []) → Agree q past (behind n line h) (record { past = past; verdict = verdict_of (over_at h.state h.what) })
unfolding behind
agree_closed {past = past} n line c l = record { verdict = refl; lines = λ z. rw (l z, c.text) (sym (append-nil (entry_lines past))) }

pub agree : (k j : ℕ) (q : Bool) (room : ℕ) {st : State} {fs : List Field} {past : Past} {at : ℕ} (bs : List ℕ) → Stands st fs past at → Bytes bs →
    length bs < k → length bs < j → ((heard_from k q room st bs).what ≡ Full → ⊥) → Agree q past (heard_from k q room st bs) (file_from j fs past at bs)
unfolding over_at
agree zero j q room bs s b hk hj nf = absurd (nowhere hk)
agree (suc k) zero q room bs s b hk hj nf = absurd (nowhere hj)
agree (suc k) (suc j) q room {st} {fs} {past} {at} bs s b hk hj nf = by_room (q || leb 64 room) refl (λ r' st' fs' past' at' cs s' c l m n. agree k j q r' cs s' c l m n)
  where
    Later : Type 0
    Later = (room' : ℕ) (st' : State) (fs' : List Field) (past' : Past) (at' : ℕ) (cs : List ℕ) → Stands st' fs' past' at' → Bytes cs →
        length cs < k → length cs < j → ((heard_from k q room' st' cs).what ≡ Full → ⊥) → Agree q past' (heard_from k q room' st' cs) (file_from j fs' past' at' cs)

    line : List ℕ
    line = line_if q st bs

    go : {t : Took} {x : Step} → (q || leb 64 room) ≡ true → Moves st past at bs t x → took_of st bs ≡ t → step_of fs past at bs ≡ x → Later →
        Agree q past (heard_from (suc k) q room st bs) (file_from (suc j) fs past at bs)
    go r waits e f ih =
        rw (heard_waits k q room st bs r e, file_ends j fs past at bs f)
        (record { verdict = ended_short s; lines = λ z. sym (append-nil (entry_lines past)) })
    go r (stopped v) e f ih =
        rw (heard_ends k q room st bs r e, file_ends j fs past at bs f)
        (record { verdict = refl; lines = λ z. sym (append-nil (entry_lines past)) })
    go r (goes n {next} {fs'} {past'} {at'} lo hi s' l) e f ih =
        let same = heard_on k q room st bs r e in
        let a = ih (room - length line) next fs' past' at' (drop n bs) s' (bytes_drop n bs b) (rw length-drop (omega arith)) (rw length-drop (omega arith))
        (λ z. nf (ap (λ (y : Heard). y.what) same ∙ what_behind n line _ ∙ z)) in
        rw (same, file_on j fs past at bs f) (agree_behind n line a (λ z. rw z l))
    go r (closes n {next} v at' lo hi d l) e f ih =
        let same = heard_on k q room st bs r e in
        let c = closed d k q (room - length line) (drop n bs) (rw length-drop (omega arith)) (λ z. nf (ap (λ (y : Heard). y.what) same ∙ what_behind n line _ ∙ z)) in
        rw (same, file_ends j fs past at bs (f ∙ c.verdict)) (agree_closed n line c (λ z. rw z l))

    by_room : (y : Bool) → (q || leb 64 room) ≡ y → Later → Agree q past (heard_from (suc k) q room st bs) (file_from (suc j) fs past at bs)
    by_room false r ih = absurd (nf (ap (λ (z : Heard). z.what) (heard_full k q room st bs r)))
    by_room true r ih = go r (moves s bs b) refl refl ih
