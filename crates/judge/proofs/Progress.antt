-- A call comes to something: with room for a line it takes a field or says why not, and what it leaves waiting is less than one field.
use Prim.Native.Nat.{ℕ, ◌+◌, ◌*◌, ◌≤◌, ◌<◌}
use mathlib.Core.Path.{◌≡◌}
use mathlib.Core.Bool.{Bool, true, false, cond}
use mathlib.Core.List.{List, [], ◌∷◌}
use native.Mathlib.Omega.{arith}
use lib.Dec.{eqb}
use lib.ListN.{length, drop, length-drop}
use borrow.Author.Tests.{leb-false}
use Rattle.rules.specs.Form.{Field, Head}
use Rattle.rules.specs.FileReading.{Cut, no_tag, no_length, half_length, short_value}
use Rattle.rules.proofs.FileHeads.{HeadSays, is_whole, is_cut, is_bad_tag, is_bad_length, head_says}
use Rattle.chunks.specs.declared.State.{State}
use Rattle.chunks.specs.declared.What.TheVariants.{More, Full}
use Rattle.chunks.specs.Took.{Wait, refused_by, refused_tag, head_took, behind_took, read_in, head_at, took_of}
use Rattle.chunks.specs.Heard.{Heard, behind, heard_of}
use Rattle.chunks.proofs.Turns.{has_room}
use Rattle.chunks.proofs.Advances.{field_how, taken_size}
use Rattle.chunks.proofs.Walks.{Walk, stops_full, stops_more, stops_over, takes, walk}
use Rattle.judge.proofs.Overflow.{short_value_lem}
use Rattle.judge.proofs.Chunks.{left_over}

-- ---- a field has at most 11 bytes
cut_short : {b : Bool} (fs : List Field) {bs : List ℕ} → Cut b fs bs → length bs < 11
cut_short fs no_tag = omega arith
cut_short fs (no_length m) = omega arith
cut_short fs (half_length m) = omega arith
cut_short fs (short_value {t} {h} {l} m g s) = omega (arith, short_value_lem t (256 * h + l) g)

head_short : (st : State) (b : Bool) (fs : List Field) {bs : List ℕ} {h : Head} → HeadSays b fs bs h → (head_took st h).how ≡ Wait → length bs < 11
unfolding head_took refused_by refused_tag
head_short st b fs (is_whole f rest r) e = field_how st f Wait (λ q. absurd cc) (λ v q. absurd cc) e
head_short st b fs (is_cut c) e = cut_short fs c
head_short st b fs (is_bad_tag m) e = absurd cc
head_short st b fs (is_bad_length m g) e = absurd cc

behind_short : (st : State) (bs : List ℕ) → (behind_took st bs).how ≡ Wait → length bs < 11
unfolding behind_took refused_by
behind_short st [] e = omega arith
behind_short st (b ∷ bs) e = absurd cc

wait_short : (st : State) (bs : List ℕ) → (took_of st bs).how ≡ Wait → length bs < 11
unfolding took_of
wait_short st bs e = go (eqb st.tag 33) e
  where
    go : (b : Bool) → (cond b (behind_took st bs) (head_took st (head_at st bs))).how ≡ Wait → length bs < 11
    go true e = behind_short st bs e
    go false e = head_short st st.rec.last.seen (read_in st) (head_says st.rec.last.seen (read_in st) bs) (unfold head_at in e)

-- so a buffer of 11 bytes is enough for what is left over
pub left_short : (q : Bool) (room : ℕ) (st : State) (bs : List ℕ) → (heard_of q room st bs).what ≡ More → length (drop (heard_of q room st bs).used bs) < 11
left_short q room st bs e = wait_short _ _ (rw e at (left_over (walk q room st bs)))

-- ---- fields are taken
no_room : (q : Bool) (room : ℕ) → has_room q room ≡ false → room < 64
no_room true room e = cc
no_room false room e = leb-false 64 room e

full_used : {q : Bool} {room : ℕ} {st : State} {bs : List ℕ} {h : Heard} → Walk q room st bs h → 64 ≤ room → h.what ≡ Full → 3 ≤ h.used
unfolding behind
full_used {q} {room} (stops_full r) l e = let s : room < 64 = no_room q room r in absurd (omega arith)
full_used (stops_more r g) l e = absurd cc
full_used (stops_over r g) l e = absurd cc
full_used (takes {st = st} {bs = bs} {n = n} r g w) l e = omega (arith, taken_size st bs n g)

-- a call that asks for more room has taken a field
pub full_progress : (q : Bool) (room : ℕ) (st : State) (bs : List ℕ) → 64 ≤ room → (heard_of q room st bs).what ≡ Full → 3 ≤ (heard_of q room st bs).used
full_progress q room st bs l e = full_used (walk q room st bs) l e

used_there : {q : Bool} {room : ℕ} {st : State} {bs : List ℕ} {h : Heard} → Walk q room st bs h → h.used ≤ length bs
unfolding behind
used_there (stops_full r) = omega arith
used_there (stops_more r e) = omega arith
used_there (stops_over r e) = omega arith
used_there (takes {st = st} {bs = bs} {n = n} r e w) = omega (arith, taken_size st bs n e, length-drop n bs, used_there w)

pub used_fits : (q : Bool) (room : ℕ) (st : State) (bs : List ℕ) → (heard_of q room st bs).used ≤ length bs
used_fits q room st bs = used_there (walk q room st bs)
