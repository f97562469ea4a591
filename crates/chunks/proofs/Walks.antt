-- What a run of bytes does, field by field. A walk has no count of turns: so one count that is enough is as good as any other.
use Rattle.std.proofs.Common.{◌≡◌, ℕ, zero, suc, ◌-◌, ◌<◌, Bool, true, false, List, length, drop, refl, ap, ◌∙◌, le_refl, arith, length-drop}
use Rattle.chunks.specs.declared.State.{State}
use Rattle.chunks.specs.declared.Verdict.{Verdict}
use Rattle.chunks.specs.declared.What.TheVariants.{More, Full, Over}
use Rattle.chunks.specs.Took.{Move, On, Wait, End, took_of}
use Rattle.chunks.specs.Heard.{Heard, heard, behind, heard_from, heard_of}
use Rattle.chunks.proofs.Turns.{has_room, line_if, turn, after, by_turn}
use Rattle.chunks.proofs.Advances.{taken_size}

pub data Walk (q : Bool) : (room : ℕ) → State → List ℕ → Heard → Type 0 where
  stops_full : {room : ℕ} {st : State} {bs : List ℕ} → has_room q room ≡ false → Walk q room st bs (heard Full st)
  stops_more : {room : ℕ} {st : State} {bs : List ℕ} → has_room q room ≡ true → (took_of st bs).how ≡ Wait → Walk q room st bs (heard More st)
  stops_over : {room : ℕ} {st : State} {bs : List ℕ} {v : Verdict} → has_room q room ≡ true → (took_of st bs).how ≡ End v → Walk q room st bs (heard (Over v) st)
  takes : {room : ℕ} {st : State} {bs : List ℕ} {n : ℕ} {h : Heard} → has_room q room ≡ true → (took_of st bs).how ≡ On n →
      Walk q (room - length (line_if q st bs)) (took_of st bs).state (drop n bs) h → Walk q room st bs (behind n (line_if q st bs) h)

pub shorter : (k : ℕ) (st : State) (bs : List ℕ) (n : ℕ) → (took_of st bs).how ≡ On n → length bs < suc k → length (drop n bs) < k
shorter k st bs n e h = let b = taken_size st bs n e in omega (arith, length-drop n bs)

-- ---- one turn
module _ (k : ℕ) (q : Bool) (room : ℕ) (st : State) (bs : List ℕ) where
  turn_walks : (r : Bool) (m : Move) → has_room q room ≡ r → (took_of st bs).how ≡ m →
      ((n : ℕ) → (took_of st bs).how ≡ On n → Walk q (room - length (line_if q st bs)) (took_of st bs).state (drop n bs) (after k q room st bs n)) →
      Walk q room st bs (turn r st (line_if q st bs) (after k q room st bs) m)
  turn_walks false m r e w = stops_full r
  turn_walks true (On n) r e w = takes r e (w n e)
  turn_walks true Wait r e w = stops_more r e
  turn_walks true (End v) r e w = stops_over r e

-- ---- all turns
walk_from : (k : ℕ) (q : Bool) (room : ℕ) (st : State) (bs : List ℕ) → length bs < k → Walk q room st bs (heard_from k q room st bs)
walk_from zero q room st bs h = absurd (omega arith)
walk_from (suc k) q room st bs h =
    rw (by_turn k q room st bs (has_room q room) (took_of st bs).how refl refl)
    (turn_walks k q room st bs (has_room q room) (took_of st bs).how refl refl
    (λ n e. walk_from k q (room - length (line_if q st bs)) (took_of st bs).state (drop n bs) (shorter k st bs n e h)))

pub walk : (q : Bool) (room : ℕ) (st : State) (bs : List ℕ) → Walk q room st bs (heard_of q room st bs)
unfolding heard_of
walk q room st bs = walk_from (suc (length bs)) q room st bs (le_refl _)

module _ {q : Bool} where
  only_from : {room : ℕ} {st : State} {bs : List ℕ} {h : Heard} → Walk q room st bs h → (k : ℕ) → length bs < k → heard_from k q room st bs ≡ h
  only_from w zero l = absurd (omega arith)
  only_from (stops_full {room} {st} {bs} r) (suc k) l = by_turn k q room st bs false (took_of st bs).how r refl
  only_from (stops_more {room} {st} {bs} r e) (suc k) l = by_turn k q room st bs true Wait r e
  only_from (stops_over {room} {st} {bs} {v} r e) (suc k) l = by_turn k q room st bs true (End v) r e
  only_from (takes {room} {st} {bs} {n} r e w) (suc k) l =
      by_turn k q room st bs true (On n) r e ∙
      ap (behind n (line_if q st bs)) (only_from {room = room - length (line_if q st bs)} {st = (took_of st bs).state} {bs = drop n bs} w k (shorter k st bs n e l))

  pub only : {room : ℕ} {st : State} {bs : List ℕ} {h : Heard} → Walk q room st bs h → heard_of q room st bs ≡ h
  unfolding heard_of
  only {bs = bs} w = only_from w (suc (length bs)) (le_refl _)

pub enough : (j k : ℕ) (q : Bool) (room : ℕ) (st : State) (bs : List ℕ) → length bs < j → length bs < k → heard_from j q room st bs ≡ heard_from k q room st bs
enough j k q room st bs h l = only_from (walk_from k q room st bs l) j h
