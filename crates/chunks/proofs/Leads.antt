-- How far a run of bytes is heard on the way: some bytes and their lines, and then all that is heard from there.
use Rattle.std.proofs.Common.{◌≡◌, ℕ, ◌+◌, ◌-◌, Bool, true, List, [], ◌++◌, length, drop, sym, ap, ◌∙◌, append_assoc, add_assoc, zero-add, arith, length-append, drop-drop}
use Rattle.chunks.specs.declared.State.{State}
use Rattle.chunks.specs.Took.{On, took_of}
use Rattle.chunks.specs.Heard.{Heard, behind, heard_of}
use Rattle.chunks.specs.Parts.{Leads}
use Rattle.chunks.proofs.Turns.{has_room, line_if}
use Rattle.chunks.proofs.Walks.{takes, walk, only}

behind_none : (h : Heard) → h ≡ behind 0 [] h
unfolding behind
behind_none h = λ i. record { what = h.what; used = sym (zero-add h.used) i; text = h.text; state = h.state }

behind_behind : (m n : ℕ) (a b : List ℕ) (h : Heard) → behind m a (behind n b h) ≡ behind (m + n) (a ++ b) h
unfolding behind
behind_behind m n a b h = λ i. record { what = h.what; used = sym (add_assoc m n h.used) i; text = sym (append_assoc a b h.text) i; state = h.state }

pub leads_nowhere : (q : Bool) (room : ℕ) (st : State) (bs : List ℕ) → Leads q room st bs 0 [] st
leads_nowhere q room st bs = let z : room - 0 ≡ room = omega arith in rw z (behind_none (heard_of q room st bs))

-- one field
pub leads_on : (q : Bool) (room : ℕ) (st : State) (bs : List ℕ) (n : ℕ) → has_room q room ≡ true → (took_of st bs).how ≡ On n →
    Leads q room st bs n (line_if q st bs) (took_of st bs).state
leads_on q room st bs n r e = only (takes r e (walk q (room - length (line_if q st bs)) (took_of st bs).state (drop n bs)))

pub leads_then : (q : Bool) (room : ℕ) (st : State) (bs : List ℕ) (m n : ℕ) (a b : List ℕ) (mid next : State) → Leads q room st bs m a mid →
    Leads q (room - length a) mid (drop m bs) n b next → Leads q room st bs (m + n) (a ++ b) next
leads_then q room st bs m n a b mid next f g =
    let left : (room - length a) - length b ≡ room - length (a ++ b) = rw length-append (omega arith) in
    f
    ∙ ap (behind m a) g
    ∙ behind_behind m n a b _
    ∙ rw (left, drop-drop)
