-- What each kind of turn leaves: in its answer, in the lent room and in the buffer. `bytes` are the first of the buffer, those that are still to be judged.
use Rattle.std.specs.Prelude.{ℕ, ◌<◌, ◌≡◌, Bool, true, false, List, ◌++◌, length, take, drop}
use Rattle.chunks.specs.declared.State.{State}
use Rattle.chunks.specs.declared.What.{What}
use Rattle.chunks.specs.declared.What.TheVariants.{More, Full, Over}
use Rattle.chunks.specs.Heard.{start_of, Heard, finished_of}
use Rattle.trace.specs.declared.turns.Next.{Next}
use Rattle.trace.specs.declared.turns.Next.TheVariants.{Read, Judge, Tell}
use Rattle.trace.specs.declared.turns.Turn.{Turn}

-- why a call came back is what is to be done
unfoldable pub next_of : What → Next
next_of More = Read
next_of Full = Judge
next_of (Over v) = Tell v

-- a call of the judge: its text is in the lent room, and the bytes that it left over are at the start of the buffer
pub record CalledAs (h : Heard) (bytes old new buffer : List ℕ) (r : Turn) : Type 0 where
  pub next : r.next ≡ next_of h.what
  pub ended : r.ended ≡ false
  pub wrote : r.wrote ≡ length h.text
  pub state : r.state ≡ h.state
  pub text : new ≡ h.text ++ drop (length h.text) old
  pub have : r.have ≡ length (drop h.used bytes)
  pub rest : take r.have buffer ≡ drop h.used bytes

-- ---- a turn without text
abbrev pub silent : Next → (ended : Bool) → State → (have : ℕ) → Turn
silent next ended st have = record { next = next; ended = ended; state = st; have = have; wrote = 0 }

-- before the first byte
abbrev pub first_turn : Turn
first_turn = silent Read false start_of 0

-- a read: bytes came behind those that were there; or none did, and the verdict is that of a file that ends here
pub data ReadAs (st : State) (bytes buffer : List ℕ) : Turn → Type 0 where
  came : (got : List ℕ) → 0 < length got → take (length (bytes ++ got)) buffer ≡ bytes ++ got → ReadAs st bytes buffer (silent Judge false st (length (bytes ++ got)))
  none : take (length bytes) buffer ≡ bytes → ReadAs st bytes buffer (silent (Tell (finished_of st bytes)) true st (length bytes))

-- ---- the same bytes and state; this is next, and so many bytes of text are there
abbrev pub gone_to : Turn → Next → ℕ → Turn
gone_to at next n = record { next = next; ended = at.ended; state = at.state; have = at.have; wrote = n }
