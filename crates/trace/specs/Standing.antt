-- What is true of the program between two turns.
use Rattle.std.specs.Prelude.{ℕ, ◌≤◌, ◌<◌, ◌≡◌, Bool, true, false, List, [], ◌++◌, take, drop}
use Rattle.rules.specs.File.{judge_file}
use Rattle.rules.specs.Lines.{verdict_line, lines_of}
use Rattle.chunks.specs.declared.State.{State}
use Rattle.chunks.specs.Took.{Wait, took_of}
use Rattle.chunks.specs.Values.{verdict_of}
use Rattle.chunks.proofs.Bytes.{Bytes}
use Rattle.judge.proofs.Chunks.{Run}
use Rattle.trace.specs.declared.turns.Next.{Next}
use Rattle.trace.specs.declared.turns.Next.TheVariants.{Read, Judge, Tell, Done}
use Rattle.trace.specs.declared.turns.Turn.{Turn}
use Rattle.trace.specs.Calls.{first_turn}

-- all that the program prints of a file
unfoldable pub printed : (quiet : Bool) → List ℕ → List ℕ
printed true file = verdict_line (judge_file file)
printed false file = lines_of file

-- these bytes were read of the file: all of it, where the input has ended
abbrev pub ReadOf : (ended : Bool) → (seen file : List ℕ) → Type 0
ReadOf true seen file = file ≡ seen
ReadOf false seen file = (ys : List ℕ) × (file ≡ seen ++ ys)

-- the text is all that the program prints of any file that was read so
abbrev pub Prints : (quiet ended : Bool) → (seen text : List ℕ) → Type 0
Prints quiet ended seen text = (file : List ℕ) → Bytes file → ReadOf ended seen file → text ≡ printed quiet file

-- `seen` was read and `text` was printed: the state and the bytes that are left over are those of a run of calls of the judge (`Run`), until the verdict is known
abbrev pub StandsTo : Next → (quiet : Bool) → (seen text : List ℕ) → (ended : Bool) → State → (rest : List ℕ) → Type 0
StandsTo Read quiet seen text ended st rest = Run quiet st seen text rest × ((took_of st rest).how ≡ Wait)
StandsTo Judge quiet seen text ended st rest = Run quiet st seen text rest
StandsTo (Tell v) quiet seen text ended st rest = Prints quiet ended seen (text ++ verdict_line (verdict_of v))
StandsTo Done quiet seen text ended st rest = Prints quiet ended seen text

abbrev pub Stands : (quiet : Bool) → (seen text : List ℕ) → Turn → (buffer : List ℕ) → Type 0
Stands quiet seen text at buffer = StandsTo at.next quiet seen text at.ended at.state (take at.have buffer)

-- a turn keeps that, with the bytes that it read behind those that were left over, and with the text that it puts at the start of the lent room
abbrev pub Turned : (quiet : Bool) → (at : Turn) → (buffer : List ℕ) → (r : Turn) → (after room : List ℕ) → Type 0
Turned quiet at buffer r after room =
    (seen text : List ℕ) → Stands quiet seen text at buffer → Stands quiet (seen ++ drop at.have (take r.have after)) (text ++ take r.wrote room) r after

-- turns one after the other, from the first: `seen` is all that they read, `text` all that they put
pub data Went (quiet : Bool) : Turn → (buffer seen text : List ℕ) → Type 0 where
  begins : (buffer : List ℕ) → Went quiet first_turn buffer [] []
  turns : {at : Turn} {buffer seen text : List ℕ} → Went quiet at buffer seen text → (r : Turn) (after room : List ℕ) → Turned quiet at buffer r after room →
      Went quiet r after (seen ++ drop at.have (take r.have after)) (text ++ take r.wrote room)

-- what is left over is in the buffer, and where more is to be read there is room behind it: a read into no room would look like the end of the input
abbrev pub Fits : Turn → (size : ℕ) → Type 0
Fits at size = (at.have ≤ size) × (at.next ≡ Read → at.have < size)
