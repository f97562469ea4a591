-- The judge of the definitions is the rules' judge: the verdict of a whole file, and its lines.
use Prim.Native.Nat.{ℕ, suc, ◌+◌, ◌*◌, ◌≤◌, ◌<◌}
use mathlib.Core.Path.{◌≡◌, refl}
use mathlib.Core.Bool.{true, false}
use mathlib.Core.List.{List, ◌++◌}
use native.Mathlib.Omega.{arith}
use lib.ListN.{length}
use Rattle.rules.specs.Past.{Past}
use Rattle.rules.specs.Form.{Field}
use Rattle.rules.specs.File.{file_from, judged, judge_file}
use Rattle.rules.specs.Lines.{entry_lines, verdict_line, lines_of}
use Rattle.chunks.specs.declared.State.{State}
use Rattle.chunks.specs.declared.What.TheVariants.{Full}
use Rattle.chunks.specs.Values.{verdict_of}
use Rattle.chunks.specs.Heard.{start_of, heard_from, heard_of, over_at, finished_of}
use Rattle.chunks.proofs.Bytes.{Bytes}
use Rattle.judge.proofs.Stands.{Stands, start_stands}
use Rattle.judge.proofs.Agrees.{Agree, agree}
use Rattle.judge.proofs.Room.{quiet_goes, roomy_goes}

-- ---- from any state that stands for what was read
module _ {st : State} {fs : List Field} {past : Past} {at : ℕ} (s : Stands st fs past at) (bs : List ℕ) (b : Bytes bs) where
  pub finished_from : verdict_of (finished_of st bs) ≡ (file_from (suc (length bs)) fs past at bs).verdict
  unfolding finished_of heard_of
  finished_from =
      let k = suc (length bs) in
      (agree k k true 0 bs s b (omega arith) (omega arith) (quiet_goes k 0 st bs)).verdict

  pub lines_from : (k room : ℕ) → length bs < k → 64 + 64 * length bs ≤ room → Agree false past (heard_from k false room st bs) (file_from (suc (length bs)) fs past at bs)
  lines_from k room h r = agree k (suc (length bs)) false room bs s b h (omega arith) (roomy_goes k false room bs s b r)

-- ---- from the first byte
pub judged_is : (bs : List ℕ) → Bytes bs → verdict_of (finished_of start_of bs) ≡ judge_file bs
unfolding judge_file judged
judged_is bs b = finished_from start_stands bs b

-- where a run with lines does not lack room, its text and then its verdict are the lines of the file
pub lines_unless_full : (bs : List ℕ) → Bytes bs → (k room : ℕ) → length bs < k → ((heard_from k false room start_of bs).what ≡ Full → ⊥) →
    (heard_from k false room start_of bs).text ++ verdict_line (verdict_of (over_at (heard_from k false room start_of bs).state (heard_from k false room start_of bs).what))
    ≡ lines_of bs
unfolding lines_of judged entry_lines
lines_unless_full bs b k room h nf =
    let a = agree k (suc (length bs)) false room bs start_stands b h (omega arith) nf in
    rw (a.verdict, a.lines refl)

pub lines_are : (bs : List ℕ) → Bytes bs → (k room : ℕ) → length bs < k → 64 + 64 * length bs ≤ room →
    (heard_from k false room start_of bs).text ++ verdict_line (verdict_of (over_at (heard_from k false room start_of bs).state (heard_from k false room start_of bs).what))
    ≡ lines_of bs
lines_are bs b k room h r = lines_unless_full bs b k room h (roomy_goes k false room bs start_stands b r)
