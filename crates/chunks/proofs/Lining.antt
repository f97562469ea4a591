-- The lines of many entries, where there is room for all.
use Rattle.std.proofs.Common.{◌≡◌, ℕ, ◌-◌, ◌*◌, ◌≤◌, List, length, arith}
use Rattle.lines.specs.Written.{Lined}
use Rattle.lines.specs.Runs.{lines_at, line_count}
use Rattle.bank.specs.declared.Record.{Record}
use Rattle.chunks.specs.Parts.{stands_in, lines_of}

pub lines_all : (k : ℕ) (rec : Record) (bs old new : List ℕ) (r : ℕ) → 10 * k ≤ length bs → 24 * k ≤ length old - 40
    → Lined (lines_at rec.card.sleeps rec.card.paired (line_count k (length bs) (length old)) (stands_in rec) bs) old new r → Lined (lines_of k rec bs) old new r
unfolding lines_of
lines_all k rec bs old new r h room l =
    let all : line_count k (length bs) (length old) ≡ k = omega arith in
    rw all at l
