-- What a run of bytes does: all its whole fields, one after the other, with the lines of its entries; and the verdict where no more bytes come.
use Rattle.std.specs.Prelude.{◌≡◌, ℕ, zero, suc, ◌+◌, ◌-◌, Bool, true, cond, ◌||◌, List, [], ◌++◌, length, drop, ◌==◌, nat_le}
use Rattle.rules.specs.Form.{Field, Head, whole, cut, bad_tag, bad_length, entry_of}
use Rattle.rules.specs.Entries.{whose_of}
use Rattle.rules.specs.Lent.{own_in, command_in}
use Rattle.rules.specs.Lines.{entry_line}
use Rattle.card.specs.Reading.{blank_card}
use Rattle.lines.specs.declared.Owed.{Owed}
use Rattle.lines.specs.declared.Owed.TheVariants.{One, Two}
use Rattle.bank.specs.declared.Record.{Record}
use Rattle.bank.specs.Values.{lent_of, fresh_of}
use Rattle.chunks.specs.declared.State.{State}
use Rattle.chunks.specs.declared.Fed.{Fed}
use Rattle.chunks.specs.declared.What.{What}
use Rattle.chunks.specs.declared.What.TheVariants.{More, Full, Over}
use Rattle.chunks.specs.declared.Verdict.{Verdict}
use Rattle.chunks.specs.declared.Verdict.TheVariants.{Accepted, Refused}
use Rattle.chunks.specs.Took.{On, Wait, End, head_at, took_of}

-- before the first byte
unfoldable pub start_of : State
start_of = record { tag = 0; rec = fresh_of blank_card; commands = 0; refreshes = 0; offset = 0 }

-- ---- lines
-- the line of an entry of pins; no other field has one
unfoldable pub field_line : State → Field → List ℕ
field_line st f =
    let l = lent_of st.rec in
    let e = entry_of f in
    cond (f.tag == 32) (entry_line e.stamp (command_in l e) (whose_of l.card e) (own_in l e).counter) []

unfoldable pub head_line : State → Head → List ℕ
head_line st cut = []
head_line st (bad_tag x) = []
head_line st bad_length = []
head_line st (whole f rest) = field_line st f

unfoldable pub line_of : State → List ℕ → List ℕ
line_of st bs = head_line st (head_at st bs)

-- ---- a run of bytes
pub record Heard : Type 0 where
  pub what : What
  pub used : ℕ
  pub text : List ℕ
  pub state : State

abbrev pub heard : What → State → Heard
heard w st = record { what = w; used = 0; text = []; state = st }

-- a field of n bytes and its line come first
unfoldable pub behind : ℕ → List ℕ → Heard → Heard
behind n line h = record { what = h.what; used = n + h.used; text = line ++ h.text; state = h.state }

-- at most k fields; quiet: without lines; else there is room for this many bytes of them, and a field is taken only where 64 are left
unfoldable pub heard_from : ℕ → (quiet : Bool) → (room : ℕ) → State → List ℕ → Heard
heard_from zero q room st bs = heard More st
heard_from (suc k) q room st bs =
    let line = cond q [] (line_of st bs) in
    cond (q || nat_le 64 room)
    (elim (took_of st bs).how [
      | On n ↦ behind n line (heard_from k q (room - length line) (took_of st bs).state (drop n bs))
      | Wait ↦ heard More st
      | End v ↦ heard (Over v) st
    ])
    (heard Full st)

-- a run of bytes has fewer fields than bytes
unfoldable pub heard_of : (quiet : Bool) → (room : ℕ) → State → List ℕ → Heard
heard_of q room st bs = heard_from (suc (length bs)) q room st bs

-- what a call answers, and the lent room then
pub record FedAs (h : Heard) (old new : List ℕ) (r : Fed) : Type 0 where
  pub what : r.what ≡ h.what
  pub used : r.used ≡ h.used
  pub wrote : r.wrote ≡ length h.text
  pub state : r.state ≡ h.state
  pub memory : new ≡ h.text ++ drop (length h.text) old

-- ---- where no more bytes come
-- by each part that there is
unfoldable pub owed_of : Record → Owed
owed_of rec = cond rec.card.paired (Two rec.first.ledger.owed rec.second.ledger.owed) (One rec.first.ledger.owed)

unfoldable pub ended_at : State → Verdict
ended_at st = cond (st.tag == 33) (Accepted st.commands st.refreshes (owed_of st.rec)) (Refused 1 0 st.offset 0)

unfoldable pub over_at : State → What → Verdict
over_at st More = ended_at st
over_at st Full = ended_at st
over_at st (Over v) = v

unfoldable pub finished_of : State → List ℕ → Verdict
finished_of st bs = let h = heard_of true 0 st bs in over_at h.state h.what
