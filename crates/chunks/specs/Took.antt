-- What one field makes of a state. The tests of a field are those of the rules (`Form.head_of`), those of its value the card's (`read_refusal`), the checks of an
-- entry and of an end those of a lent record (`step_refusal`, `close_refusal`).
use Rattle.std.specs.Prelude.{ℕ, ◌+◌, ◌%◌, ◌^◌, Bool, cond, List, [], ◌∷◌, ◌==◌}
use Rattle.std.proofs.Math.Option.{Option, none, some}
use Rattle.rules.specs.Checks.{Refusal}
use Rattle.rules.specs.Form.{Field, size_of, sleep_tags, timing_of, of_entry, Head, whole, cut, bad_tag, bad_length, head_of, entry_of, end_of}
use Rattle.rules.specs.Lent.{step_refusal, close_refusal, moved_on}
use Rattle.card.specs.declared.Card.{Card}
use Rattle.card.specs.Values.{card_of}
use Rattle.card.specs.Reading.{number_for, put, read_refusal}
use Rattle.ledger.specs.declared.Ledger.{Ledger}
use Rattle.ledger.specs.declared.Pace.{Pace}
use Rattle.ledger.specs.Values.{ledger_of, code_of, pace_of}
use Rattle.bank.specs.declared.Ledgers.{Ledgers}
use Rattle.bank.specs.declared.Record.{Record}
use Rattle.bank.specs.Values.{lent_of, fresh_of}
use Rattle.bank.specs.After.{with_ledger}
use Rattle.bank.specs.Both.{ledgers_as}
use Rattle.step.specs.Values.{record_with}
use Rattle.step.specs.Runs.{commands_by, refreshes_by}
use Rattle.chunks.specs.declared.State.{State}
use Rattle.chunks.specs.declared.Verdict.{Verdict}
use Rattle.chunks.specs.declared.Verdict.TheVariants.{Refused}

-- what the bytes at a place are: a whole field of so many bytes, one whose rest is not there yet, or the end of the judging
pub data Move : Type 0 where
  On : (size : ℕ) → Move
  Wait : Move
  End : Verdict → Move

-- and the state then
pub record Took : Type 0 where
  pub how : Move
  pub state : State

abbrev pub took_as : Move → State → Took
took_as m st = record { how = m; state = st }

-- in 64 bits; no run from a fresh state comes to them (`judge`, proofs/Near)
unfoldable pub wrapped : ℕ → ℕ
wrapped x = x % 2 ^ 64

-- a refusal here leaves the state as it was
unfoldable pub refused_here : State → Refusal → Took
refused_here st x = took_as (End (Refused x.number x.rule st.offset x.cycle)) st

unfoldable pub refused_by : ℕ → State → Took
refused_by k st = took_as (End (Refused k 0 st.offset 0)) st

-- with the tag that is expected in the rule place
unfoldable pub refused_tag : (number expected : ℕ) → State → Took
refused_tag k e st = took_as (End (Refused k e st.offset 0)) st

-- ---- a card's field
unfoldable pub card_after : State → Field → State
card_after st f = record {
  tag = f.tag;
  rec = fresh_of (put st.rec.card f.tag (number_for f.tag f.value) (timing_of f.value));
  commands = st.commands;
  refreshes = st.refreshes;
  offset = wrapped (st.offset + size_of f);
}

unfoldable pub card_took : State → Field → Took
card_took st f = elim (read_refusal st.rec.card st.rec.last.seen st.tag f.tag f.value) [ none ↦ took_as (On (size_of f)) (card_after st f) | some x ↦ refused_here st x ]

-- ---- an entry, of pins or a temperature
unfoldable pub entry_after : State → Field → State
entry_after st f = record {
  tag = st.tag;
  rec = record_with st.rec (entry_of f);
  commands = wrapped (st.commands + commands_by st.rec (entry_of f));
  refreshes = wrapped (st.refreshes + refreshes_by st.rec (entry_of f));
  offset = wrapped (st.offset + size_of f);
}

unfoldable pub entry_refused : State → Field → Option Refusal
entry_refused st f = step_refusal (lent_of st.rec) (entry_of f)

unfoldable pub entry_took : State → Field → Took
entry_took st f = elim (entry_refused st f) [ none ↦ took_as (On (size_of f)) (entry_after st f) | some x ↦ refused_here st x ]

-- ---- the end: the record's ledgers then stand at E, that of a part which is not there as it stood
unfoldable pub record_closed : Record → Ledgers → Record
record_closed rec g = record { card = rec.card; last = rec.last; pace = rec.pace; first = with_ledger rec.first g.first; second = with_ledger rec.second g.second }

abbrev pub ledger_end : Card → Pace → (end : ℕ) → Ledger → Ledger
ledger_end card pace end g = code_of (moved_on (card_of card) (pace_of pace) (ledger_of g) end)

unfoldable pub ledgers_end : Record → (end : ℕ) → Ledgers
ledgers_end rec end =
    let there = ledger_end rec.card rec.pace end in
    ledgers_as (there rec.first.ledger) (cond rec.card.paired (there rec.second.ledger) rec.second.ledger)

unfoldable pub end_after : State → Field → State
end_after st f = record {
  tag = 33;
  rec = record_closed st.rec (ledgers_end st.rec (end_of f));
  commands = st.commands;
  refreshes = st.refreshes;
  offset = wrapped (st.offset + size_of f);
}

unfoldable pub end_took : State → Field → Took
end_took st f = elim (close_refusal (lent_of st.rec) (end_of f)) [ none ↦ took_as (On (size_of f)) (end_after st f) | some x ↦ refused_here st x ]

-- ---- any field
unfoldable pub field_took : State → Field → Took
field_took st f = cond (of_entry f.tag) (entry_took st f) (cond (f.tag == 33) (end_took st f) (card_took st f))

unfoldable pub head_took : State → Head → Took
head_took st cut = took_as Wait st
head_took st (bad_tag x) = refused_tag x.number x.rule st
head_took st bad_length = refused_by 3 st
head_took st (whole f rest) = field_took st f

-- behind the end field any byte is 12
unfoldable pub behind_took : State → List ℕ → Took
behind_took st [] = took_as Wait st
behind_took st (b ∷ bs) = refused_by 12 st

-- fields of the card for the tests of the next tag: they look at the newest one's and at whether 19 was read, and at nothing else. Tag 0 stands for none
unfoldable pub tagged : ℕ → Field
tagged t = record { tag = t; high = 0; low = 0; value = [] }

unfoldable pub newest : (last : ℕ) → (sleeps : Bool) → List Field
newest t s = tagged t ∷ cond s (tagged sleep_tags.first ∷ []) []

abbrev pub read_in : State → List Field
read_in st = newest st.tag st.rec.card.sleeps

unfoldable pub head_at : State → List ℕ → Head
head_at st bs = head_of st.rec.last.seen (read_in st) bs

unfoldable pub took_of : State → List ℕ → Took
took_of st bs = cond (st.tag == 33) (behind_took st bs) (head_took st (head_at st bs))
