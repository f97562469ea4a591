-- The parts of one field's taking: the field that some bytes are, its head, what the code answers of it, the state behind it; and many entries at once.
use Rattle.std.specs.Prelude.{◌≡◌, ℕ, ◌+◌, ◌-◌, ◌≤◌, Bool, true, false, cond, List, [], length, drop, slice_index, Option, Some, None, IsSome, Result, Ok, Err}
use Rattle.rules.specs.Form as form
use Rattle.rules.specs.Checks.{Refusal, refusal}
use Rattle.card.specs.declared.Unread.{Unread}
use Rattle.card.specs.declared.Unread.TheVariants.{Tag, Length, Value}
use Rattle.card.specs.Tags.{wrong_of}
use Rattle.pins.specs.Values.{level_of}
use Rattle.pins.specs.Fronts.{front_of}
use Rattle.lines.specs.Written.{Lined}
use Rattle.lines.specs.Runs.{Standing, standing, lines_at}
use Rattle.bank.specs.declared.Ledgers.{Ledgers}
use Rattle.bank.specs.declared.Record.{Record}
use Rattle.step.specs.declared.Ran.{Ran}
use Rattle.step.specs.Runs.{takes}
use Rattle.chunks.specs.declared.State.{State}
use Rattle.chunks.specs.declared.What.{What}
use Rattle.chunks.specs.declared.Fed.{Fed}
use Rattle.chunks.specs.declared.Verdict.{Verdict}
use Rattle.chunks.specs.declared.Verdict.TheVariants.{Refused}
use Rattle.chunks.specs.declared.numbers.Numbers.{Numbers}
use Rattle.chunks.specs.declared.fields.Taken.{Taken}
use Rattle.chunks.specs.declared.leaps.Ahead.{Ahead}
use Rattle.chunks.specs.Took.{On, Wait, Took, took_as, refused_here, wrapped, record_closed}
use Rattle.chunks.specs.Heard.{behind, heard_of}

unfoldable pub field_in : List ℕ → form.Field
field_in bs = record { tag = slice_index bs 0; high = slice_index bs 1; low = slice_index bs 2; value = drop 3 bs }

-- ---- what the code answers
unfoldable pub refusal_in : Numbers → Refusal
refusal_in x = refusal x.number x.rule x.cycle

-- of a card's field
unfoldable pub unread_as : Unread → Refusal
unread_as (Tag w) = wrong_of w
unread_as Length = refusal 3 0 0
unread_as Value = refusal 4 0 0

unfoldable pub verdict_at : (offset : ℕ) → Refusal → Verdict
verdict_at k x = Refused x.number x.rule k x.cycle

-- of a head: the size of a whole field, none where its rest is not there yet, or a refusal
unfoldable pub head_as : form.Head → Result (Option ℕ) Refusal
head_as (form.whole f rest) = Ok (Some (form.size_of f))
head_as form.cut = Ok None
head_as (form.bad_tag x) = Err (refusal x.number x.rule 0)
head_as form.bad_length = Err (refusal 3 0 0)

unfoldable pub head_in : Result (Option ℕ) Unread → Result (Option ℕ) Refusal
head_in (Ok n) = Ok n
head_in (Err x) = Err (unread_as x)

-- of a whole field of n bytes: the state behind it
unfoldable pub whole_as : State → (n : ℕ) → Result State Numbers → Took
whole_as st n (Ok next) = took_as (On n) next
whole_as st n (Err x) = refused_here st (refusal_in x)

-- of any bytes: the field taken, or none where its rest is not there yet
unfoldable pub took_in : State → Result (Option Taken) Numbers → Took
took_in st (Ok (Some t)) = took_as (On t.size) t.state
took_in st (Ok None) = took_as Wait st
took_in st (Err x) = refused_here st (refusal_in x)

-- some bytes are the field of an entry of pins, and a record does not take it
pub record NotTaken (rec : Record) (bs : List ℕ) : Type 0 where
  pub size : length bs ≡ 10
  pub whole : IsSome (front_of bs)
  pub refused : takes rec bs ≡ false

-- the state behind the end, with the ledgers then
unfoldable pub end_on : State → Ledgers → State
end_on st g = record {
  tag = 33;
  rec = record_closed st.rec g;
  commands = st.commands;
  refreshes = st.refreshes;
  offset = wrapped (st.offset + 7);
}

-- ---- some entries at once
-- what is heard from here on is these bytes and lines, and then what is heard from this state
abbrev pub Leads : (quiet : Bool) → (room : ℕ) → State → List ℕ → (n : ℕ) → (lines : List ℕ) → State → Type 0
Leads q room st bs n lines next = heard_of q room st bs ≡ behind n lines (heard_of q (room - length lines) next (drop n bs))

-- what the lines go by of a record that takes these entries
abbrev pub stands_in : Record → Standing
stands_in rec = standing (level_of rec.first.ledger.level) rec.first.counter rec.second.counter

unfoldable pub lines_of : (count : ℕ) → Record → List ℕ → List ℕ
lines_of k rec bs = lines_at rec.card.sleeps rec.card.paired k (stands_in rec) bs

unfoldable pub lines_if : (quiet : Bool) → (count : ℕ) → Record → List ℕ → List ℕ
lines_if q k rec bs = cond q [] (lines_of k rec bs)

-- the state behind a run
unfoldable pub state_with : State → Ran Record → State
state_with st r = record {
  tag = st.tag;
  rec = r.rec;
  commands = wrapped (st.commands + r.commands);
  refreshes = wrapped (st.refreshes + r.refreshes);
  offset = wrapped (st.offset + r.used);
}

abbrev pub entry_may_come : State → Bool
entry_may_come st = form.may_follow st.rec.last.seen st.tag 32

-- no entry of pins that is taken stands here
abbrev pub NoneHere : State → List ℕ → Type 0
NoneHere st bs = entry_may_come st ≡ true → takes st.rec bs ≡ false

abbrev pub wrote_by : Option Ahead → ℕ
wrote_by None = 0
wrote_by (Some a) = a.wrote

-- some bytes further on, with their lines written; or nothing, where no entry that is taken stands here
pub record Leapt (q : Bool) (st : State) (bs old new : List ℕ) (r : Option Ahead) : Type 0 where
  pub lines : List ℕ
  pub put : Lined lines old new (wrote_by r)
  pub some : (a : Ahead) → r ≡ Some a → (1 ≤ a.used) × (a.used ≤ length bs) × Leads q (length old) st bs a.used lines a.state
  pub none : r ≡ None → (lines ≡ []) × NoneHere st bs

abbrev pub fed_of : What → (used wrote : ℕ) → State → Fed
fed_of w u n st = record { what = w; used = u; wrote = n; state = st }
