-- A run is a run of single fields, each an entry that is taken.
use Rattle.std.specs.Prelude.{Some, None, is_some}
use Rattle.std.proofs.Common.{◌≡◌, ℕ, zero, suc, ◌+◌, ◌-◌, ◌*◌, ◌/◌, ◌^◌, ◌<◌, ◌≤◌, Bool, true, false, cond, List, [], ◌++◌, length, take, drop, refl, ap, ◌∙◌, add-zero, arith, length-drop, length-take-le, get_or-take, w64, Fits, eq-eqb, ne_eqb, le-leb}
use mathlib.Core.Option.{none}
use Rattle.rules.specs.Levels.{Read}
use Rattle.rules.specs.Entries.{whose_body, whose_of, recorded_as}
use Rattle.rules.specs.Form as form
use Rattle.rules.specs.Lent.{lent_good, command_in, step_refusal}
use Rattle.rules.proofs.Sound.{step_passed}
use Rattle.card.specs.declared.Card.{Card}
use Rattle.card.specs.Values.{card_of}
use Rattle.pins.specs.Fronts.{front_of}
use Rattle.bank.specs.declared.Record.{Record}
use Rattle.bank.specs.Values.{lent_of}
use Rattle.bank.specs.After.{record_after}
use Rattle.bank.proofs.Remembered.{bank_low}
use Rattle.bank.proofs.Changed.{recorded_bank}
use Rattle.step.specs.declared.Ran.{Ran}
use Rattle.step.specs.Values.{record_with}
use Rattle.step.specs.Runs.{front_at, entry_at, takes, commands_by, refreshes_by, ran, behind, run_of}
use Rattle.step.proofs.Onward.{taken_if}
use Rattle.lines.specs.Written.{Lined}
use Rattle.lines.proofs.Puts.{lined_nothing}
use Rattle.lines.specs.Runs.{Standing, counter_for, line_at, next_at, lines_at}
use Rattle.chunks.specs.declared.State.{State}
use Rattle.chunks.specs.Took.{On, Took, took_as, entry_after, entry_refused, entry_took, field_took, head_took, read_in, head_at, took_of}
use Rattle.chunks.specs.Heard.{field_line, head_line, line_of}
use Rattle.chunks.specs.Parts.{field_in, stands_in, lines_of, lines_if, Leads, state_with, entry_may_come, NoneHere, Leapt}
use Rattle.chunks.proofs.Bytes.{Bytes, bytes_drop, four_small}
use Rattle.chunks.proofs.Wraps.{wrapped_is, wrapped_small, wrapped_twice}
use Rattle.chunks.proofs.Sizes.{size_in}
use Rattle.chunks.proofs.Fronts.{Fronted, come_as, still_comes, not_behind_lem}
use Rattle.chunks.proofs.Entries.{front_is, room, front_tag, entry_fronted, entry_part}
use Rattle.chunks.proofs.Short.{entry_short}
use Rattle.chunks.proofs.Turns.{has_room, line_if}
use Rattle.chunks.proofs.Leads.{leads_nowhere, leads_on, leads_then}
use Rattle.chunks.proofs.Stood.{whose_in, read_by, part_low, counter_by, counter_low, read_by_lem, stands_after}

-- numbers of the state that 64 bits hold
pub record Small (st : State) : Type 0 where
  pub commands : st.commands < 2 ^ 64
  pub refreshes : st.refreshes < 2 ^ 64
  pub offset : st.offset < 2 ^ 64

-- as a state of the code tells it
pub small_by : (st : State) → Fits w64 st.commands → Fits w64 st.refreshes → Fits w64 st.offset → Small st
small_by st c r o = record { commands = omega arith; refreshes = omega arith; offset = omega arith }

-- ---- one entry
module _ (st : State) (bs : List ℕ) (comes : entry_may_come st ≡ true) (b : Bytes bs) (go : takes st.rec bs ≡ true) where
  parts : (is_some (front_of bs) ≡ true) × (step_refusal (lent_of st.rec) (entry_at bs) ≡ none)
  parts = taken_if st.rec bs go

  long : 10 ≤ length bs
  long = room bs parts.0

  good : lent_good (lent_of st.rec) ≡ true
  good = (step_passed (lent_of st.rec) (entry_at bs) parts.1).good

  abbrev field : form.Field
  field = field_in (take 10 bs)

  fronted : Fronted st.rec.last.seen (read_in st) bs 10
  fronted = entry_fronted bs parts.0 st.rec.last.seen (read_in st) (come_as st.rec.last.seen st.tag st.rec.card.sleeps 32 ∙ comes)

  entry_is : form.entry_of field ≡ entry_at bs
  entry_is = entry_part bs parts.0

  tag_is : field.tag ≡ 32
  unfolding field_in
  tag_is = get_or-take 10 bs 0 0 (omega arith) ∙ front_tag bs parts.0

  size_is : form.size_of field ≡ 10
  size_is = let e = length-take-le 10 bs long in size_in (take 10 bs) (rw e (omega arith)) ∙ e

  abbrev stands : Standing
  stands = stands_in st.rec

  abbrev here : Read
  here = read_by st.rec bs

  abbrev counter : ℕ
  counter = counter_for (whose_in st.rec bs) st.rec.first.counter st.rec.second.counter

  -- the state behind it
  abbrev pub next : State
  next = state_with st (ran (record_with st.rec (entry_at bs)) 10 (commands_by st.rec (entry_at bs)) (refreshes_by st.rec (entry_at bs)))

  after_is : entry_after st field ≡ next
  unfolding entry_after state_with
  after_is = rw (entry_is, size_is)

  took_here : took_of st bs ≡ took_as (On 10) next
  unfolding took_of head_at head_took field_took entry_took entry_refused form.of_entry
  took_here = rw (
    ne_eqb st.tag 33 (not_behind_lem st.rec.last.seen st.tag comes),
    fronted.is,
    head_took,
    field_took,
    form.of_entry,
    eq-eqb field.tag 32 tag_is,
    entry_took,
    entry_is,
    parts.1,
    size_is,
    after_is,
  )

  abbrev card : Card
  card = st.rec.card

  line_here : line_of st bs ≡ line_at card.sleeps card.paired stands bs
  unfolding line_of head_at head_line field_line line_at command_in whose_of whose_body
  line_here =
      rw (fronted.is, head_line, field_line, eq-eqb field.tag 32 tag_is, entry_is, read_by_lem st.rec bs good, counter_by st.rec bs)
      (unfold lent_of card_of in refl)

  line_short : length (line_at card.sleeps card.paired stands bs) ≤ 24
  unfolding line_at
  line_short =
      entry_short (front_at bs).stamp (recorded_as here) (whose_in st.rec bs) counter
      (rw (front_is bs parts.0) (four_small (drop 3 bs) (bytes_drop 3 bs b)))
      (bank_low (recorded_as here) counter (counter_low st.rec bs good) (recorded_bank card.sleeps card.paired stands.level (front_at bs).pins))
      (part_low st.rec bs)

  next_stands : stands_in next.rec ≡ next_at card.sleeps card.paired stands bs
  unfolding state_with next_at
  next_stands = stands_after st.rec bs parts.1

  next_card : next.rec.card ≡ card
  unfolding state_with record_with record_after
  next_card = refl

  next_comes : entry_may_come next ≡ true
  unfolding state_with record_with record_after
  next_comes = still_comes st.rec.last.seen st.tag comes

  next_small : Small next
  unfolding state_with
  next_small = record { commands = wrapped_small _; refreshes = wrapped_small _; offset = wrapped_small _ }

-- ---- a run of them
pub record Ranged (q : Bool) (room : ℕ) (st : State) (bs : List ℕ) (most : ℕ) (r : Ran Record) : Type 0 where
  pub count : ℕ
  pub used : r.used ≡ 10 * count
  pub few : count ≤ most
  pub inside : 10 * count ≤ length bs
  pub leads : Leads q room st bs r.used (lines_if q count st.rec bs) (state_with st r)
  -- where it may take an entry and takes none, none is taken here
  pub stops : 1 ≤ most → r.used ≡ 0 → takes st.rec bs ≡ false

nothing : (q : Bool) (rec : Record) (bs : List ℕ) → lines_if q 0 rec bs ≡ []
unfolding lines_if lines_of lines_at
nothing true rec bs = refl
nothing false rec bs = refl

stays : (st : State) → Small st → state_with st (ran st.rec 0 0 0) ≡ st
unfolding state_with
stays st s = λ i. record {
  tag = st.tag;
  rec = st.rec;
  commands = (wrapped_is (st.commands + 0) (let h = s.commands in omega arith) ∙ add-zero st.commands) i;
  refreshes = (wrapped_is (st.refreshes + 0) (let h = s.refreshes in omega arith) ∙ add-zero st.refreshes) i;
  offset = (wrapped_is (st.offset + 0) (let h = s.offset in omega arith) ∙ add-zero st.offset) i;
}

ranged_nowhere : (q : Bool) (room : ℕ) (st : State) (bs : List ℕ) (most : ℕ) → Small st → (1 ≤ most → takes st.rec bs ≡ false) → Ranged q room st bs most (ran st.rec 0 0 0)
ranged_nowhere q room st bs most s gone = record {
  count = 0;
  used = refl;
  few = omega arith;
  inside = omega arith;
  leads = rw (nothing q st.rec bs, stays st s) (leads_nowhere q room st bs);
  stops = λ h z. gone h;
}

one_line : (q : Bool) (st : State) (bs : List ℕ) (k : ℕ) (next : Record) → line_of st bs ≡ line_at st.rec.card.sleeps st.rec.card.paired (stands_in st.rec) bs →
    stands_in next ≡ next_at st.rec.card.sleeps st.rec.card.paired (stands_in st.rec) bs → next.card ≡ st.rec.card →
    line_if q st bs ++ lines_if q k next (drop 10 bs) ≡ lines_if q (suc k) st.rec bs
unfolding lines_if lines_of lines_at
one_line true st bs k next e f g = refl
one_line false st bs k next e f g = rw (e, f, g)

line_if_short : (q : Bool) (st : State) (bs line : List ℕ) → line_of st bs ≡ line → length line ≤ 24 → length (line_if q st bs) ≤ 24
line_if_short true st bs line e h = omega arith
line_if_short false st bs line e h = rw e h

has_room_lem : (q : Bool) (room k : ℕ) → (q ≡ false → 24 * suc k ≤ room - 40) → has_room q room ≡ true
has_room_lem true room k h = refl
has_room_lem false room k h = let l = h refl in le-leb 64 room (omega arith)

-- the states add up
add_up : (st : State) (rec : Record) (u m n : ℕ) (r : Ran Record) → state_with (state_with st (ran rec u m n)) r ≡ state_with st (behind u m n r)
unfolding state_with
add_up st rec u m n r = λ i. record {
  tag = st.tag;
  rec = r.rec;
  commands = wrapped_twice st.commands m r.commands i;
  refreshes = wrapped_twice st.refreshes n r.refreshes i;
  offset = wrapped_twice st.offset u r.used i;
}

module _ (k : ℕ) (q : Bool) (room : ℕ) (st : State) (bs : List ℕ) (comes : entry_may_come st ≡ true) (b : Bytes bs) (wide : q ≡ false → 24 * suc k ≤ room - 40)
    (go : takes st.rec bs ≡ true) where
  abbrev then : State
  then = next st bs comes b go

  first : Leads q room st bs 10 (line_if q st bs) then
  first =
      let t = took_here st bs comes b go in
      rw (ap (λ (x : Took). x.state) t) at (leads_on q room st bs 10 (has_room_lem q room k wide) (ap (λ (x : Took). x.how) t))

  still_wide : q ≡ false → 24 * k ≤ room - length (line_if q st bs) - 40
  still_wide e =
      let h = wide e in
      let s = line_if_short q st bs _ (line_here st bs comes b go) (line_short st bs comes b go) in
      omega arith

  ranged_on : (r : Ran Record) → Ranged q (room - length (line_if q st bs)) then (drop 10 bs) k r →
      Ranged q room st bs (suc k) (behind 10 (commands_by st.rec (entry_at bs)) (refreshes_by st.rec (entry_at bs)) r)
  ranged_on r g =
      let u = g.used in
      let f = g.few in
      let i : 10 * g.count ≤ length bs - 10 = rw length-drop at g.inside in
      let l = long st bs comes b go in
      record {
        count = suc g.count;
        used = omega arith;
        few = omega arith;
        inside = omega arith;
        leads =
            rw (
              ← one_line q st bs g.count then.rec (line_here st bs comes b go) (next_stands st bs comes b go) (next_card st bs comes b go),
              ← add_up st (record_with st.rec (entry_at bs)) 10 (commands_by st.rec (entry_at bs)) (refreshes_by st.rec (entry_at bs)) r,
            )
            (leads_then q room st bs 10 r.used (line_if q st bs) (lines_if q g.count then.rec (drop 10 bs)) then (state_with then r) first g.leads);
        stops = λ h z. absurd (omega arith);
      }

module _ (k : ℕ) (q : Bool) (room : ℕ) (st : State) (bs : List ℕ) (comes : entry_may_come st ≡ true) (b : Bytes bs) (small : Small st) (wide : q ≡ false → 24 * suc k ≤ room - 40)
    (rest : (go : takes st.rec bs ≡ true) → let then = next st bs comes b go in
    Ranged q (room - length (line_if q st bs)) then (drop 10 bs) k (run_of k then.rec (drop 10 bs))) where
  ranged_by : (x : Bool) → takes st.rec bs ≡ x →
      Ranged q room st bs (suc k)
      (let e = entry_at bs in
      cond x (behind 10 (commands_by st.rec e) (refreshes_by st.rec e) (run_of k (record_with st.rec e) (drop 10 bs))) (ran st.rec 0 0 0))
  ranged_by false go = ranged_nowhere q room st bs (suc k) small (λ h. go)
  ranged_by true go = ranged_on k q room st bs comes b wide go (run_of k (record_with st.rec (entry_at bs)) (drop 10 bs)) (unfold state_with in rest go)

pub ranged : (k : ℕ) (q : Bool) (room : ℕ) (st : State) (bs : List ℕ) → entry_may_come st ≡ true → Bytes bs → Small st → (q ≡ false → 24 * k ≤ room - 40) →
    Ranged q room st bs k (run_of k st.rec bs)
unfolding run_of
ranged zero q room st bs comes b small wide = ranged_nowhere q room st bs 0 small (λ h. absurd (omega arith))
ranged (suc k) q room st bs comes b small wide =
    ranged_by k q room st bs comes b small wide
    (λ go.
    ranged k q (room - length (line_if q st bs)) (next st bs comes b go) (drop 10 bs) (next_comes st bs comes b go) (bytes_drop 10 bs b) (next_small st bs comes b go)
    (still_wide k q room st bs comes b wide go))
    (takes st.rec bs) refl

-- ---- as the code has it
module _ (q : Bool) (st : State) (bs old : List ℕ) where
  pub leapt_nowhere : NoneHere st bs → Leapt q st bs old old None
  leapt_nowhere n = record {
    lines = [];
    put = lined_nothing old;
    some = λ a e. absurd cc;
    none = λ e. (refl, n);
  }

  module _ {most : ℕ} {r : Ran Record} (g : Ranged q (length old) st bs most r) where
    pub asks : (q ≡ false → 24 * most ≤ length old - 40) → (10 * (r.used / 10) ≤ length bs) × (q ≡ false → 24 * (r.used / 10) ≤ length old - 40)
    asks h =
        let u = g.used in
        let f = g.few in
        let i = g.inside in
        (omega arith, λ e. let w = h e in omega arith)

    pub leapt : (new : List ℕ) (wrote : ℕ) → (r.used ≡ 0 → ⊥) → Lined (lines_if q (r.used / 10) st.rec bs) old new wrote →
        Leapt q st bs old new (Some (record { used = r.used; wrote = wrote; state = state_with st r }))
    leapt new wrote n l =
        let u = g.used in
        let i = g.inside in
        let e : r.used / 10 ≡ g.count = omega arith in
        record {
          lines = lines_if q g.count st.rec bs;
          put = rw e at l;
          some = λ a is. let same : record { used = r.used; wrote = wrote; state = state_with st r } ≡ a = cc in rw (← same) (omega arith, omega arith, g.leads);
          none = λ e. absurd cc;
        }

-- the lines are written only where the caller is not quiet
pub lined_quiet : (q : Bool) (k : ℕ) (rec : Record) (bs old new : List ℕ) (wrote : ℕ) → q ≡ true → new ≡ old → wrote ≡ 0 → Lined (lines_if q k rec bs) old new wrote
unfolding lines_if
lined_quiet q k rec bs old new wrote e n w = rw (e, n, w) (lined_nothing old)

pub lined_loud : (q : Bool) (k : ℕ) (rec : Record) (bs old new part : List ℕ) (wrote r : ℕ) → q ≡ false → new ≡ part → wrote ≡ r → Lined (lines_of k rec bs) old part r
    → Lined (lines_if q k rec bs) old new wrote
unfolding lines_if
lined_loud q k rec bs old new part wrote r e n w l = rw (e, n, w) l
