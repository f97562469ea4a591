-- The field of a temperature: the entry that it is, and what the code makes of it.
use Rattle.std.specs.Prelude.{Ok, Err}
use Rattle.std.proofs.Common.{◌≡◌, ℕ, zero, suc, ◌-◌, List, [], ◌∷◌, length, get_or, drop, sym, refl, ◌∙◌, arith, length-drop, drop-drop, le-leb}
use mathlib.Core.Option.{none, some}
use Rattle.rules.specs.Commands.{carries, bare, kind_of, code, is, nop}
use Rattle.rules.specs.Past.{is_counted}
use Rattle.rules.specs.Entries.{Entry, sensing, read_body, read, recorded_as}
use Rattle.rules.specs.Form as form
use Rattle.rules.specs.Lent.{own_in, read_in, command_in, effect_of, effect_in, step_refusal}
use Rattle.rules.proofs.Filtered.{mr4_nop}
use Rattle.pins.specs.Fronts.{stamp_in}
use Rattle.bank.specs.declared.Record.{Record}
use Rattle.bank.specs.Values.{lent_of}
use Rattle.step.specs.declared.Stepped.{Stepped}
use Rattle.step.specs.declared.Refusal as code
use Rattle.step.specs.Values.{refused_as, refusal_of, Left}
use Rattle.step.specs.Runs.{commands_by, refreshes_by, ran}
use Rattle.step.proofs.Leaves.{left_record}
use Rattle.chunks.specs.declared.State.{State}
use Rattle.chunks.specs.Took.{refused_here, entry_after, entry_refused, entry_took}
use Rattle.chunks.specs.Parts.{field_in, whole_as, state_with}
use Rattle.chunks.proofs.Sizes.{size_in}

last_byte : (k : ℕ) (bs : List ℕ) → length bs ≡ suc k → drop k bs ≡ get_or bs k 0 ∷ []
last_byte k [] e = absurd (omega arith)
last_byte zero (b ∷ []) e = refl
last_byte zero (b ∷ c ∷ bs) e = absurd (omega arith)
last_byte (suc k) (b ∷ bs) e = last_byte k bs (omega arith)

one_byte : (x : ℕ) → form.number (x ∷ []) ≡ x
unfolding form.number form.number_from
one_byte x = omega arith

-- it counts for nothing
module _ (rec : Record) (t v : ℕ) where
  abbrev e : Entry
  e = sensing t v

  recorded : recorded_as (read_in (lent_of rec) e) ≡ nop
  unfolding read_in read read_body
  recorded = mr4_nop (lent_of rec).card.sleeps (lent_of rec).card.paired (own_in (lent_of rec) e).ledger.level v

  no_command : commands_by rec e ≡ 0
  unfolding commands_by command_in
  no_command = rw recorded (unfold is code kind_of carries bare in refl)

  no_refresh : refreshes_by rec e ≡ 0
  unfolding refreshes_by effect_in effect_of
  no_refresh = rw recorded (unfold is_counted is code kind_of carries bare in refl)

module _ (st : State) (bs : List ℕ) (long : length bs ≡ 8) (tag : get_or bs 0 0 ≡ 34) where
  abbrev sense : Entry
  sense = sensing (stamp_in (drop 3 bs)) (get_or bs 7 0)

  sensed_in : form.entry_of (field_in bs) ≡ sense
  unfolding form.entry_of form.body_of field_in stamp_in
  sensed_in = rw (tag, length-drop, le-leb 4 (length bs - 3) (omega arith), drop-drop 4 3 bs, last_byte 7 bs long, one_byte)

  module _ (r : Stepped) (l : Left (step_refusal (lent_of st.rec) sense) st.rec sense r) where
    pub sensed_refused : (e : code.Refusal) → r.answer ≡ Err e → refused_here st (refused_as e) ≡ entry_took st (field_in bs)
    unfolding entry_took entry_refused refusal_of
    sensed_refused e is =
        let o : step_refusal (lent_of st.rec) sense ≡ some (refused_as e) = sym l.told ∙ rw is in
        rw (sensed_in, o, entry_took)

    pub sensed_taken : (u : Unit {0}) → r.answer ≡ Ok u → whole_as st (length bs) (Ok (state_with st (ran r.rec 8 0 0))) ≡ entry_took st (field_in bs)
    unfolding whole_as entry_took entry_refused entry_after state_with refusal_of
    sensed_taken u is =
        let o : step_refusal (lent_of st.rec) sense ≡ none = sym l.told ∙ rw is in
        let taken : entry_refused st (field_in bs) ≡ none = rw (sensed_in, o) in
        rw (
          long,
          taken,
          entry_took,
          sensed_in,
          size_in bs (omega arith) ∙ long,
          no_command st.rec (stamp_in (drop 3 bs)) (get_or bs 7 0),
          no_refresh st.rec (stamp_in (drop 3 bs)) (get_or bs 7 0),
          left_record l o,
        )
