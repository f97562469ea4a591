-- An entry: refused as the list refuses it, or taken, and then the state stands for one entry more.
use Prim.Native.Nat.{ℕ, suc, ◌+◌, ◌^◌, ◌≤◌, ◌<◌}
use mathlib.Core.Path.{◌≡◌, refl, ap, sym, ◌∙◌}
use mathlib.Core.Bool.{Bool, true, false, cond}
use mathlib.Core.List.{List, ◌++◌}
use mathlib.Core.Option.{none, some}
use native.Mathlib.Omega.{arith}
use Rattle.rules.specs.Ranges.{card_good}
use Rattle.rules.specs.Commands.{NOP, is}
use Rattle.rules.specs.Card.{Card}
use Rattle.rules.specs.Past.{Past, last_cycle, counter_at, command_count}
use Rattle.rules.specs.Verdict.{refresh_count}
use Rattle.rules.specs.Entries.{Entry, read, whose_of, part_in, read_after, recorded_as, taken, own_for, taken_for, past_with}
use Rattle.rules.specs.Checks.{Refusal, entry_refusal}
use Rattle.rules.specs.Form.{Field, bytes_of, size_of, of_entry, card_whole, card_of, entry_of}
use Rattle.rules.specs.File.{begun}
use Rattle.rules.specs.FileReading.{RightForm}
use Rattle.rules.specs.Lent as lent
use Rattle.rules.specs.Lent.{Lent, own_in, read_in, command_in, effect_of, effect_in, step_refusal, stands_at, standing, PaidTo}
use Rattle.rules.specs.Lines.{entry_lines}
use Rattle.rules.proofs.CardRead.{card_good_lem}
use Rattle.rules.proofs.Filtered.{judging_part}
use Rattle.rules.proofs.Taken.{unmoved, paid_to_last}
use Rattle.rules.proofs.StepByList.{step_after, step_keeps, step_unmoved}
use Rattle.rules.proofs.Sound.{step_passed}
use Rattle.bank.specs.Values.{lent_of}
use Rattle.bank.specs.After.{record_after}
use Rattle.step.specs.Values.{record_with}
use Rattle.step.specs.Runs.{commands_by, refreshes_by}
use Rattle.step.proofs.Kept.{Good, lent_with, good_with}
use Rattle.chunks.specs.declared.State.{State}
use Rattle.chunks.specs.Took.{On, took_as, wrapped, refused_here, entry_after, entry_refused, entry_took, field_took}
use Rattle.chunks.specs.Heard.{field_line}
use Rattle.chunks.proofs.Bytes.{Bytes}
use Rattle.chunks.proofs.Wraps.{wrapped_is}
use Rattle.judge.proofs.Overflow.{stamp_small, size_small}
use Rattle.judge.proofs.Counts.{counted_now, counted_next}
use Rattle.judge.proofs.Printed.{printed}
use Rattle.judge.proofs.Stands.{Stands, far_below, offset_behind}

-- ---- the counts
one_command : (b : Bool) (m n : ℕ) → m ≡ n → n < 2 ^ 33 → wrapped (m + cond b 0 1) ≡ cond b n (suc n)
one_command true m n e h = wrapped_is (m + 0) (omega arith) ∙ omega arith
one_command false m n e h = wrapped_is (m + 1) (omega arith) ∙ omega arith

one_counted : (b : Bool) (m n : ℕ) → m ≡ n → n < 2 ^ 33 → wrapped (m + cond b 1 0) ≡ n + cond b 1 0
one_counted true m n e h = wrapped_is (m + 1) (omega arith) ∙ omega arith
one_counted false m n e h = wrapped_is (m + 0) (omega arith) ∙ omega arith

-- ---- a record that stands for a past: what it says of the part that judges an entry
module _ (card : Card) (past : Past) (e : Entry) where
  abbrev there : Lent
  there = standing card past unmoved

  abbrev own : Past
  own = own_for card past e

  own_is : own_in there e ≡ lent.share_of card own (stands_at past unmoved (part_in card e))
  unfolding own_in own_for standing
  own_is = rw (judging_part card e)

  counter_there : (own_in there e).counter ≡ counter_at own
  counter_there = ap (λ (x : lent.Share). x.counter) own_is ∙ (unfold lent.share_of in refl)

  read_there_lem : read_in there e ≡ read_after card own e
  unfolding read_in read_after standing
  read_there_lem = ap (λ (x : lent.Share). read card x.ledger.level e) own_is ∙ (unfold lent.share_of in refl)

module _ {st : State} {fs : List Field} {past : Past} {at : ℕ} (s : Stands st fs past at) (e : Entry) where
  pub counter_is : (own_in (lent_of st.rec) e).counter ≡ counter_at (own_for (card_of fs) past e)
  counter_is = rw s.lent (counter_there (card_of fs) past e)

  -- what the entry is read as
  pub read_as : read_in (lent_of st.rec) e ≡ read_after (card_of fs) (own_for (card_of fs) past e) e
  read_as = rw s.lent (read_there_lem (card_of fs) past e)

  pub whose_is : whose_of (lent_of st.rec).card e ≡ whose_of (card_of fs) e
  whose_is = rw s.lent (unfold standing in refl)

module _ {st : State} {fs : List Field} {past : Past} {at : ℕ} (s : Stands st fs past at) (w : card_whole fs ≡ true) where
  pub in_range : card_good (card_of fs) ≡ true
  in_range = card_good_lem fs s.card w

  pub paid : PaidTo (card_of fs) past unmoved
  paid = paid_to_last (card_of fs) past s.taken

  pub refused_by_lem : (f : Field) → entry_refused st f ≡ entry_refusal (card_of fs) past (entry_of f)
  unfolding entry_refused
  refused_by_lem f = rw s.lent (step_unmoved (card_of fs) past in_range s.taken (entry_of f))

  module _ (f : Field) (form : RightForm (begun past) fs f) (t : of_entry f.tag ≡ true) where
    pub of_an_entry : field_took st f ≡ entry_took st f
    unfolding field_took
    of_an_entry = rw t

    pub entry_refused_lem : (x : Refusal) → entry_refusal (card_of fs) past (entry_of f) ≡ some x → field_took st f ≡ refused_here st x
    unfolding entry_took
    entry_refused_lem x n = of_an_entry ∙ rw (refused_by_lem f ∙ n, entry_took)

    module _ (n : entry_refusal (card_of fs) past (entry_of f) ≡ none) where
      pub entry_taken : field_took st f ≡ took_as (On (size_of f)) (entry_after st f)
      unfolding entry_took
      entry_taken = of_an_entry ∙ rw (refused_by_lem f ∙ n, entry_took)

      passed : step_refusal (lent_of st.rec) (entry_of f) ≡ none
      unfolding entry_refused
      passed = refused_by_lem f ∙ n

      standing_passed : step_refusal (standing (card_of fs) past unmoved) (entry_of f) ≡ none
      standing_passed = rw s.lent at passed

      good : Good st.rec
      good = record { passed = (step_passed (lent_of st.rec) (entry_of f) passed).good; arrays = s.arrays }

      lent_is : lent_of (record_with st.rec (entry_of f)) ≡ standing (card_of fs) (past_with (card_of fs) past (entry_of f)) unmoved
      lent_is =
          lent_with st.rec (entry_of f) good passed
          ∙ rw s.lent (step_after (card_of fs) past unmoved in_range s.taken paid (entry_of f) standing_passed)

      commands_next : wrapped (st.commands + commands_by st.rec (entry_of f)) ≡ command_count (past_with (card_of fs) past (entry_of f))
      unfolding commands_by command_count past_with taken_for taken command_in
      commands_next =
          rw (read_as s (entry_of f))
          (one_command (is NOP (recorded_as (read_after (card_of fs) (own_for (card_of fs) past (entry_of f)) (entry_of f)))) st.commands (command_count past) s.commands
          (omega (arith, s.commands, (far_below s).0)))

      refreshes_next : wrapped (st.refreshes + refreshes_by st.rec (entry_of f)) ≡ refresh_count (card_of fs) (past_with (card_of fs) past (entry_of f))
      unfolding refreshes_by effect_in effect_of
      refreshes_next =
          rw (read_as s (entry_of f), counter_is s (entry_of f))
          (one_counted (counted_now (card_of fs) past (entry_of f)) st.refreshes (refresh_count (card_of fs) past) s.refreshes (omega (arith, s.refreshes, (far_below s).1)))
          ∙ sym (counted_next (card_of fs) past (entry_of f) in_range)

      pub entry_line_lem : entry_lines (past_with (card_of fs) past (entry_of f)) ≡ entry_lines past ++ field_line st f
      unfolding entry_lines field_line past_with taken_for taken own_for part_in command_in
      entry_line_lem =
          rw (read_as s (entry_of f), whose_is s (entry_of f), counter_is s (entry_of f))
          (ap (λ (line : List ℕ). entry_lines past ++ line) (printed (card_of fs) past f t n _))

      pub entry_stands : Bytes (bytes_of f) → Stands (entry_after st f) fs (past_with (card_of fs) past (entry_of f)) (at + size_of f)
      unfolding entry_after last_cycle
      entry_stands b =
          let size : size_of f ≤ 11 = size_small fs f form in
          record {
            card = s.card;
            tag = s.tag;
            holds = unfold record_with record_after in s.holds;
            arrays = (good_with st.rec (entry_of f) good passed).arrays;
            lent = lent_is;
            taken = (step_keeps (card_of fs) past unmoved in_range s.taken paid (entry_of f) standing_passed).0;
            first = λ e. absurd cc;
            small = unfold past_with taken_for taken in stamp_small f b;
            commands = commands_next;
            refreshes = refreshes_next;
            offset = offset_behind s f size;
            near = unfold past_with in omega (arith, s.near, size);
          }
