-- What a step tells and leaves, from its parts.
use Prim.Native.Nat.{ℕ}
use mathlib.Core.Path.{◌≡◌, refl, ap, sym, ◌∙◌}
use mathlib.Core.Bool.{Bool, true, false}
use mathlib.Core.Option.{none, some}
use Rattle.std.specs.Prelude.{Result, Ok, Err}
use Rattle.rules.specs.Heat.{delays_at}
use Rattle.rules.specs.Commands.{Command}
use Rattle.rules.specs.Whose.{Whose, is_of}
use Rattle.rules.specs.Levels.{Move, Read}
use Rattle.rules.specs.Folds.{or_else, first_of}
use Rattle.rules.specs.Entries.{Entry, whose_of, part_in, recorded_as, move_of, mr4_of}
use Rattle.rules.specs.Checks.{unless}
use Rattle.rules.specs.Lent as lent
use Rattle.rules.specs.Lent.{number_of, own_in, read_in, command_in, move_in, mr4_in, effect_in, effect_on, ledger_with, pace_by, pace_with, lent_good, step_refusal, lent_after}
use Rattle.rules.proofs.Filtered.{judging_part}
use Rattle.rules.proofs.Sound.{sound, step_passed}
use Rattle.card.specs.Values.{card_of, clocks_of, shortened}
use Rattle.card.specs.declared.Delays as code
use Rattle.card.proofs.Fits.{fits}
use Rattle.ledger.specs.declared.Ledger.{Ledger}
use Rattle.ledger.specs.declared.Pace.{Pace}
use Rattle.ledger.specs.Values.{ledger_of, code_of, pace_of, pace_in, unless_refused}
use Rattle.ledger.proofs.Promises.{code_is}
use Rattle.bank.specs.declared.Ledgers.{Ledgers}
use Rattle.bank.specs.declared.Share.{Share}
use Rattle.bank.specs.declared.Record.{Record}
use Rattle.bank.specs.Values.{share_of, share_in, lent_of}
use Rattle.bank.specs.After.{share_after, share_taken, record_after, Changed}
use Rattle.bank.specs.Both.{ledgers_in, ledgers_as, effect_for}
use Rattle.bank.proofs.Changed.{after_is, good_args, entry_bank}
use Rattle.step.specs.declared.Refusal as answer
use Rattle.step.specs.declared.Refusal.TheVariants.{BadRecord}
use Rattle.step.specs.declared.Stepped.{Stepped}
use Rattle.step.specs.Values.{refused_as, refusal_of, second_with, record_by, record_with, Left}
use Rattle.step.specs.Parts.{Prepared, effect_as, ledger_as, Ruled, pace_as, stepped_in, OfferedTo}
use Rattle.step.proofs.Answers.{ok_none, err_some}
use Rattle.step.proofs.Split.{step_is}
use Rattle.step.proofs.Paced.{pace_back}

-- both ledgers, by what they are to the rules
pub ledgers_coded : (x : Ledgers) (g h : lent.Ledger) → ledger_of x.first ≡ g → ledger_of x.second ≡ h → x ≡ ledgers_as (code_of g) (code_of h)
ledgers_coded x g h a b = λ i. ledgers_as ((sym (code_is x.first) ∙ ap code_of a) i) ((sym (code_is x.second) ∙ ap code_of b) i)

-- the record that a step leaves which takes the entry, to the bit
pub left_record : {rec : Record} {e : Entry} {r : Stepped} → Left (step_refusal (lent_of rec) e) rec e r → step_refusal (lent_of rec) e ≡ none → r.rec ≡ record_with rec e
unfolding unless_refused record_with ledgers_in
left_record {rec} {e} {r} l n =
    let next = r.rec in
    let is : next ≡ record_by rec e (ledgers_in next) = rw n at l.is in
    let first : ledger_of next.first.ledger ≡ ledger_with (lent_of rec) e 0 = rw n at l.first in
    let second : ledger_of next.second.ledger ≡ second_with rec e = rw n at l.second in
    is ∙ ap (record_by rec e) (ledgers_coded (ledgers_in next) _ _ first second)

-- the record then, with these ledgers, to the bit and to the rules
abbrev pub ChangedBy : Record → Entry → Ledgers → Record → Type 0
ChangedBy rec e g s =
    Changed rec e.stamp (whose_of (lent_of rec).card e) (command_in (lent_of rec) e) (move_in (lent_of rec) e) g (pace_in (pace_with (lent_of rec) e)) s

-- ---- what is ruled of an entry, at a record that 13 lets pass
module _ (rec : Record) (e : Entry) (good : lent_good (lent_of rec) ≡ true) (y : Result Ledgers answer.Refusal)
    (ruled : Ruled (delays_at (lent_of rec).card (lent_of rec).pace.mr4) (lent_of rec) (whose_of (lent_of rec).card e) (read_in (lent_of rec) e) e.stamp y) where
  pub ruled_told : refusal_of y ≡ step_refusal (lent_of rec) e
  unfolding part_in
  ruled_told = ruled.told (judging_part (lent_of rec).card e) ∙ sym (step_is (lent_of rec) e good)

  module _ (g : Ledgers) (there : y ≡ Ok g) where
    pub ruled_none : step_refusal (lent_of rec) e ≡ none
    ruled_none = sym ruled_told ∙ ok_none y g there

    ruled_first : ledger_of g.first ≡ ledger_with (lent_of rec) e 0
    unfolding ledger_as ledger_with effect_as effect_for effect_on effect_in own_in part_in
    ruled_first = ruled.first g there

    ruled_second : ledger_of g.second ≡ second_with rec e
    unfolding second_with ledger_as ledger_with effect_as effect_for effect_on effect_in own_in part_in lent_of share_in share_of card_of
    ruled_second = ruled.second g there

    ruled_pace : pace_as rec (read_in (lent_of rec) e) g ≡ pace_in (pace_with (lent_of rec) e)
    unfolding pace_with mr4_in lent_of
    ruled_pace = ap (λ (h : lent.Ledger). pace_in (pace_by (card_of rec.card) (number_of h) (mr4_of (read_in (lent_of rec) e)) (pace_of rec.pace))) ruled_first

    -- the record then, to the bit
    pub ruled_record : (s : Record) → s ≡ record_by rec e g → s ≡ record_with rec e
    unfolding record_with
    ruled_record s h = h ∙ ap (record_by rec e) (ledgers_coded g _ _ ruled_first ruled_second)

    -- and to the rules
    pub ruled_lent : (s : Record) → ChangedBy rec e g s → lent_of s ≡ lent_after (lent_of rec) e
    unfolding command_in read_in second_with
    ruled_lent s h =
        let above = (step_passed (lent_of rec) e ruled_none).above in
        h.lent (good_args rec e (command_in (lent_of rec) e) good above (entry_bank _ _ e)) ∙ sym (after_is rec e g (pace_in (pace_with (lent_of rec) e)) ruled_first ruled_second (pace_back _))

-- ---- the ledgers of the record then
taken_ledger : (own : Bool) (s : Share) (c : Command) (v : Move) (t : ℕ) (g : Ledger) → (share_taken own s c v t g).ledger ≡ g
unfolding share_taken
taken_ledger true s c v t g = unfold share_after in refl
taken_ledger false s c v t g = refl

ledgers_after : (rec : Record) (w : Whose) (c : Command) (v : Move) (t : ℕ) (g : Ledgers) (z : Pace) → ledgers_in (record_after rec w c v t g z) ≡ g
unfolding ledgers_in record_after
ledgers_after rec w c v t g z = λ i. ledgers_as (taken_ledger (is_of 0 w) rec.first c v t g.first i) (taken_ledger (is_of 1 w) rec.second c v t g.second i)

module _ (rec : Record) (e : Entry) where
  -- a refusal keeps the record
  left_kept : (x : answer.Refusal) → some (refused_as x) ≡ step_refusal (lent_of rec) e → Left (step_refusal (lent_of rec) e) rec e (stepped_in rec (Err x))
  unfolding unless_refused stepped_in refusal_of
  left_kept x t = rw (← t) (record { told = refl; is = refl; first = refl; second = refl; lent = λ good. refl })

  module _ (good : lent_good (lent_of rec) ≡ true) (y : Result Ledgers answer.Refusal)
      (ruled : Ruled (delays_at (lent_of rec).card (lent_of rec).pace.mr4) (lent_of rec) (whose_of (lent_of rec).card e) (read_in (lent_of rec) e) e.stamp y) where
    left_out : (x : answer.Refusal) → y ≡ Err x → Left (step_refusal (lent_of rec) e) rec e (stepped_in rec (Err x))
    left_out x h = left_kept x (sym (err_some y x h) ∙ ruled_told rec e good y ruled)

    module _ (g : Ledgers) (there : y ≡ Ok g) (s : Record)
        (changed : Changed rec e.stamp (whose_of (lent_of rec).card e) (recorded_as (read_in (lent_of rec) e)) (move_of (read_in (lent_of rec) e)) g (pace_as rec (read_in (lent_of rec) e) g) s) where
      changed_by : ChangedBy rec e g s
      unfolding command_in move_in
      changed_by = rw (ruled_pace rec e good y ruled g there) at changed

      same_ledgers : ledgers_in s ≡ g
      same_ledgers = ap ledgers_in changed_by.is ∙ ledgers_after rec _ _ _ e.stamp g _

      left_in : Left (step_refusal (lent_of rec) e) rec e (stepped_in rec (Ok s))
      unfolding unless_refused ledgers_in stepped_in refusal_of
      left_in = rw (ruled_none rec e good y ruled g there) (record {
        told = refl;
        is = changed_by.is ∙ ap (record_by rec e) (sym same_ledgers);
        first = ap (λ (z : Ledgers). ledger_of z.first) same_ledgers ∙ ruled_first rec e good y ruled g there;
        second = ap (λ (z : Ledgers). ledger_of z.second) same_ledgers ∙ ruled_second rec e good y ruled g there;
        lent = λ good. ruled_lent rec e good y ruled g there s changed_by;
      })

-- of whichever entry is of this part and is read so
module _ (rec : Record) (t : ℕ) (w : Whose) (x : Read) (good : lent_good (lent_of rec) ≡ true) (y : Result Ledgers answer.Refusal)
    (ruled : Ruled (delays_at (lent_of rec).card (lent_of rec).pace.mr4) (lent_of rec) w x t y) where
  pub offered_out : (z : answer.Refusal) → y ≡ Err z → OfferedTo rec t w x (stepped_in rec (Err z))
  offered_out z h e then whose reads = left_out rec e good y (rw (whose, reads, then) ruled) z h

  pub offered_in : (g : Ledgers) → y ≡ Ok g → (s : Record) → Changed rec t w (recorded_as x) (move_of x) g (pace_as rec x g) s → OfferedTo rec t w x (stepped_in rec (Ok s))
  offered_in g h s changed e then whose reads = left_in rec e good y (rw (whose, reads, then) ruled) g h s (rw (whose, reads, then) changed)

-- ---- 13 of the whole record
pub bad : (rec : Record) (e : Entry) → lent_good (lent_of rec) ≡ false → Left (step_refusal (lent_of rec) e) rec e (stepped_in rec (Err BadRecord))
bad rec e g = left_kept rec e BadRecord (unfold step_refusal first_of or_else unless in rw g)

-- 13 is passed, and the delays of a card that is in range are in 32 bits what they are
pub prepared : (rec : Record) (d : code.Delays) → lent_good (lent_of rec) ≡ true → clocks_of d ≡ shortened (delays_at (card_of rec.card) rec.pace.mr4) → Prepared rec d
unfolding lent_of pace_of
prepared rec d good s = record { good = good; clocks = s ∙ fits rec.card (sound (lent_of rec) good).card rec.pace.mr4 }
