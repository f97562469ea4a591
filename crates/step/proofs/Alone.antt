-- A record of one part: what an entry is to it and leaves does not hang on the share that is not looked at.
use Prim.Native.Nat.{ℕ}
use mathlib.Core.Path.{◌≡◌, refl, ap, sym, ◌∙◌}
use mathlib.Core.Bool.{Bool, false, cond, ◌&&◌, and-true}
use mathlib.Core.List.{[], ◌∷◌}
use mathlib.Core.Option.{Option, none, some}
use lib.Dec.{leb}
use Rattle.rules.specs.Lists.{all, is_one_of}
use Rattle.rules.specs.Card.{Card}
use Rattle.rules.specs.Heat.{delays_at}
use Rattle.rules.specs.Commands.{NOP, is}
use Rattle.rules.specs.Ranges.{card_good}
use Rattle.rules.specs.Whose.{sole, is_of, part_of, other, whose, parts}
use Rattle.rules.specs.Levels.{Level}
use Rattle.rules.specs.Folds.{first_of}
use Rattle.rules.specs.Delays.{Question, means, latest_of, lagging_of, look_both}
use Rattle.rules.specs.Account.{earlier, earliest}
use Rattle.rules.specs.Checks.{Refusal, unless, checks}
use Rattle.rules.specs.Entries.{Body, pins, mr4, Entry, read_body, read, whose_body, whose_of, part_in, recorded_as, move_of, mr4_of}
use Rattle.rules.specs.Lent.{
  Lent,
  number_of,
  has_part,
  look_in,
  answers_in,
  view_in,
  lent_good,
  above_last,
  not_behind,
  own_in,
  read_in,
  command_in,
  move_in,
  mr4_in,
  effect_of,
  effect_in,
  effect_on,
  entered,
  ledger_with,
  failing_to,
  failings_to,
  failing_of,
  failings_with,
  pace_by,
  pace_with,
  step_refusal,
}
use Rattle.rules.proofs.Decided.{or_none}
use Rattle.rules.proofs.Bus.{SameBus}
use Rattle.rules.proofs.Waking.{read_alone_lem}
use Rattle.card.specs.Values.{card_of}
use Rattle.pins.specs.Values.{level_of}
use Rattle.ledger.specs.Values.{ledger_of, code_of, pace_of, pace_in}
use Rattle.ledger.proofs.Promises.{code_is}
use Rattle.bank.specs.declared.Share.{Share}
use Rattle.bank.specs.Values.{kept, once, noted, last_of, share_of, share_in, lent_of, heard, bus_look, never, never_noted, idle_bus}
use Rattle.bank.specs.After.{with_ledger, share_taken, record_after}
use Rattle.bank.specs.Both.{ledgers_as, told_of}
use Rattle.step.specs.declared.single.Single.{Single}
use Rattle.step.specs.Values.{second_with, record_with}
use Rattle.step.specs.Runs.{commands_by, refreshes_by}
use Rattle.step.specs.Single.{whole, read_alone, read_by, effect_by, dues_by, ledger_by, spaced_by, sound_by, view_by, refusal_by, single_with}

earlier_none : (x : Option (ℕ × ℕ)) → earlier x none ≡ x
unfolding earlier
earlier_none none = refl
earlier_none (some y) = refl

module _ (x : Share) (s : Single) (single : s.card.paired ≡ false) where
  abbrev l : Lent
  l = lent_of (whole x s)

  abbrev card : Card
  card = card_of s.card

  one_part : parts card ≡ 0 ∷ []
  unfolding parts card_of
  one_part = rw single

  pub sole_here : (e : Entry) → whose_of card e ≡ sole
  unfolding whose_of card_of
  sole_here e = rw single (go e.body)
    where
      go : (b : Body) → whose_body false b ≡ sole
      go (pins p) = unfold whose_body whose in refl
      go (mr4 v) = unfold whose_body in refl

  part_here : (e : Entry) → part_in card e ≡ 0
  unfolding part_in part_of
  part_here e = rw (sole_here e)

  -- the accounts tell of the one part's
  pub told_alone : (a b : Option Refusal) → told_of card.paired a b ≡ a
  unfolding told_of card_of
  told_alone a b = rw single

  -- ---- what an entry is
  abbrev level : Level
  level = level_of s.share.ledger.level

  body_reads : (b : Body) → read_body card level b ≡ read_alone s.card.sleeps level b
  unfolding read_body read_alone card_of
  body_reads (pins p) = rw single (read_alone_lem s.card.sleeps level p)
  body_reads (mr4 v) = rw single

  pub reads : (e : Entry) → read_in l e ≡ read_by s e
  unfolding read_in read own_in read_by lent_of share_in share_of ledger_of
  reads e = rw (part_here e) (body_reads e.body)

  commands : (e : Entry) → command_in l e ≡ recorded_as (read_by s e)
  unfolding command_in
  commands e = ap recorded_as (reads e)

  moves : (e : Entry) → move_in l e ≡ move_of (read_by s e)
  unfolding move_in
  moves e = ap move_of (reads e)

  owns : (e : Entry) → own_in l e ≡ share_of s.share
  unfolding own_in lent_of share_in
  owns e = rw (part_here e)

  effects : (e : Entry) → effect_in l e ≡ effect_by s e
  unfolding effect_in effect_by share_of
  effects e = λ i. effect_of (reads e i) (owns e i).counter

  ledgers : (e : Entry) → ledger_with l e 0 ≡ ledger_by s e
  unfolding ledger_with ledger_by effect_on is_of lent_of share_in share_of
  ledgers e = rw (sole_here e) (λ i. entered (effects e i) (dues_by s) (ledger_of s.share.ledger) e.stamp)

  paces : (e : Entry) → pace_with l e ≡ spaced_by s e
  unfolding pace_with mr4_in spaced_by lent_of
  paces e = λ i. pace_by card (number_of (ledgers e i)) (mr4_of (reads e i)) (pace_of s.pace)

  pub commands_by_lem : (e : Entry) → commands_by (whole x s) e ≡ cond (is NOP (recorded_as (read_by s e))) 0 1
  unfolding commands_by
  commands_by_lem e = rw (commands e)

  pub refreshes_by_lem : (e : Entry) → refreshes_by (whole x s) e ≡ cond (effect_by s e).counted 1 0
  unfolding refreshes_by
  refreshes_by_lem e = rw (effects e)

  -- ---- 13, and the other checks
  pub good : lent_good l ≡ sound_by s
  unfolding lent_good sound_by all lent_of share_in
  good = rw one_part (ap (λ (b : Bool). card_good card && b) (and-true _))

  not_behind_lem : (t : ℕ) → not_behind l t ≡ leb (ledger_of s.share.ledger).at t
  unfolding not_behind all lent_of share_in share_of
  not_behind_lem t = rw one_part (and-true _)

  failing_to_lem : (t : ℕ) → failings_to l t ≡ failing_to (dues_by s) (ledger_of s.share.ledger) t
  unfolding failings_to earliest lent_of share_in share_of
  failing_to_lem t = rw one_part (earlier_none _)

  failing_with : (e : Entry) → failings_with l e ≡ failing_of (dues_by s) (ledger_by s e)
  unfolding failings_with first_of lent_of
  failing_with e = rw one_part (or_none _ ∙ ap (failing_of (dues_by s)) (ledgers e))

  own : (q : Question) → answers_in l 0 q ≡ look_in (share_of s.share).history q
  unfolding answers_in has_part is_one_of lent_of share_in
  own q = rw one_part

  others : (q : Question) → answers_in l 1 q ≡ none
  unfolding answers_in has_part is_one_of lent_of
  others q = rw one_part

  -- of a part that is not there nothing is heard
  pub idle_heard : SameBus (bus_look idle_bus) (answers_in l 1)
  unfolding bus_look look_in heard idle_bus never never_noted once noted kept means latest_of lagging_of
  idle_heard = record { rd = λ b. sym (others _); rd_or_mrr = λ b. sym (others _); wr = λ b. sym (others _) }

  views : (e : Entry) → view_in l (part_in card e) ≡ view_by s
  views e = ap (view_in l) (part_here e) ∙ here
    where
      here : view_in l 0 ≡ view_by s
      here = unfold view_in view_by other lent_of share_in in λ i. record {
        open? = (share_of s.share).open?;
        counter = (share_of s.share).counter;
        look = look_both (λ q. own q i) (λ q. others q i);
      }

  pub refusals : (e : Entry) → step_refusal l e ≡ refusal_by s e
  unfolding step_refusal refusal_by lent_of pace_of
  refusals e =
      let t = e.stamp in
      λ i. first_of (
      unless (good i) 13 ∷
      checks card (delays_at card s.pace.mr4) (views e i) (above_last (last_of s.last) t && not_behind_lem t i) (failing_to_lem t i) (failing_with e i) (reads e i) t
      )

  -- ---- the record then
  second : (e : Entry) → second_with (whole x s) e ≡ ledger_of x.ledger
  unfolding second_with
  second e = rw single

  same_ledger : with_ledger x (code_of (ledger_of x.ledger)) ≡ x
  same_ledger = ap (with_ledger x) (code_is x.ledger)

  pub record_with_lem : (e : Entry) → record_with (whole x s) e ≡ whole x (single_with s e)
  unfolding record_with record_after single_with share_taken is_of lent_of
  record_with_lem e =
      (λ i. record_after (whole x s) (sole_here e i) (commands e i) (moves e i) e.stamp (ledgers_as (code_of (ledgers e i)) (code_of (second e i))) (pace_in (paces e i)))
      ∙ (λ i. whole (same_ledger i) (single_with s e))
