-- What the lines of entries go by, of a record: what a step goes by, of whichever part; and what it is after an entry.
use Rattle.std.proofs.Common.{◌≡◌, ℕ, ◌<◌, ◌≤◌, Bool, true, false, cond, eqb, List, sym, refl, ap, ◌∙◌, arith, leb-true}
use mathlib.Core.Option.{none}
use Rattle.rules.specs.Commands.{Command}
use Rattle.rules.specs.Whose.{Whose, is_of, part_of, whose}
use Rattle.rules.specs.Levels.{Level, Move, stays, level_after, Read, read_as}
use Rattle.rules.specs.Entries.{Entry, read_body, read, whose_body, whose_of, part_in, move_of}
use Rattle.rules.specs.Lent as lent
use Rattle.rules.specs.Lent.{lent_good, own_in, read_in, command_in, move_in, effect_of, effect_in, no_effect, effect_on, at_level, entered, ledger_with, step_refusal}
use Rattle.rules.proofs.CardGood.{pair_awake}
use Rattle.rules.proofs.Clocks.{pair_stays}
use Rattle.rules.proofs.Filtered.{pins_part, judging_part}
use Rattle.rules.proofs.Sound.{sound, sound_ledger, step_passed, ledger_kept}
use Rattle.card.specs.Values.{card_of}
use Rattle.pins.specs.Values.{level_of}
use Rattle.pins.specs.Counter.{counter_on}
use Rattle.ledger.specs.declared.Ledger.{Ledger}
use Rattle.ledger.specs.Values.{ledger_of, code_of}
use Rattle.bank.specs.declared.Share.{Share}
use Rattle.bank.specs.declared.Record.{Record}
use Rattle.bank.specs.Values.{share_of, share_at, lent_of}
use Rattle.bank.specs.After.{share_after, share_taken, record_after}
use Rattle.bank.proofs.Shares.{is_low, share_in_lem, first_is}
use Rattle.step.specs.Values.{record_with}
use Rattle.step.specs.Runs.{front_at, entry_at}
use Rattle.step.proofs.Kept.{ledger_back}
use Rattle.lines.specs.Runs.{counter_for, counter_if, standing_after}
use Rattle.chunks.specs.Parts.{stands_in}

taken_counter : (own : Bool) (s : Share) (c : Command) (v : Move) (t : ℕ) (g : Ledger) → (share_taken own s c v t g).counter ≡ cond own (counter_on c v s.counter) s.counter
unfolding share_taken share_after
taken_counter true s c v t g = refl
taken_counter false s c v t g = refl

taken_ledger : (own : Bool) (s : Share) (c : Command) (v : Move) (t : ℕ) (g : Ledger) → (share_taken own s c v t g).ledger ≡ g
unfolding share_taken share_after
taken_ledger true s c v t g = refl
taken_ledger false s c v t g = refl

-- of the entry of pins at the start of some bytes
module _ (rec : Record) (bs : List ℕ) where
  abbrev l : lent.Lent
  l = lent_of rec

  abbrev e : Entry
  e = entry_at bs

  abbrev pins : ℕ
  pins = (front_at bs).pins

  abbrev pub whose_in : Whose
  whose_in = whose rec.card.paired pins

  abbrev pub read_by : Read
  read_by = read_as rec.card.sleeps rec.card.paired (stands_in rec).level pins

  pub part_low : part_of whose_in < 2
  part_low = unfold part_in whose_of whose_body card_of in is_low (card_of rec.card) _ (judging_part (card_of rec.card) e)

  own_share : own_in l e ≡ share_of (share_at rec (part_of whose_in))
  unfolding own_in part_in whose_of whose_body
  own_share = unfold lent_of card_of in share_in_lem rec (part_of whose_in) part_low

  pub counter_by : (own_in l e).counter ≡ counter_for whose_in rec.first.counter rec.second.counter
  unfolding counter_for
  counter_by = ap (λ (s : lent.Share). s.counter) own_share ∙ go (eqb (part_of whose_in) 0)
    where
      go : (x : Bool) → (share_of (cond x rec.first rec.second)).counter ≡ cond x rec.first.counter rec.second.counter
      go true = unfold share_of in refl
      go false = unfold share_of in refl

  -- the level of the first part
  own_level : part_of whose_in ≡ 0 → (own_in l e).ledger.level ≡ (stands_in rec).level
  own_level z = ap (λ (s : lent.Share). s.ledger.level) own_share ∙ rw z (unfold share_of ledger_of in refl)

  alone : rec.card.paired ≡ false → is_of 0 whose_in ≡ true
  alone u = rw u (unfold whose is_of in refl)

  module _ (good : lent_good (lent_of rec) ≡ true) where
    apart : rec.card.paired ≡ true → rec.card.sleeps ≡ false
    apart = unfold lent_of card_of in pair_awake l.card (sound l good).card

    pub counter_low : counter_for whose_in rec.first.counter rec.second.counter ≤ 7
    counter_low = rw (← counter_by) (unfold own_in in leb-true _ 7 ((sound l good).part (part_in l.card e) (judging_part l.card e)).counter)

    pub read_by_lem : read_in (lent_of rec) e ≡ read_by
    unfolding read_in read read_body
    read_by_lem = unfold lent_of card_of in go rec.card.paired refl
      where
        go : (x : Bool) → rec.card.paired ≡ x →
            read_as rec.card.sleeps rec.card.paired (own_in l e).ledger.level pins ≡ read_as rec.card.sleeps rec.card.paired (stands_in rec).level pins
        go false u = ap (λ (v : Level). read_as rec.card.sleeps rec.card.paired v pins) (own_level (pins_part 0 rec.card.paired pins (alone u)))
        go true u = rw (u, apart u) (unfold read_as in refl)

    -- ---- after the entry
    move_level : level_after (effect_on l e 0).move (l.share 0).ledger.level ≡ level_after (move_of read_by) (stands_in rec).level
    unfolding effect_on whose_of whose_body
    move_level = unfold lent_of card_of in go (is_of 0 whose_in) refl
      where
        first : (l.share 0).ledger.level ≡ (stands_in rec).level
        first = ap (λ (s : lent.Share). s.ledger.level) (share_in_lem rec 0 (omega arith)) ∙ (unfold share_of ledger_of in refl)

        still : (x : Bool) → rec.card.paired ≡ x → is_of 0 whose_in ≡ false → move_of read_by ≡ stays
        still false u o = let z : true ≡ false = sym (alone u) ∙ o in absurd cc
        still true u o = rw (u, apart u) (unfold read_as in pair_stays pins)

        go : (x : Bool) → is_of 0 whose_in ≡ x → level_after (cond x (effect_in l e) no_effect).move (l.share 0).ledger.level ≡ level_after (move_of read_by) (stands_in rec).level
        go true o = unfold effect_in effect_of in rw (read_by_lem, first)
        go false o = unfold no_effect in rw (still rec.card.paired refl o, first)

  module _ (n : step_refusal (lent_of rec) e ≡ none) where
    abbrev good_now : lent_good l ≡ true
    good_now = (step_passed l e n).good

    -- the level is stored as it is
    level_after_lem : level_of (code_of (ledger_with l e 0)).level ≡ level_after (move_of read_by) (stands_in rec).level
    unfolding ledger_of
    level_after_lem =
        let there = ledger_with l e 0 in
        ap (λ (g : lent.Ledger). g.level) (ledger_back there (sound_ledger l.card there (ledger_kept l e n 0 (first_is l.card))).owing)
        ∙ (unfold ledger_with entered at_level in move_level good_now)

    pub stands_after : stands_in (record_with rec e) ≡ standing_after whose_in read_by (stands_in rec)
    unfolding record_with record_after standing_after counter_if whose_of whose_body command_in move_in
    stands_after = rw (taken_ledger, taken_counter, taken_counter, read_by_lem good_now, level_after_lem) (unfold lent_of card_of in refl)
