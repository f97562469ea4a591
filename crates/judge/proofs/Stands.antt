-- What a state stands for: these fields of the card, this past, this offset. At any bytes it goes by the same head as they do.
use Prim.Native.Nat.{ℕ, suc, ◌+◌, ◌*◌, ◌^◌, ◌≤◌, ◌<◌}
use mathlib.Core.Path.{◌≡◌, refl, ap, sym, ◌∙◌}
use mathlib.Core.Bool.{Bool, true, false, cond}
use mathlib.Core.List.{List, [], ◌∷◌}
use mathlib.Core.Option.{none, some}
use native.Mathlib.Omega.{arith}
use lib.Dec.{eqb}
use lib.ListN.{length}
use borrow.Author.Tests.{ne_eqb}
use Rattle.rules.specs.Past.{Past, last_cycle, command_count}
use Rattle.rules.specs.Verdict.{refresh_count}
use Rattle.rules.specs.Card.{Card}
use Rattle.rules.specs.Form.{Field, size_of, ◌up_to◌, last_tag, has, card_whole, may_come, wrong_tag, Head, head_of, card_of}
use Rattle.rules.specs.File.{begun}
use Rattle.rules.specs.FileReading.{CardRight}
use Rattle.rules.specs.Lent.{standing, AllTaken}
use Rattle.rules.specs.Lent as lent
use Rattle.rules.proofs.Tests.{some_none}
use Rattle.rules.proofs.CardRead.{card_good_lem}
use Rattle.rules.proofs.Rounds.{Rising}
use Rattle.rules.proofs.Taken.{rising, below_last, unmoved}
use Rattle.rules.proofs.StepByList.{fresh_stands}
use Rattle.rules.proofs.FileHeads.{HeadSays, head_only}
use Rattle.rules.proofs.CardTags.{tags_rise, tag_below}
use Rattle.card.specs.Values as card
use Rattle.card.specs.Reading.{blank_card}
use Rattle.card.proofs.Fields.{Holds, holds_blank}
use Rattle.bank.specs.declared.Once.{Once}
use Rattle.bank.specs.Values.{last_of, lent_of, fresh_of}
use Rattle.bank.proofs.Sizes.{Whole}
use Rattle.bank.proofs.Beginning.{fresh_lent}
use Rattle.step.proofs.Arrays.{fresh_whole}
use Rattle.chunks.specs.declared.State.{State}
use Rattle.chunks.specs.Took.{wrapped, newest, head_at, head_took, took_of}
use Rattle.chunks.specs.Heard.{start_of, head_line, line_of}
use Rattle.chunks.proofs.Fronts.{come_as, wrong_as}
use Rattle.chunks.proofs.Wraps.{wrapped_is}
use Rattle.judge.proofs.Overflow.{few, commands_few}
use Rattle.judge.proofs.Counts.{none_counted, refreshes_few}

pub record Stands (st : State) (fs : List Field) (past : Past) (at : ℕ) : Type 0 where
  pub card : CardRight fs
  pub tag : st.tag ≡ last_tag fs
  pub holds : Holds st.rec.card fs
  pub arrays : Whole st.rec
  pub lent : lent_of st.rec ≡ standing (card_of fs) past unmoved
  pub taken : AllTaken (card_of fs) past
  -- no entry comes before the card is whole
  pub first : card_whole fs ≡ false → past ≡ []
  pub small : last_cycle past < 2 ^ 32
  pub commands : st.commands ≡ command_count past
  pub refreshes : st.refreshes ≡ refresh_count (card_of fs) past
  pub offset : st.offset ≡ at
  -- a field has at most eleven bytes
  pub near : at ≤ 11 * (length fs + length past)

pub start_stands : Stands start_of [] [] 0
unfolding start_of CardRight AllTaken last_cycle command_count
start_stands = record {
  card = tt;
  tag = unfold last_tag in refl;
  holds = unfold fresh_of in holds_blank;
  arrays = fresh_whole blank_card;
  lent = fresh_lent blank_card ∙ rw holds_blank.reads (sym (fresh_stands (card_of [])));
  taken = tt;
  first = λ e. refl;
  small = omega arith;
  commands = refl;
  refreshes = sym (none_counted (card_of []));
  offset = refl;
  near = omega arith;
}

-- ---- the tests of a head look at the newest tag, and at whether 19 was read
head_same : (b : Bool) (t : ℕ) (x : Bool) (fs : List Field) → t ≡ last_tag fs → x ≡ has 19 fs → (bs : List ℕ) → head_of b (newest t x) bs ≡ head_of b fs bs
unfolding head_of
head_same b t x fs e h [] = refl
head_same b t x fs e h (c ∷ bs) = rw (come_as b t x c, wrong_as b t x c, e, h) (unfold may_come wrong_tag ◌up_to◌ in refl)

begun_is : (x : Once) (past : Past) → last_of x ≡ lent.last_of past → x.seen ≡ begun past
unfolding last_of lent.last_of begun
begun_is x [] e = go x.seen e
  where
    go : (b : Bool) → cond b (some x.at) none ≡ none → b ≡ false
    go true e = absurd (some_none (sym e))
    go false e = refl
begun_is x (y ∷ past) e = go x.seen e
  where
    go : (b : Bool) → cond b (some x.at) none ≡ some y.stamp → b ≡ true
    go true e = refl
    go false e = absurd (some_none e)

module _ {st : State} {fs : List Field} {past : Past} {at : ℕ} (s : Stands st fs past at) where
  pub has_begun : st.rec.last.seen ≡ begun past
  unfolding lent_of standing
  has_begun = begun_is st.rec.last past (ap (λ (l : lent.Lent). l.last) s.lent)

  pub not_ended : eqb st.tag 33 ≡ false
  not_ended = ne_eqb st.tag 33 (λ e. omega (arith, e, s.tag, tag_below fs s.card))

  sleeps_is : st.rec.card.sleeps ≡ has 19 fs
  sleeps_is = unfold card.card_of card_of in ap (λ (c : Card). c.sleeps) s.holds.reads

  head_is : {bs : List ℕ} {h : Head} → HeadSays (begun past) fs bs h → head_at st bs ≡ h
  unfolding head_at
  head_is {bs} h = rw has_begun (head_same (begun past) st.tag st.rec.card.sleeps fs s.tag sleeps_is bs ∙ head_only (begun past) fs h)

  pub took_by : {bs : List ℕ} {h : Head} → HeadSays (begun past) fs bs h → took_of st bs ≡ head_took st h
  unfolding took_of
  took_by h = rw (not_ended, head_is h)

  pub line_by : {bs : List ℕ} {h : Head} → HeadSays (begun past) fs bs h → line_of st bs ≡ head_line st h
  unfolding line_of
  line_by h = rw (head_is h)

  -- ---- no count wraps
  pub entries_few : length past ≤ 2 ^ 32
  entries_few =
      let r : Rising past = rising (card_of fs) past s.taken in
      omega (arith, s.small, few (suc (last_cycle past)) past r (below_last past r))

  counted_few : refresh_count (card_of fs) past ≤ length past
  counted_few = go (card_whole fs) refl
    where
      go : (b : Bool) → card_whole fs ≡ b → refresh_count (card_of fs) past ≤ length past
      go true w = refreshes_few (card_of fs) (card_good_lem fs s.card w) past s.taken
      go false w = rw (s.first w) (omega (arith, none_counted (card_of fs)))

  pub far_below : (st.commands ≤ 2 ^ 32) × (st.refreshes ≤ 2 ^ 32) × (st.offset < 2 ^ 36)
  far_below = (
    omega (arith, s.commands, commands_few past, entries_few),
    omega (arith, s.refreshes, counted_few, entries_few),
    omega (arith, s.offset, s.near, entries_few, tags_rise fs s.card, tag_below fs s.card),
  )

  pub offset_behind : (f : Field) → size_of f ≤ 11 → wrapped (st.offset + size_of f) ≡ at + size_of f
  offset_behind f h = rw s.offset (wrapped_is (at + size_of f) (omega (arith, s.offset, far_below.2)))
