-- What the code makes of one field is what the definitions say.
use Rattle.std.specs.Prelude as rust
use Rattle.std.specs.Prelude.{Some, None, Result, Ok, Err, IsErr, IsErrAnd}
use Rattle.std.proofs.Common.{◌≡◌, ℕ, ◌+◌, ◌-◌, ◌≤◌, Bool, true, false, cond, eqb, List, [], ◌∷◌, length, get_or, take, drop, sym, refl, ap, ◌∙◌, arith, length-drop, length-take-le, take_all, get_or-take, eq-eqb, ne_eqb, eqb-true, le-leb}
use mathlib.Core.Option.{Option, none, some}
use Rattle.rules.specs.Checks.{Refusal, refusal}
use Rattle.rules.specs.Form as form
use Rattle.rules.specs.Entries.{entry}
use Rattle.rules.specs.Lent as lent
use Rattle.card.specs.declared.Card.{Card}
use Rattle.card.specs.declared.Unread.{Unread}
use Rattle.card.specs.declared.Unread.TheVariants.{Tag, Length, Value}
use Rattle.card.specs.Values.{card_of}
use Rattle.card.specs.Reading as reading
use Rattle.card.specs.Reading.{ReadAs}
use Rattle.pins.specs.declared.Front.{Front}
use Rattle.pins.specs.Fronts.{front_of, stamp_in}
use Rattle.ledger.specs.declared.Ledger.{Ledger}
use Rattle.ledger.specs.declared.Refusal as paid_code
use Rattle.ledger.specs.Values as paid
use Rattle.ledger.specs.Values.{is_none}
use Rattle.ledger.proofs.Promises.{code_is}
use Rattle.bank.specs.declared.Ledgers.{Ledgers}
use Rattle.bank.specs.declared.Paid.{Paid}
use Rattle.bank.specs.declared.Record.{Record}
use Rattle.bank.specs.Values.{lent_of, fresh_of}
use Rattle.bank.specs.Both.{ledgers_in, ledgers_as, second_of, ClosedAs}
use Rattle.step.specs.declared.Refusal as code
use Rattle.step.specs.declared.Stepped.{Stepped}
use Rattle.step.specs.Values as stepped
use Rattle.step.specs.Values.{Left}
use Rattle.step.proofs.Onward.{rest_of}
use Rattle.chunks.specs.declared.State.{State}
use Rattle.chunks.specs.declared.numbers.Numbers.{Numbers}
use Rattle.chunks.specs.declared.fields.Taken.{Taken}
use Rattle.chunks.specs.Took.{
  Wait,
  Took,
  took_as,
  wrapped,
  refused_here,
  refused_by,
  refused_tag,
  card_after,
  card_took,
  entry_refused,
  entry_took,
  ledgers_end,
  end_after,
  end_took,
  field_took,
  behind_took,
  head_took,
  read_in,
  head_at,
  took_of,
}
use Rattle.chunks.specs.Parts.{field_in, refusal_in, unread_as, head_as, head_in, whole_as, took_in, NotTaken, end_on}
use Rattle.chunks.proofs.Sizes.{size_in}
use Rattle.chunks.proofs.Fronts.{Fronted, front}
use Rattle.chunks.proofs.Entries.{entry_in, refused_in}

-- ---- a refusal handed on
pub whole_refused : (st : State) (n : ℕ) (r : Result State Numbers) (x : Refusal) (y : Took) → IsErrAnd r (λ k. refusal_in k ≡ x) → refused_here st x ≡ y → whole_as st n r ≡ y
unfolding whole_as
whole_refused st n (Ok next) x y h e = absurd h
whole_refused st n (Err k) x y h e = rw h e

pub field_refused : (st : State) (r : Result (rust.Option Taken) Numbers) (x : Refusal) (y : Took) → IsErrAnd r (λ k. refusal_in k ≡ x) → refused_here st x ≡ y → took_in st r ≡ y
unfolding took_in
field_refused st (Ok o) x y h e = absurd h
field_refused st (Err k) x y h e = rw h e

-- ---- a card's field
unread_told : (e : Unread) → reading.refusal_of (Err e) ≡ some (unread_as e)
unfolding reading.refusal_of unread_as
unread_told (Tag w) = refl
unread_told Length = refl
unread_told Value = refl

module _ (st : State) (bs : List ℕ) (v : Result Card Unread) (r : ReadAs st.rec.card st.rec.last.seen st.tag (get_or bs 0 0) (take (length bs - 3) (drop 3 bs)) v) where
  abbrev read_there : Option Refusal
  read_there = reading.read_refusal st.rec.card st.rec.last.seen st.tag (get_or bs 0 0) (drop 3 bs)

  read_all : ReadAs st.rec.card st.rec.last.seen st.tag (get_or bs 0 0) (drop 3 bs) v
  read_all = rw (rest_of bs 3) at r

  pub card_refused : (e : Unread) → v ≡ Err e → refused_here st (unread_as e) ≡ card_took st (field_in bs)
  unfolding card_took field_in
  card_refused e is =
      let o : read_there ≡ some (unread_as e) = sym read_all.told ∙ ap reading.refusal_of is ∙ unread_told e in
      rw (o, card_took)

  pub card_taken : (c : Card) → 3 ≤ length bs → v ≡ Ok c
      → whole_as st (length bs) (Ok (record { tag = get_or bs 0 0; rec = fresh_of c; commands = st.commands; refreshes = st.refreshes; offset = wrapped (st.offset + length bs) }))
      ≡ card_took st (field_in bs)
  unfolding whole_as card_took card_after field_in reading.refusal_of reading.card_then reading.unless_refused
  card_taken c h is =
      let o : read_there ≡ none = sym read_all.told ∙ rw is in
      let c : c ≡ reading.put st.rec.card (get_or bs 0 0) (reading.number_for (get_or bs 0 0) (drop 3 bs)) (form.timing_of (drop 3 bs)) = rw (o, is) at read_all.card in
      rw (o, card_took, size_in bs h, c)

-- ---- an entry that is not taken
module _ (st : State) (bs : List ℕ) (t : NotTaken st.rec bs) (f : Front) (here : front_of bs ≡ Some f) (r : Stepped)
    (l : Left (lent.step_refusal (lent_of st.rec) (entry f.stamp f.pins)) st.rec (entry f.stamp f.pins) r) where
  told_of : stepped.refusal_of r.answer ≡ lent.step_refusal (lent_of st.rec) (form.entry_of (field_in bs))
  told_of = l.told ∙ rw (entry_in bs t.whole t.size, here)

  pub step_refuses : IsErr r.answer
  unfolding is_none stepped.refusal_of
  step_refuses = go r.answer (ap is_none told_of ∙ refused_in st.rec bs t)
    where
      go : (a : Result (Unit {0}) code.Refusal) → is_none (stepped.refusal_of a) ≡ false → IsErr a
      go (Ok u) h = sym h
      go (Err e) h = refl

  pub entry_refused_lem : (e : code.Refusal) → r.answer ≡ Err e → refused_here st (stepped.refused_as e) ≡ entry_took st (field_in bs)
  unfolding entry_took entry_refused stepped.refusal_of
  entry_refused_lem e is =
      let o : lent.step_refusal (lent_of st.rec) (form.entry_of (field_in bs)) ≡ some (stepped.refused_as e) = sym told_of ∙ rw is in
      rw (o, entry_took)

-- ---- the end
pub end_in : (bs : List ℕ) → length bs ≡ 7 → form.end_of (field_in bs) ≡ stamp_in (drop 3 bs)
unfolding form.end_of field_in stamp_in
end_in bs h = rw (length-drop, le-leb 4 (length bs - 3) (omega arith), take_all 4 (drop 3 bs) (rw length-drop (omega arith)))

pub end_left : (rec : Record) (bs : List ℕ) (t : ℕ) (r : Paid) → length bs ≡ 7 → t ≡ stamp_in (drop 3 bs) → ClosedAs rec t r → ClosedAs rec (form.end_of (field_in bs)) r
end_left rec bs t r n te l = rw (end_in bs n, ← te) l

-- a ledger as it is stored; that of a part which is not there stays
second_is : (paired : Bool) (old : Ledgers) (g : Ledger) (h : lent.Ledger) → paid.ledger_of g ≡ second_of paired old h → g ≡ cond paired (paid.code_of h) old.second
unfolding second_of
second_is true old g h e = sym (code_is g) ∙ ap paid.code_of e
second_is false old g h e = sym (code_is g) ∙ ap paid.code_of e ∙ code_is old.second

module _ (st : State) (f : form.Field) (r : Paid) (l : ClosedAs st.rec (form.end_of f) r) where
  ledgers_are : lent.close_refusal (lent_of st.rec) (form.end_of f) ≡ none → r.ledgers ≡ ledgers_end st.rec (form.end_of f)
  unfolding ledgers_end ledgers_in paid.unless_refused
  ledgers_are o =
      let old = ledgers_in st.rec in
      let there = lent.moved_on (card_of st.rec.card) (paid.pace_of st.rec.pace) (paid.ledger_of st.rec.second.ledger) (form.end_of f) in
      λ i. ledgers_as
      ((sym (code_is r.ledgers.first) ∙ ap paid.code_of (rw o at l.first)) i)
      (second_is st.rec.card.paired old r.ledgers.second there (rw o at l.second) i)

  pub end_refused : (e : paid_code.Refusal) → r.answer ≡ Err e → refused_here st (paid.refused_as e) ≡ end_took st f
  unfolding end_took paid.refusal_of
  end_refused e is =
      let o : lent.close_refusal (lent_of st.rec) (form.end_of f) ≡ some (paid.refused_as e) = sym l.told ∙ rw is in
      rw (o, end_took)

  pub end_taken : (u : Unit {0}) → r.answer ≡ Ok u → form.size_of f ≡ 7 → (n : ℕ) → n ≡ 7 → whole_as st n (Ok (end_on st r.ledgers)) ≡ end_took st f
  unfolding whole_as end_took end_after end_on paid.refusal_of
  end_taken u is size n seven =
      let o : lent.close_refusal (lent_of st.rec) (form.end_of f) ≡ none = sym l.told ∙ rw is in
      rw (o, end_took, size, seven, ledgers_are o)

-- ---- behind the end
behind_is : (st : State) (bs : List ℕ) → st.tag ≡ 33 → took_of st bs ≡ behind_took st bs
unfolding took_of
behind_is st bs e = rw (eq-eqb st.tag 33 e)

pub behind_none : (st : State) (bs : List ℕ) → st.tag ≡ 33 → eqb (length bs) 0 ≡ true → took_in st (Ok None) ≡ took_of st bs
unfolding took_in behind_took
behind_none st [] t e = sym (behind_is st [] t)
behind_none st (b ∷ bs) t e = absurd (omega (arith, eqb-true _ _ e))

pub behind_some : (st : State) (bs : List ℕ) → st.tag ≡ 33 → (x : Numbers) → eqb (length bs) 0 ≡ false → refusal_in x ≡ refusal 12 0 0 → took_in st (Err x) ≡ took_of st bs
unfolding took_in refused_here behind_took refused_by refusal
behind_some st [] t x e from = absurd cc
behind_some st (b ∷ bs) t x e from = rw from (sym (behind_is st (b ∷ bs) t))

-- ---- by the head
module _ (st : State) (bs : List ℕ) (in_time_lem : st.tag ≡ 33 → ⊥) where
  took_head : took_of st bs ≡ head_took st (head_at st bs)
  unfolding took_of
  took_head = rw (ne_eqb st.tag 33 in_time_lem)

  pub whole_took : (n : ℕ) → Fronted st.rec.last.seen (read_in st) bs n → took_of st bs ≡ field_took st (field_in (take n bs))
  unfolding head_at head_took
  whole_took n f = took_head ∙ rw f.is

  -- what a whole field's bytes make of the state
  module _ (n : ℕ) (f : Fronted st.rec.last.seen (read_in st) bs n) (r : Result State Numbers)
      (l : whole_as st (length (take n bs)) r ≡ field_took st (field_in (take n bs))) where
    whole_here : took_of st bs ≡ whole_as st n r
    whole_here = whole_took n f ∙ sym l ∙ rw (length-take-le n bs f.long)

    pub on_taken : (next : State) → r ≡ Ok next → took_in st (Ok (Some (record { size = n; state = next }))) ≡ took_of st bs
    unfolding took_in whole_as
    on_taken next is = rw (whole_here, is)

    pub on_refused : (x : Numbers) → r ≡ Err x → (out : Result (rust.Option Taken) Numbers) → IsErrAnd out (λ y. y ≡ x) → took_in st out ≡ took_of st bs
    unfolding took_in whole_as
    on_refused x is (Ok o) h = absurd h
    on_refused x is (Err y) h = rw (whole_here, is, h)

  -- a head that is not whole
  module _ (r : Result (rust.Option ℕ) Unread) (l : head_in r ≡ head_as (head_at st bs)) where
    refused_by_head : (h : form.Head) (x : Refusal) → head_as h ≡ Err x → refused_here st x ≡ head_took st h
    unfolding head_as head_took refused_here refused_tag refused_by refusal
    refused_by_head (form.whole f rest) x e = absurd cc
    refused_by_head form.cut x e = absurd cc
    refused_by_head (form.bad_tag y) x e = let q : x ≡ refusal y.number y.rule 0 = cc in rw q
    refused_by_head form.bad_length x e = let q : x ≡ refusal 3 0 0 = cc in rw q

    cut_by_head : (h : form.Head) → head_as h ≡ Ok None → took_as Wait st ≡ head_took st h
    unfolding head_as head_took
    cut_by_head (form.whole f rest) e = absurd cc
    cut_by_head form.cut e = refl
    cut_by_head (form.bad_tag y) e = absurd cc
    cut_by_head form.bad_length e = absurd cc

    pub head_refused : (e : Unread) → r ≡ Err e → refused_here st (unread_as e) ≡ took_of st bs
    unfolding head_in
    head_refused e is = refused_by_head (head_at st bs) (unread_as e) (sym l ∙ rw is) ∙ sym took_head

    pub head_cut : (o : rust.Option ℕ) → r ≡ Ok o → ((n : ℕ) → o ≡ Some n → ⊥) → took_in st (Ok None) ≡ took_of st bs
    unfolding head_in took_in
    head_cut None is n = cut_by_head (head_at st bs) (sym l ∙ rw is) ∙ sym took_head
    head_cut (Some k) is n = absurd (n k refl)

pub head_whole : (st : State) (bs : List ℕ) (r : Result (rust.Option ℕ) Unread) → head_in r ≡ head_as (head_at st bs) → (o : rust.Option ℕ) → r ≡ Ok o → (n : ℕ) → o ≡ Some n
    → Fronted st.rec.last.seen (read_in st) bs n
unfolding head_in head_at
head_whole st bs r l o is n there = front st.rec.last.seen (read_in st) bs n (sym l ∙ rw (is, there))

pub whole_asks : (b : Bool) (fs : List form.Field) (bs : List ℕ) (n : ℕ) → Fronted b fs bs n
    → (3 ≤ length (take n bs)) × (form.length_good (get_or (take n bs) 0 0) (length (take n bs) - 3) ≡ true)
whole_asks b fs bs n f =
    let l = f.least in
    rw (length-take-le n bs f.long, get_or-take n bs 0 0 (omega arith)) (l, f.size)
