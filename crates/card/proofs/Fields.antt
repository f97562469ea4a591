-- The card that some fields of a file make: none make the blank card, and one more field makes what reading its value gives.
use Prim.Native.Nat.{ℕ, ◌+◌, ◌-◌, ◌<◌}
use mathlib.Core.Path.{◌≡◌, refl, ap, sym, ◌∙◌}
use mathlib.Core.Bool.{Bool, true, false, cond, ◌||◌, ◌&&◌}
use mathlib.Core.List.{List, [], ◌∷◌, ◌++◌}
use mathlib.Core.Option.{Option, none, some}
use mathlib.Core.Logic.{⊎_elim}
use native.Mathlib.Omega.{arith}
use lib.Dec.{eqb, lit<}
use lib.ListN.{length, get_or, set, length-set, get_or-map}
use lib.Seq.{get_or-set_same, get_or-set_other}
use borrow.Author.Tests.{eqb-true}
use Rattle.rules.specs.Card as paper
use Rattle.rules.specs.Units.{femto}
use Rattle.rules.specs.Ranges.{timings, sleep_timings, within}
use Rattle.rules.specs.Folds.{or_else, first_of}
use Rattle.rules.specs.Checks.{refusal, unless}
use Rattle.rules.specs.Form as form
use Rattle.rules.proofs.Onward.{onward, at_each}
use Rattle.rules.proofs.Tests.{eq_cases}
use Rattle.rules.proofs.Rounding.{within_both}
use Rattle.card.specs.Values.{timing, timing_in, mr1_if, card_of}
use Rattle.card.specs.Reading.{number_for, good, put, read_refusal, unread_by, answer_by, read_of, blank_card}
use Rattle.card.specs.declared.Card.{Card}
use Rattle.card.specs.declared.Unread.TheVariants.{Value}
use Rattle.std.specs.Prelude.{Ok, Err}
use Rattle.card.proofs.Lengths.{is_within}

-- a card's numbers, whether it sleeps or is paired, its starting MR1, and its timings by their place
built : (period mr2 groups trefi gap raise : ℕ) → (sleeps paired : Bool) → Option ℕ → (ℕ → paper.Timing) → paper.Card
built p m g r x h s d w c = record {
  period = p;
  mr2 = m;
  groups = g;
  trefi = r;
  trcd = c 0;
  trppb = c 1;
  trpab = c 2;
  tras = c 3;
  trrd = c 4;
  tfaw = c 5;
  trtp = c 6;
  twr = c 7;
  twtr = c 8;
  tdqsck = c 9;
  trfcab = c 10;
  trfcpb = c 11;
  tmrr = c 12;
  tmrw = c 13;
  sleeps = s;
  tcke = c 14;
  txp = c 15;
  tckesr = c 16;
  txsr = c 17;
  mr1 = w;
  paired = d;
  gap = x;
  raise = h;
}

card_built : (card : Card)
    → card_of card ≡ built card.period.0 card.mr2 card.groups card.trefi card.gap card.raise card.sleeps card.paired (mr1_if card.programmed card.mr1) (timing_in card)
unfolding card_of built
card_built card = refl

fields_built : (fs : List form.Field)
    → form.card_of fs
    ≡ built (form.period_at fs) (form.number_at 2 fs) (form.number_at 3 fs) (form.number_at 4 fs) (form.number_at 25 fs) (form.number_at 26 fs) (form.has 19 fs) (form.has 25 fs) (form.number_if 23 fs)
    (λ k. form.timing_at (k + 5) fs)
unfolding form.card_of built
fields_built fs = refl

all_timings : paper.Card → List paper.Timing
all_timings card = timings card ++ sleep_timings card

places : List ℕ
places = 0 ∷ 1 ∷ 2 ∷ 3 ∷ 4 ∷ 5 ∷ 6 ∷ 7 ∷ 8 ∷ 9 ∷ 10 ∷ 11 ∷ 12 ∷ 13 ∷ 14 ∷ 15 ∷ 16 ∷ 17 ∷ []

place_is : (k : ℕ) → k < 18 → get_or places k 0 ≡ k
unfolding places onward
place_is k h = eqb-true (get_or places k 0) k (at_each (λ j. eqb (get_or places j 0) j) 0 18 refl k (omega arith) (omega arith))

same_built : {p q m n g h r s x y e f : ℕ} {u v a b : Bool} {w z : Option ℕ} {c d : ℕ → paper.Timing}
    → p ≡ q → m ≡ n → g ≡ h → r ≡ s → x ≡ y → e ≡ f → u ≡ v → a ≡ b → w ≡ z → ((k : ℕ) → k < 18 → c k ≡ d k) → built p m g r x e u a w c ≡ built q n h s y f v b z d
unfolding built
same_built a b e f x y w z o at = λ i. record {
  period = a i;
  mr2 = b i;
  groups = e i;
  trefi = f i;
  trcd = at 0 (lit< tt) i;
  trppb = at 1 (lit< tt) i;
  trpab = at 2 (lit< tt) i;
  tras = at 3 (lit< tt) i;
  trrd = at 4 (lit< tt) i;
  tfaw = at 5 (lit< tt) i;
  trtp = at 6 (lit< tt) i;
  twr = at 7 (lit< tt) i;
  twtr = at 8 (lit< tt) i;
  tdqsck = at 9 (lit< tt) i;
  trfcab = at 10 (lit< tt) i;
  trfcpb = at 11 (lit< tt) i;
  tmrr = at 12 (lit< tt) i;
  tmrw = at 13 (lit< tt) i;
  sleeps = w i;
  tcke = at 14 (lit< tt) i;
  txp = at 15 (lit< tt) i;
  tckesr = at 16 (lit< tt) i;
  txsr = at 17 (lit< tt) i;
  mr1 = o i;
  paired = z i;
  gap = x i;
  raise = y i;
}

at_place : (p m g r x h : ℕ) (s d : Bool) (w : Option ℕ) (c : ℕ → paper.Timing) (k : ℕ) → k < 18 → get_or (all_timings (built p m g r x h s d w c)) k (c 0) ≡ c k
unfolding all_timings timings sleep_timings built places
at_place p m g r x h s d w c k lt = get_or-map c places k 0 ∙ ap c (place_is k lt)

-- the card reads as what these fields say, and its columns are whole, as those of every card in the code are
pub record Holds (card : Card) (fs : List form.Field) : Type 0 where
  pub reads : card_of card ≡ form.card_of fs
  pub durations_length : length card.durations ≡ 18
  pub floors_length : length card.floors ≡ 18

held_timing : (card : Card) (fs : List form.Field) → Holds card fs → (k : ℕ) → k < 18 → timing_in card k ≡ form.timing_at (k + 5) fs
unfolding card_of form.card_of built
held_timing card fs h k lt =
    sym (at_place card.period.0 card.mr2 card.groups card.trefi card.gap card.raise card.sleeps card.paired (mr1_if card.programmed card.mr1) (timing_in card) k lt)
    ∙ ap (λ (x : paper.Card). get_or (all_timings x) k x.trcd) h.reads
    ∙ at_place (form.period_at fs) (form.number_at 2 fs) (form.number_at 3 fs) (form.number_at 4 fs) (form.number_at 25 fs) (form.number_at 26 fs) (form.has 19 fs) (form.has 25 fs) (form.number_if 23 fs)
    (λ j. form.timing_at (j + 5) fs) k lt

-- the number of a value by its tag
number_at_lem : (t k : ℕ) (v : List ℕ) (old : ℕ) → cond (eqb t k) (number_for t v) old ≡ cond (eqb t k) (number_for k v) old
number_at_lem t k v old = ⊎_elim (λ (q : (t ≡ k) × (eqb t k ≡ true)). rw q.0) (λ (q : (t ≡ k → ⊥) × (eqb t k ≡ false)). rw q.1) (eq_cases t k)

-- the starting MR1, where the newest field may be its
newest_mr1 : (card : Card) (fs : List form.Field) (f : form.Field) → card_of card ≡ form.card_of fs
    → mr1_if (eqb f.tag 23 || card.programmed) (cond (eqb f.tag 23) (number_for f.tag f.value) card.mr1) ≡ form.number_if 23 (f ∷ fs)
unfolding form.number_if form.number_at form.has form.value_of card_of form.card_of mr1_if
newest_mr1 card fs f e = rw (number_at_lem f.tag 23 f.value card.mr1) (unfold number_for in go (eqb f.tag 23))
  where
    go : (b : Bool)
        → mr1_if (b || card.programmed) (cond b (form.number f.value) card.mr1)
        ≡ cond (b || form.has 23 fs) (some (form.number (cond b f.value (form.value_of 23 fs)))) none
    go true = refl
    go false = ap (λ (z : paper.Card). z.mr1) e

-- the newest field with a tag is the one that counts
newest : {A : Type 0} (read : List ℕ → A) (k : ℕ) (f : form.Field) (fs : List form.Field) (old : A) → old ≡ read (form.value_of k fs)
    → cond (eqb f.tag k) (read f.value) old ≡ read (form.value_of k (f ∷ fs))
unfolding form.value_of
newest read k f fs old e = go (eqb f.tag k)
  where
    go : (b : Bool) → cond b (read f.value) old ≡ read (cond b f.value (form.value_of k fs))
    go true = refl
    go false = e

newest_number : (k : ℕ) (f : form.Field) (fs : List form.Field) (old : ℕ) → old ≡ number_for k (form.value_of k fs)
    → cond (eqb f.tag k) (number_for f.tag f.value) old ≡ number_for k (form.value_of k (f ∷ fs))
newest_number k f fs old e = number_at_lem f.tag k f.value old ∙ newest (number_for k) k f fs old e

put_timing : (card : Card) (t x : ℕ) (y : paper.Timing) (k : ℕ)
    → k < 18 → k < length card.durations → k < length card.floors → timing_in (put card t x y) k ≡ cond (eqb t (k + 5)) y (timing_in card k)
unfolding put timing_in
put_timing card t x y k lt hd hf =
    ⊎_elim (λ (q : (t ≡ k + 5) × (eqb t (k + 5) ≡ true)).
    let e : t - 5 ≡ k = omega arith in
    rw (q.1, is_within 5 22 t (omega arith) (omega arith), e, get_or-set_same card.durations k y.duration 0 hd, get_or-set_same card.floors k y.floor 0 hf))
    (λ (q : (t ≡ k + 5 → ⊥) × (eqb t (k + 5) ≡ false)). rw q.1 (kept q.0 (within 5 22 t) refl))
    (eq_cases t (k + 5))
  where
    kept : (t ≡ k + 5 → ⊥) → (b : Bool) → within 5 22 t ≡ b
        → timing (get_or (cond b (set card.durations (t - 5) y.duration) card.durations) k 0) (get_or (cond b (set card.floors (t - 5) y.floor) card.floors) k 0)
        ≡ timing (get_or card.durations k 0) (get_or card.floors k 0)
    kept n true e =
        let (low, _) = within_both 5 22 t e in
        rw (get_or-set_other card.durations (t - 5) k y.duration 0 (omega arith), get_or-set_other card.floors (t - 5) k y.floor 0 (omega arith))
    kept n false e = refl

put_length : (b : Bool) (k : ℕ) (l : List ℕ) (a : ℕ) → length (cond b (set l k a) l) ≡ length l
put_length true k l a = length-set l k a
put_length false k l a = refl

pub holds_blank : Holds blank_card []
unfolding blank_card card_of timing_in form.card_of form.number_at form.period_at form.period_of femto form.timing_at form.has form.value_of form.timing_of form.number form.number_from form.number_if mr1_if
holds_blank = record { reads = refl; durations_length = refl; floors_length = refl }

pub holds_more : (card : Card) (fs : List form.Field) (f : form.Field) → Holds card fs
    → Holds (put card f.tag (number_for f.tag f.value) (form.timing_of f.value)) (f ∷ fs)
unfolding form.number_at form.period_at form.timing_at form.has put card_of form.card_of number_for
holds_more card fs f h =
    let x = number_for f.tag f.value in
    let y = form.timing_of f.value in
    let t = f.tag in
    record {
      reads =
          card_built (put card t x y)
          ∙ same_built
          (newest_number 1 f fs card.period.0 (ap (λ (z : paper.Card). z.period) h.reads))
          (newest_number 2 f fs card.mr2 (ap (λ (z : paper.Card). z.mr2) h.reads))
          (newest_number 3 f fs card.groups (ap (λ (z : paper.Card). z.groups) h.reads))
          (newest_number 4 f fs card.trefi (ap (λ (z : paper.Card). z.trefi) h.reads))
          (newest_number 25 f fs card.gap (ap (λ (z : paper.Card). z.gap) h.reads))
          (newest_number 26 f fs card.raise (ap (λ (z : paper.Card). z.raise) h.reads))
          (ap (λ (z : paper.Card). eqb t 19 || z.sleeps) h.reads)
          (ap (λ (z : paper.Card). eqb t 25 || z.paired) h.reads)
          (newest_mr1 card fs f h.reads)
          (λ k lt.
          let a = h.durations_length in
          let b = h.floors_length in
          put_timing card t x y k lt (omega arith) (omega arith)
          ∙ newest form.timing_of (k + 5) f fs (timing_in card k) (held_timing card fs h k lt))
          ∙ sym (fields_built (f ∷ fs));
      durations_length = put_length (within 5 22 t) (t - 5) card.durations y.duration ∙ h.durations_length;
      floors_length = put_length (within 5 22 t) (t - 5) card.floors y.floor ∙ h.floors_length;
    }

-- the test of a value's range is that of the field
pub good_field : (card : Card) (fs : List form.Field) (f : form.Field) → Holds card fs
    → good card.sleeps card.period.0 f.tag (number_for f.tag f.value) (form.timing_of f.value) ≡ form.field_good fs f
unfolding good form.field_good form.gap_good form.period_at card_of form.card_of
good_field card fs f h = ⊎_elim
    (λ (q : (f.tag ≡ 1) × (eqb f.tag 1 ≡ true)). unfold number_for in rw q.1)
    (λ (q : (f.tag ≡ 1 → ⊥) × (eqb f.tag 1 ≡ false)).
    unfold number_for in rw (q.1, ap (λ (z : paper.Card). z.sleeps) h.reads, ap (λ (z : paper.Card). z.period) h.reads))
    (eq_cases f.tag 1)

-- reading a field whose tag may come, of its length: in range or refused
pub read_field : (card : Card) (b : Bool) (last : ℕ) (fs : List form.Field) (f : form.Field) → Holds card fs
    → (form.of_card f.tag && form.may_follow b last f.tag) ≡ true → form.length_good f.tag (length f.value) ≡ true
    → read_of card b last f.tag f.value
    ≡ cond (form.field_good fs f) (Ok (put card f.tag (number_for f.tag f.value) (form.timing_of f.value))) (Err Value)
unfolding read_of
read_field card b last fs f h tag size = go (form.field_good fs f) (good_field card fs f h)
  where
    next : Card
    next = put card f.tag (number_for f.tag f.value) (form.timing_of f.value)

    go : (x : Bool) → good card.sleeps card.period.0 f.tag (number_for f.tag f.value) (form.timing_of f.value) ≡ x
        → answer_by (read_refusal card b last f.tag f.value) next ≡ cond x (Ok next) (Err Value)
    go true e = unfold read_refusal first_of or_else unless answer_by in rw (tag, size, e)
    go false e = unfold read_refusal first_of or_else unless refusal answer_by unread_by in rw (tag, size, e)
