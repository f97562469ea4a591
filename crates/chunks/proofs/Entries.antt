-- The field of an entry of pins, and the front of some bytes that it is.
use Rattle.std.specs.Prelude.{Some, None, is_some}
use Rattle.std.proofs.Common.{◌≡◌, ℕ, ◌+◌, ◌-◌, ◌*◌, ◌≤◌, Bool, true, false, cond, ◌&&◌, eqb, leb, List, length, get_or, take, drop, sym, refl, ◌∙◌, arith, lit<, length-drop, length-take-le, take_all, get_or-take, drop-drop, le-ltb, eq-eqb, ne_eqb, eqb-true, le-leb}
use Rattle.rules.specs.Ranges.{within}
use Rattle.rules.specs.Form as form
use Rattle.rules.specs.Lent.{step_refusal}
use Rattle.rules.proofs.Tests.{both_true}
use Rattle.card.specs.Reading as reading
use Rattle.card.proofs.Lengths.{as_listed}
use Rattle.pins.specs.declared.Front.{Front}
use Rattle.pins.specs.Fronts.{is_entry, front_as, front_of}
use Rattle.pins.proofs.Fronts.{entry_room, front_take}
use Rattle.ledger.specs.Values.{is_none}
use Rattle.bank.specs.declared.Record.{Record}
use Rattle.bank.specs.Values.{lent_of}
use Rattle.step.specs.Runs.{entry_at, takes}
use Rattle.chunks.specs.declared.State.{State}
use Rattle.chunks.specs.Took.{read_in}
use Rattle.chunks.specs.Parts.{field_in, NotTaken, NoneHere}
use Rattle.chunks.proofs.Sizes.{entry_size}
use Rattle.chunks.proofs.Fronts.{Fronted, head_is, front, come_as}

entry_length : form.length_good 32 7 ≡ true
unfolding reading.sizes_of within
entry_length = sym (as_listed 32 7 (lit< tt))

-- ---- an entry's field stands at the start of some bytes
front_whole : (x : Bool) (f : Front) → is_some (cond x (Some f) None) ≡ true → x ≡ true
front_whole true f e = refl
front_whole false f e = e

module _ (bs : List ℕ) (w : is_some (front_of bs) ≡ true) where
  whole : is_entry bs ≡ true
  unfolding front_of
  whole = front_whole (is_entry bs) (front_as (form.number (take 4 (drop 3 bs))) (form.number (take 3 (drop 7 bs)))) w

  pub front_is : front_of bs ≡ Some (front_as (form.number (take 4 (drop 3 bs))) (form.number (take 3 (drop 7 bs))))
  unfolding front_of
  front_is = rw whole

  pub room : 10 ≤ length bs
  room = entry_room bs _ front_is

  starts : (get_or bs 0 0 ≡ 32) × (get_or bs 1 0 ≡ 0) × (get_or bs 2 0 ≡ 7)
  unfolding is_entry
  starts =
      let p = (both_true (leb 10 (length bs)) _ whole).1 in
      let q = both_true (eqb (get_or bs 0 0) 32 && eqb (get_or bs 1 0) 0) _ p in
      let r = both_true (eqb (get_or bs 0 0) 32) _ q.0 in
      (eqb-true _ 32 r.0, eqb-true _ 0 r.1, eqb-true _ 7 q.1)

  pub front_tag : get_or bs 0 0 ≡ 32
  front_tag = starts.0

  -- where an entry may come it is a whole field
  pub entry_fronted : (b : Bool) (fs : List form.Field) → form.may_come b fs 32 ≡ true → Fronted b fs bs 10
  entry_fronted b fs comes =
      front b fs bs 10
      (head_is b fs bs
      ∙ rw (
        ne_eqb (length bs) 0 (λ z. omega (arith, room)),
        starts.0,
        comes,
        le-ltb (length bs) 3 (omega (arith, room)),
        starts.1,
        starts.2,
        entry_length,
        le-ltb (length bs - 3) 7 (omega (arith, room)),
      ))

  -- and where it is all of them, that entry
  pub entry_in : length bs ≡ 10 → form.entry_of (field_in bs) ≡ entry_at bs
  unfolding form.entry_of form.body_of field_in
  entry_in h = rw (front_is, front_tag, drop-drop 4 3 bs, take_all 3 (drop 7 bs) (rw length-drop (omega arith)))

-- some bytes that are the field of an entry of pins that is not taken
pub refused_in : (rec : Record) (bs : List ℕ) → NotTaken rec bs → is_none (step_refusal (lent_of rec) (form.entry_of (field_in bs))) ≡ false
unfolding takes
refused_in rec bs t = rw (entry_in bs t.whole t.size) (rw t.whole at t.refused)

-- the ten bytes alone
pub entry_part : (bs : List ℕ) → is_some (front_of bs) ≡ true → form.entry_of (field_in (take 10 bs)) ≡ entry_at bs
entry_part bs w =
    let l = room bs w in
    let e = front_take bs 10 0 (λ h. omega arith) in
    entry_in (take 10 bs) (rw e w) (length-take-le 10 bs l) ∙ rw e

-- ---- a whole field with the tag of an entry of pins
is_front : (bs : List ℕ) → 10 ≤ length bs → get_or bs 0 0 ≡ 32 → 256 * get_or bs 1 0 + get_or bs 2 0 ≡ 7 → is_some (front_of bs) ≡ true
unfolding front_of is_entry
is_front bs l t n = rw (le-leb 10 (length bs) l, t, eq-eqb (get_or bs 1 0) 0 (omega arith), eq-eqb (get_or bs 2 0) 7 (omega arith))

module _ (st : State) (bs : List ℕ) (n : ℕ) (f : Fronted st.rec.last.seen (read_in st) bs n) (tag : get_or (take n bs) 0 0 ≡ 32) where
  tag_here : get_or bs 0 0 ≡ 32
  tag_here = let l = f.least in sym (get_or-take n bs 0 0 (omega arith)) ∙ tag

  ten : n ≡ 10
  ten = entry_size (get_or bs 0 0) n tag_here f.least f.size

  pub not_taken : NoneHere st bs → NotTaken st.rec (take n bs)
  unfolding takes
  not_taken gone =
      let l : 10 ≤ length bs = let h = f.long in let e = ten in omega arith in
      let c = f.count in
      let e = ten in
      let same : front_of (take n bs) ≡ front_of bs = rw ten (front_take bs 10 0 (λ h. omega arith)) in
      record {
        size = length-take-le n bs f.long ∙ ten;
        whole = rw same (is_front bs l tag_here (omega arith));
        refused = rw same (gone (sym (come_as st.rec.last.seen st.tag st.rec.card.sleeps 32) ∙ rw tag_here at f.tag));
      }
