-- The end field: refused as the list refuses it, or taken, and then the state remembers the verdict, which stands unless a byte more comes.
use Prim.Native.Nat.{ℕ, suc, ◌+◌, ◌^◌, ◌≤◌, ◌<◌}
use mathlib.Core.Path.{◌≡◌, refl, ap, sym, ◌∙◌}
use mathlib.Core.Bool.{Bool, true, false, cond}
use mathlib.Core.List.{List, [], ◌∷◌, map}
use mathlib.Core.Option.{none, some}
use native.Mathlib.Omega.{arith}
use lib.IntN.{ℤ, sub_ℕ}
use borrow.Author.Tests.{eq-eqb, ne_eqb}
use Rattle.rules.specs.Card as rules
use Rattle.rules.specs.Whose.{parts}
use Rattle.rules.specs.Past.{Past, of_part}
use Rattle.rules.specs.Account.{lpddr3, Book, ledger_after, ledger_on}
use Rattle.rules.specs.Clock.{book_of}
use Rattle.rules.specs.Verdict.{ledgers_at}
use Rattle.rules.specs.Checks.{Refusal, end_refusal}
use Rattle.rules.specs.Form.{Field, size_of, of_entry, card_whole, card_of, end_of}
use Rattle.rules.specs.File.{FileVerdict, accepted_at, begun}
use Rattle.rules.specs.FileReading.{RightForm}
use Rattle.rules.specs.Lent.{Share, Lent, Ledger, close_refusal, moved_on, standing}
use Rattle.rules.proofs.Biased.{owed, ledger_biased}
use Rattle.rules.proofs.Filtered.{IsPart}
use Rattle.rules.proofs.Earliest.{ledgers_parts}
use Rattle.rules.proofs.Taken.{unmoved}
use Rattle.rules.proofs.StepByList.{ledger_is, moved_stands, close_unmoved, end_reached}
use Rattle.card.specs.Values as code
use Rattle.ledger.specs.Values.{ledger_of, stored, code_of, pace_of}
use Rattle.ledger.proofs.Promises.{stored_is}
use Rattle.lines.specs.declared.Owed.TheVariants.{One, Two}
use Rattle.lines.specs.Values.{ledgers_of}
use Rattle.bank.specs.declared.Record.{Record}
use Rattle.bank.specs.Values.{share_of, share_at, lent_of}
use Rattle.bank.proofs.Shares.{share_in_lem, first_is, second_is}
use Rattle.chunks.specs.declared.State.{State}
use Rattle.chunks.specs.Values.{verdict_of}
use Rattle.chunks.specs.Took.{On, took_as, wrapped, refused_here, record_closed, ledgers_end, end_after, end_took, field_took}
use Rattle.chunks.specs.Heard.{owed_of, ended_at}
use Rattle.judge.proofs.Overflow.{size_small}
use Rattle.judge.proofs.Stands.{Stands, far_below, offset_behind}
use Rattle.judge.proofs.StandsEntry.{in_range, paid}

-- a ledger over the list is stored as it is
stored_back : (b : Book) (t : ℕ) → sub_ℕ (stored (ledger_on 8 b t)) 8 ≡ ledger_on 8 b t
unfolding ledger_on ledger_after
stored_back b t =
    let n = suc (b.clock t) in
    rw (ledger_biased 8 b.schedule b.refreshes n, stored_is (owed 8 b.schedule b.refreshes n))

one_ledger : (a : ℕ) {x : ℤ} → sub_ℕ a 8 ≡ x → ledgers_of (One a) ≡ x ∷ []
unfolding ledgers_of
one_ledger a e = rw e

two_ledgers : (a b : ℕ) {x y : ℤ} → sub_ℕ a 8 ≡ x → sub_ℕ b 8 ≡ y → ledgers_of (Two a b) ≡ x ∷ y ∷ []
unfolding ledgers_of
two_ledgers a b e f = rw (e, f)

-- behind a good end field
pub record Ended (st : State) (v : FileVerdict) (at : ℕ) : Type 0 where
  pub tag : st.tag ≡ 33
  pub says : verdict_of (ended_at st) ≡ v
  pub offset : st.offset ≡ at
  pub near : (st.commands ≤ 2 ^ 32) × (st.refreshes ≤ 2 ^ 32) × (st.offset < 2 ^ 37)

module _ {st : State} {fs : List Field} {past : Past} {at : ℕ} (s : Stands st fs past at) (w : card_whole fs ≡ true) where
  abbrev rec : Record
  rec = st.rec

  closed_by : (end : ℕ) → close_refusal (lent_of rec) end ≡ end_refusal (card_of fs) past end
  closed_by end = rw s.lent (close_unmoved (card_of fs) past (in_range s w) s.taken end)

  -- a part's ledger at E, of the record and over the list
  abbrev moved_to : (p end : ℕ) → Ledger
  moved_to p end = moved_on (code.card_of rec.card) (pace_of rec.pace) (ledger_of (share_at rec p).ledger) end

  share_ledger : (p : ℕ) → p < 2 → ledger_of (share_at rec p).ledger ≡ ((standing (card_of fs) past unmoved).share p).ledger
  unfolding share_of
  share_ledger p h = ap (λ (x : Share). x.ledger) (sym (share_in_lem rec p h)) ∙ ap (λ (l : Lent). (l.share p).ledger) s.lent

  pace_is : pace_of rec.pace ≡ (standing (card_of fs) past unmoved).pace
  pace_is = unfold lent_of in ap (λ (l : Lent). l.pace) s.lent

  owing_at : (p end : ℕ) → p < 2 → IsPart (card_of fs) p → end_refusal (card_of fs) past end ≡ none →
      sub_ℕ (code_of (moved_to p end)).owed 8 ≡ ledger_on lpddr3.credit (book_of (card_of fs) (of_part p past)) end
  unfolding code_of
  owing_at p end h i n =
      let reached = end_reached (card_of fs) past (in_range s w) s.taken end n p i in
      let there = moved_stands (card_of fs) past unmoved (in_range s w) s.taken (paid s w) p i end reached in
      let here = ledger_is (card_of fs) past unmoved (in_range s w) s.taken (paid s w) p i in
      rw (s.holds.reads, pace_is, share_ledger p h, here, there) (unfold lpddr3 in stored_back (book_of (card_of fs) (of_part p past)) end)

  paired_is : rec.card.paired ≡ (card_of fs).paired
  paired_is = unfold code.card_of in ap (λ (c : rules.Card). c.paired) s.holds.reads

  -- those of all parts, as they are stored
  owed_is : (end : ℕ) → end_refusal (card_of fs) past end ≡ none → ledgers_of (owed_of (record_closed rec (ledgers_end rec end))) ≡ ledgers_at (card_of fs) past end
  unfolding owed_of record_closed ledgers_end parts
  owed_is end n = go rec.card.paired refl ∙ ap (λ (x : Bool). list (cond x (0 ∷ 1 ∷ []) (0 ∷ []))) paired_is ∙ sym (ledgers_parts (card_of fs) past end)
    where
      list : List ℕ → List ℤ
      list ps = map (λ p. ledger_on lpddr3.credit (book_of (card_of fs) (of_part p past)) end) ps

      go : (x : Bool) → rec.card.paired ≡ x →
          ledgers_of (cond x (Two (code_of (moved_to 0 end)).owed (cond x (code_of (moved_to 1 end)) rec.second.ledger).owed) (One (code_of (moved_to 0 end)).owed))
          ≡ list (cond x (0 ∷ 1 ∷ []) (0 ∷ []))
      go true e =
          let second : IsPart (card_of fs) 1 = second_is (card_of fs) ∙ sym paired_is ∙ e in
          two_ledgers _ _ (owing_at 0 end (omega arith) (first_is (card_of fs)) n) (owing_at 1 end (omega arith) second n)
      go false e = one_ledger _ (owing_at 0 end (omega arith) (first_is (card_of fs)) n)

  module _ (f : Field) (form : RightForm (begun past) fs f) (t : f.tag ≡ 33) where
    pub of_end : field_took st f ≡ end_took st f
    unfolding field_took of_entry
    of_end = rw (ne_eqb f.tag 32 (λ e. omega arith), ne_eqb f.tag 34 (λ e. omega arith), eq-eqb f.tag 33 t)

    pub end_refused : (x : Refusal) → end_refusal (card_of fs) past (end_of f) ≡ some x → field_took st f ≡ refused_here st x
    unfolding end_took
    end_refused x n = of_end ∙ rw (closed_by (end_of f) ∙ n, end_took)

    pub end_taken : end_refusal (card_of fs) past (end_of f) ≡ none → field_took st f ≡ took_as (On (size_of f)) (end_after st f)
    unfolding end_took
    end_taken n = of_end ∙ rw (closed_by (end_of f) ∙ n, end_took)

    pub end_stands : end_refusal (card_of fs) past (end_of f) ≡ none → Ended (end_after st f) (accepted_at fs past (end_of f)) (at + size_of f)
    unfolding end_after
    end_stands n = record {
      tag = refl;
      says = unfold verdict_of ended_at accepted_at in rw (s.commands, s.refreshes, owed_is (end_of f) n);
      offset = there;
      near = let b = far_below s in (b.0, b.1, omega (arith, there, s.offset, b.2, size_small fs f form));
    }
      where
        there : wrapped (st.offset + size_of f) ≡ at + size_of f
        there = offset_behind s f (size_small fs f form)
