-- A field of the card: taken where its value is in range, and then the state stands for one field more; else refused.
use Prim.Native.Nat.{ℕ, ◌+◌, ◌≤◌}
use mathlib.Core.Path.{◌≡◌, refl, sym, ◌∙◌}
use mathlib.Core.Bool.{Bool, true, false, ◌&&◌}
use mathlib.Core.Logic.{⊎_elim}
use mathlib.Core.List.{List, [], ◌∷◌}
use native.Mathlib.Omega.{arith}
use lib.ListN.{length}
use borrow.Author.Tests.{ne_eqb}
use Rattle.rules.specs.Past.{Past}
use Rattle.rules.specs.Folds.{or_else, first_of}
use Rattle.rules.specs.Checks.{refusal, unless}
use Rattle.rules.specs.Form.{Field, size_of, last_tag, may_follow, may_come, of_card, length_good, card_whole, of_entry, of_trace, card_of, field_good}
use Rattle.rules.specs.File.{begun}
use Rattle.rules.specs.FileReading.{RightForm, CardRight}
use Rattle.rules.specs.Lent.{AllTaken}
use Rattle.rules.proofs.Decided.{or_none}
use Rattle.rules.proofs.StepByList.{fresh_stands}
use Rattle.rules.proofs.Tags.{of_within}
use Rattle.rules.proofs.CardTags.{no_more, card_bounds, card_tag}
use Rattle.card.specs.Reading.{read_refusal}
use Rattle.card.proofs.Fields.{good_field, holds_more}
use Rattle.bank.specs.Values.{fresh_of}
use Rattle.bank.proofs.Beginning.{fresh_lent}
use Rattle.step.proofs.Arrays.{fresh_whole}
use Rattle.chunks.specs.declared.State.{State}
use Rattle.chunks.specs.Took.{On, took_as, refused_here, card_after, card_took, field_took}
use Rattle.judge.proofs.Overflow.{size_small}
use Rattle.judge.proofs.Counts.{none_counted}
use Rattle.judge.proofs.Stands.{Stands, has_begun, offset_behind}

module _ {st : State} {fs : List Field} {past : Past} {at : ℕ} (s : Stands st fs past at) (f : Field) (form : RightForm (begun past) fs f) (o : of_trace f.tag ≡ false) where
  -- no entry has come: before the card is whole none may, and behind one nothing of the card
  none_yet : past ≡ []
  none_yet = go past refl (card_whole fs) refl form
    where
      go : (p : Past) → past ≡ p → (x : Bool) → card_whole fs ≡ x → RightForm (begun p) fs f → past ≡ []
      go [] e x w h = e
      go (y ∷ p) e false w h = s.first w
      go (y ∷ p) e true w h = absurd (no_more fs f (unfold begun in h) w o)

  form_first : RightForm false fs f
  form_first = go none_yet form
    where
      go : past ≡ [] → RightForm (begun past) fs f → RightForm false fs f
      go e h = unfold begun in (rw e at h)

  right : field_good fs f ≡ true → CardRight (f ∷ fs)
  unfolding CardRight
  right g = (form_first, o, g, s.card)

  pub tag_in : f.tag ≤ 26
  tag_in =
      ⊎_elim (λ (h : f.tag ≤ 23). omega arith) (⊎_elim (λ (h : f.tag ≡ 25). omega arith) (λ (h : f.tag ≡ 26). omega arith))
      (card_bounds f.tag (card_tag fs f s.card form o)).1

  comes : (of_card f.tag && may_follow st.rec.last.seen st.tag f.tag) ≡ true
  comes = rw (of_within f.tag (card_tag fs f s.card form o), has_begun s, s.tag) (unfold may_come in form.tag)

  sized : length_good f.tag (length f.value) ≡ true
  sized = rw form.whole form.size

  size : size_of f ≤ 11
  size = size_small fs f form

  read_is : read_refusal st.rec.card st.rec.last.seen st.tag f.tag f.value ≡ unless (field_good fs f) 4
  unfolding read_refusal first_of or_else unless
  read_is = rw (comes, sized, good_field st.rec.card fs f s.holds, or_none)

  pub of_card_lem : field_took st f ≡ card_took st f
  unfolding field_took of_entry
  of_card_lem = rw (ne_eqb f.tag 32 (λ e. omega (arith, tag_in)), ne_eqb f.tag 34 (λ e. omega (arith, tag_in)), ne_eqb f.tag 33 (λ e. omega (arith, tag_in)))

  pub card_refused : field_good fs f ≡ false → field_took st f ≡ refused_here st (refusal 4 0 0)
  unfolding card_took unless
  card_refused g = of_card_lem ∙ rw (read_is, g, card_took)

  pub card_taken : field_good fs f ≡ true → field_took st f ≡ took_as (On (size_of f)) (card_after st f)
  unfolding card_took unless
  card_taken g = of_card_lem ∙ rw (read_is, g, card_took)

  pub card_stands : field_good fs f ≡ true → Stands (card_after st f) (f ∷ fs) past (at + size_of f)
  unfolding card_after AllTaken
  card_stands g =
      let held = holds_more st.rec.card fs f s.holds in
      record {
        card = right g;
        tag = unfold last_tag in refl;
        holds = unfold fresh_of in held;
        arrays = fresh_whole _;
        lent = fresh_lent _ ∙ rw (held.reads, none_yet) (sym (fresh_stands (card_of (f ∷ fs))));
        taken = rw none_yet tt;
        first = λ e. none_yet;
        small = s.small;
        commands = s.commands;
        refreshes = s.refreshes ∙ rw none_yet (none_counted (card_of fs) ∙ sym (none_counted (card_of (f ∷ fs))));
        offset = offset_behind s f size;
        near = omega (arith, s.near, size);
      }
