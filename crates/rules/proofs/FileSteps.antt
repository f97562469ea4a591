-- One field of a file does exactly what is read of it: the file goes on behind a right field of the card or an entry that passes, or it ends so.
use Prim.Native.Nat.{ℕ, suc, ◌+◌, ◌<◌}
use mathlib.Core.Path.{◌≡◌, refl, ap, ◌∙◌}
use mathlib.Core.Logic.{⊎_elim}
use mathlib.Core.Bool.{Bool, true, false, cond, ◌||◌}
use mathlib.Core.List.{List, [], ◌∷◌, ◌++◌}
use mathlib.Core.Option.{Option, none, some}
use native.Mathlib.Omega.{arith}
use lib.Dec.{eqb}
use borrow.Author.Tests.{eqb-true, eq-eqb, ne_eqb}
use Rattle.rules.specs.Past.{Past}
use Rattle.rules.specs.Entries.{past_with}
use Rattle.rules.specs.Checks.{Refusal, refusal, entry_refusal, end_refusal}
use Rattle.rules.specs.Reading.{AllPass, entry_reads}
use Rattle.rules.specs.Form.{Field, bytes_of, size_of, ◌up_to◌, last_tag, card_whole, of_entry, of_trace, may_follow, may_come, wrong_after, wrong_tag, Head, whole, card_of, field_good, entry_of, end_of}
use Rattle.rules.specs.File.{FileVerdict, refused, Step, goes_on, ends, or_refused, card_step, entry_step, accepted_at, closing, end_step, by_head, begun, step_of}
use Rattle.rules.specs.FileReading.{RightForm, CardRight, Ends, one, tag, three, four, entry, end, twelve, good}
use Rattle.rules.proofs.Tests.{eq_cases}
use Rattle.rules.proofs.CardTags.{entry_high, next_small}
use Rattle.rules.proofs.WrongTags.{expected_is, expected_only, wrong_is, wrong_only}
use Rattle.rules.proofs.Exactly.{entry_decides, end_decides}
use Rattle.rules.proofs.FileHeads.{HeadSays, is_whole, is_cut, is_bad_tag, is_bad_length, head_says, head_only}

pub data StepSays (fs : List Field) (past : Past) (at : ℕ) : List ℕ → Step → Type 0 where
  card_on : (f : Field) (rest : List ℕ) → RightForm (begun past) fs f → of_trace f.tag ≡ false → field_good fs f ≡ true →
      StepSays fs past at (bytes_of f ++ rest) (goes_on (f ∷ fs) past (at + size_of f) rest)
  entry_on : (f : Field) (rest : List ℕ) → RightForm (begun past) fs f → card_whole fs ≡ true → of_entry f.tag ≡ true → AllPass (entry_reads (card_of fs) past (entry_of f)) →
      StepSays fs past at (bytes_of f ++ rest) (goes_on fs (past_with (card_of fs) past (entry_of f)) (at + size_of f) rest)
  stops : {bs : List ℕ} {v : FileVerdict} → Ends fs past at bs v → StepSays fs past at bs (ends v)

data Kind (fs : List Field) (f : Field) : Type 0 where
  of_a_card : of_trace f.tag ≡ false → Kind fs f
  of_an_entry : card_whole fs ≡ true → of_entry f.tag ≡ true → Kind fs f
  of_end : card_whole fs ≡ true → f.tag ≡ 33 → Kind fs f

kind : {b : Bool} (fs : List Field) (f : Field) → CardRight fs → RightForm b fs f → Kind fs f
unfolding of_trace may_come may_follow card_whole
kind {b} fs f r h = by (of_entry f.tag) refl
  where
    behind : 31 < f.tag → card_whole fs ≡ true
    behind l = go (card_whole fs) refl
      where
        go : (x : Bool) → card_whole fs ≡ x → card_whole fs ≡ true
        go true w = w
        go false w = absurd (never (eqb-true f.tag (suc (last_tag fs)) (rw w at h.tag)) (next_small fs r w))
          where
            never : f.tag ≡ suc (last_tag fs) → suc (last_tag fs) < 32 → ⊥
            never e k = omega arith

    by : (x : Bool) → of_entry f.tag ≡ x → Kind fs f
    by true p = of_an_entry (behind (entry_high f.tag p)) p
    by false p = ⊎_elim
        (λ (q : (f.tag ≡ 33) × (eqb f.tag 33 ≡ true)). of_end (behind (omega (arith, q.0))) q.0)
        (λ (q : (f.tag ≡ 33 → ⊥) × (eqb f.tag 33 ≡ false)). of_a_card (rw (p, q.1)))
        (eq_cases f.tag 33)

module _ (fs : List Field) (past : Past) (at : ℕ) where
  card_step_lem : (f : Field) (rest : List ℕ) → of_trace f.tag ≡ false → by_head fs past at (whole f rest) ≡ card_step fs past at f rest
  unfolding by_head of_trace
  card_step_lem f rest o = go (of_entry f.tag) (eqb f.tag 33) o
    where
      go : (x y : Bool) → (x || y) ≡ false →
          cond x (entry_step fs past at f rest) (cond y (end_step fs past at f rest) (card_step fs past at f rest)) ≡ card_step fs past at f rest
      go false false e = refl
      go false true e = let z : ◌≡◌ {A = ℕ} 0 1 = cc in absurd (omega arith)
      go true y e = let z : ◌≡◌ {A = ℕ} 0 1 = cc in absurd (omega arith)

  entry_step_lem : (f : Field) (rest : List ℕ) → of_entry f.tag ≡ true → by_head fs past at (whole f rest) ≡ entry_step fs past at f rest
  unfolding by_head
  entry_step_lem f rest t = rw t

  end_step_lem : (f : Field) (rest : List ℕ) → f.tag ≡ 33 → by_head fs past at (whole f rest) ≡ end_step fs past at f rest
  unfolding by_head of_entry
  end_step_lem f rest t = rw (ne_eqb f.tag 32 (omega arith), ne_eqb f.tag 34 (omega arith), eq-eqb f.tag 33 t)

  card_says : (f : Field) (rest : List ℕ) → RightForm (begun past) fs f → of_trace f.tag ≡ false → StepSays fs past at (bytes_of f ++ rest) (card_step fs past at f rest)
  unfolding card_step
  card_says f rest h w = go (field_good fs f) refl
    where
      go : (x : Bool) → field_good fs f ≡ x →
          StepSays fs past at (bytes_of f ++ rest) (cond x (goes_on (f ∷ fs) past (at + size_of f) rest) (ends (refused 4 0 at 0)))
      go true g = card_on f rest h w g
      go false g = stops (four f rest h w g)

  entry_says : (f : Field) (rest : List ℕ) → RightForm (begun past) fs f → card_whole fs ≡ true → of_entry f.tag ≡ true →
      StepSays fs past at (bytes_of f ++ rest) (entry_step fs past at f rest)
  unfolding entry_step or_refused
  entry_says f rest h w t = go (entry_refusal (card_of fs) past (entry_of f)) refl
    where
      go : (o : Option Refusal) → entry_refusal (card_of fs) past (entry_of f) ≡ o →
          StepSays fs past at (bytes_of f ++ rest) (or_refused at o (goes_on fs (past_with (card_of fs) past (entry_of f)) (at + size_of f) rest))
      go none e = entry_on f rest h w t ((entry_decides (card_of fs) past (entry_of f)).passing.0 e)
      go (some x) e = stops (entry f rest x h w t (((entry_decides (card_of fs) past (entry_of f)).failing_so x).0 e))

  end_says : (f : Field) (rest : List ℕ) → RightForm (begun past) fs f → card_whole fs ≡ true → f.tag ≡ 33 →
      StepSays fs past at (bytes_of f ++ rest) (end_step fs past at f rest)
  unfolding end_step or_refused closing
  end_says f rest h w t = go rest (end_refusal (card_of fs) past (end_of f)) refl
    where
      go : (bs : List ℕ) (o : Option Refusal) → end_refusal (card_of fs) past (end_of f) ≡ o →
          StepSays fs past at (bytes_of f ++ bs) (or_refused at o (closing (accepted_at fs past (end_of f)) (at + size_of f) bs))
      go [] none e = stops (good f h w t ((end_decides (card_of fs) past (end_of f)).passing.0 e))
      go (b ∷ bs) none e = stops (twelve f b bs h w t ((end_decides (card_of fs) past (end_of f)).passing.0 e))
      go bs (some x) e = stops (end f bs x h w t (((end_decides (card_of fs) past (end_of f)).failing_so x).0 e))

  pub step_says : CardRight fs → (bs : List ℕ) → StepSays fs past at bs (step_of fs past at bs)
  unfolding step_of
  step_says r bs = by_head_lem (head_says (begun past) fs bs)
    where
      by_kind : (f : Field) (rest : List ℕ) → RightForm (begun past) fs f → Kind fs f → StepSays fs past at (bytes_of f ++ rest) (by_head fs past at (whole f rest))
      by_kind f rest h (of_a_card w) = rw (card_step_lem f rest w) (card_says f rest h w)
      by_kind f rest h (of_an_entry w t) = rw (entry_step_lem f rest t) (entry_says f rest h w t)
      by_kind f rest h (of_end w t) = rw (end_step_lem f rest t) (end_says f rest h w t)

      by_head_lem : {cs : List ℕ} {h : Head} → HeadSays (begun past) fs cs h → StepSays fs past at cs (by_head fs past at h)
      by_head_lem (is_whole f rest h) = by_kind f rest h (kind fs f r h)
      by_head_lem (is_cut c) = unfold by_head in stops (one c)
      by_head_lem (is_bad_tag m) = unfold by_head wrong_tag wrong_after refusal ◌up_to◌ in stops (tag m (wrong_is fs r (begun past) _ m) (expected_is fs r _))
      by_head_lem (is_bad_length m g) = unfold by_head in stops (three m g)

  by_its_head : {bs : List ℕ} {h : Head} → HeadSays (begun past) fs bs h → step_of fs past at bs ≡ by_head fs past at h
  unfolding step_of
  by_its_head h = ap (by_head fs past at) (head_only (begun past) fs h)

  ends_only : CardRight fs → {bs : List ℕ} {v : FileVerdict} → Ends fs past at bs v → step_of fs past at bs ≡ ends v
  unfolding card_step entry_step end_step or_refused closing
  ends_only r (one c) = by_its_head (is_cut c) ∙ unfold by_head in refl
  ends_only r (tag {t = t} m w e) =
      by_its_head (is_bad_tag m) ∙ unfold by_head wrong_tag wrong_after refusal ◌up_to◌ in rw (wrong_only fs r (begun past) t w, expected_only fs r t e)
  ends_only r (three m g) = by_its_head (is_bad_length m g) ∙ unfold by_head in refl
  ends_only r (four f bs h w g) = by_its_head (is_whole f bs h) ∙ card_step_lem f bs w ∙ rw g
  ends_only r (entry f bs x h w t p) =
      by_its_head (is_whole f bs h) ∙ entry_step_lem f bs t ∙ rw (((entry_decides (card_of fs) past (entry_of f)).failing_so x).1 p)
  ends_only r (end f bs x h w t p) =
      by_its_head (is_whole f bs h) ∙ end_step_lem f bs t ∙ rw (((end_decides (card_of fs) past (end_of f)).failing_so x).1 p)
  ends_only r (twelve f b bs h w t p) =
      by_its_head (is_whole f (b ∷ bs) h) ∙ end_step_lem f (b ∷ bs) t ∙ rw ((end_decides (card_of fs) past (end_of f)).passing.1 p)
  ends_only r (good f h w t p) = by_its_head (is_whole f [] h) ∙ end_step_lem f [] t ∙ rw ((end_decides (card_of fs) past (end_of f)).passing.1 p)

  pub step_only : CardRight fs → {bs : List ℕ} {s : Step} → StepSays fs past at bs s → step_of fs past at bs ≡ s
  unfolding card_step entry_step or_refused
  step_only r (card_on f rest h w g) = by_its_head (is_whole f rest h) ∙ card_step_lem f rest w ∙ rw g
  step_only r (entry_on f rest h w t p) =
      by_its_head (is_whole f rest h) ∙ entry_step_lem f rest t ∙ rw ((entry_decides (card_of fs) past (entry_of f)).passing.1 p)
  step_only r (stops e) = ends_only r e
