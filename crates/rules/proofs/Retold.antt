-- Document 02, Three: of every file the entries taken and the verdict are those of the judge without that request, but that each 2 is 17, 18 or 19 at the same
-- offset, with cycle 0; and only a 2 became one of these.
use Prim.Native.Nat.{ℕ, zero, suc, ◌+◌, ◌*◌}
use mathlib.Core.Path.{◌≡◌, refl, ap, sym, ◌∙◌, subst}
use mathlib.Core.Logic.{◌⊎◌, inl, inr}
use mathlib.Core.Bool.{Bool, true, false, cond, ◌&&◌}
use mathlib.Core.List.{List, [], ◌∷◌, ◌++◌}
use mathlib.Core.Option.{Option, none, some}
use native.Mathlib.Omega.{arith}
use lib.Dec.{leb, eqb}
use lib.ListN.{length}
use Rattle.rules.specs.Lists.{is_one_of, Every}
use Rattle.rules.specs.Card.{Card}
use Rattle.rules.specs.Past.{Past}
use Rattle.rules.specs.Entries.{Entry}
use Rattle.rules.specs.Folds.{or_else, first_of}
use Rattle.rules.specs.Checks.{Refusal, refusal, unless, named, checks, entry_checks, end_checks, entry_refusal, end_refusal}
use Rattle.rules.specs.Form.{Field, size_of, last_tag, of_entry, may_come, of_card, known, passed_by, wrong_number, wrong_after, wrong_tag, length_good, whole, cut, bad_tag, bad_length, valued, card_of, entry_of, end_of}
use Rattle.rules.specs.File.{FileVerdict, accepted, refused, Step, goes_on, ends, or_refused, closing, begun, Judged, judged, judge_file}
use Rattle.rules.specs.Lines.{entry_lines, verdict_line, lines_of}
use Rattle.rules.proofs.Tests.{◌&◌}
use Rattle.rules.proofs.Walks.{Judge, two, defined, sized_by, head_by, entry_by, end_by, card_by, pick, by_head_by, step_by, file_by, judged_by, behind, by_step, defined_judged}

-- ---- the judge of the definitions, without that request: every tag that may not come is 2
unfoldable pub curt : Judge
curt = record {
  come = defined.come;
  wrong = two;
  size = defined.size;
  good = defined.good;
  entry = defined.entry;
  taken = defined.taken;
  end = defined.end;
  verdict = defined.verdict;
}

unfoldable pub judge_curt : List ℕ → FileVerdict
judge_curt bs = (judged_by curt bs).verdict

unfoldable pub lines_curt : List ℕ → List ℕ
lines_curt bs = let j = judged_by curt bs in entry_lines j.past ++ verdict_line j.verdict

-- ---- what became of a verdict
-- a number that a wrong tag has now or had then
unfoldable pub tag_number : ℕ → Bool
tag_number = is_one_of (2 ∷ 17 ∷ 18 ∷ 19 ∷ [])

unfoldable pub of_tag : FileVerdict → Bool
of_tag (accepted m n l) = false
of_tag (refused k q at t) = tag_number k

abbrev pub OneOfThree : ℕ → Type 0
OneOfThree k = (k ≡ 17) ⊎ ((k ≡ 18) ⊎ (k ≡ 19))

pub data Retold : (was is : FileVerdict) → Type 0 where
  kept : {v : FileVerdict} → of_tag v ≡ false → Retold v v
  told : {k e at : ℕ} → OneOfThree k → Retold (refused 2 0 at 0) (refused k e at 0)

kept_refused : (k q at t : ℕ) → tag_number k ≡ false → Retold (refused k q at t) (refused k q at t)
unfolding of_tag
kept_refused k q at t h = kept h

kept_form : (k : ℕ) → (k ≡ 1) ⊎ ((k ≡ 3) ⊎ ((k ≡ 4) ⊎ (k ≡ 12))) → (at : ℕ) → Retold (refused k 0 at 0) (refused k 0 at 0)
unfolding tag_number is_one_of
kept_form k (inl e) at = kept_refused k 0 at 0 (rw e)
kept_form k (inr (inl e)) at = kept_refused k 0 at 0 (rw e)
kept_form k (inr (inr (inl e))) at = kept_refused k 0 at 0 (rw e)
kept_form k (inr (inr (inr e))) at = kept_refused k 0 at 0 (rw e)

not_kept : {k q at t : ℕ} (v : FileVerdict) → v ≡ refused k q at t → (k ≡ 2) ⊎ OneOfThree k → of_tag v ≡ false → ⊥
unfolding of_tag
not_kept {k} v e o h = go o (rw e at h)
  where
    never : true ≡ false → ⊥
    never z = let y : ◌≡◌ {A = ℕ} 0 1 = cc in omega arith

    go : (k ≡ 2) ⊎ OneOfThree k → tag_number k ≡ false → ⊥
    go (inl e) h = never (unfold tag_number is_one_of in rw e at h)
    go (inr (inl e)) h = never (unfold tag_number is_one_of in rw e at h)
    go (inr (inr (inl e))) h = never (unfold tag_number is_one_of in rw e at h)
    go (inr (inr (inr e))) h = never (unfold tag_number is_one_of in rw e at h)

not_two : {k : ℕ} → OneOfThree k → k ≡ 2 → ⊥
not_two (inl e) h = omega (arith, e, h)
not_two (inr (inl e)) h = omega (arith, e, h)
not_two (inr (inr e)) h = omega (arith, e, h)

-- ---- no check of an entry or of the end has such a number
abbrev Plain : Option Refusal → Type 0
Plain none = Unit {0}
Plain (some x) = tag_number x.number ≡ false

plain_unless : (b : Bool) (k : ℕ) → tag_number k ≡ false → Plain (unless b k)
unfolding unless refusal
plain_unless true k h = tt
plain_unless false k h = h

plain_named : (k : ℕ) (o : Option (ℕ × ℕ)) → tag_number k ≡ false → Plain (named k o)
unfolding named refusal
plain_named k none h = tt
plain_named k (some x) h = h

plain_first : (os : List (Option Refusal)) → Every Plain os → Plain (first_of os)
unfolding Every first_of
plain_first [] h = tt
plain_first (o ∷ os) h = go o h.0 (plain_first os h.1)
  where
    go : (o : Option Refusal) → Plain o → Plain (first_of os) → Plain (or_else o (first_of os))
    go none p later = unfold or_else in later
    go (some x) p later = unfold or_else in p

plain_entry : (card : Card) (past : Past) (e : Entry) → Plain (entry_refusal card past e)
unfolding entry_refusal entry_checks checks tag_number is_one_of
plain_entry card past e = plain_first _ (unfold Every in
    plain_unless _ 5 refl & plain_named 11 _ refl & plain_unless _ 6 refl & plain_unless _ 24 refl & plain_unless _ 7 refl & plain_unless _ 8 refl &
    plain_unless _ 16 refl & plain_unless _ 9 refl & plain_unless _ 26 refl & plain_named 10 _ refl & plain_named 11 _ refl & tt)

plain_end : (card : Card) (past : Past) (end : ℕ) → Plain (end_refusal card past end)
unfolding end_refusal end_checks tag_number is_one_of
plain_end card past end = plain_first _ (unfold Every in plain_unless _ 5 refl & plain_named 11 _ refl & tt)

-- ---- one field
data Turned : (was is : Step) → Type 0 where
  on : {fs : List Field} {past : Past} {at : ℕ} {rest : List ℕ} → Turned (goes_on fs past at rest) (goes_on fs past at rest)
  off : {v w : FileVerdict} → Retold v w → Turned (ends v) (ends w)

module _ (fs : List Field) (past : Past) (at : ℕ) where
  turned_unless : (o : Option Refusal) (s : Step) → Plain o → Turned s s → Turned (or_refused at o s) (or_refused at o s)
  unfolding or_refused
  turned_unless none s p h = h
  turned_unless (some x) s p h = off (kept_refused x.number x.rule at x.cycle p)

  turned_closed : (card : Card) (t n : ℕ) (rest : List ℕ) → let s = closing (defined.verdict card past t) n rest in Turned s s
  unfolding closing defined of_tag
  turned_closed card t n [] = off (kept refl)
  turned_closed card t n (b ∷ bs) = off (kept_form 12 (inr (inr (inr refl))) n)

  turned_card : (f : Field) (rest : List ℕ) → Turned (card_by curt fs past at f rest) (card_by defined fs past at f rest)
  unfolding card_by curt
  turned_card f rest = go (defined.good fs f)
    where
      go : (x : Bool) → let s = cond x (goes_on (f ∷ fs) past (at + size_of f) rest) (ends (refused 4 0 at 0)) in Turned s s
      go true = on
      go false = off (kept_form 4 (inr (inr (inl refl))) at)

  turned_whole : (f : Field) (rest : List ℕ) → Turned (by_head_by curt fs past at (whole f rest)) (by_head_by defined fs past at (whole f rest))
  unfolding by_head_by
  turned_whole f rest = go (of_entry f.tag) (eqb f.tag 33)
    where
      go : (x y : Bool) → Turned (pick curt fs past at f rest x y) (pick defined fs past at f rest x y)
      go true y = unfold entry_by curt in turned_unless _ _ (unfold defined in plain_entry (card_of fs) past (entry_of f)) on
      go false true = unfold end_by curt in turned_unless _ _ (unfold defined in plain_end (card_of fs) past (end_of f)) (turned_closed (card_of fs) (end_of f) (at + size_of f) rest)
      go false false = turned_card f rest

  turned_valued : (t h l : ℕ) (bs : List ℕ) → Turned (by_head_by curt fs past at (valued t h l bs)) (by_head_by defined fs past at (valued t h l bs))
  unfolding valued
  turned_valued t h l bs = go (leb (256 * h + l) (length bs)) _ _
    where
      go : (x : Bool) (f : Field) (rest : List ℕ) → Turned (by_head_by curt fs past at (cond x (whole f rest) cut)) (by_head_by defined fs past at (cond x (whole f rest) cut))
      go true f rest = turned_whole f rest
      go false f rest = unfold by_head_by in off (kept_form 1 (inl refl) at)

  turned_sized : (t : ℕ) (bs : List ℕ) → Turned (by_head_by curt fs past at (sized_by length_good t bs)) (by_head_by defined fs past at (sized_by length_good t bs))
  unfolding sized_by
  turned_sized t [] = unfold by_head_by in off (kept_form 1 (inl refl) at)
  turned_sized t (h ∷ []) = unfold by_head_by in off (kept_form 1 (inl refl) at)
  turned_sized t (h ∷ l ∷ bs) = go (length_good t (256 * h + l))
    where
      go : (x : Bool) → Turned (by_head_by curt fs past at (cond x (valued t h l bs) bad_length)) (by_head_by defined fs past at (cond x (valued t h l bs) bad_length))
      go true = turned_valued t h l bs
      go false = unfold by_head_by in off (kept_form 3 (inr (inl refl)) at)

one_of_three : (b : Bool) (last t : ℕ) → OneOfThree (wrong_number b last t)
unfolding wrong_number
one_of_three b last t = go (known t) (of_card t && passed_by b last t)
  where
    go : (x y : Bool) → OneOfThree (cond x (cond y 18 19) 17)
    go true true = inr (inl refl)
    go true false = inr (inr refl)
    go false y = inl refl

turned_step : (fs : List Field) (past : Past) (at : ℕ) (bs : List ℕ) → Turned (step_by curt fs past at bs) (step_by defined fs past at bs)
unfolding step_by head_by curt defined
turned_step fs past at [] = unfold by_head_by in off (kept_form 1 (inl refl) at)
turned_step fs past at (t ∷ bs) = go (may_come (begun past) fs t)
  where
    go : (x : Bool) →
        Turned (by_head_by curt fs past at (cond x (sized_by length_good t bs) (bad_tag (two (begun past) fs t))))
        (by_head_by defined fs past at (cond x (sized_by length_good t bs) (bad_tag (wrong_tag (begun past) fs t))))
    go true = turned_sized fs past at t bs
    go false = unfold by_head_by wrong_tag wrong_after refusal in off (told (one_of_three (begun past) (last_tag fs) t))

-- ---- a file
record Same (was is : Judged) : Type 0 where
  past : was.past ≡ is.past
  verdict : Retold was.verdict is.verdict

same_file : (k : ℕ) (fs : List Field) (past : Past) (at : ℕ) (bs : List ℕ) → Same (file_by curt k fs past at bs) (file_by defined k fs past at bs)
same_file zero fs past at bs = unfold file_by in record { past = refl; verdict = kept_form 1 (inl refl) at }
same_file (suc k) fs past at bs =
    rw (by_step curt k fs past at bs, by_step defined k fs past at bs) (go (turned_step fs past at bs) (λ fs' past' at' rest. same_file k fs' past' at' rest))
  where
    go : {s t : Step} → Turned s t → ((fs' : List Field) (past' : Past) (at' : ℕ) (rest : List ℕ) → Same (file_by curt k fs' past' at' rest) (file_by defined k fs' past' at' rest)) →
        Same (behind (file_by curt k) past s) (behind (file_by defined k) past t)
    go on ih = unfold behind in ih _ _ _ _
    go (off r) ih = unfold behind in record { past = refl; verdict = r }

module _ (bytes : List ℕ) where
  same : Same (judged_by curt bytes) (judged bytes)
  same = rw (← defined_judged bytes) (unfold judged_by in same_file (suc (length bytes)) [] [] 0 bytes)

  -- the entries taken are the same, and the verdict is the same, or it was 2 and is one of the three, at the same offset and with cycle 0
  pub entries_retold : (judged_by curt bytes).past ≡ (judged bytes).past
  entries_retold = same.past

  pub verdict_retold : Retold (judge_curt bytes) (judge_file bytes)
  unfolding judge_curt judge_file
  verdict_retold = same.verdict

  -- just what was 2 is one of the three, and 2 is given no more
  pub was_two : {at : ℕ} → judge_curt bytes ≡ refused 2 0 at 0 → (k e : ℕ) × OneOfThree k × (judge_file bytes ≡ refused k e at 0)
  was_two {at} h = go verdict_retold h
    where
      go : {v w : FileVerdict} → Retold v w → v ≡ refused 2 0 at 0 → (k e : ℕ) × OneOfThree k × (w ≡ refused k e at 0)
      go (kept {v = v} n) h = absurd (not_kept v h (inl refl) n)
      go (told {k = k} {e = e} o) h = (k, e, o, cc)

  pub are_three : {k e at t : ℕ} → OneOfThree k → judge_file bytes ≡ refused k e at t → (t ≡ 0) × (judge_curt bytes ≡ refused 2 0 at 0)
  are_three {k} {e} {at} {t} o h = go verdict_retold h
    where
      go : {v w : FileVerdict} → Retold v w → w ≡ refused k e at t → (t ≡ 0) × (v ≡ refused 2 0 at 0)
      go (kept {v = v} n) h = absurd (not_kept v h (inr o) n)
      go (told o) h = (cc, cc)

  pub never_two : {q at t : ℕ} → judge_file bytes ≡ refused 2 q at t → ⊥
  never_two {q} {at} {t} h = go verdict_retold h
    where
      go : {v w : FileVerdict} → Retold v w → w ≡ refused 2 q at t → ⊥
      go (kept {v = v} n) h = not_kept v h (inl refl) n
      go (told {k = k} o) h = not_two o cc

-- ---- against an older judge that says what that one says
-- the lines are those of then, but for the verdict's, where that was told anew
pub record LinesRetold (was is : List ℕ) : Type 0 where
  pub front : List ℕ
  pub before : FileVerdict
  pub after : FileVerdict
  pub retold : Retold before after
  pub were : was ≡ front ++ verdict_line before
  pub are : is ≡ front ++ verdict_line after

unmoved : {v w : FileVerdict} → Retold v w → ((at : ℕ) → v ≡ refused 2 0 at 0 → ⊥) → w ≡ v
unmoved (kept h) right = refl
unmoved (told {at = at} k) right = absurd (right at refl)

module _ (bytes : List ℕ) (j : Judged) (e : judged_by curt bytes ≡ j) where
  past_is : (judged bytes).past ≡ j.past
  past_is = sym (entries_retold bytes) ∙ ap (λ (x : Judged). x.past) e

  pub verdict_by : Retold j.verdict (judge_file bytes)
  unfolding judge_curt
  verdict_by = subst (λ (x : Judged). Retold x.verdict (judge_file bytes)) e (verdict_retold bytes)

  pub lines_by : (front : List ℕ) → entry_lines j.past ≡ front → LinesRetold (front ++ verdict_line j.verdict) (lines_of bytes)
  unfolding judge_file lines_of
  lines_by front f = record {
    front = front;
    before = j.verdict;
    after = (judged bytes).verdict;
    retold = unfold judge_file in verdict_by;
    were = refl;
    are = ap (λ (l : List ℕ). l ++ verdict_line (judged bytes).verdict) (ap entry_lines past_is ∙ f);
  }

  -- where that was no wrong tag, all is as it was
  pub same_by : ((at : ℕ) → j.verdict ≡ refused 2 0 at 0 → ⊥) → judged bytes ≡ j
  same_by right = let v : (judged bytes).verdict ≡ j.verdict = unfold judge_file in unmoved verdict_by right in λ i. record { past = past_is i; verdict = v i }

pub lines_retold : (bytes : List ℕ) → LinesRetold (lines_curt bytes) (lines_of bytes)
unfolding lines_curt
lines_retold bytes = lines_by bytes (judged_by curt bytes) refl _ refl
