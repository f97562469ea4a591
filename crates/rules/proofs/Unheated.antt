-- A file without tags 26 and 34 has the verdict and the lines that it had before temperature: every file had, just before nWR, unless tag 26 stands where its card
-- could end and before its first entry, or tag 34 behind a whole card, where it was refused by 2. By `Unprogrammed` every file had just before request Three, unless
-- tag 23, 26 or 34 stands so or an entry that was taken writes MA 1; by `Unrefined` and `Retold` it has still, without an 8-byte period and up to what was told anew.
use Prim.Native.Nat.{ℕ, suc, ◌≤◌, ◌<◌}
use mathlib.Core.Path.{◌≡◌, refl, ap, sym, ◌∙◌, fun_ext}
use mathlib.Core.Logic.{◌⊎◌, inl, inr, ⊎_elim}
use mathlib.Core.Bool.{Bool, true, false, cond, not, ◌&&◌, ◌||◌, and-false, or-false}
use mathlib.Core.List.{List, [], ◌∷◌, map}
use mathlib.Core.Option.{none}
use native.Mathlib.Omega.{arith}
use lib.Dec.{leb, ltb, eqb}
use borrow.Author.Tests.{leb-true, eqb-true, ne_eqb}
use Rattle.rules.specs.Lists.{all, is_one_of}
use Rattle.rules.specs.Bits.{bits}
use Rattle.rules.specs.Card.{Card}
use Rattle.rules.specs.Heat.{heat, start_mr4, is_hot}
use Rattle.rules.specs.Ranges.{card_good}
use Rattle.rules.specs.Whose.{is_of, parts}
use Rattle.rules.specs.Past.{Past, of_part, mr4_at}
use Rattle.rules.specs.Folds.{or_else, first_of}
use Rattle.rules.specs.Account.{every, steady}
use Rattle.rules.specs.Clock.{schedule_by}
use Rattle.rules.specs.Entries.{Entry, read_body, read, read_after, own_for, read_for, mr4_of, taken, taken_for, past_with}
use Rattle.rules.specs.Checks.{unless, code_good}
use Rattle.rules.specs.Form.{Field, Group, ◌up_to◌, last_tag, ends_group, begins_group, card_whole, of_entry, of_trace, may_come, ◌of◌, is_listed, card_of, body_of, entry_of}
use Rattle.rules.specs.File.{begun, Judged, judge_file}
use Rattle.rules.specs.FileReading.{CardRight}
use Rattle.rules.specs.Lines.{unless_sensed, entry_lines, lines_of}
use Rattle.rules.proofs.Tests.{eq_cases, both_true}
use Rattle.rules.proofs.PinReads.{read_is}
use Rattle.rules.proofs.CardRead.{card_good_lem}
use Rattle.rules.proofs.Paces.{pins_senseless}
use Rattle.rules.proofs.Tags.{begins_has}
use Rattle.rules.proofs.Walks.{judged_by, AllSized, Newer, Met, TagTests, tests_as, still_comes, Enters, Alike, agree, behind_it, all_have}
use Rattle.rules.proofs.Retold.{curt, Retold, LinesRetold, verdict_by, lines_by}
use Rattle.rules.proofs.Coarse.{coarse_delays_of, coarse_delays_at, coarse_interval_at, coarse_beat_at, coarse_schedule_of, coarse_book, coarse_books, coarse_entry_by, coarse_end, coarse_verdict, coarse_lengths, coarse_good, coarse_curt}
use Rattle.rules.proofs.Unrefined.{coarse_start, coarse_listed, coarse_ranged, Unrefined, same_curt}
use Rattle.rules.proofs.Timed.{timed_rules, come_in, timed_groups, timed_lengths, timed_good, timed}
use Rattle.rules.proofs.Unprogrammed.{ends_more, come_more, never_comes, whole_as_timed, timed_comes, Programmed, Unprogrammed, not_programmed, as_timed, length_as_timed, good_as_timed}
use Rattle.rules.proofs.Mild.{pins_of, pinned, mild_taken, mild_book, mild_books, mild_entry, mild_end, mild_verdict, mild_trace, mild_groups, mild_lengths, mild_good, mild, judge_mild, mild_lines, lines_mild}

-- ---- pins are no temperature
senseless : (card : Card) (own : Past) (e : Entry) → (code_good (read_after card own (pinned e)) ≡ true) × (mr4_of (read_after card own (pinned e)) ≡ none)
unfolding read_after read read_body pinned
senseless card own e = (unfold code_good in read_is (λ r. code_good r ≡ true) (λ d. refl) (λ m. refl) refl refl refl _ _ _ _, pins_senseless _ _ _ _)

-- ---- a past without temperature fields
unfoldable pub Cool : Past → Type 0
Cool [] = Unit {0}
Cool (e ∷ t) = (e.mr4 ≡ none) × Cool t

pub cool_next : (card : Card) (past : Past) (e : Entry) → Cool past → Cool (mild_taken card past e ∷ past)
unfolding Cool mild_taken
cool_next card past e c = (refl, c)

cool_part : (p : ℕ) (past : Past) → Cool past → Cool (of_part p past)
unfolding Cool of_part
cool_part p [] c = tt
cool_part p (e ∷ t) c = go (is_of p e.whose) (cool_part p t c.1)
  where
    go : (x : Bool) → Cool (of_part p t) → Cool (cond x (e ∷ of_part p t) (of_part p t))
    go true h = (c.0, h)
    go false h = h

cool_mr4 : (past : Past) → Cool past → mr4_at past ≡ start_mr4
unfolding Cool mr4_at
cool_mr4 [] c = refl
cool_mr4 (e ∷ t) c = rw c.0 (cool_mr4 t c.1)

cool_delays : (card : Card) (past : Past) → Cool past → coarse_delays_at card (mr4_at past) ≡ coarse_delays_of card
unfolding coarse_delays_at is_hot heat start_mr4 bits
cool_delays card past c = rw (cool_mr4 past c)

cool_schedule : (card : Card) (past : Past) → Cool past → coarse_schedule_of card past ≡ steady (every (coarse_interval_at card start_mr4))
unfolding Cool coarse_schedule_of schedule_by
cool_schedule card [] c = unfold coarse_beat_at in refl
cool_schedule card (e ∷ t) c = rw c.0 (cool_schedule card t c.1)

module _ (card : Card) (good : card_good card ≡ true) where
  cool_book : (past : Past) → Cool past → coarse_book card past ≡ mild_book card past
  unfolding coarse_book mild_book
  cool_book past c = rw (cool_schedule card past c, coarse_start card good)

  cool_books : (past : Past) → Cool past → coarse_books card past ≡ mild_books card past
  unfolding coarse_books mild_books
  cool_books past c = ap (λ f. map f (parts card)) (fun_ext (λ (p : ℕ). cool_book (of_part p past) (cool_part p past c)))

-- ---- an entry and the end
same_taken : (card : Card) (past : Past) (e : Entry) → taken_for card past (pinned e) ≡ mild_taken card past e
unfolding taken_for taken mild_taken read_for
same_taken card past e = rw (senseless card (own_for card past (pinned e)) e).1 (unfold pinned in refl)

module _ (card : Card) (good : card_good card ≡ true) (past : Past) (c : Cool past) where
  same_entry : (e : Entry) → coarse_entry_by timed_rules card past (pinned e) ≡ mild_entry card past e
  unfolding coarse_entry_by mild_entry past_with read_for
  same_entry e =
      rw (
        same_taken card past e,
        cool_books card good past c,
        cool_books card good (mild_taken card past e ∷ past) (cool_next card past e c),
        cool_delays card (own_for card past (pinned e)) (unfold own_for in cool_part _ past c),
        (senseless card (own_for card past (pinned e)) e).0,
      )
      (unfold pinned unless first_of or_else in refl)

  same_end : (end : ℕ) → coarse_end card past end ≡ mild_end card past end
  unfolding coarse_end mild_end
  same_end end = rw (cool_books card good past c)

  same_verdict : (end : ℕ) → coarse_verdict card past end ≡ mild_verdict card past end
  unfolding coarse_verdict mild_verdict
  same_verdict end = rw (cool_books card good past c)

-- ---- the tags
-- a field of the card keeps the tags low
pub card_low : (top : ℕ) (gs : List Group) → all (λ g. leb g.first top) gs ≡ true → ends_group gs top ≡ true →
    (b : Bool) (fs : List Field) (t : ℕ) → last_tag fs ≤ top → come_in mild_trace gs b fs t ≡ true → of_trace t ≡ false → t ≤ top
unfolding come_in mild_trace of_trace of_entry
card_low top gs firsts last b fs t low m o = go (ends_group gs (last_tag fs)) refl (eqb t 32) (eqb t 34) (eqb t 33) b o m
  where
    go : (w : Bool) → ends_group gs (last_tag fs) ≡ w → (x y z b : Bool) → ((x || y) || z) ≡ false →
        cond w ((x || z) || (not b && (ltb (last_tag fs) t && begins_group gs t))) (eqb t (suc (last_tag fs))) ≡ true → t ≤ top
    go true w false false false false o m = leb-true t top (begins_has (λ n. leb n top) gs firsts t (both_true (ltb (last_tag fs) t) (begins_group gs t) m).1)
    go true w false false false true o m = let z : ◌≡◌ {A = ℕ} 0 1 = cc in absurd (omega arith)
    go true w false false true b o m = let z : ◌≡◌ {A = ℕ} 0 1 = cc in absurd (omega arith)
    go true w false true z b o m = let z : ◌≡◌ {A = ℕ} 0 1 = cc in absurd (omega arith)
    go true w true y z b o m = let z : ◌≡◌ {A = ℕ} 0 1 = cc in absurd (omega arith)
    go false w x y z b o m = let e = eqb-true t (suc (last_tag fs)) m in omega (arith, e, low, not_top w)
      where
        not_top : ends_group gs (last_tag fs) ≡ false → last_tag fs ≡ top → ⊥
        not_top w e = let z : true ≡ false = sym last ∙ (rw e at w) in let y : ◌≡◌ {A = ℕ} 0 1 = cc in omega arith

-- ---- the lengths and the ranges of all tags but these and 23 are those of `Coarse`
pub length_as_mild : (t l : ℕ) → (t ≡ 23 → ⊥) → (t ≡ 26 → ⊥) → (t ≡ 34 → ⊥) → is_listed coarse_lengths t l ≡ is_listed mild_lengths t l
unfolding is_listed is_one_of timed_lengths mild_lengths ◌of◌
length_as_mild t l k m n = length_as_timed t l k ∙ rw (ne_eqb 26 t (λ e. m (sym e)), ne_eqb 34 t (λ e. n (sym e)))

pub good_as_mild : (fs : List Field) (f : Field) → (f.tag ≡ 23 → ⊥) → (f.tag ≡ 26 → ⊥) → coarse_good fs f ≡ mild_good fs f
unfolding timed_good mild_good
good_as_mild fs f k n = good_as_timed fs f k ∙ rw (ne_eqb f.tag 26 n)

never_eight : is_listed mild_lengths 1 8 ≡ false
unfolding is_listed is_one_of mild_lengths ◌of◌
never_eight = refl

-- ---- a file
-- tag 26 before the first entry, and tag 34
abbrev pub Tag26or34 : (entries : Bool) → List Field → ℕ → Type 0
Tag26or34 entries fs t = ((entries ≡ false) × (t ≡ 26)) ⊎ (t ≡ 34)

module _ (b : Bool) (fs : List Field) (low : last_tag fs ≤ 25) (n : last_tag fs ≡ 23 → ⊥) where
  never_34 : come_in mild_trace mild_groups b fs 34 ≡ false
  unfolding come_in mild_trace mild_groups begins_group ◌up_to◌
  never_34 = go (ends_group mild_groups (last_tag fs)) (not b)
    where
      go : (w x : Bool) → cond w (x && (ltb (last_tag fs) 34 && false)) (eqb 34 (suc (last_tag fs))) ≡ false
      go true false = refl
      go true true = and-false (ltb (last_tag fs) 34)
      go false x = ne_eqb 34 (suc (last_tag fs)) (λ e. omega (arith, e, low))

  pub whole_as_mild : card_whole fs ≡ ends_group mild_groups (last_tag fs)
  unfolding timed_groups mild_groups ◌up_to◌
  whole_as_mild = whole_as_timed b fs n ∙ ends_more mild_groups [] (26 up_to 26) (last_tag fs) (λ e. omega (arith, e, low))

  tag_as_mild : (t : ℕ) → TagTests (come_in of_trace timed_groups b fs t) (come_in mild_trace mild_groups b fs t) (card_whole fs) (Tag26or34 b fs t)
  tag_as_mild t = ⊎_elim
      (λ (q : (t ≡ 34) × (eqb t 34 ≡ true)). rw (q.0, never_34) (at_34 (card_whole fs) refl))
      (λ (q : (t ≡ 34 → ⊥) × (eqb t 34 ≡ false)). rw (by_groups q.1) (tests_as (λ w n. (whole_as_mild ∙ w, inl (n.0, n.2))) group_26))
      (eq_cases t 34)
    where
      at_34 : (w : Bool) → card_whole fs ≡ w → TagTests (come_in of_trace timed_groups b fs 34) false (card_whole fs) (Tag26or34 b fs 34)
      at_34 true w = inr (refl, w, inr refl)
      at_34 false w = inl (unfold come_in in rw (sym (whole_as_timed b fs n) ∙ w) (ne_eqb 34 (suc (last_tag fs)) (λ e. omega (arith, e, low))))

      by_groups : eqb t 34 ≡ false → come_in of_trace timed_groups b fs t ≡ come_in mild_trace timed_groups b fs t
      by_groups n = unfold come_in of_trace of_entry mild_trace in rw (n, or-false (eqb t 32))

      group_26 : TagTests (come_in mild_trace timed_groups b fs t) (come_in mild_trace mild_groups b fs t) (ends_group mild_groups (last_tag fs)) ((b ≡ false) × (last_tag fs < 26) × (t ≡ 26))
      group_26 = unfold timed_groups mild_groups mild_trace begins_group ◌up_to◌ in come_more mild_trace mild_groups [] (26 up_to 26) refl refl b fs (λ e. omega (arith, e, low)) t

  pub mild_comes : (t : ℕ) → come_in mild_trace mild_groups b fs t ≡ true → may_come b fs t ≡ true
  mild_comes t m = timed_comes b fs n t (still_comes (tag_as_mild t) m)

  -- none of these comes
  pub mild_tags : (t : ℕ) → come_in mild_trace mild_groups b fs t ≡ true → (t ≡ 23 → ⊥) × (t ≡ 26 → ⊥) × (t ≡ 34 → ⊥)
  mild_tags t m = (unfold mild_groups mild_trace begins_group ends_group ◌up_to◌ in
      (never_comes mild_trace mild_groups 22 refl refl refl b fs t m, never_comes mild_trace mild_groups 25 refl refl refl b fs t m, λ e. thirty_four e))
    where
      thirty_four : t ≡ 34 → ⊥
      thirty_four e = let z : false ≡ true = sym never_34 ∙ (rw e at m) in let y : ◌≡◌ {A = ℕ} 0 1 = cc in omega arith

  -- an entry that may come is of pins
  pins_come : (f : Field) → come_in mild_trace mild_groups b fs f.tag ≡ true → pinned (entry_of f) ≡ entry_of f
  unfolding pinned pins_of entry_of body_of
  pins_come f m = ⊎_elim
      (λ (q : (f.tag ≡ 34) × (eqb f.tag 34 ≡ true)). let z : false ≡ true = sym never_34 ∙ (rw q.0 at m) in let y : ◌≡◌ {A = ℕ} 0 1 = cc in absurd (omega arith))
      (λ (q : (f.tag ≡ 34 → ⊥) × (eqb f.tag 34 ≡ false)). rw q.1)
      (eq_cases f.tag 34)

-- tag 26 or 34 stands so, and what was said of the file is a wrong tag there
abbrev pub Heated : List ℕ → Judged → Type 0
Heated = Met Tag26or34

-- no such tag stands there
abbrev pub Unheated : List ℕ → Type 0
Unheated bytes = Newer Tag26or34 bytes → ⊥

abbrev Also : List Field → Past → Type 0
Also fs past = (last_tag fs ≤ 25) × (last_tag fs ≡ 23 → ⊥) × Cool past

alike : (fs : List Field) (past : Past) → CardRight fs → AllSized mild.size fs → Also fs past → Alike timed mild Tag26or34 Also fs past
unfolding timed mild
alike fs past r z q = record {
  tag = tag_as_mild (begun past) fs q.0 q.1;
  known = mild_comes (begun past) fs q.0 q.1;
  wrong = λ t. refl;
  size = λ t l m. let (k, i, j) = others t m in sym (length_as_timed t l k) ∙ length_as_mild t l k i j;
  listed = λ t l m s. let (k, i, j) = others t m in coarse_listed t l (length_as_mild t l k i j ∙ s);
  good = λ f m o. let (k, i, j) = others f.tag m in sym (good_as_timed fs f k) ∙ good_as_mild fs f k i;
  ranged = λ f m o s g. let (k, i, j) = others f.tag m in coarse_ranged (is_listed mild_lengths) never_eight fs z f s (good_as_mild fs f k i ∙ g);
  card = λ f b m o. (unfold last_tag in low f m o, unfold last_tag in (others f.tag m).0, q.2);
  entry = λ f n. ap (coarse_entry_by timed_rules (card_of fs) past) (sym (as_pins f n)) ∙ same_entry (card_of fs) (card_good_lem fs r n.whole) past q.2 (entry_of f);
  taken = λ f n. ap (taken_for (card_of fs) past) (sym (as_pins f n)) ∙ same_taken (card_of fs) past (entry_of f);
  also = λ f n e. (q.0, q.1, cool_next (card_of fs) past (entry_of f) q.2);
  end = λ w. same_end (card_of fs) (card_good_lem fs r w) past q.2;
  verdict = λ w t n. same_verdict (card_of fs) (card_good_lem fs r w) past q.2 t;
}
  where
    low : (f : Field) → come_in mild_trace mild_groups (begun past) fs f.tag ≡ true → of_trace f.tag ≡ false → f.tag ≤ 25
    low f = unfold all ends_group mild_groups ◌up_to◌ in card_low 25 mild_groups refl refl (begun past) fs f.tag q.0

    others : (t : ℕ) → come_in mild_trace mild_groups (begun past) fs t ≡ true → (t ≡ 23 → ⊥) × (t ≡ 26 → ⊥) × (t ≡ 34 → ⊥)
    others = mild_tags (begun past) fs q.0 q.1

    as_pins : (f : Field) → Enters mild fs past f → pinned (entry_of f) ≡ entry_of f
    as_pins f n = pins_come (begun past) fs q.0 q.1 f (unfold mild in n.may)

module _ (bytes : List ℕ) where
  -- just before nWR the entries taken and the verdict were what they had been, or tag 26 or 34 stands where it was a wrong tag
  pub as_mild : (judged_by timed bytes ≡ judged_by mild bytes) ⊎ Heated bytes (judged_by mild bytes)
  unfolding mild
  as_mild = agree timed mild Tag26or34 Also alike bytes (unfold last_tag Cool in (omega arith, (λ e. omega (arith, e)), tt))

  -- and just before request Three they were still, or tag 23, 26 or 34 stands so, or an entry that was taken writes MA 1
  pub mild_ever : (judged_by coarse_curt bytes ≡ judged_by mild bytes) ⊎ (Heated bytes (judged_by mild bytes) ⊎ Programmed bytes (judged_by mild bytes))
  mild_ever = behind_it (Programmed bytes) as_mild (as_timed bytes)

-- ---- the lines
pub cool_lines : (past : Past) → Cool past → entry_lines past ≡ mild_lines past
unfolding Cool entry_lines mild_lines unless_sensed
cool_lines [] c = refl
cool_lines (e ∷ t) c = rw (c.0, cool_lines t c.1)

-- ---- a file without tags 23, 26 and 34, of which no entry that was taken writes MA 1
module _ (bytes : List ℕ) (unrefined : Unrefined bytes) (unheated : Unheated bytes) (unprogrammed : Unprogrammed bytes (judged_by mild bytes)) where
  same_mild : judged_by curt bytes ≡ judged_by mild bytes
  same_mild = same_curt bytes unrefined ∙ ⊎_elim
      (λ (e : judged_by coarse_curt bytes ≡ judged_by mild bytes). e)
      (⊎_elim
      (λ (h : Heated bytes (judged_by mild bytes)). absurd (unheated h.there))
      (λ (p : Programmed bytes (judged_by mild bytes)). absurd (not_programmed bytes _ unprogrammed p)))
      (mild_ever bytes)

  pub verdict_as_mild : Retold (judge_mild bytes) (judge_file bytes)
  unfolding judge_mild
  verdict_as_mild = verdict_by bytes _ same_mild

  pub lines_as_mild : LinesRetold (lines_mild bytes) (lines_of bytes)
  unfolding lines_mild
  lines_as_mild = lines_by bytes _ same_mild _ (cool_lines (judged_by mild bytes).past (all_have mild Cool (unfold mild in cool_next) bytes (unfold Cool in tt)))
