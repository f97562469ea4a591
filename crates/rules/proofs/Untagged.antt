-- A file without tag 25 in its card has the verdict and the lines that it had before two parts could share a bus: every file had, just before temperature,
-- unless tag 25 stands where its card could end, where it was refused by 2. By `Unheated` every file had just before request Three, unless tag 23,
-- 25, 26 or 34 stands so or an entry that was taken writes MA 1; by `Unrefined` and `Retold` it has still, without an 8-byte period and up to what was told anew.
use Prim.Native.Nat.{ℕ, zero, suc, ◌+◌, ◌-◌, ◌≤◌, ◌<◌}
use mathlib.Core.Path.{◌≡◌, refl, ap, sym, ◌∙◌, fun_ext}
use mathlib.Core.Logic.{◌⊎◌, ⊎_elim}
use mathlib.Core.Bool.{Bool, true, false, ◌||◌}
use mathlib.Core.List.{List, [], ◌∷◌, ◌++◌, append-nil}
use mathlib.Core.Option.{none}
use native.Mathlib.Omega.{arith}
use lib.ListN.{length, take, drop, take-append-drop}
use borrow.Author.Tests.{le-leb, ne_eqb}
use Rattle.rules.specs.Lists.{all, is_one_of, when, Every}
use Rattle.rules.specs.Card.{Card}
use Rattle.rules.specs.Units.{Delays}
use Rattle.rules.specs.Commands.{MRR, RD, WR, Command, is}
use Rattle.rules.specs.Registers.{Modes}
use Rattle.rules.specs.Whose.{Whose, sole, is_of, part_of, other, whose, parts}
use Rattle.rules.specs.Levels.{Level, Move, read_pins}
use Rattle.rules.specs.Past.{Taken, Past, of_part, level_at, counter_at, counted_stamps, bank_at}
use Rattle.rules.specs.Folds.{or_else, first_of, Source, Rule, permitted, permitted_by, bound, first_broken, latest, back}
use Rattle.rules.specs.Delays.{Ask, last_rd, last_wr, last_rd_or_mrr, Question, Asked, mine, turned, Answers, Lookup, means, look_both, found, find, from, lagging, across, rule, delay_rules}
use Rattle.rules.specs.Entries.{Entry, view_of, read_body, read, read_after, whose_body, whose_of, part_in, own_for, others_for, view_for, read_for, move_of, judged_as}
use Rattle.rules.specs.Checks.{unless, is_clash}
use Rattle.rules.specs.Verdict.{sum, refresh_count}
use Rattle.rules.specs.Form.{Field, ◌up_to◌, last_tag, ends_group, begins_group, card_whole, of_entry, of_trace, may_come, ◌of◌, is_listed, length_good, has, card_of, field_good, entry_of}
use Rattle.rules.specs.File.{begun, Judged, judge_file}
use Rattle.rules.specs.FileReading.{CardRight}
use Rattle.rules.specs.Lines.{shown_part, entry_line, entry_lines, lines_of}
use Rattle.rules.proofs.Tests.{◌&◌}
use Rattle.rules.proofs.PinReads.{pins_are}
use Rattle.rules.proofs.Waking.{read_alone_lem}
use Rattle.rules.proofs.Table.{every_both}
use Rattle.rules.proofs.Walks.{judged_by, AllSized, Newer, Met, TagTests, tests_as, still_comes, Alike, agree, behind_it, all_have}
use Rattle.rules.proofs.Retold.{curt, Retold, LinesRetold, verdict_by, lines_by}
use Rattle.rules.proofs.Coarse.{coarse_delays_of, coarse_lengths, coarse_good, coarse_curt}
use Rattle.rules.proofs.Unrefined.{coarse_listed, coarse_ranged, Unrefined, same_curt}
use Rattle.rules.proofs.Timed.{timed_rules, come_in}
use Rattle.rules.proofs.Unprogrammed.{ends_more, come_more, Programmed, Unprogrammed, not_programmed}
use Rattle.rules.proofs.Mild.{pins_of, pinned, mild_taken, mild_book, mild_books, mild_entry, mild_end, mild_verdict, mild_trace, mild_groups, mild_lengths, mild_good, mild, mild_lines}
use Rattle.rules.proofs.Unheated.{Cool, card_low, whole_as_mild, mild_comes, mild_tags, Heated, Unheated, mild_ever, cool_lines, length_as_mild, good_as_mild}
use Rattle.rules.proofs.Alone.{alone_read, alone_taken, no_answer, alone_look, alone_rules, alone_entry, alone_end, alone_verdict, alone_groups, alone_lengths, alone_good, alone, judge_alone, alone_line, alone_lines, lines_alone}

-- ---- a past of one part
unfoldable Sole : Past → Type 0
Sole [] = Unit {0}
Sole (e ∷ t) = (e.whose ≡ sole) × Sole t

own_is : {w : Whose} → w ≡ sole → (is_of 0 w ≡ true) × (is_of 1 w ≡ false)
unfolding is_of
own_is h = rw h (refl, refl)

own_sole : (past : Past) → Sole past → of_part 0 past ≡ past
unfolding Sole of_part
own_sole [] s = refl
own_sole (e ∷ t) s = rw (own_is s.0).0 (ap (λ (l : Past). e ∷ l) (own_sole t s.1))

others_sole : (past : Past) → Sole past → of_part 1 past ≡ []
unfolding Sole of_part
others_sole [] s = refl
others_sole (e ∷ t) s = rw (own_is s.0).1 (others_sole t s.1)

sole_next : (card : Card) (past : Past) (e : Entry) → Sole past → Sole (alone_taken card past e ∷ past)
unfolding Sole alone_taken
sole_next card past e s = (refl, s)

-- nothing is found of a part that has no entries
back_none : (p : Taken → Past → Bool) (i : ℕ) → back p i [] ≡ []
unfolding back latest
back_none p zero = refl
back_none p (suc i) = rw (back_none p i)

none_found : (card : Card) → find card [] ≡ no_answer
unfolding no_answer find found
none_found card = fun_ext (λ q. rw (back_none _ (means q.ask).passed))

-- ---- rules 25 to 27 are silent
abbrev Mine : Source Asked Modes → Type 0
Mine s = (q : Question) × (s.ask ≡ mine q)

from_mine : (bs : List ℕ) (d : ℕ) (a : Ask) → Every Mine (from bs d a)
unfolding Every from
from_mine [] d a = tt
from_mine (b ∷ bs) d a = ((_, refl), from_mine bs d a)

lagging_mine : (bs : List ℕ) (d : ℕ → ℕ → ℕ) (a : Ask) → Every Mine (lagging bs d a)
unfolding Every lagging
lagging_mine [] d a = tt
lagging_mine (b ∷ bs) d a = ((_, refl), lagging_mine bs d a)

module _ (own : Answers) where
  none_asked : {a : Asked} (q : Question) → a ≡ mine q → look_both own no_answer (turned a) ≡ none
  unfolding look_both turned no_answer
  none_asked q h = rw h

  across_none : (g : ℕ) (ss : List (Source Asked Modes)) → Every Mine ss → permitted_by (look_both own no_answer) (across g ss) ≡ 0
  unfolding Every across permitted_by
  across_none g [] h = refl
  across_none g (s ∷ ss) h = rw (none_asked h.0.0 h.0.1, across_none g ss h.1) (unfold permitted in omega arith)

  silent : (d : Delays) (c : Command) (m : Move) (n : ℕ) → Every (λ q. bound (look_both own no_answer) q ≡ 0) (drop 22 (timed_rules d c m n))
  unfolding Every timed_rules delay_rules bound rule
  silent d c m n =
      let reading = when (is RD c || is MRR c) (bank_at c n ∷ []) in
      let writing = when (is WR c) (bank_at c n ∷ []) in
      across_none d.gap _ (every_both Mine (from reading 4 last_rd) (from writing 4 last_wr) (from_mine reading 4 last_rd) (from_mine writing 4 last_wr))
      & across_none d.gap _ (lagging_mine writing (λ rl wl. rl + d.tdqsck + 5 - wl) last_rd_or_mrr)
      & across_none d.gap _ (lagging_mine reading (λ rl wl. wl + 5 + d.twtr) last_wr)
      & tt

pub quiet_tail : (look : Lookup) (t : ℕ) (xs ys : List (Rule Asked Modes)) → Every (λ q. bound look q ≡ 0) ys → first_broken look (xs ++ ys) t ≡ first_broken look xs t
unfolding first_broken Every
quiet_tail look t [] [] h = refl
quiet_tail look t [] (y ∷ ys) h = rw (h.0, le-leb 0 t (omega arith)) (quiet_tail look t [] ys h.1)
quiet_tail look t (x ∷ xs) ys h = rw (quiet_tail look t xs ys h)

-- ---- 24 is silent
clear : (s : Bool) (l : Level) (p : ℕ) → is_clash (read_pins s l p) ≡ false
unfolding is_clash
clear = pins_are (λ r. is_clash r ≡ false) (λ d. refl) (λ m. refl) refl refl

-- ---- an entry and the end
module _ (card : Card) (one : card.paired ≡ false) (past : Past) (s : Sole past) where
  books_one : mild_books card past ≡ mild_book card past ∷ []
  unfolding mild_books parts
  books_one = rw (one, own_sole past s)

  module _ (e : Entry) where
    first_part : part_in card (pinned e) ≡ 0
    unfolding part_in whose_of whose_body whose part_of pinned
    first_part = rw one

    own_is_past : own_for card past (pinned e) ≡ past
    unfolding own_for
    own_is_past = rw first_part (own_sole past s)

    others_none : others_for card past (pinned e) ≡ []
    unfolding others_for other
    others_none = rw first_part (others_sole past s)

    same_read : read_for card past (pinned e) ≡ alone_read card past e
    unfolding read_for read_after alone_read
    same_read = rw own_is_past (unfold read read_body pinned in rw one (read_alone_lem card.sleeps (level_at past) (pins_of e)))

    same_taken : mild_taken card past e ≡ alone_taken card past e
    unfolding mild_taken alone_taken whose_of whose_body whose pinned
    same_taken = rw (same_read, one)

    same_rules : (d : Delays) (c : Command) (m : Move) (n t : ℕ) →
        first_broken (look_both (find card past) (find card [])) (timed_rules d c m n) t ≡ first_broken (alone_look card past) (alone_rules d c m n) t
    unfolding alone_look alone_rules
    same_rules d c m n t =
        ap (λ (o : Answers). first_broken (look_both (find card past) o) (timed_rules d c m n) t) (none_found card)
        ∙ sym (ap (λ (l : List (Rule Asked Modes)). first_broken (look_both (find card past) no_answer) l t) (take-append-drop 22 (timed_rules d c m n)))
        ∙ quiet_tail (look_both (find card past) no_answer) t (take 22 (timed_rules d c m n)) (drop 22 (timed_rules d c m n)) (silent (find card past) d c m n)

module _ (card : Card) (one : card.paired ≡ false) (past : Past) (s : Sole past) where
  same_entry : (e : Entry) → mild_entry card past e ≡ alone_entry card past e
  unfolding mild_entry alone_entry view_for view_of
  same_entry e =
      rw (
        same_taken card one past s e,
        books_one card one past s,
        books_one card one (alone_taken card past e ∷ past) (sole_next card past e s),
        same_read card one past s e,
        own_is_past card one past s e,
        others_none card one past s e,
        same_rules card one past s e (coarse_delays_of card) (judged_as (alone_read card past e)) (move_of (alone_read card past e)) (counter_at past) e.stamp,
      )
      (unfold alone_read in rw (clear card.sleeps (level_at past) (pins_of e)) (unfold unless first_of or_else in refl))

  same_end : (end : ℕ) → mild_end card past end ≡ alone_end card past end
  unfolding mild_end alone_end
  same_end end = rw (books_one card one past s)

  same_verdict : (end : ℕ) → mild_verdict card past end ≡ alone_verdict card past end
  unfolding mild_verdict refresh_count alone_verdict parts sum
  same_verdict end =
      let z : length (counted_stamps past) + 0 ≡ length (counted_stamps past) = omega arith in
      rw (books_one card one past s, one, own_sole past s, z)

-- ---- the lengths and the ranges of all tags but these and 23, 26 and 34 are those of `Coarse`
pub length_as_alone : (t l : ℕ) → (t ≡ 23 → ⊥) → (t ≡ 25 → ⊥) → (t ≡ 26 → ⊥) → (t ≡ 34 → ⊥) → is_listed coarse_lengths t l ≡ is_listed alone_lengths t l
unfolding is_listed is_one_of mild_lengths alone_lengths ◌of◌
length_as_alone t l j n m k = length_as_mild t l j m k ∙ rw (ne_eqb 25 t (λ e. n (sym e)))

pub good_as_alone : (fs : List Field) (f : Field) → (f.tag ≡ 23 → ⊥) → (f.tag ≡ 25 → ⊥) → (f.tag ≡ 26 → ⊥) → coarse_good fs f ≡ alone_good fs f
unfolding mild_good alone_good
good_as_alone fs f k n m = good_as_mild fs f k m ∙ rw (ne_eqb f.tag 25 n)

pub never_eight : is_listed alone_lengths 1 8 ≡ false
unfolding is_listed is_one_of alone_lengths ◌of◌
never_eight = refl

-- ---- a file
-- tag 25 before the first entry
abbrev pub Tag25 : (entries : Bool) → List Field → ℕ → Type 0
Tag25 entries fs t = (entries ≡ false) × (t ≡ 25)

module _ (b : Bool) (fs : List Field) (low : last_tag fs ≤ 22) where
  tag_as_alone : (t : ℕ) → TagTests (come_in mild_trace mild_groups b fs t) (come_in mild_trace alone_groups b fs t) (card_whole fs) (Tag25 b fs t)
  unfolding mild_trace mild_groups alone_groups begins_group ◌up_to◌
  tag_as_alone t = tests_as (λ w n. (whole_as_mild b fs (omega (arith, low)) (λ e. omega (arith, e, low)) ∙ whole_25 ∙ w, (n.0, n.2))) group_25
    where
      whole_25 : ends_group mild_groups (last_tag fs) ≡ ends_group alone_groups (last_tag fs)
      whole_25 = ends_more alone_groups [] (25 up_to 25) (last_tag fs) (λ e. omega (arith, e, low))

      group_25 : TagTests (come_in mild_trace mild_groups b fs t) (come_in mild_trace alone_groups b fs t) (ends_group alone_groups (last_tag fs)) ((b ≡ false) × (last_tag fs < 25) × (t ≡ 25))
      group_25 = come_more mild_trace alone_groups [] (25 up_to 25) refl refl b fs (λ e. omega (arith, e, low)) t

  pub alone_comes : (t : ℕ) → come_in mild_trace alone_groups b fs t ≡ true → may_come b fs t ≡ true
  alone_comes t m = mild_comes b fs (omega (arith, low)) (λ e. omega (arith, e, low)) t (still_comes (tag_as_alone t) m)

  -- none of these comes
  alone_tags : (t : ℕ) → come_in mild_trace alone_groups b fs t ≡ true → (t ≡ 23 → ⊥) × (t ≡ 25 → ⊥) × (t ≡ 26 → ⊥) × (t ≡ 34 → ⊥)
  alone_tags t m =
      let (k, i, j) = mild_tags b fs (omega (arith, low)) (λ e. omega (arith, e, low)) t (still_comes (tag_as_alone t) m) in
      (k, (λ e. omega (arith, e, small (unfold of_trace of_entry in rw e))), i, j)
    where
      small : of_trace t ≡ false → t ≤ 22
      small = unfold all ends_group alone_groups ◌up_to◌ in card_low 22 alone_groups refl refl b fs t low m

  -- so what it lists, and what it holds to be in range, is so still
  pub alone_listed : (t l : ℕ) → come_in mild_trace alone_groups b fs t ≡ true → is_listed alone_lengths t l ≡ true → length_good t l ≡ true
  alone_listed t l m s = let (k, h, i, j) = alone_tags t m in coarse_listed t l (length_as_alone t l k h i j ∙ s)

  pub alone_ranged : AllSized (is_listed alone_lengths) fs → (f : Field) → come_in mild_trace alone_groups b fs f.tag ≡ true →
      is_listed alone_lengths f.tag (length f.value) ≡ true → alone_good fs f ≡ true → field_good fs f ≡ true
  alone_ranged z f m s g = let (k, h, i, j) = alone_tags f.tag m in coarse_ranged (is_listed alone_lengths) never_eight fs z f s (good_as_alone fs f k h i ∙ g)

-- tag 25 stands so, and what was said of the file is a wrong tag there
abbrev pub Paired : List ℕ → Judged → Type 0
Paired = Met Tag25

-- no such tag stands there
abbrev pub Untagged : List ℕ → Type 0
Untagged bytes = Newer Tag25 bytes → ⊥

record Also (fs : List Field) (past : Past) : Type 0 where
  low : last_tag fs ≤ 22
  without : has 25 fs ≡ false
  only : Sole past

alike : (fs : List Field) (past : Past) → CardRight fs → AllSized alone.size fs → Also fs past → Alike mild alone Tag25 Also fs past
unfolding mild alone
alike fs past r z q = record {
  tag = tag_as_alone (begun past) fs q.low;
  known = alone_comes (begun past) fs q.low;
  wrong = λ t. refl;
  size = λ t l m. let (k, h, i, j) = others t m in sym (length_as_mild t l k i j) ∙ length_as_alone t l k h i j;
  listed = alone_listed (begun past) fs q.low;
  good = λ f m o. let (k, h, i, j) = others f.tag m in sym (good_as_mild fs f k i) ∙ good_as_alone fs f k h i;
  ranged = λ f m o. alone_ranged (begun past) fs q.low z f m;
  card = λ f b m o. let l = small f m o in record { low = unfold last_tag in l; without = unfold has in rw (ne_eqb f.tag 25 (λ e. omega (arith, e, l))) q.without; only = q.only };
  entry = λ f n. same_entry (card_of fs) one past q.only (entry_of f);
  taken = λ f n. same_taken (card_of fs) one past q.only (entry_of f);
  also = λ f n e. record { low = q.low; without = q.without; only = sole_next (card_of fs) past (entry_of f) q.only };
  end = λ w. same_end (card_of fs) one past q.only;
  verdict = λ w t n. same_verdict (card_of fs) one past q.only t;
}
  where
    one : (card_of fs).paired ≡ false
    one = unfold card_of in q.without

    others : (t : ℕ) → come_in mild_trace alone_groups (begun past) fs t ≡ true → (t ≡ 23 → ⊥) × (t ≡ 25 → ⊥) × (t ≡ 26 → ⊥) × (t ≡ 34 → ⊥)
    others = alone_tags (begun past) fs q.low

    small : (f : Field) → come_in mild_trace alone_groups (begun past) fs f.tag ≡ true → of_trace f.tag ≡ false → f.tag ≤ 22
    small f = unfold all ends_group alone_groups ◌up_to◌ in card_low 22 alone_groups refl refl (begun past) fs f.tag q.low

module _ (bytes : List ℕ) where
  -- just before temperature the entries taken and the verdict were what they had been, or tag 25 stands where it was a wrong tag
  pub as_alone : (judged_by mild bytes ≡ judged_by alone bytes) ⊎ Paired bytes (judged_by alone bytes)
  unfolding alone
  as_alone = agree mild alone Tag25 Also alike bytes (record { low = unfold last_tag in omega arith; without = unfold has in refl; only = unfold Sole in tt })

  -- and just before request Three they were still, or tag 23, 25, 26 or 34 stands so, or an entry that was taken writes MA 1
  pub alone_ever : (judged_by coarse_curt bytes ≡ judged_by alone bytes)
      ⊎ (Paired bytes (judged_by alone bytes) ⊎ (Heated bytes (judged_by alone bytes) ⊎ Programmed bytes (judged_by alone bytes)))
  alone_ever = behind_it (λ j. Heated bytes j ⊎ Programmed bytes j) as_alone (mild_ever bytes)

-- ---- the lines
line_same : (t : ℕ) (c : Command) (w : Whose) (n : ℕ) → w ≡ sole → entry_line t c w n ≡ alone_line t c n
unfolding entry_line alone_line
line_same t c w n h = rw h (unfold shown_part in rw append-nil)

lines_same : (past : Past) → Sole past → mild_lines past ≡ alone_lines past
unfolding Sole mild_lines alone_lines
lines_same [] s = refl
lines_same (e ∷ t) s =
    let z : of_part (part_of e.whose) t ≡ t = ap (λ (w : Whose). of_part (part_of w) t) s.0 ∙ (unfold part_of in own_sole t s.1) in
    rw (z, line_same e.stamp e.cmd e.whose (counter_at t) s.0, lines_same t s.1)

pub alone_lines_lem : (bytes : List ℕ) → let past = (judged_by alone bytes).past in entry_lines past ≡ alone_lines past
alone_lines_lem bytes =
    cool_lines _ (all_have alone Cool (unfold alone in cool_on) bytes (unfold Cool in tt)) ∙ lines_same _ (all_have alone Sole (unfold alone in sole_next) bytes (unfold Sole in tt))
  where
    cool_on : (card : Card) (past : Past) (e : Entry) → Cool past → Cool (alone_taken card past e ∷ past)
    cool_on card past e c = unfold Cool alone_taken in (refl, c)

-- ---- a file without tags 23, 25, 26 and 34, of which no entry that was taken writes MA 1
module _ (bytes : List ℕ) (unrefined : Unrefined bytes) (untagged : Untagged bytes) (unheated : Unheated bytes) (unprogrammed : Unprogrammed bytes (judged_by alone bytes)) where
  same_alone : judged_by curt bytes ≡ judged_by alone bytes
  same_alone = same_curt bytes unrefined ∙ ⊎_elim
      (λ (e : judged_by coarse_curt bytes ≡ judged_by alone bytes). e)
      (⊎_elim
      (λ (p : Paired bytes (judged_by alone bytes)). absurd (untagged p.there))
      (⊎_elim
      (λ (h : Heated bytes (judged_by alone bytes)). absurd (unheated h.there))
      (λ (p : Programmed bytes (judged_by alone bytes)). absurd (not_programmed bytes _ unprogrammed p))))
      (alone_ever bytes)

  pub verdict_as_alone : Retold (judge_alone bytes) (judge_file bytes)
  unfolding judge_alone
  verdict_as_alone = verdict_by bytes _ same_alone

  pub lines_as_alone : LinesRetold (lines_alone bytes) (lines_of bytes)
  unfolding lines_alone
  lines_as_alone = lines_by bytes _ same_alone _ (alone_lines_lem bytes)
