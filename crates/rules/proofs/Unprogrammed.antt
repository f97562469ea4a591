-- A file without an 8-byte period and without tag 23 in its card, of which no entry that was taken writes MA 1, has the verdict and the lines that it had before
-- nWR, up to what request Three told anew: every file had, just before that, unless tag 23 stands where its card could end, before its first entry and behind no
-- later tag, where it was refused by 2, or an entry that was taken writes MA 1.
use Prim.Native.Nat.{ℕ, zero, suc, ◌+◌, ◌≤◌, ◌<◌}
use mathlib.Core.Path.{◌≡◌, refl, ap, sym, ◌∙◌}
use mathlib.Core.Logic.{◌⊎◌, inl, inr, ⊎_elim}
use mathlib.Core.Bool.{Bool, true, false, cond, not, ◌&&◌, ◌||◌, and-false}
use mathlib.Core.List.{List, [], ◌∷◌, ◌++◌, tail}
use mathlib.Core.Option.{Option, none, some}
use native.Mathlib.Omega.{arith}
use lib.Dec.{ltb, eqb}
use lib.ListN.{take, drop}
use borrow.Author.Tests.{eq-eqb, ne_eqb}
use Rattle.rules.specs.Lists.{is_one_of}
use Rattle.rules.specs.Card.{Card}
use Rattle.rules.specs.Units.{Delays}
use Rattle.rules.specs.Commands.{Command}
use Rattle.rules.specs.Registers.{wl_of, Modes, nwr_by, nwr_of}
use Rattle.rules.specs.Whose.{is_of}
use Rattle.rules.specs.Levels.{Move}
use Rattle.rules.specs.Past.{Taken, Past, of_part, writes_ma, register_after, register, mr1_at, modes_at, mr4_at}
use Rattle.rules.specs.Folds.{Found, Source, Rule, latest, back, permitted, permitted_by, bound, first_broken}
use Rattle.rules.specs.Delays.{Ask, last_wra_to, Question, Asked, mine, Lookup, Meaning, means, unnoted, noted_of, found, find, look_both, idle_use, lagging, recovering, rule, delay_rules}
use Rattle.rules.specs.Entries.{Entry, view_of, own_for, view_for, read_for, move_of, judged_as, taken_for}
use Rattle.rules.specs.Form.{Field, Group, ◌up_to◌, groups, last_tag, ends_group, begins_group, card_whole, of_entry, of_trace, may_follow, may_come, ◌of◌, is_listed, has, number_if, card_of, entry_of}
use Rattle.rules.specs.File.{begun, Judged, judge_file}
use Rattle.rules.specs.FileReading.{CardRight}
use Rattle.rules.specs.Lines.{lines_of}
use Rattle.rules.proofs.Tests.{lt_cases, eq_cases}
use Rattle.rules.proofs.Walks.{judged_by, AllSized, Newer, Met, TagTests, tests_as, still_comes, Alike, agree_until}
use Rattle.rules.proofs.Retold.{curt, Retold, LinesRetold, verdict_by, lines_by}
use Rattle.rules.proofs.Coarse.{coarse_delays_at, coarse_entry_by, coarse_lengths, coarse_good, coarse_by, coarse_curt}
use Rattle.rules.proofs.Unrefined.{coarse_listed, coarse_ranged, Unrefined, same_curt}
use Rattle.rules.proofs.Timed.{timed_rules, come_in, timed_groups, timed_lengths, timed_good, timed, judge_timed, lines_timed}

-- ---- an entry that was taken writes MA 1, or none does
unfoldable pub Written : Past → Type 0
Written [] = ⊥
Written (e ∷ t) = (writes_ma 1 e.cmd ≡ true) ⊎ Written t

unfoldable Unwritten : Past → Type 0
Unwritten [] = Unit {0}
Unwritten (e ∷ t) = (writes_ma 1 e.cmd ≡ false) × Unwritten t

written_next : (e : Taken) (past : Past) → Written past → Written (e ∷ past)
unfolding Written
written_next e past w = inr w

next_either : (e : Taken) (past : Past) → Unwritten past → Unwritten (e ∷ past) ⊎ Written (e ∷ past)
unfolding Written Unwritten
next_either e past u = go (writes_ma 1 e.cmd) refl
  where
    go : (x : Bool) → writes_ma 1 e.cmd ≡ x → Unwritten (e ∷ past) ⊎ Written (e ∷ past)
    go true w = unfold Written in inr (inl w)
    go false w = unfold Unwritten in inl (w, u)

unwritten_part : (p : ℕ) (past : Past) → Unwritten past → Unwritten (of_part p past)
unfolding Unwritten of_part
unwritten_part p [] u = tt
unwritten_part p (e ∷ t) u = go (is_of p e.whose) (unwritten_part p t u.1)
  where
    go : (x : Bool) → Unwritten (of_part p t) → Unwritten (cond x (e ∷ of_part p t) (of_part p t))
    go true h = (u.0, h)
    go false h = h

-- of what a question goes back to too
unwritten_tail : (past : Past) → Unwritten past → Unwritten (tail past)
unfolding Unwritten
unwritten_tail [] u = tt
unwritten_tail (e ∷ t) u = u.1

module _ (p : Taken → Past → Bool) where
  unwritten_latest : (past : Past) → Unwritten past → Unwritten (latest p past)
  unfolding Unwritten latest
  unwritten_latest [] u = tt
  unwritten_latest (e ∷ t) u = go (p e t) (unwritten_latest t u.1)
    where
      go : (x : Bool) → Unwritten (latest p t) → Unwritten (cond x (e ∷ t) (latest p t))
      go true h = u
      go false h = h

  unwritten_back : (k : ℕ) (past : Past) → Unwritten past → Unwritten (back p k past)
  unfolding back
  unwritten_back zero past u = unwritten_latest past u
  unwritten_back (suc k) past u = unwritten_latest _ (unwritten_tail _ (unwritten_back k past u))

-- ---- so no answer notes an MR1
unfoldable Unnoted : Option (Found Modes) → Type 0
Unnoted none = Unit {0}
Unnoted (some f) = f.noted.mr1 ≡ none

module _ (card : Card) (bare : card.mr1 ≡ none) where
  no_mr1 : (past : Past) → Unwritten past → mr1_at card past ≡ none
  unfolding Unwritten mr1_at register register_after
  no_mr1 [] u = bare
  no_mr1 (e ∷ t) u = rw u.0 (unfold mr1_at in no_mr1 t u.1)

  found_unnoted : (m : Meaning) (past : Past) → Unwritten past → Unnoted (found (modes_at card) m past)
  unfolding Unwritten found noted_of Unnoted
  found_unnoted m [] u = tt
  found_unnoted m (x ∷ t) u = go (m.only x.cmd) m.lags
    where
      go : (o l : Bool) → Unnoted (cond o (some (record { stamp = x.stamp; noted = cond l (modes_at card t) unnoted })) none)
      go true true = unfold modes_at in no_mr1 t u.1
      go true false = unfold unnoted in refl
      go false l = tt

  find_unnoted : (past : Past) → Unwritten past → (q : Question) → Unnoted (find card past q)
  unfolding find
  find_unnoted past u q = found_unnoted (means q.ask) _ (unwritten_back _ (means q.ask).passed past u)

-- ---- and rule 18 goes by n(tWR)
module _ (twr : ℕ) (d : ℕ → ℕ → ℕ) where
  same_permitted : (k : Asked) (o : Option (Found Modes)) → Unnoted o →
      permitted (record { ask = k; delay = λ m. d (wl_of m.mr2) (nwr_of twr m) }) o ≡ permitted (record { ask = k; delay = λ m. d (wl_of m.mr2) twr }) o
  unfolding permitted Unnoted
  same_permitted k none u = refl
  same_permitted k (some f) u = unfold nwr_of in rw u (unfold nwr_by in refl)

  same_sources : (look : Lookup) → ((q : Question) → Unnoted (look (mine q))) → (bs : List ℕ) (a : Ask) →
      permitted_by look (recovering bs twr d a) ≡ permitted_by look (lagging bs (λ rl wl. d wl twr) a)
  unfolding permitted_by recovering lagging
  same_sources look h [] a = refl
  same_sources look h (b ∷ bs) a = let q : Question = record { ask = a; bank = b } in rw (same_permitted (mine q) (look (mine q)) (h q), same_sources look h bs a)

-- a rule counts by its number and its first permitted cycle alone
other_sources : (look : Lookup) (t k : ℕ) (ss ss' : List (Source Asked Modes)) → permitted_by look ss ≡ permitted_by look ss' → (xs ys : List (Rule Asked Modes)) →
    first_broken look (xs ++ (rule k ss ∷ ys)) t ≡ first_broken look (xs ++ (rule k ss' ∷ ys)) t
unfolding first_broken bound rule
other_sources look t k ss ss' e [] ys = rw e
other_sources look t k ss ss' e (x ∷ xs) ys = rw (other_sources look t k ss ss' e xs ys)

same_rules : (look : Lookup) → ((q : Question) → Unnoted (look (mine q))) → (d : Delays) (c : Command) (m : Move) (n t : ℕ) →
    first_broken look (delay_rules d c m n) t ≡ first_broken look (timed_rules d c m n) t
unfolding timed_rules
same_rules look h d c m n t =
    ap (λ (l : List (Rule Asked Modes)). first_broken look l t) at_18
    ∙ other_sources look t 18 _ _ (same_sources d.twr (λ wl nwr. wl + 5 + nwr + d.trppb) look h (idle_use c n) last_wra_to) (take 17 rules) (drop 18 rules)
  where
    rules : List (Rule Asked Modes)
    rules = delay_rules d c m n

    at_18 : rules ≡ take 17 rules ++ (rule 18 (recovering (idle_use c n) d.twr (λ wl nwr. wl + 5 + nwr + d.trppb) last_wra_to) ∷ drop 18 rules)
    at_18 = unfold delay_rules in refl

module _ (card : Card) (bare : card.mr1 ≡ none) (past : Past) (u : Unwritten past) where
  look_unnoted : (e : Entry) (q : Question) → Unnoted ((view_for card past e).look (mine q))
  unfolding view_for view_of look_both own_for
  look_unnoted e q = find_unnoted card bare _ (unwritten_part _ past u) q

  same_entry : (e : Entry) → coarse_entry_by delay_rules card past e ≡ coarse_entry_by timed_rules card past e
  unfolding coarse_entry_by
  same_entry e =
      rw (same_rules (view_for card past e).look (look_unnoted e) (coarse_delays_at card (mr4_at (own_for card past e)))
      (judged_as (read_for card past e)) (move_of (read_for card past e)) (view_for card past e).counter e.stamp)

-- ---- the tags
-- with a group more, which the card does not end with, it could end where it could before
pub ends_more : (xs ys : List Group) (g : Group) (t : ℕ) → (t ≡ g.last → ⊥) → ends_group (xs ++ (g ∷ ys)) t ≡ ends_group (xs ++ ys) t
unfolding ends_group
ends_more [] ys g t n = rw (ne_eqb g.last t (λ e. n (sym e)))
ends_more (h ∷ xs) ys g t n = rw (ends_more xs ys g t n)

begins_more : (xs ys : List Group) (g : Group) (t : ℕ) → (t ≡ g.first → ⊥) → begins_group (xs ++ (g ∷ ys)) t ≡ begins_group (xs ++ ys) t
unfolding begins_group
begins_more [] ys g t n = rw (ne_eqb g.first t (λ e. n (sym e)))
begins_more (h ∷ xs) ys g t n = rw (begins_more xs ys g t n)

-- and only its first tag is new: where the card could end, before the first entry and behind no later tag
module _ (trace : ℕ → Bool) (xs ys : List Group) (g : Group) (untraced : trace g.first ≡ false) (fresh : begins_group (xs ++ ys) g.first ≡ false)
    (b : Bool) (fs : List Field) (n : last_tag fs ≡ g.last → ⊥) where
  pub come_more : (t : ℕ) → TagTests (come_in trace (xs ++ (g ∷ ys)) b fs t) (come_in trace (xs ++ ys) b fs t) (ends_group (xs ++ ys) (last_tag fs))
      ((b ≡ false) × (last_tag fs < g.first) × (t ≡ g.first))
  unfolding come_in
  come_more t = rw (ends_more xs ys g (last_tag fs) n) (go (ends_group (xs ++ ys) (last_tag fs)) b (eq_cases t g.first) (lt_cases (last_tag fs) g.first))
    where
      go : (w b : Bool) → ((t ≡ g.first) × (eqb t g.first ≡ true)) ⊎ ((t ≡ g.first → ⊥) × (eqb t g.first ≡ false)) →
          ((last_tag fs < g.first) × (ltb (last_tag fs) g.first ≡ true)) ⊎ ((g.first ≤ last_tag fs) × (ltb (last_tag fs) g.first ≡ false)) →
          TagTests (cond w (trace t || (not b && (ltb (last_tag fs) t && begins_group (xs ++ (g ∷ ys)) t))) (eqb t (suc (last_tag fs))))
          (cond w (trace t || (not b && (ltb (last_tag fs) t && begins_group (xs ++ ys) t))) (eqb t (suc (last_tag fs)))) w
          ((b ≡ false) × (last_tag fs < g.first) × (t ≡ g.first))
      go false b c l = inl refl
      go true true c l = inl refl
      go true false (inl q) (inl l) = inr (rw (q.0, untraced, fresh) (and-false (ltb (last_tag fs) g.first)), refl, (refl, l.0, q.0))
      go true false (inl q) (inr l) = inl (rw (q.0, l.1))
      go true false (inr q) l = inl (rw (begins_more xs ys g t q.0))

-- a tag that begins no group, and is the next to one that ends a group, does not come
pub never_comes : (trace : ℕ → Bool) (gs : List Group) (k : ℕ) → trace (suc k) ≡ false → begins_group gs (suc k) ≡ false → ends_group gs k ≡ true →
    (b : Bool) (fs : List Field) (t : ℕ) → come_in trace gs b fs t ≡ true → t ≡ suc k → ⊥
unfolding come_in
never_comes trace gs k untraced fresh last b fs t m e =
    let z : true ≡ false = sym (rw (e, untraced, fresh) at m) ∙ go (ends_group gs (last_tag fs)) refl (not b) in
    let y : ◌≡◌ {A = ℕ} 0 1 = cc in omega arith
  where
    go : (w : Bool) → ends_group gs (last_tag fs) ≡ w → (x : Bool) → cond w (x && (ltb (last_tag fs) (suc k) && false)) (eqb (suc k) (suc (last_tag fs))) ≡ false
    go true w false = refl
    go true w true = and-false (ltb (last_tag fs) (suc k))
    go false w x = ne_eqb (suc k) (suc (last_tag fs)) (λ e. not_last (omega (arith, e)))
      where
        not_last : last_tag fs ≡ k → ⊥
        not_last e = let z : true ≡ false = sym last ∙ (rw e at w) in let y : ◌≡◌ {A = ℕ} 0 1 = cc in omega arith

-- a card without a tag does not end with it
last_has : (t : ℕ) (fs : List Field) → has (suc t) fs ≡ false → last_tag fs ≡ suc t → ⊥
unfolding has last_tag
last_has t [] h e = omega arith
last_has t (f ∷ fs) h e = let z : true ≡ false = sym (rw (eq-eqb f.tag (suc t) e)) ∙ h in let y : ◌≡◌ {A = ℕ} 0 1 = cc in omega arith

-- ---- the lengths and the ranges of all tags but 23 are those of `Coarse`
pub length_as_timed : (t l : ℕ) → (t ≡ 23 → ⊥) → is_listed coarse_lengths t l ≡ is_listed timed_lengths t l
unfolding is_listed is_one_of coarse_lengths timed_lengths ◌of◌
length_as_timed t l n = rw (ne_eqb 23 t (λ e. n (sym e)))

pub good_as_timed : (fs : List Field) (f : Field) → (f.tag ≡ 23 → ⊥) → coarse_good fs f ≡ timed_good fs f
unfolding coarse_good timed_good
good_as_timed fs f n = rw (ne_eqb f.tag 23 n)

never_eight : is_listed timed_lengths 1 8 ≡ false
unfolding is_listed is_one_of timed_lengths ◌of◌
never_eight = refl

-- ---- a file
-- tag 23 before the first entry and behind no later tag
abbrev pub Tag23 : (entries : Bool) → List Field → ℕ → Type 0
Tag23 entries fs t = (entries ≡ false) × (last_tag fs < 23) × (t ≡ 23)

module _ (b : Bool) (fs : List Field) (n : last_tag fs ≡ 23 → ⊥) where
  pub whole_as_timed : card_whole fs ≡ ends_group timed_groups (last_tag fs)
  unfolding card_whole groups timed_groups ◌up_to◌
  whole_as_timed = ends_more (1 up_to 18 ∷ 19 up_to 22 ∷ []) (25 up_to 25 ∷ 26 up_to 26 ∷ []) (23 up_to 23) (last_tag fs) n

  tag_as_timed : (t : ℕ) → TagTests (may_come b fs t) (come_in of_trace timed_groups b fs t) (card_whole fs) (Tag23 b fs t)
  tag_as_timed t = tests_as (λ w p. (whole_as_timed ∙ w, p)) group_23
    where
      group_23 : TagTests (may_come b fs t) (come_in of_trace timed_groups b fs t) (ends_group timed_groups (last_tag fs)) (Tag23 b fs t)
      group_23 = unfold may_come may_follow come_in groups timed_groups begins_group of_trace of_entry ◌up_to◌ in
          come_more of_trace (1 up_to 18 ∷ 19 up_to 22 ∷ []) (25 up_to 25 ∷ 26 up_to 26 ∷ []) (23 up_to 23) refl refl b fs n t

  pub timed_comes : (t : ℕ) → come_in of_trace timed_groups b fs t ≡ true → may_come b fs t ≡ true
  timed_comes t = still_comes (tag_as_timed t)

-- tag 23 stands so, and what was said of the file is a wrong tag there, or an entry that was taken writes MA 1
abbrev pub Programmed : List ℕ → Judged → Type 0
Programmed bytes j = Met Tag23 bytes j ⊎ Written j.past

-- neither is so
abbrev pub Unprogrammed : List ℕ → Judged → Type 0
Unprogrammed bytes j = (Newer Tag23 bytes → ⊥) × (Written j.past → ⊥)

pub not_programmed : (bytes : List ℕ) (j : Judged) → Unprogrammed bytes j → Programmed bytes j → ⊥
not_programmed bytes j u (inl m) = u.0 m.there
not_programmed bytes j u (inr w) = u.1 w

abbrev Also : List Field → Past → Type 0
Also fs past = (has 23 fs ≡ false) × Unwritten past

alike : (fs : List Field) (past : Past) → CardRight fs → AllSized timed.size fs → Also fs past → Alike coarse_curt timed Tag23 (λ fs past. Also fs past ⊎ Written past) fs past
unfolding coarse_by timed
alike fs past r z q = record {
  tag = tag_as_timed (begun past) fs (last_has 22 fs q.0);
  known = timed_comes (begun past) fs (last_has 22 fs q.0);
  wrong = λ t. refl;
  size = λ t l m. length_as_timed t l (other_tag t m);
  listed = λ t l m s. coarse_listed t l (length_as_timed t l (other_tag t m) ∙ s);
  good = λ f m o. good_as_timed fs f (other_tag f.tag m);
  ranged = λ f m o s g. coarse_ranged (is_listed timed_lengths) never_eight fs z f s (good_as_timed fs f (other_tag f.tag m) ∙ g);
  card = λ f b m o. inl (unfold has in rw (ne_eqb f.tag 23 (other_tag f.tag m)) q.0, q.1);
  entry = λ f n. same_entry (card_of fs) (unfold card_of number_if in rw q.0) past q.1 (entry_of f);
  taken = λ f n. refl;
  also = λ f n e. ⊎_elim
      (λ (u : Unwritten (taken_for (card_of fs) past (entry_of f) ∷ past)). inl (q.0, u))
      (λ (w : Written (taken_for (card_of fs) past (entry_of f) ∷ past)). inr w)
      (next_either (taken_for (card_of fs) past (entry_of f)) past q.1);
  end = λ w t. refl;
  verdict = λ w t n. refl;
}
  where
    other_tag : (t : ℕ) → come_in of_trace timed_groups (begun past) fs t ≡ true → t ≡ 23 → ⊥
    other_tag t = unfold timed_groups begins_group ends_group of_trace of_entry ◌up_to◌ in never_comes of_trace timed_groups 22 refl refl refl (begun past) fs t

module _ (bytes : List ℕ) where
  -- just before request Three the entries taken and the verdict were what they had been, or tag 23 stands where it was a wrong tag, or an entry that was taken writes MA 1
  pub as_timed : (judged_by coarse_curt bytes ≡ judged_by timed bytes) ⊎ Programmed bytes (judged_by timed bytes)
  unfolding timed
  as_timed = agree_until coarse_curt timed Tag23 Also Written (λ card past e. written_next (timed.taken card past e) past) alike bytes (unfold has Unwritten in (refl, tt))

-- ---- a file with neither
module _ (bytes : List ℕ) (unrefined : Unrefined bytes) (unprogrammed : Unprogrammed bytes (judged_by timed bytes)) where
  same_timed : judged_by curt bytes ≡ judged_by timed bytes
  same_timed = same_curt bytes unrefined ∙ ⊎_elim
      (λ (e : judged_by coarse_curt bytes ≡ judged_by timed bytes). e)
      (λ (p : Programmed bytes (judged_by timed bytes)). absurd (not_programmed bytes _ unprogrammed p))
      (as_timed bytes)

  pub verdict_as_timed : Retold (judge_timed bytes) (judge_file bytes)
  unfolding judge_timed
  verdict_as_timed = verdict_by bytes _ same_timed

  pub lines_as_timed : LinesRetold (lines_timed bytes) (lines_of bytes)
  unfolding lines_timed
  lines_as_timed = lines_by bytes _ same_timed _ refl
