-- The record that stands for an accepted past answers as the list does: a step, the end and a moved-on ledger, from the ledgers' cycles on; below one of them
-- they answer 5. After a step it stands for the longer past. Each part's share stands for its own entries.
use Prim.Native.Nat.{ℕ, suc, ◌≤◌, ◌<◌, max}
use mathlib.Core.Path.{◌≡◌, refl, ap, sym, ◌∙◌, subst, fun_ext}
use mathlib.Core.Logic.{⊎_elim}
use mathlib.Core.Bool.{Bool, true, false, cond, ◌&&◌, and-true, and-false}
use mathlib.Core.List.{[], ◌∷◌, map}
use mathlib.Core.Option.{Option, none, some}
use native.Mathlib.Omega.{arith}
use lib.Dec.{leb, eqb}
use borrow.Author.Tests.{leb-true, le-leb, lt-leb, ltb-true, eq-eqb}
use Rattle.rules.specs.Lists.{is_one_of}
use Rattle.rules.specs.Card.{Card}
use Rattle.rules.specs.Heat.{delays_at}
use Rattle.rules.specs.Ranges.{card_good}
use Rattle.rules.specs.Whose.{is_of, other, parts}
use Rattle.rules.specs.Levels.{level_after}
use Rattle.rules.specs.Past.{Past, of_part, last_cycle, register, mr2_after, mr1_after, modes_after, mr2_at, mr1_at, modes_at, mr4_at, level_at, counter_at, is_open, stamps_where, counted_stamps}
use Rattle.rules.specs.Folds.{or_else, first_of}
use Rattle.rules.specs.Delays.{find}
use Rattle.rules.specs.Account.{lpddr3, Beat, every, last_counted, ledger_on, last_on, since_on, failing_on, first_on, failing_in, first_in, earliest}
use Rattle.rules.specs.Clock.{counted_from, clock, beat_at, schedule_of, book_of, books_of}
use Rattle.rules.specs.Entries.{Entry, view_of, whose_of, part_in, own_for, others_for, view_for, read_after, read_for, mr4_of, taken, taken_for, past_with}
use Rattle.rules.specs.Checks.{Refusal, refusal, unless, named, checks, above, not_below, entry_checks, end_checks, entry_refusal, end_refusal}
use Rattle.rules.specs.Verdict.{ledgers_at}
use Rattle.rules.specs.Reading.{Above}
use Rattle.rules.specs.Lent.{Ledger, beat_of, start_pace, Share, Lent, has_part, answers_in, view_in, mr2s_good, stamps_good, last_by, since_good, share_good, lent_good, above_last, not_behind, own_in, read_in, command_in, move_in, mr4_in, effect_of, effect_in, no_effect, effect_on, ledger_to, refreshed_at, sensed_at, at_level, entered, ledger_with, failing_of, failing_to, failings_to, failings_with, pace_by, pace_with, step_refusal, share_after, with_ledger, share_with, lent_after, close_refusal, ledger_good, move_refusal, moved_on, put_ledger, last_of, history_of, ledger_at, pace_of, share_of, stands_at, fresh_share, standing, fresh, AllTaken, PaidTo}
use Rattle.rules.proofs.Tests.{le_cases, eq_cases, some_none}
use Rattle.rules.proofs.Rounds.{AllBelow, Rising, below_more}
use Rattle.rules.proofs.Filtered.{IsPart, own_read, own_counted, of_next, all_parts, all_each, map_each, judging_part, own_is_part, below_part, rising_part}
use Rattle.rules.proofs.Decided.{or_else_none, or_none, unless_none, named_none, above_iff}
use Rattle.rules.proofs.Earliest.{first_parts, failing_parts, ledgers_parts}
use Rattle.rules.proofs.Histories.{look_same, none_found}
use Rattle.rules.proofs.Taken.{passed, counter_good, below_last, unmoved, taken_induction, rising, orderly, mr2_good_lem, owing_start, above_part, paid_with, paid_to_last, owing_good_lem}
use Rattle.rules.proofs.Stored.{stamps_stored, mr2s_stored}
use Rattle.rules.proofs.Refreshed.{above_all}
use Rattle.rules.proofs.Owings.{number_at_lem, since_by, failing_at_lem, moved_on_lem, failing_to_lem, sensed_gap, entered_with, gap_free}
use Rattle.rules.proofs.Clocks.{clock_other}
use Rattle.rules.proofs.Beats.{plain_beat, plain_mr4, sensed_beat, sensed_mr4}
use Rattle.rules.proofs.Paces.{all_made, other_senseless, SamePace, one_pace, pace_same, pace_beat}

share_fresh : (card : Card) → share_of card [] 0 ≡ fresh_share card
unfolding share_of fresh_share since_on history_of modes_at mr2_at mr1_at register is_open level_at counter_at last_on last_counted book_of schedule_of clock counted_from counted_stamps stamps_where
share_fresh card = rw (owing_start card)

pub fresh_stands : (card : Card) → standing card [] unmoved ≡ fresh card
unfolding standing fresh stands_at last_of last_cycle of_part
fresh_stands card = λ i. record { card = card; last = none; pace = start i; share = fun_ext {f = λ p. cond (has_part card p) (share_of card [] 0) (fresh_share card)} {g = λ p. fresh_share card} (λ p. go (has_part card p)) i }
  where
    start : pace_of card [] ≡ start_pace card
    start = unfold pace_of start_pace beat_at every mr4_at in refl

    go : (x : Bool) → cond x (share_of card [] 0) (fresh_share card) ≡ fresh_share card
    go true = share_fresh card
    go false = refl

last_within : (past : Past) (t : ℕ) → last_cycle past ≤ t → last_by (last_of past) t ≡ true
unfolding last_cycle last_by last_of
last_within [] t h = refl
last_within (e ∷ p) t h = le-leb e.stamp t h

above_same : (past : Past) (t : ℕ) → above_last (last_of past) t ≡ above past t
unfolding above_last last_of above
above_same [] t = refl
above_same (e ∷ p) t = refl

last_same : (past : Past) (t : ℕ) → last_by (last_of past) t ≡ not_below past t
unfolding last_by last_of not_below
last_same [] t = refl
last_same (e ∷ p) t = refl

pub last_of_below : (own : Past) (t : ℕ) → AllBelow (suc t) own → last_cycle own ≤ t
unfolding last_cycle AllBelow
last_of_below [] t b = omega arith
last_of_below (e ∷ own) t b = omega arith

-- a part that the trace does not have has no entries
no_entries : (card : Card) (p : ℕ) → has_part card p ≡ false → (past : Past) → AllTaken card past → of_part p past ≡ []
no_entries card p n = taken_induction card (λ t. of_part p t ≡ []) (unfold of_part in refl) (λ t e x h. of_next card p t e ∙ go t e h (is_of p (whose_of card e)) refl)
  where
    go : (t : Past) (e : Entry) → of_part p t ≡ [] → (y : Bool) → is_of p (whose_of card e) ≡ y → cond y (taken card (of_part p t) e ∷ of_part p t) (of_part p t) ≡ []
    go t e h false i = h
    go t e h true i = let z : false ≡ true = sym n ∙ own_is_part card e p i in let y : ◌≡◌ {A = ℕ} 0 1 = cc in absurd (omega arith)

-- the cycles of the ledgers, part p's then moved on to d
abbrev pub moved_to : (ℕ → ℕ) → (p d : ℕ) → ℕ → ℕ
moved_to c p d q = cond (eqb q p) d (c q)

-- no part's ledger stands at a later cycle
abbrev pub Reached : Card → Past → (ℕ → ℕ) → ℕ → Type 0
Reached card past c t = (p : ℕ) → IsPart card p → stands_at past c p ≤ t

-- an entry's refusal, where 19 and 20 answer so at its stamp
abbrev judged_at : Card → Past → Entry → Option (ℕ × ℕ) → Option Refusal
judged_at card past e at = first_of (
    checks card (delays_at card (mr4_at (own_for card past e))) (view_for card past e) (above past e.stamp) (first_in lpddr3 (books_of card past) e.stamp) at
    (read_for card past e) e.stamp
    )

module _ (card : Card) (past : Past) (c : ℕ → ℕ) (good : card_good card ≡ true) (all : AllTaken card past) (paid : PaidTo card past c) where
  abbrev L : Lent
  L = standing card past c

  -- the ledger of part p as it stands
  abbrev G : ℕ → Ledger
  G p = ledger_at card (of_part p past) (stands_at past c p)

  -- ---- each part's share
  share_is : (p : ℕ) → IsPart card p → L.share p ≡ share_of card (of_part p past) (stands_at past c p)
  unfolding standing
  share_is p i = rw i

  pub ledger_is : (p : ℕ) → IsPart card p → ((standing card past c).share p).ledger ≡ ledger_at card (of_part p past) (stands_at past c p)
  ledger_is p i = ap (λ (s : Share). s.ledger) (share_is p i) ∙ (unfold share_of in refl)

  below : (p : ℕ) → AllBelow (suc (stands_at past c p)) (of_part p past)
  unfolding stands_at
  below p = below_part p _ past (below_more (suc (last_cycle past)) _ past (omega arith) (below_last past (rising card past all)))

  up : (p : ℕ) → Rising (of_part p past)
  up p = rising_part p past (rising card past all)

  -- one pace, which is each part's
  first_part : IsPart card 0
  unfolding has_part parts
  first_part = go card.paired
    where
      go : (x : Bool) → is_one_of (cond x (0 ∷ 1 ∷ []) (0 ∷ [])) 0 ≡ true
      go true = unfold is_one_of in refl
      go false = unfold is_one_of in refl

  paces_alike : (p : ℕ) → IsPart card p → SamePace card (of_part 0 past) (of_part p past)
  paces_alike p i = one_pace card good 0 p first_part i past (all_made card past all)

  pub beat_is : (p : ℕ) → IsPart card p → beat_of card (standing card past c).pace ≡ beat_at card (of_part p past)
  unfolding standing
  beat_is p i = pace_beat card (of_part 0 past) ∙ (paces_alike p i).beat

  -- the pace is that of any part's own entries
  pub pace_is : (p : ℕ) → IsPart card p → (standing card past c).pace ≡ pace_of card (of_part p past)
  unfolding standing
  pace_is p i = pace_same card (of_part 0 past) (of_part p past) (paces_alike p i)

  mr4_is : (p : ℕ) → IsPart card p → L.pace.mr4 ≡ mr4_at (of_part p past)
  unfolding standing pace_of
  mr4_is p i = (paces_alike p i).mr4

  -- its dues
  abbrev B : Beat
  B = beat_of card L.pace

  not_before : (p : ℕ) → last_cycle (of_part p past) ≤ stands_at past c p
  not_before p = last_of_below (of_part p past) (stands_at past c p) (below p)

  ledger_moved : (p : ℕ) → IsPart card p → (d : ℕ) → stands_at past c p ≤ d → ledger_to B (G p) d ≡ ledger_at card (of_part p past) d
  ledger_moved p i d h = rw (beat_is p i) (moved_on_lem card (of_part p past) (up p) (stands_at past c p) (not_before p) (below p) d h)

  failing_until : (p : ℕ) → IsPart card p → (t : ℕ) → stands_at past c p ≤ t → failing_to B (G p) t ≡ first_on lpddr3 (book_of card (of_part p past)) t
  unfolding PaidTo
  failing_until p i t h = rw (beat_is p i) (failing_to_lem card (of_part p past) (up p) (stands_at past c p) (not_before p) (below p) (paid p i) t h)

  -- ---- refusal 13 is never given
  not_failing : (p : ℕ) → IsPart card p → failing_on lpddr3 (book_of card (of_part p past)) (stands_at past c p) ≡ none
  unfolding PaidTo first_on
  not_failing p i = (or_else_none _ _ (paid p i)).1

  since_good_lem : (p : ℕ) → since_good (G p) ≡ true
  unfolding since_good
  since_good_lem p =
      rw (number_at_lem card (of_part p past) (stands_at past c p))
      (le-leb _ _ (since_by card (of_part p past) (up p) (stands_at past c p) (not_before p) (below p)))

  ledger_good_lem : (p : ℕ) → IsPart card p → ledger_good card (G p) ≡ true
  unfolding ledger_good
  ledger_good_lem p i = rw (good, since_good_lem p) (rw (owing_good_lem (book_of card (of_part p past)) (stands_at past c p) (not_failing p i)))

  last_good : (p : ℕ) → last_by (last_of past) (stands_at past c p) ≡ true
  unfolding stands_at
  last_good p = last_within past (max (last_cycle past) (c p)) (omega arith)

  share_good_lem : (p : ℕ) → IsPart card p → share_good card (last_of past) (share_of card (of_part p past) (stands_at past c p)) ≡ true
  unfolding share_good share_of mr2s_good stamps_good modes_at
  share_good_lem p i = rw (
    mr2_good_lem card good p past all,
    mr2s_stored card good p past all,
    stamps_stored card p past (rising card past all),
    since_good_lem p,
    le-leb (counter_at (of_part p past)) 7 (counter_good (of_part p past)),
  ) (rw (owing_good_lem (book_of card (of_part p past)) (stands_at past c p) (not_failing p i), last_good p))

  pub lent_good_lem : lent_good (standing card past c) ≡ true
  unfolding lent_good standing
  lent_good_lem = rw good (all_parts (λ p. share_good card (last_of past) (L.share p)) (parts card) (λ p i. let j : IsPart card p = unfold has_part in i in rw (share_is p j) (share_good_lem p j)))

  -- ---- the view
  answers_same : (p : ℕ) → answers_in L p ≡ find card (of_part p past)
  unfolding answers_in standing
  answers_same p = go (has_part card p) refl
    where
      go : (x : Bool) → has_part card p ≡ x → answers_in L p ≡ find card (of_part p past)
      go true i = fun_ext (λ q. rw i (unfold share_of in rw (look_same card (of_part p past))))
      go false i = fun_ext (λ q. rw (i, no_entries card p i past all) (sym (none_found card q)))

  own_in_lem : (e : Entry) → own_in L e ≡ share_of card (own_for card past e) (stands_at past c (part_in card e))
  unfolding own_in standing own_for
  own_in_lem e = rw (judging_part card e)

  view_same : (e : Entry) → view_in L (part_in card e) ≡ view_for card past e
  unfolding view_in view_for view_of own_for others_for
  view_same e = rw (answers_same (part_in card e), answers_same (other (part_in card e)), share_is (part_in card e) (judging_part card e)) (unfold share_of in refl)

  read_same : (e : Entry) → read_in L e ≡ read_for card past e
  unfolding read_in read_for read_after standing
  read_same e = rw (own_in_lem e) (unfold share_of in refl)

  -- ---- a step
  abbrev next : Entry → Past
  next e = past_with card past e

  own_with : (e : Entry) (p : ℕ) → is_of p (whose_of card e) ≡ true → stands_at past c p ≤ e.stamp → Above past e.stamp →
      entered (effect_in L e) B (G p) e.stamp ≡ ledger_at card (taken card (of_part p past) e ∷ of_part p past) e.stamp
  unfolding entered effect_in effect_of
  own_with e p i h a =
      rw (ledger_moved p (own_is_part card e p i) e.stamp h, read_same e, own_in_lem e)
      (unfold share_of in rw (own_read card past p e i) (unfold read_after in rw (own_counted card past p e i (level_at (of_part p past)))
      (unfold read_after in entered_with card (of_part p past) e (up p) (orderly card p past all) (above_part card p past e.stamp (rising card past all) a))))

  -- of a part whose entry it is not, only moved on
  only_moved : (e : Entry) (p : ℕ) → IsPart card p → stands_at past c p ≤ e.stamp → entered no_effect B (G p) e.stamp ≡ ledger_at card (of_part p past) e.stamp
  unfolding entered no_effect refreshed_at sensed_at
  only_moved e p i h = rw (ledger_moved p i e.stamp h) (unfold at_level level_after in refl)

  ledger_with_lem : (e : Entry) (p : ℕ) → IsPart card p → stands_at past c p ≤ e.stamp → Above past e.stamp → ledger_with L e p ≡ ledger_at card (of_part p (next e)) e.stamp
  unfolding ledger_with effect_on
  ledger_with_lem e p i h a = rw (ledger_is p i, of_next card p past e) (unfold standing in go (is_of p (whose_of card e)) refl)
    where
      go : (y : Bool) → is_of p (whose_of card e) ≡ y →
          entered (cond y (effect_in L e) no_effect) B (G p) e.stamp
          ≡ ledger_at card (cond y (taken card (of_part p past) e ∷ of_part p past) (of_part p past)) e.stamp
      go true o = own_with e p o h a
      go false o = only_moved e p i h

  -- the beat behind a temperature is another one, but the gap is then 0
  beat_free : (e : Entry) (p : ℕ) → IsPart card p → Above past e.stamp →
      failing_of B (ledger_at card (of_part p (next e)) e.stamp) ≡ failing_of (beat_at card (of_part p (next e))) (ledger_at card (of_part p (next e)) e.stamp)
  beat_free e p i a = rw (of_next card p past e) (go (is_of p (whose_of card e)))
    where
      own : Past
      own = of_part p past

      by : (m : Option ℕ) → (taken card own e).mr4 ≡ m →
          failing_of B (ledger_at card (taken card own e ∷ own) e.stamp) ≡ failing_of (beat_at card (taken card own e ∷ own)) (ledger_at card (taken card own e ∷ own) e.stamp)
      by none g = rw (plain_beat card (taken card own e) own g, beat_is p i)
      by (some v) g = gap_free _ _ _ (sensed_gap card own e (up p) (orderly card p past all) (above_part card p past e.stamp (rising card past all) a) v g)

      go : (y : Bool) → failing_of B (ledger_at card (cond y (taken card own e ∷ own) own) e.stamp)
          ≡ failing_of (beat_at card (cond y (taken card own e ∷ own) own)) (ledger_at card (cond y (taken card own e ∷ own) own) e.stamp)
      go true = by (taken card own e).mr4 refl
      go false = rw (beat_is p i)

  failing_there : (e : Entry) (p : ℕ) → IsPart card p → Above past e.stamp →
      failing_of B (ledger_at card (of_part p (next e)) e.stamp) ≡ failing_on lpddr3 (book_of card (of_part p (next e))) e.stamp
  failing_there e p i a =
      beat_free e p i a ∙ failing_at_lem card (of_part p (next e)) (rising_part p (next e) above_next) e.stamp (last_of_below (of_part p (next e)) e.stamp here) here
    where
      above_next : Rising (next e)
      above_next = unfold Rising past_with taken_for taken in (above_all past e.stamp (rising card past all) a, rising card past all)

      here : AllBelow (suc e.stamp) (of_part p (next e))
      here = below_part p (suc e.stamp) (next e) (unfold past_with taken_for taken last_cycle in below_last (next e) above_next)

  failing_with : (e : Entry) → Reached card past c e.stamp → Above past e.stamp → failings_with L e ≡ failing_in lpddr3 (books_of card (next e)) e.stamp
  unfolding failings_with standing has_part
  failing_with e h a =
      ap first_of (map_each _ (λ p. failing_on lpddr3 (book_of card (of_part p (next e))) e.stamp) (parts card)
      (λ p i. rw (ledger_with_lem e p i (h p i) a) (failing_there e p i a)))
      ∙ sym (failing_parts card (next e) e.stamp)

  failings_to_lem : (t : ℕ) → Reached card past c t → failings_to L t ≡ first_in lpddr3 (books_of card past) t
  unfolding failings_to standing has_part
  failings_to_lem t h =
      ap earliest (map_each _ (λ p. first_on lpddr3 (book_of card (of_part p past)) t) (parts card) (λ p i. rw (ledger_is p i) (failing_until p i t (h p i))))
      ∙ sym (first_parts card past t)

  pub not_behind_lem : (t : ℕ) → Reached card past c t → not_behind (standing card past c) t ≡ true
  unfolding not_behind standing has_part
  not_behind_lem t h = all_parts (λ p. leb (L.share p).ledger.at t) (parts card) (λ p i. rw (ledger_is p i) (le-leb (stands_at past c p) t (h p i)))

  pub reached : (t : ℕ) → not_behind (standing card past c) t ≡ true → Reached card past c t
  unfolding not_behind standing has_part
  reached t h p i = leb-true (stands_at past c p) t (rw (ledger_is p i) at (all_each (λ p. leb (L.share p).ledger.at t) (parts card) h p i))

  -- a test of the last entry, where no ledger's cycle is passed
  from_at : {x y : Bool} (t : ℕ) → Reached card past c t → x ≡ y → (x && not_behind L t) ≡ y
  from_at {x} t h e = rw (not_behind_lem t h, and-true x) e

  mr4_for : (e : Entry) → L.pace.mr4 ≡ mr4_at (own_for card past e)
  unfolding own_for
  mr4_for e = mr4_is (part_in card e) (judging_part card e)

  step_checks : (e : Entry) → Reached card past c e.stamp → step_refusal L e ≡ judged_at card past e (failings_with L e)
  unfolding step_refusal standing
  step_checks e h =
      rw (lent_good_lem, view_same e, read_same e, from_at e.stamp h (above_same past e.stamp), failings_to_lem e.stamp h, mr4_for e) (unfold first_of or_else unless in refl)

  pub step_by_list : (e : Entry) → Reached card past c e.stamp → step_refusal (standing card past c) e ≡ entry_refusal card past e
  unfolding entry_refusal entry_checks
  step_by_list e h = step_checks e h ∙ go (above past e.stamp) refl
    where
      go : (x : Bool) → above past e.stamp ≡ x → judged_at card past e (failings_with L e) ≡ judged_at card past e (failing_in lpddr3 (books_of card (next e)) e.stamp)
      go true a = ap (judged_at card past e) (failing_with e h ((above_iff past e.stamp).0 a))
      go false a = rw a (unfold checks first_of or_else unless in refl)

  -- below the cycle of any part's ledger
  behind : (t p : ℕ) → IsPart card p → t < stands_at past c p → not_behind L t ≡ false
  behind t p i h = go (not_behind L t) refl
    where
      passed_it : stands_at past c p ≤ t → ⊥
      passed_it g = omega arith

      go : (x : Bool) → not_behind L t ≡ x → not_behind L t ≡ false
      go true b = absurd (passed_it (reached t b p i))
      go false b = b

  step_behind : (e : Entry) → not_behind L e.stamp ≡ false → step_refusal L e ≡ some (refusal 5 0 0)
  unfolding step_refusal checks standing first_of or_else unless
  step_behind e h = rw (lent_good_lem, h, and-false (above_last (last_of past) e.stamp))

  pub step_below : (e : Entry) (p : ℕ) → IsPart card p → e.stamp < stands_at past c p → step_refusal (standing card past c) e ≡ some (refusal 5 0 0)
  step_below e p i h = step_behind e (behind e.stamp p i h)

  -- what is not refused does not lie below
  from_there : {o : Option Refusal} (t : ℕ) → o ≡ none → (not_behind L t ≡ false → o ≡ some (refusal 5 0 0)) → Reached card past c t
  from_there t n behind = go (not_behind L t) refl
    where
      go : (x : Bool) → not_behind L t ≡ x → Reached card past c t
      go true h = reached t h
      go false h = absurd (some_none (sym n ∙ behind h))

  pub step_accepts : (e : Entry) → step_refusal (standing card past c) e ≡ none → Reached card past c e.stamp × (entry_refusal card past e ≡ none)
  step_accepts e n = let h = from_there e.stamp n (step_behind e) in (h, sym (step_by_list e h) ∙ n)

  -- the cycles that the ledgers stand at then
  stands_next : (e : Entry) (p : ℕ) → stands_at past c p ≤ e.stamp → stands_at (next e) c p ≡ e.stamp
  unfolding stands_at last_cycle past_with taken_for taken
  stands_next e p h = omega arith

  share_next : (e : Entry) → Reached card past c e.stamp → Above past e.stamp → (p : ℕ) → IsPart card p →
      share_with L e p ≡ share_of card (of_part p (next e)) (stands_at (next e) c p)
  unfolding share_with standing
  share_next e h a p i =
      rw (ledger_with_lem e p i (h p i) a, share_is p i, stands_next e p (h p i), of_next card p past e) (go (is_of p (whose_of card e)) refl)
    where
      go : (y : Bool) → is_of p (whose_of card e) ≡ y →
          cond y
          (share_after (command_in L e) (move_in L e) e.stamp (ledger_at card (cond y (taken card (of_part p past) e ∷ of_part p past) (of_part p past)) e.stamp)
          (share_of card (of_part p past) (stands_at past c p)))
          (with_ledger (ledger_at card (cond y (taken card (of_part p past) e ∷ of_part p past) (of_part p past)) e.stamp) (share_of card (of_part p past) (stands_at past c p)))
          ≡ share_of card (cond y (taken card (of_part p past) e ∷ of_part p past) (of_part p past)) e.stamp
      go true o =
          unfold command_in move_in in rw (read_same e)
          (rw (own_read card past p e o) (unfold share_after share_of modes_after mr2_after mr1_after modes_at mr2_at mr1_at register counter_at is_open history_of taken in refl))
      go false o = unfold with_ledger share_of in refl

  shares_next : (e : Entry) → Reached card past c e.stamp → Above past e.stamp → (p : ℕ) →
      cond (has_part card p) (share_with L e p) (L.share p)
      ≡ cond (has_part card p) (share_of card (of_part p (next e)) (stands_at (next e) c p)) (fresh_share card)
  shares_next e h a p = go (has_part card p) refl
    where
      go : (x : Bool) → has_part card p ≡ x → cond x (share_with L e p) (L.share p) ≡ cond x (share_of card (of_part p (next e)) (stands_at (next e) c p)) (fresh_share card)
      go true i = share_next e h a p i
      go false i = unfold standing in rw i

  -- the pace: by the first part's number, which is every part's
  own_pace : (own : Past) (e : Entry) (m : Option ℕ) → (taken card own e).mr4 ≡ m →
      pace_by card (clock (taken card own e ∷ own) e.stamp) m (pace_of card own) ≡ pace_of card (taken card own e ∷ own)
  unfolding pace_by
  own_pace own e none g = unfold pace_of in rw (plain_beat card (taken card own e) own g, plain_mr4 card (taken card own e) own g)
  own_pace own e (some v) g =
      rw (pace_beat card own, clock_other (taken card own e) own e.stamp (unfold taken in omega arith))
      (unfold pace_of in rw (sensed_beat card (taken card own e) own v g, sensed_mr4 card (taken card own e) own v g) (unfold taken in refl))

  pace_next : (e : Entry) → Reached card past c e.stamp → Above past e.stamp → pace_with L e ≡ pace_of card (of_part 0 (next e))
  unfolding pace_with mr4_in
  pace_next e h a =
      rw (ledger_with_lem e 0 first_part (h 0 first_part) a, number_at_lem card (of_part 0 (next e)) e.stamp, read_same e, of_next card 0 past e)
      (unfold standing in go (is_of 0 (whose_of card e)) refl)
    where
      own : Past
      own = of_part 0 past

      go : (y : Bool) → is_of 0 (whose_of card e) ≡ y →
          pace_by card (clock (cond y (taken card own e ∷ own) own) e.stamp) (mr4_of (read_for card past e)) (pace_of card own) ≡ pace_of card (cond y (taken card own e ∷ own) own)
      go true o = rw (own_read card past 0 e o) (own_pace own e (mr4_of (read_after card own e)) (unfold taken in refl))
      go false o = rw (other_senseless card past e 0 first_part o) (unfold pace_by in refl)

  pub step_after : (e : Entry) → step_refusal (standing card past c) e ≡ none → lent_after (standing card past c) e ≡ standing card (past_with card past e) c
  unfolding lent_after standing last_of past_with taken_for taken
  step_after e n =
      let q = step_accepts e n in
      let h = (passed card past e q.1).above in
      λ i. record {
        card = card;
        last = some e.stamp;
        pace = pace_next e q.0 h i;
        share = fun_ext (λ p. unfold standing past_with taken_for taken in shares_next e q.0 h p) i;
      }

  pub step_keeps : (e : Entry) → step_refusal (standing card past c) e ≡ none → AllTaken card (past_with card past e) × PaidTo card (past_with card past e) c
  unfolding AllTaken PaidTo past_with
  step_keeps e n =
      let q = step_accepts e n in
      (((e, refl, q.1), all), λ p i. rw (stands_next e p (q.0 p i)) (paid_with card p i past e all (passed card past e q.1)))

  -- ---- the end
  pub close_below : (end p : ℕ) → IsPart card p → end < stands_at past c p → close_refusal (standing card past c) end ≡ some (refusal 5 0 0)
  unfolding close_refusal standing first_of or_else unless
  close_below end p i h = rw (lent_good_lem, behind end p i h, and-false (last_by (last_of past) end))

  pub close_by_list : (end : ℕ) → Reached card past c end → close_refusal (standing card past c) end ≡ end_refusal card past end
  unfolding close_refusal standing end_refusal end_checks
  close_by_list end h =
      rw (lent_good_lem, from_at end h (last_same past end), failings_to_lem (suc end) (λ p i. omega (arith, h p i))) (unfold first_of or_else unless in refl)

  pub owing_by_list : (end : ℕ) → Reached card past c end →
      map (λ p. (moved_on card (standing card past c).pace ((standing card past c).share p).ledger end).owing) (parts card) ≡ ledgers_at card past end
  unfolding has_part
  owing_by_list end h =
      map_each _ (λ p. ledger_on lpddr3.credit (book_of card (of_part p past)) end) (parts card)
      (λ p i. rw (ledger_is p i) (unfold moved_on in ap (λ (g : Ledger). g.owing) (ledger_moved p i end (h p i))))
      ∙ sym (ledgers_parts card past end)

  -- ---- a moved-on ledger, of part p
  module _ (p : ℕ) (i : IsPart card p) where
    pub move_below : (d : ℕ) → d < stands_at past c p → move_refusal card (standing card past c).pace (ledger_at card (of_part p past) (stands_at past c p)) d ≡ some (refusal 5 0 0)
    unfolding move_refusal first_of or_else unless
    move_below d h = rw (ledger_good_lem p i, lt-leb _ _ h)

    pub move_by_list : (d : ℕ) → stands_at past c p ≤ d →
        move_refusal card (standing card past c).pace (ledger_at card (of_part p past) (stands_at past c p)) d ≡ named 11 (first_on lpddr3 (book_of card (of_part p past)) (suc d))
    unfolding move_refusal first_of or_else unless
    move_by_list d h = rw (ledger_good_lem p i, le-leb _ _ h, failing_until p i (suc d) (omega arith)) (or_none _)

    pub moved_stands : (d : ℕ) → stands_at past c p ≤ d → moved_on card (standing card past c).pace (ledger_at card (of_part p past) (stands_at past c p)) d ≡ ledger_at card (of_part p past) d
    unfolding moved_on
    moved_stands d h = ledger_moved p i d h

    moved_at : (d : ℕ) → stands_at past c p ≤ d → stands_at past (moved_to c p d) p ≡ d
    unfolding stands_at
    moved_at d h = rw (eq-eqb p p refl) (omega arith)

    other_at : (d q : ℕ) → eqb q p ≡ false → stands_at past (moved_to c p d) q ≡ stands_at past c q
    unfolding stands_at
    other_at d q n = rw n

    -- the share then stands for the part's own entries at that cycle, and for nothing else
    pub share_at_lem : (d : ℕ) → stands_at past c p ≤ d → with_ledger (moved_on card (standing card past c).pace (G p) d) ((standing card past c).share p) ≡ share_of card (of_part p past) d
    share_at_lem d h = rw (moved_stands d h, share_is p i) (unfold with_ledger share_of in refl)

    share_moved : (d : ℕ) → stands_at past c p ≤ d → (q : ℕ) → cond (eqb q p) (with_ledger (moved_on card L.pace (G p) d) (L.share q)) (L.share q)
        ≡ cond (has_part card q) (share_of card (of_part q past) (stands_at past (moved_to c p d) q)) (fresh_share card)
    share_moved d h q = ⊎_elim
        (λ (z : (q ≡ p) × (eqb q p ≡ true)). rw z.1 (subst (λ (r : ℕ). with_ledger (moved_on card L.pace (G p) d) (L.share r)
        ≡ cond (has_part card r) (share_of card (of_part r past) (stands_at past (moved_to c p d) r)) (fresh_share card)) (sym z.0) here))
        (λ (z : (q ≡ p → ⊥) × (eqb q p ≡ false)). rw z.1 (unfold standing in rw (other_at d q z.1)))
        (eq_cases q p)
      where
        here : with_ledger (moved_on card L.pace (G p) d) (L.share p) ≡ cond (has_part card p) (share_of card (of_part p past) (stands_at past (moved_to c p d) p)) (fresh_share card)
        here = rw (i, moved_at d h) (share_at_lem d h)

    pub lent_moved : (d : ℕ) → stands_at past c p ≤ d → put_ledger (standing card past c) p (moved_on card (standing card past c).pace (ledger_at card (of_part p past) (stands_at past c p)) d) ≡ standing card past (moved_to c p d)
    unfolding put_ledger standing
    lent_moved d h = ap (λ (f : ℕ → Share). record { card = card; last = last_of past; pace = pace_of card (of_part 0 past); share = f }) (fun_ext (λ q. unfold standing in share_moved d h q))

    pub move_keeps : (d : ℕ) → move_refusal card (standing card past c).pace (ledger_at card (of_part p past) (stands_at past c p)) d ≡ none → PaidTo card past (moved_to c p d)
    unfolding PaidTo
    move_keeps d n q j = ⊎_elim
        (λ (z : (q ≡ p) × (eqb q p ≡ true)). subst (λ (r : ℕ). first_on lpddr3 (book_of card (of_part r past)) (suc (stands_at past (moved_to c p d) r)) ≡ none) (sym z.0) here)
        (λ (z : (q ≡ p → ⊥) × (eqb q p ≡ false)). rw (other_at d q z.1) (paid q j))
        (eq_cases q p)
      where
        there : stands_at past c p ≤ d
        there = ⊎_elim
            (λ (z : (stands_at past c p ≤ d) × (leb (stands_at past c p) d ≡ true)). z.0)
            (λ (z : (d < stands_at past c p) × (leb (stands_at past c p) d ≡ false)). absurd (some_none (sym n ∙ move_below d z.0)))
            (le_cases (stands_at past c p) d)

        here : first_on lpddr3 (book_of card (of_part p past)) (suc (stands_at past (moved_to c p d) p)) ≡ none
        here = rw (moved_at d there) (named_none 11 _ (sym (move_by_list d there) ∙ n))

-- ---- where no ledger was moved on the record answers as the list at any stamp, and at any end
module _ (card : Card) (past : Past) (good : card_good card ≡ true) (all : AllTaken card past) where
  paid : PaidTo card past unmoved
  paid = paid_to_last card past all

  not_passed : (own : Past) (t : ℕ) → not_below own t ≡ true → Reached card own unmoved t
  unfolding not_below stands_at last_cycle
  not_passed [] t h p i = omega arith
  not_passed (e ∷ own) t h p i = omega (arith, leb-true e.stamp t h)

  above_passed : (own : Past) (t : ℕ) → above own t ≡ true → not_below own t ≡ true
  unfolding above not_below
  above_passed [] t h = refl
  above_passed (e ∷ own) t h = le-leb e.stamp t (omega (arith, ltb-true e.stamp t h))

  pub step_unmoved : (e : Entry) → step_refusal (standing card past unmoved) e ≡ entry_refusal card past e
  step_unmoved e = go (above past e.stamp) refl
    where
      go : (x : Bool) → above past e.stamp ≡ x → step_refusal (standing card past unmoved) e ≡ entry_refusal card past e
      go true a = step_by_list card past unmoved good all paid e (not_passed past e.stamp (above_passed past e.stamp a))
      go false a = unfold step_refusal entry_refusal entry_checks checks standing first_of or_else unless in rw (lent_good_lem card past unmoved good all paid, above_same past e.stamp, a)

  pub close_unmoved : (end : ℕ) → close_refusal (standing card past unmoved) end ≡ end_refusal card past end
  close_unmoved end = go (not_below past end) refl
    where
      go : (x : Bool) → not_below past end ≡ x → close_refusal (standing card past unmoved) end ≡ end_refusal card past end
      go true a = close_by_list card past unmoved good all paid end (not_passed past end a)
      go false a = unfold close_refusal end_refusal end_checks standing first_of or_else unless in rw (lent_good_lem card past unmoved good all paid, last_same past end, a)

  pub end_reached : (end : ℕ) → end_refusal card past end ≡ none → Reached card past unmoved end
  unfolding end_refusal end_checks first_of
  end_reached end n = not_passed past end (unless_none _ 5 (or_else_none _ _ n).0)
