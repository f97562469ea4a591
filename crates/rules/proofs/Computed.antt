-- The verdict of a file by a ledger that is moved on in closed form: cheap to compute, and equal to document 01's verdict.
use Prim.Native.Nat.{ℕ, suc, ◌≤◌}
use mathlib.Core.Path.{◌≡◌, refl, ap, sym, ◌∙◌}
use mathlib.Core.Logic.{inl, ⊎_elim}
use mathlib.Core.Bool.{Bool, true, false, cond}
use mathlib.Core.List.{List, [], ◌∷◌, map}
use mathlib.Core.Option.{Option, none}
use native.Mathlib.Omega.{arith}
use lib.IntN.{ℤ}
use Rattle.rules.specs.Card.{Card}
use Rattle.rules.specs.Heat.{start_mr4, interval_at, delays_at}
use Rattle.rules.specs.Ranges.{card_good}
use Rattle.rules.specs.Whose.{is_of, parts}
use Rattle.rules.specs.Levels.{level_after}
use Rattle.rules.specs.Past.{Taken, Past, of_part, last_cycle, mr4_at, level_at, counter_at, is_counted, command_count}
use Rattle.rules.specs.Entries.{Entry, whose_of, own_for, view_for, read_after, read_for, mr4_of, taken, taken_for, past_with}
use Rattle.rules.specs.Folds.{or_else, first_of}
use Rattle.rules.specs.Account.{lpddr3, Beat, every, failing_on, first_on, failing_in, first_in, earliest}
use Rattle.rules.specs.Clock.{clock, beat_by, beat_at, book_of, books_of}
use Rattle.rules.specs.Checks.{Refusal, unless, named, checks, above, not_below, entry_checks, end_checks, entry_refusal, end_refusal}
use Rattle.rules.specs.Verdict.{refresh_count, ledgers_at}
use Rattle.rules.specs.Reading.{Above, NotBelow}
use Rattle.rules.specs.Form.{Field, may_come, wrong_tag, length_good, card_of, field_good, entry_of}
use Rattle.rules.specs.File.{accepted, begun, Judged, judged}
use Rattle.rules.specs.FileReading.{CardRight}
use Rattle.rules.specs.Lent.{Ledger, number_of, Lent, has_part, owing_good, is_there, Effect, no_effect, refreshed_at, sensed_at, at_level, failing_of, ledger_at, stands_at, fresh_share, fresh, AllTaken}
use Rattle.rules.proofs.Rounds.{AllBelow, Rising}
use Rattle.rules.proofs.Filtered.{IsPart, own_read, map_each, of_next, below_part, rising_part}
use Rattle.rules.proofs.Decided.{or_else_none, unless_none, above_iff, not_below_iff}
use Rattle.rules.proofs.Earliest.{first_parts, failing_parts, ledgers_parts}
use Rattle.rules.proofs.Closed.{ledger_closed, failing_closed, ledger_closed_lem, failing_closed_lem}
use Rattle.rules.proofs.Beats.{beat_positive}
use Rattle.rules.proofs.Clocks.{clock_other}
use Rattle.rules.proofs.Refreshed.{above_all}
use Rattle.rules.proofs.Owings.{number_at_lem, failing_at_lem, moved_on_lem, failing_to_lem, entered_with}
use Rattle.rules.proofs.Taken.{passed, below_last, unmoved, rising, orderly, above_part, paid_through, paid_to_last, owing_good_lem}
use Rattle.rules.proofs.StepByList.{last_of_below, fresh_stands, ledger_is}
use Rattle.rules.proofs.CardRead.{card_good_lem}
use Rattle.rules.proofs.Walks.{Judge, judged_by, defined, defined_judged, AllSized, MetBy, Alike, agree}

-- ---- each part's ledger, entry by entry, whosesoever
-- what an entry does to the ledger of part p, behind the part's own entries
unfoldable pub effect_for : (p : ℕ) → (own : Past) → Taken → Effect
effect_for p own x =
    cond (is_of p x.whose) (record { counted = is_counted x.cmd (counter_at own); sensed = is_there x.mr4; move = x.move }) no_effect

unfoldable pub ledger_then : Beat → Effect → (stamp : ℕ) → Ledger → Ledger
ledger_then b x t g = at_level (level_after x.move g.level) (sensed_at x.sensed (refreshed_at x.counted (ledger_closed b g t)))

-- with the beat, which a temperature among the part's own entries spaces anew from the number where the ledger then stands
pub record Kept : Type 0 where
  pub beat : Beat
  pub ledger : Ledger

unfoldable pub kept_then : Card → (p : ℕ) → (own : Past) → Taken → Kept → Kept
kept_then card p own x k =
    let g = ledger_then k.beat (effect_for p own x) x.stamp k.ledger in
    record { beat = beat_by card (number_of g) (cond (is_of p x.whose) x.mr4 none) k.beat; ledger = g }

unfoldable pub kept_over : Card → ℕ → Past → Kept
kept_over card p [] = record { beat = every (interval_at card start_mr4); ledger = (fresh_share card).ledger }
kept_over card p (x ∷ t) = kept_then card p (of_part p t) x (kept_over card p t)

-- 19 and 20 below t, and at an entry
unfoldable pub failings_from : Card → Past → ℕ → Option (ℕ × ℕ)
failings_from card past t = earliest (map (λ p. let k = kept_over card p past in failing_closed k.beat k.ledger t) (parts card))

unfoldable pub failings_at : Card → Past → Option (ℕ × ℕ)
failings_at card past = first_of (map (λ p. let k = kept_over card p past in failing_of k.beat k.ledger) (parts card))

unfoldable pub entry_from : Card → Past → Entry → Option Refusal
entry_from card past e = first_of (
    checks card (delays_at card (mr4_at (own_for card past e))) (view_for card past e) (above past e.stamp) (failings_from card past e.stamp) (failings_at card (past_with card past e))
    (read_for card past e) e.stamp
    )

unfoldable pub end_from : Card → Past → ℕ → Option Refusal
end_from card past end = first_of (unless (not_below past end) 5 ∷ named 11 (failings_from card past (suc end)) ∷ [])

unfoldable pub owings_from : Card → Past → ℕ → List ℤ
owings_from card past end = map (λ p. let k = kept_over card p past in (ledger_closed k.beat k.ledger end).owing) (parts card)

unfoldable pub computing : Judge
computing = record {
  come = may_come;
  wrong = wrong_tag;
  size = length_good;
  good = field_good;
  entry = entry_from;
  taken = taken_for;
  end = end_from;
  verdict = λ card past end. accepted (command_count past) (refresh_count card past) (owings_from card past end);
}

unfoldable pub computed : List ℕ → Judged
computed = judged_by computing

-- ---- it stands for the part's entries
from_last : (past : Past) (t : ℕ) → NotBelow past t → last_cycle past ≤ t
unfolding NotBelow last_cycle
from_last [] t h = omega arith
from_last (e ∷ p) t h = h

not_below_lem : (past : Past) (t : ℕ) → Above past t → NotBelow past t
unfolding NotBelow Above
not_below_lem [] t h = tt
not_below_lem (e ∷ p) t h = omega arith

module _ (card : Card) (good : card_good card ≡ true) where
  module _ (p : ℕ) (i : IsPart card p) (past : Past) (all : AllTaken card past) where
    abbrev own : Past
    own = of_part p past

    abbrev here : Ledger
    here = ledger_at card (of_part p past) (last_cycle past)

    abbrev beat : Beat
    beat = beat_at card (of_part p past)

    up : Rising own
    up = rising_part p past (rising card past all)

    below : AllBelow (suc (last_cycle past)) own
    below = below_part p (suc (last_cycle past)) past (below_last past (rising card past all))

    owing_here : owing_good here.owing ≡ true
    unfolding first_on
    owing_here = owing_good_lem (book_of card own) (last_cycle past) (or_else_none _ _ (paid_through card p i past all)).1

    closed_at : (t : ℕ) → last_cycle past ≤ t → ledger_closed beat here t ≡ ledger_at card own t
    closed_at t h =
        sym (ledger_closed_lem beat here (beat_positive card own) owing_here t)
        ∙ moved_on_lem card own up (last_cycle past) (last_of_below own (last_cycle past) below) below t h

    failing_on_lem : (t : ℕ) → last_cycle past ≤ t → failing_closed beat here t ≡ first_on lpddr3 (book_of card own) t
    failing_on_lem t h =
        sym (failing_closed_lem beat here (beat_positive card own) owing_here t)
        ∙ failing_to_lem card own up (last_cycle past) (last_of_below own (last_cycle past) below) below (paid_through card p i past all) t h

    -- an entry's own cycle
    then_at : (e : Entry) → Above past e.stamp →
        ledger_then beat (effect_for p own (taken_for card past e)) e.stamp here ≡ ledger_at card (of_part p (past_with card past e)) e.stamp
    unfolding ledger_then
    then_at e a = rw (closed_at e.stamp (from_last past e.stamp (not_below_lem past e.stamp a)), of_next card p past e) (go (is_of p (whose_of card e)) refl)
      where
        go : (y : Bool) → is_of p (whose_of card e) ≡ y →
            at_level (level_after (effect_for p own (taken_for card past e)).move (level_at own))
            (sensed_at (effect_for p own (taken_for card past e)).sensed (refreshed_at (effect_for p own (taken_for card past e)).counted (ledger_at card own e.stamp)))
            ≡ ledger_at card (cond y (taken card own e ∷ own) own) e.stamp
        go true o =
            unfold taken_for in rw (same_taken o) (unfold effect_for taken in rw o
            (entered_with card own e up (orderly card p past all) (above_part card p past e.stamp (rising card past all) a)))
          where
            same_taken : is_of p (whose_of card e) ≡ true → taken card (own_for card past e) e ≡ taken card own e
            same_taken o = unfold taken in rw (own_read' o)
              where
                own_read' : is_of p (whose_of card e) ≡ true → read_after card (own_for card past e) e ≡ read_after card own e
                own_read' o = unfold read_for in own_read card past p e o
        go false o = unfold effect_for taken_for taken in rw o (unfold no_effect refreshed_at sensed_at at_level level_after in refl)

    -- the beat behind an entry
    beat_then : (e : Entry) → beat_by card (clock (of_part p (past_with card past e)) e.stamp) (cond (is_of p (taken_for card past e).whose) (taken_for card past e).mr4 none) beat
        ≡ beat_at card (of_part p (past_with card past e))
    beat_then e = rw (of_next card p past e) (unfold taken_for in go (is_of p (whose_of card e)) refl)
      where
        go : (y : Bool) → is_of p (whose_of card e) ≡ y →
            beat_by card (clock (cond y (taken card own e ∷ own) own) e.stamp) (cond (is_of p (taken card (own_for card past e) e).whose) (taken card (own_for card past e) e).mr4 none) beat
            ≡ beat_at card (cond y (taken card own e ∷ own) own)
        go true o = unfold taken in rw (o, same_mr4 o, clock_other (taken card own e) own e.stamp (unfold taken in omega arith)) (unfold beat_at taken in refl)
          where
            same_mr4 : is_of p (whose_of card e) ≡ true → mr4_of (read_after card (own_for card past e) e) ≡ mr4_of (read_after card own e)
            same_mr4 o = ap mr4_of (unfold read_for in own_read card past p e o)
        go false o = unfold taken in rw o (unfold beat_by in refl)

    over_next : kept_over card p past ≡ record { beat = beat; ledger = here } → (e : Entry) → Above past e.stamp →
        kept_over card p (past_with card past e) ≡ record { beat = beat_at card (of_part p (past_with card past e)); ledger = ledger_at card (of_part p (past_with card past e)) e.stamp }
    unfolding kept_over past_with kept_then
    over_next h e a = rw (h, then_there) (λ i. record { beat = beat_there i; ledger = ledger_at card (of_part p (past_with card past e)) e.stamp })
      where
        then_there : ledger_then beat (effect_for p own (taken_for card past e)) (taken_for card past e).stamp here ≡ ledger_at card (of_part p (past_with card past e)) e.stamp
        then_there = unfold taken_for taken in then_at e a

        beat_there : beat_by card (number_of (ledger_at card (of_part p (past_with card past e)) e.stamp)) (cond (is_of p (taken_for card past e).whose) (taken_for card past e).mr4 none) beat
            ≡ beat_at card (of_part p (past_with card past e))
        beat_there = rw (number_at_lem card (of_part p (past_with card past e)) e.stamp) (beat_then e)

  abbrev stands_for : ℕ → Past → Kept
  stands_for p past = record { beat = beat_at card (of_part p past); ledger = ledger_at card (of_part p past) (last_cycle past) }

  over_none : (p : ℕ) → IsPart card p → kept_over card p [] ≡ stands_for p []
  unfolding kept_over
  over_none p i = λ j. record { beat = first j; ledger = start j }
    where
      all : AllTaken card []
      all = unfold AllTaken in tt

      first : every (interval_at card start_mr4) ≡ beat_at card (of_part p [])
      first = unfold of_part beat_at in refl

      start : (fresh_share card).ledger ≡ ledger_at card (of_part p []) (last_cycle [])
      start = unfold fresh stands_at last_cycle in sym (ap (λ (l : Lent). (l.share p).ledger) (fresh_stands card)) ∙ ledger_is card [] unmoved good all (paid_to_last card [] all) p i

  over_is : (p : ℕ) → IsPart card p → (past : Past) → AllTaken card past → kept_over card p past ≡ stands_for p past
  unfolding AllTaken last_cycle past_with taken_for taken
  over_is p i [] all = over_none p i
  over_is p i (x ∷ t) all =
      let e = all.0.0 in
      rw all.0.1 (over_next p i t all.1 (over_is p i t all.1) e (passed card t e all.0.2).above)

  module _ (past : Past) (all : AllTaken card past) where
    failings_from_lem : (t : ℕ) → last_cycle past ≤ t → failings_from card past t ≡ first_in lpddr3 (books_of card past) t
    unfolding failings_from
    failings_from_lem t h =
        ap earliest (map_each _ _ (parts card) (λ p i. let j : IsPart card p = unfold has_part in i in rw (over_is p j past all) (failing_on_lem p j past all t h)))
        ∙ sym (first_parts card past t)

    failings_at_lem : (e : Entry) → Above past e.stamp → failings_at card (past_with card past e) ≡ failing_in lpddr3 (books_of card (past_with card past e)) e.stamp
    unfolding failings_at
    failings_at_lem e a =
        ap first_of (map_each _ _ (parts card) (λ p i. let j : IsPart card p = unfold has_part in i in failing_then p j))
        ∙ sym (failing_parts card (past_with card past e) e.stamp)
      where
        above_next : Rising (past_with card past e)
        above_next = unfold Rising past_with taken_for taken in (above_all past e.stamp (rising card past all) a, rising card past all)

        failing_then : (p : ℕ) → IsPart card p →
            failing_of (kept_over card p (past_with card past e)).beat (kept_over card p (past_with card past e)).ledger ≡ failing_on lpddr3 (book_of card (of_part p (past_with card past e))) e.stamp
        failing_then p j =
            let here : AllBelow (suc e.stamp) (of_part p (past_with card past e)) =
            below_part p (suc e.stamp) (past_with card past e) (unfold past_with taken_for taken last_cycle in below_last (past_with card past e) above_next) in
            rw (over_next p j past all (over_is p j past all) e a)
            (failing_at_lem card (of_part p (past_with card past e)) (rising_part p (past_with card past e) above_next) e.stamp (last_of_below (of_part p (past_with card past e)) e.stamp here) here)

    entry_computed : (e : Entry) → entry_from card past e ≡ entry_refusal card past e
    unfolding entry_from entry_refusal entry_checks
    entry_computed e = go (above past e.stamp) refl
      where
        go : (x : Bool) → above past e.stamp ≡ x → entry_from card past e ≡ entry_refusal card past e
        go false a = unfold entry_from entry_refusal entry_checks checks in rw a (unfold unless first_of or_else in refl)
        go true a =
            let h = (above_iff past e.stamp).0 a in
            unfold entry_from entry_refusal entry_checks in rw (failings_from_lem e.stamp (from_last past e.stamp (not_below_lem past e.stamp h)), failings_at_lem e h)

    end_computed : (end : ℕ) → end_from card past end ≡ end_refusal card past end
    unfolding end_from end_refusal end_checks
    end_computed end = go (not_below past end) refl
      where
        go : (x : Bool) → not_below past end ≡ x →
            first_of (unless (not_below past end) 5 ∷ named 11 (failings_from card past (suc end)) ∷ [])
            ≡ first_of (unless (not_below past end) 5 ∷ named 11 (first_in lpddr3 (books_of card past) (suc end)) ∷ [])
        go false a = rw a (unfold unless first_of or_else in refl)
        go true a = let h = from_last past end ((not_below_iff past end).0 a) in rw (failings_from_lem (suc end) (omega arith))

    owings_computed : (end : ℕ) → end_refusal card past end ≡ none → owings_from card past end ≡ ledgers_at card past end
    unfolding owings_from end_refusal end_checks first_of
    owings_computed end n =
        let h = from_last past end ((not_below_iff past end).0 (unless_none _ 5 (or_else_none _ _ n).0)) in
        map_each _ _ (parts card)
        (λ p i. let j : IsPart card p = unfold has_part in i in rw (over_is p j past all) (ap (λ (g : Ledger). g.owing) (closed_at p j past all end h)))
        ∙ sym (ledgers_parts card past end)

-- ---- a file
abbrev Also : List Field → Past → Type 0
Also fs past = AllTaken (card_of fs) past

none_taken : (card : Card) (past : Past) → begun past ≡ false → AllTaken card past
unfolding begun AllTaken
none_taken card [] b = tt
none_taken card (e ∷ p) b = let z : ◌≡◌ {A = ℕ} 0 1 = cc in absurd (omega arith)

alike : (fs : List Field) (past : Past) → CardRight fs → AllSized defined.size fs → Also fs past → Alike computing defined (λ entries fs t. ⊥) Also fs past
unfolding computing defined
alike fs past r s all = record {
  tag = λ t. inl refl;
  known = λ t m. m;
  wrong = λ t. refl;
  size = λ t l m. refl;
  listed = λ t l m s. s;
  good = λ f m o. refl;
  ranged = λ f m o s g. g;
  card = λ f b m o. none_taken (card_of (f ∷ fs)) past b;
  entry = λ f n. entry_computed (card_of fs) (card_good_lem fs r n.whole) past all (entry_of f);
  taken = λ f n. refl;
  also = λ f n e. unfold AllTaken past_with in ((entry_of f, refl, e), all);
  end = λ w. end_computed (card_of fs) (card_good_lem fs r w) past all;
  verdict = λ w end n. rw (owings_computed (card_of fs) (card_good_lem fs r w) past all end n);
}

pub computed_judged : (bs : List ℕ) → computed bs ≡ judged bs
unfolding computed
computed_judged bs = ⊎_elim (λ (e : judged_by computing bs ≡ judged_by defined bs). e ∙ defined_judged bs) (λ (n : MetBy defined.wrong (λ entries fs t. ⊥) bs (judged_by defined bs)). absurd n.there.is)
    (agree computing defined (λ entries fs t. ⊥) Also alike bs (unfold AllTaken in tt))
