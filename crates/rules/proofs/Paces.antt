-- One pace for all parts: a temperature is among each part's own entries, and no card of two parts sleeps, so their dues and their temperature are the same.
use Prim.Native.Nat.{ℕ, ◌<◌}
use mathlib.Core.Path.{◌≡◌, refl, sym, ◌∙◌}
use mathlib.Core.Logic.{⊎_elim}
use mathlib.Core.Bool.{Bool, true, false, cond}
use mathlib.Core.List.{List, [], ◌∷◌}
use mathlib.Core.Option.{none, some}
use native.Mathlib.Omega.{arith}
use lib.Dec.{eqb}
use borrow.Author.Tests.{lt-ltb}
use Rattle.rules.specs.Lists.{is_one_of}
use Rattle.rules.specs.Card.{Card}
use Rattle.rules.specs.Ranges.{card_good}
use Rattle.rules.specs.Whose.{is_of, parts}
use Rattle.rules.specs.Levels.{Level, read_as, read_mr4}
use Rattle.rules.specs.Past.{Taken, Past, of_part, level_at, mr4_at}
use Rattle.rules.specs.Account.{respaced, replaced}
use Rattle.rules.specs.Heat.{interval_at}
use Rattle.rules.specs.Clock.{clock, beat_at, schedule_of}
use Rattle.rules.specs.Entries.{Body, pins, mr4, Entry, read_body, read, read_after, read_for, own_for, whose_body, whose_of, mr4_of, taken, taken_for, past_with, past_over}
use Rattle.rules.specs.Lent.{has_part, beat_of, pace_of, AllTaken}
use Rattle.rules.proofs.Tests.{eq_cases}
use Rattle.rules.proofs.PinReads.{read_is}
use Rattle.rules.proofs.CardGood.{pair_awake}
use Rattle.rules.proofs.Filtered.{IsPart, of_next}
use Rattle.rules.proofs.Clocks.{start_orderly, Counting, counted_all, Quiet, quiet_next}
use Rattle.rules.proofs.Beats.{plain_beat, plain_schedule, plain_mr4, sensed_beat, sensed_schedule, sensed_mr4, beat_span}

-- ---- pins are no temperature
pub pins_senseless : (s d : Bool) (l : Level) (p : ℕ) → mr4_of (read_as s d l p) ≡ none
unfolding mr4_of
pins_senseless = read_is (λ r. mr4_of r ≡ none) (λ d. refl) (λ m. refl) refl refl refl

-- ---- a past that entries made
unfoldable pub Made : Card → Past → Type 0
Made card [] = Unit {0}
Made card (x ∷ t) = ((e : Entry) × (x ≡ taken_for card t e)) × Made card t

module _ (card : Card) where
  pub all_made : (past : Past) → AllTaken card past → Made card past
  unfolding AllTaken Made
  all_made [] all = tt
  all_made (x ∷ t) all = ((all.0.0, all.0.1), all_made t all.1)

  pub over_made : (past : Past) (es : List Entry) → Made card past → Made card (past_over card past es)
  unfolding past_over
  over_made past [] m = m
  over_made past (e ∷ es) m = over_made (past_with card past e) es (unfold Made past_with in ((e, refl), m))

  made_induction : (P : Past → Type 0) → P [] → ((t : Past) (e : Entry) → P t → P (past_with card t e)) → (past : Past) → Made card past → P past
  unfolding Made past_with
  made_induction P start step [] m = start
  made_induction P start step (x ∷ t) m = rw m.0.1 (step t m.0.0 (made_induction P start step t m.1))

-- ---- a part of the trace is 0, or, of two parts, 0 or 1
part_of_one : (p : ℕ) → is_one_of (0 ∷ []) p ≡ true → p ≡ 0
unfolding is_one_of
part_of_one p k = ⊎_elim
    (λ (q : (0 ≡ p) × (eqb 0 p ≡ true)). sym q.0)
    (λ (q : (0 ≡ p → ⊥) × (eqb 0 p ≡ false)). let z : false ≡ true = rw q.1 at k in let y : ◌≡◌ {A = ℕ} 0 1 = cc in absurd (omega arith))
    (eq_cases 0 p)

part_of_two : (p : ℕ) → is_one_of (0 ∷ 1 ∷ []) p ≡ true → p < 2
unfolding is_one_of
part_of_two p k = ⊎_elim
    (λ (q : (0 ≡ p) × (eqb 0 p ≡ true)). omega (arith, q.0))
    (λ (q : (0 ≡ p → ⊥) × (eqb 0 p ≡ false)). ⊎_elim
    (λ (r : (1 ≡ p) × (eqb 1 p ≡ true)). omega (arith, r.0))
    (λ (r : (1 ≡ p → ⊥) × (eqb 1 p ≡ false)). let z : false ≡ true = rw (q.1, r.1) at k in let y : ◌≡◌ {A = ℕ} 0 1 = cc in absurd (omega arith))
    (eq_cases 1 p))
    (eq_cases 0 p)

pub sole_part : (card : Card) → card.paired ≡ false → (p : ℕ) → IsPart card p → p ≡ 0
unfolding has_part parts
sole_part card one p i = part_of_one p (rw one at i)

-- a temperature is each part's
field_own : (card : Card) (v p : ℕ) → IsPart card p → is_of p (whose_body card.paired (mr4 v)) ≡ true
unfolding has_part parts
field_own card v p i = go card.paired i
  where
    go : (d : Bool) → is_one_of (cond d (0 ∷ 1 ∷ []) (0 ∷ [])) p ≡ true → is_of p (whose_body d (mr4 v)) ≡ true
    go true j = unfold is_of whose_body in lt-ltb p 2 (part_of_two p j)
    go false j = unfold is_of whose_body in rw (part_of_one p j)

-- what is not a part's own is no temperature
pub other_senseless : (card : Card) (past : Past) (e : Entry) (p : ℕ) → IsPart card p → is_of p (whose_of card e) ≡ false → mr4_of (read_for card past e) ≡ none
unfolding read_for read_after read whose_of
other_senseless card past e p i = go e.body
  where
    go : (b : Body) → is_of p (whose_body card.paired b) ≡ false → mr4_of (read_body card (level_at (own_for card past e)) b) ≡ none
    go (pins x) o = unfold read_body in pins_senseless card.sleeps card.paired (level_at (own_for card past e)) x
    go (mr4 v) o = let z : true ≡ false = sym (field_own card v p i) ∙ o in let y : ◌≡◌ {A = ℕ} 0 1 = cc in absurd (omega arith)

-- ---- two parts
pub record SamePace (card : Card) (own own' : Past) : Type 0 where
  pub mr4 : mr4_at own ≡ mr4_at own'
  pub beat : beat_at card own ≡ beat_at card own'
  pub schedule : schedule_of card own ≡ schedule_of card own'

module _ (card : Card) (still : card.sleeps ≡ false) where
  -- every cycle counts
  module _ (p : ℕ) where
    quiet : (past : Past) → Made card past → Quiet card still (of_part p past)
    quiet = made_induction card (λ t. Quiet card still (of_part p t)) (unfold of_part Counting in (start_orderly card, tt)) step
      where
        step : (t : Past) (e : Entry) → Quiet card still (of_part p t) → Quiet card still (of_part p (past_with card t e))
        step t e q = rw (of_next card p t e) (go (is_of p (whose_of card e)))
          where
            go : (x : Bool) → Quiet card still (cond x (taken card (of_part p t) e ∷ of_part p t) (of_part p t))
            go true = quiet_next card still (of_part p t) e q
            go false = q

    number : (past : Past) → Made card past → (t : ℕ) → clock (of_part p past) t ≡ t
    unfolding clock
    number past m t = counted_all (of_part p past) (quiet past m).1 1 t

  -- an entry of pins changes nothing
  module _ (past : Past) (e : Entry) (x : ℕ) (h : e.body ≡ pins x) (p : ℕ) where
    senseless : (taken card (of_part p past) e).mr4 ≡ none
    unfolding taken read_after read read_body
    senseless = rw h (pins_senseless card.sleeps card.paired (level_at (of_part p past)) x)

    pins_same : SamePace card (of_part p (past_with card past e)) (of_part p past)
    pins_same = rw (of_next card p past e) (go (is_of p (whose_of card e)))
      where
        go : (y : Bool) → SamePace card (cond y (taken card (of_part p past) e ∷ of_part p past) (of_part p past)) (of_part p past)
        go true = record {
          mr4 = plain_mr4 card (taken card (of_part p past) e) (of_part p past) senseless;
          beat = plain_beat card (taken card (of_part p past) e) (of_part p past) senseless;
          schedule = plain_schedule card (taken card (of_part p past) e) (of_part p past) senseless;
        }
        go false = record { mr4 = refl; beat = refl; schedule = refl }

  -- a temperature spaces each part's dues anew, from its own cycle on
  module _ (past : Past) (m : Made card past) (e : Entry) (v : ℕ) (h : e.body ≡ mr4 v) (p : ℕ) (i : IsPart card p) where
    abbrev x : Taken
    x = taken card (of_part p past) e

    pub is_sensed : (taken card (of_part p past) e).mr4 ≡ some v
    unfolding taken read_after read read_body
    is_sensed = rw h (by card.sleeps card.paired still)
      where
        by : (s d : Bool) → s ≡ false → mr4_of (read_mr4 s d (level_at (of_part p past)) v) ≡ some v
        by true d z = let y : ◌≡◌ {A = ℕ} 0 1 = cc in absurd (omega arith)
        by false true z = unfold read_mr4 mr4_of in refl
        by false false z = unfold read_mr4 mr4_of in refl

    pub own_next : of_part p (past_with card past e) ≡ taken card (of_part p past) e ∷ of_part p past
    own_next = of_next card p past e ∙ rw own
      where
        own : is_of p (whose_of card e) ≡ true
        own = unfold whose_of in rw h (field_own card v p i)

    stamp_number : clock (of_part p past) x.stamp ≡ e.stamp
    unfolding taken
    stamp_number = number p past m e.stamp

    field_beat : beat_at card (of_part p (past_with card past e)) ≡ respaced (beat_at card (of_part p past)) e.stamp (interval_at card v)
    field_beat = rw own_next (sensed_beat card x (of_part p past) v is_sensed ∙ rw stamp_number)

    field_schedule : schedule_of card (of_part p (past_with card past e)) ≡ replaced (schedule_of card (of_part p past)) e.stamp (beat_at card (of_part p (past_with card past e)))
    field_schedule = rw own_next (sensed_schedule card x (of_part p past) v is_sensed ∙ rw stamp_number)

    field_mr4 : mr4_at (of_part p (past_with card past e)) ≡ v
    field_mr4 = rw own_next (sensed_mr4 card x (of_part p past) v is_sensed)

  module _ (p q : ℕ) (i : IsPart card p) (j : IsPart card q) where
    next_same : (past : Past) → Made card past → SamePace card (of_part p past) (of_part q past) → (e : Entry) (b : Body) → e.body ≡ b →
        SamePace card (of_part p (past_with card past e)) (of_part q (past_with card past e))
    next_same past m s e (pins x) h =
        let a = pins_same past e x h p in
        let c = pins_same past e x h q in
        record { mr4 = a.mr4 ∙ s.mr4 ∙ sym c.mr4; beat = a.beat ∙ s.beat ∙ sym c.beat; schedule = a.schedule ∙ s.schedule ∙ sym c.schedule }
    next_same past m s e (mr4 v) h =
        let beats : beat_at card (of_part p (past_with card past e)) ≡ beat_at card (of_part q (past_with card past e)) =
        field_beat past m e v h p i ∙ rw s.beat (sym (field_beat past m e v h q j)) in
        record {
          mr4 = field_mr4 past m e v h p i ∙ sym (field_mr4 past m e v h q j);
          beat = beats;
          schedule = field_schedule past m e v h p i ∙ rw (s.schedule, beats) (sym (field_schedule past m e v h q j));
        }

    pub same_pace : (past : Past) → Made card past → SamePace card (of_part p past) (of_part q past)
    unfolding Made past_with
    same_pace [] m = unfold of_part in record { mr4 = refl; beat = refl; schedule = refl }
    same_pace (x ∷ t) m = rw m.0.1 (unfold past_with in next_same t m.1 (same_pace t m.1) m.0.0 m.0.0.body refl)

-- so it is under a card in range
pub one_pace : (card : Card) → card_good card ≡ true → (p q : ℕ) → IsPart card p → IsPart card q → (past : Past) → Made card past → SamePace card (of_part p past) (of_part q past)
one_pace card good p q i j past m = go card.paired refl
  where
    go : (d : Bool) → card.paired ≡ d → SamePace card (of_part p past) (of_part q past)
    go true d = same_pace card (pair_awake card good d) p q i j past m
    go false d = rw (sole_part card d p i, sole_part card d q j) (record { mr4 = refl; beat = refl; schedule = refl })

pub pace_same : (card : Card) (own own' : Past) → SamePace card own own' → pace_of card own ≡ pace_of card own'
unfolding pace_of
pace_same card own own' s = rw (s.beat, s.mr4)

-- a pace that stands for a part's entries has their beat
pub pace_beat : (card : Card) (own : Past) → beat_of card (pace_of card own) ≡ beat_at card own
unfolding beat_of pace_of
pace_beat card own = rw (← (beat_span card own))
