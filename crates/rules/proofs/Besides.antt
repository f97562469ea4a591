-- What a part's verdicts depend on besides its own entries, temperature fields among them: stamp order, and of the other part its ledger, its last counted
-- refresh and its latest RD, MRR and WR. Behind two accepted runs that agree in these an entry is refused alike, so they depend on nothing else. The end depends
-- on both accounts alone.
use Prim.Native.Nat.{ℕ, zero, suc, ◌+◌, ◌-◌, ◌≤◌, ◌<◌}
use mathlib.Core.Path.{◌≡◌, refl, ap, sym, ◌∙◌, subst}
use mathlib.Core.Logic.{⊎_elim}
use mathlib.Core.Bool.{Bool, true, false, cond}
use mathlib.Core.List.{List, [], ◌∷◌, map}
use mathlib.Core.Option.{Option, none, some}
use native.Mathlib.Omega.{arith}
use lib.Dec.{eqb, ltb}
use lib.IntN.{ℤ}
use Rattle.rules.specs.Lists.{Every}
use Rattle.rules.specs.Card.{Card}
use Rattle.rules.specs.Heat.{delays_at}
use Rattle.rules.specs.Levels.{Read}
use Rattle.rules.specs.Whose.{is_of, part_of, other, parts, whose}
use Rattle.rules.specs.Past.{Past, of_part, last_cycle, mr4_at, level_at, counter_at, is_counted, counted_stamps}
use Rattle.rules.specs.Folds.{or_else, first_of}
use Rattle.rules.specs.Delays.{find}
use Rattle.rules.specs.Account.{Terms, lpddr3, Schedule, Beat, Book, steady, ledger_on, last_on, since_on, failing, failing_on, first_on, failing_in, first_in, earliest, idle}
use Rattle.rules.specs.Clock.{clock, beat_at, schedule_of, book_of, books_of}
use Rattle.rules.specs.Entries.{Body, pins, mr4, Entry, view_of, read_after, whose_body, whose_of, part_in, own_for, others_for, view_for, read_for, move_of, judged_as, taken, past_with, past_of}
use Rattle.rules.specs.Checks.{unless, checks, above, not_below, entry_checks, end_checks, entry_refusal, end_refusal}
use Rattle.rules.specs.Verdict.{accepted, judge}
use Rattle.rules.specs.Reading.{Above}
use Rattle.rules.specs.Lent.{has_part, ledger_at}
use Rattle.rules.proofs.Tests.{eq_cases, lt_cases}
use Rattle.rules.proofs.Rounds.{AllBelow, Rising, Less, less_where}
use Rattle.rules.proofs.Filtered.{IsPart, pins_part, every_at, map_each, judging_part, of_next}
use Rattle.rules.proofs.Clocks.{Counting, counted_all}
use Rattle.rules.proofs.Decided.{none_or_else, above_iff, paid_iff}
use Rattle.rules.proofs.Earliest.{first_parts, failing_parts}
use Rattle.rules.proofs.Apart.{entries_of, own_only}
use Rattle.rules.proofs.Exactly.{accepted_iff}
use Rattle.rules.proofs.Refreshed.{rises, Trace, traced, all_counted}
use Rattle.rules.proofs.Taken.{above_part}
use Rattle.rules.proofs.Bus.{SameBus, bus_broken}
use Rattle.rules.proofs.Idle.{failing_idle, ledger_later}
use Rattle.rules.proofs.Clocked.{less_clock}
use Rattle.rules.proofs.Owings.{gapless, failing_to_lem, sensed_failing}
use Rattle.rules.proofs.Paces.{Made, over_made, same_pace, is_sensed, own_next}

-- ---- a part's account from cycle s on, up to which it was paid, by its ledger and last counted refresh there
module _ (card : Card) (own : Past) (s : ℕ) (a : Trace card own s) (c : Counting own) where
  abbrev z : ℤ
  z = ledger_on lpddr3.credit (book_of card own) s

  abbrev last : ℕ
  last = last_on (book_of card own) s

  number : (t : ℕ) → clock own t ≡ t
  unfolding clock
  number t = counted_all own c 1 t

  less : Less (suc ((book_of card own).clock s)) (book_of card own).refreshes
  unfolding book_of counted_stamps
  less = less_clock own s (counted_stamps own) (less_where is_counted (suc s) own a.ended)

  runs : (j : ℕ) → (book_of card own).clock (s + j) ≡ (book_of card own).clock s + j
  unfolding book_of
  runs j = rw (number (s + j), number s)

  abbrev d : Schedule
  d = schedule_of card own

  failing_by : (j : ℕ) → failing_on lpddr3 (book_of card own) (s + j) ≡ failing lpddr3 d (idle lpddr3.credit d z s j) last (s + j) (s + j)
  failing_by j = failing_idle lpddr3 (book_of card own) s less runs j ∙ (unfold book_of in rw (number s))

  ledger_by_lem : (j : ℕ) → ledger_on lpddr3.credit (book_of card own) (s + j) ≡ idle lpddr3.credit d z s j
  ledger_by_lem j = ledger_later lpddr3 (book_of card own) s less runs j ∙ (unfold book_of in rw (number s))

-- the other part's ledger and last counted refresh as after cycle s, and what the rules ask of it
pub record SameOther (card : Card) (s : ℕ) (own own' : Past) : Type 0 where
  pub ledger : ledger_on lpddr3.credit (book_of card own) s ≡ ledger_on lpddr3.credit (book_of card own') s
  pub refreshed : last_on (book_of card own) s ≡ last_on (book_of card own') s
  pub bus : SameBus (find card own) (find card own')

module _ (card : Card) (own own' : Past) (s : ℕ) (a : Trace card own s) (a' : Trace card own' s) (c : Counting own) (c' : Counting own')
    (dues : schedule_of card own ≡ schedule_of card own')
    (ledger : ledger_on lpddr3.credit (book_of card own) s ≡ ledger_on lpddr3.credit (book_of card own') s)
    (refreshed : last_on (book_of card own) s ≡ last_on (book_of card own') s) where
  later : (j : ℕ) → failing_on lpddr3 (book_of card own) (s + j) ≡ failing_on lpddr3 (book_of card own') (s + j)
  later j = rw (failing_by card own s a c j, failing_by card own' s a' c' j, ledger, refreshed, dues)

  owing_later : (j : ℕ) → ledger_on lpddr3.credit (book_of card own) (s + j) ≡ ledger_on lpddr3.credit (book_of card own') (s + j)
  owing_later j = rw (ledger_by_lem card own s a c j, ledger_by_lem card own' s a' c' j, ledger, dues)

  failing_same : (t : ℕ) → failing_on lpddr3 (book_of card own) t ≡ failing_on lpddr3 (book_of card own') t
  failing_same t = ⊎_elim
      (λ (q : (s < t) × (ltb s t ≡ true)).
      let y : s + (t - s) ≡ t = omega arith in
      rw y at (later (t - s)))
      (λ (q : (t ≤ s) × (ltb s t ≡ false)).
      (paid_iff lpddr3 (book_of card own) t).1 (a.paid t (omega (arith, q.0))) ∙ sym ((paid_iff lpddr3 (book_of card own') t).1 (a'.paid t (omega (arith, q.0)))))
      (lt_cases s t)

  -- behind a temperature
  module _ (e : Entry) (v : ℕ) (g : (taken card own e).mr4 ≡ some v) (g' : (taken card own' e).mr4 ≡ some v) (u : Above own e.stamp) (u' : Above own' e.stamp) where
    abbrev At : ℕ
    At = e.stamp

    limit_alone : (own : Past) → Trace card own s → At ≤ s → failing lpddr3 (steady (beat_at card own)) (ledger_on lpddr3.credit (book_of card own) At) (clock own At) (clock own At) At ≡ none
    unfolding failing_on
    limit_alone own a q =
        gapless (book_of card own).schedule (steady (beat_at card own)) _ (last_on (book_of card own) At) (clock own At) (clock own At) At (omega arith)
        (unfold failing_on book_of in (paid_iff lpddr3 (book_of card own) At).1 (a.paid At (omega arith)))

    field_same : failing_on lpddr3 (book_of card (taken card own e ∷ own)) e.stamp ≡ failing_on lpddr3 (book_of card (taken card own' e ∷ own')) e.stamp
    field_same = ⊎_elim
        (λ (q : (s < At) × (ltb s At ≡ true)).
        let y : s + (At - s) ≡ At = omega arith in
        let z : ledger_on lpddr3.credit (book_of card own) At ≡ ledger_on lpddr3.credit (book_of card own') At = rw y at (owing_later (At - s)) in
        first (beat_at card own) ∙ rw (z, number card own s a c At) (rw (number card own' s a' c' At) at (sym (second (beat_at card own)))))
        (λ (q : (At ≤ s) × (ltb s At ≡ false)).
        first (beat_at card own) ∙ limit_alone own a q.0 ∙ sym (second (beat_at card own') ∙ limit_alone own' a' q.0))
        (lt_cases s At)
      where
        first : (b : Beat) → failing_on lpddr3 (book_of card (taken card own e ∷ own)) At ≡ failing lpddr3 (steady b) (ledger_on lpddr3.credit (book_of card own) At) (clock own At) (clock own At) At
        first = sensed_failing card own e a.rising a.orderly u v g

        second : (b : Beat) → failing_on lpddr3 (book_of card (taken card own' e ∷ own')) At ≡ failing lpddr3 (steady b) (ledger_on lpddr3.credit (book_of card own') At) (clock own' At) (clock own' At) At
        second = sensed_failing card own' e a'.rising a'.orderly u' v g'

failing_alike : (card : Card) (past past' : Past) (t : ℕ) →
    ((p : ℕ) → IsPart card p → failing_on lpddr3 (book_of card (of_part p past)) t ≡ failing_on lpddr3 (book_of card (of_part p past')) t) →
    failing_in lpddr3 (books_of card past) t ≡ failing_in lpddr3 (books_of card past') t
unfolding has_part
failing_alike card past past' t h = failing_parts card past t ∙ ap first_of (map_each _ _ (parts card) h) ∙ sym (failing_parts card past' t)

first_alike : (card : Card) (past past' : Past) →
    ((p : ℕ) → IsPart card p → (t : ℕ) → failing_on lpddr3 (book_of card (of_part p past)) t ≡ failing_on lpddr3 (book_of card (of_part p past')) t) →
    (t : ℕ) → first_in lpddr3 (books_of card past) t ≡ first_in lpddr3 (books_of card past') t
unfolding first_in
first_alike card past past' h zero = refl
first_alike card past past' h (suc t) = rw (first_alike card past past' h t, failing_alike card past past' t (λ p i. h p i t))

-- ---- an entry behind two pasts that agree in its own part's entries, in stamp order, in the other's bus and in where the other's account fails
module _ (card : Card) (e : Entry) where
  abbrev P : ℕ
  P = part_in card e

  abbrev T : ℕ
  T = e.stamp

  low : (q : ℕ) → IsPart card q → q ≤ 1
  unfolding has_part parts
  low q i = every_at (λ x. x ≤ 1) (λ x. x) (cond card.paired (0 ∷ 1 ∷ []) (0 ∷ [])) (go card.paired) q i
    where
      go : (x : Bool) → Every (λ x. x ≤ 1) (map (λ x. x) (cond x (0 ∷ 1 ∷ []) (0 ∷ [])))
      go true = unfold Every in (omega arith, (omega arith, tt))
      go false = unfold Every in (omega arith, tt)

  -- a part of the trace is the one that judges, or the other
  either : (Q : ℕ → Type 0) → Q P → (IsPart card (other P) → Q (other P)) → (q : ℕ) → IsPart card q → Q q
  unfolding other
  either Q a b q i = ⊎_elim
      (λ (z : (q ≡ P) × (eqb q P ≡ true)). subst Q (sym z.0) a)
      (λ (z : (q ≡ P → ⊥) × (eqb q P ≡ false)).
      let y : q ≡ 1 - P = omega (arith, z.0, low q i, low P (judging_part card e)) in
      subst Q (sym y) (b (subst (IsPart card) y i)))
      (eq_cases q P)

  -- pins of the one part leave the other's entries as they are
  module _ (x : ℕ) (h : e.body ≡ pins x) where
    not_other : is_of (other P) (whose_of card e) ≡ true → ⊥
    unfolding other part_in whose_of whose_body
    not_other i = never (pins_part (1 - part_of (whose card.paired x)) card.paired x (rw h at i))
      where
        never : part_of (whose card.paired x) ≡ 1 - part_of (whose card.paired x) → ⊥
        never z = omega arith

    other_next : (past : Past) → of_part (other P) (past_with card past e) ≡ of_part (other P) past
    other_next past = rw (of_next card (other P) past e) (go (is_of (other P) (whose_of card e)) refl)
      where
        go : (y : Bool) → is_of (other P) (whose_of card e) ≡ y → cond y (taken card (of_part (other P) past) e ∷ of_part (other P) past) (of_part (other P) past) ≡ of_part (other P) past
        go true i = absurd (not_other i)
        go false i = refl

  abbrev fails_of : Past → ℕ → ℕ → Option (ℕ × ℕ)
  fails_of x t p = failing_on lpddr3 (book_of card (of_part p x)) t

  module _ (past past' : Past) (own : of_part P past ≡ of_part P past') (order : above past T ≡ above past' T)
      (bus : SameBus (find card (of_part (other P) past)) (find card (of_part (other P) past')))
      (fails : IsPart card (other P) → (t : ℕ) → fails_of past t (other P) ≡ fails_of past' t (other P))
      (there : Above past T → Above past' T → IsPart card (other P) → fails_of (past_with card past e) T (other P) ≡ fails_of (past_with card past' e) T (other P)) where
    first_same : (t : ℕ) → first_in lpddr3 (books_of card past) t ≡ first_in lpddr3 (books_of card past') t
    first_same = first_alike card past past'
        (either (λ p. (t : ℕ) → fails_of past t p ≡ fails_of past' t p) (λ t. ap (λ (o : Past). failing_on lpddr3 (book_of card o) t) own) fails)

    at_same : Above past T → Above past' T → failing_in lpddr3 (books_of card (past_with card past e)) T ≡ failing_in lpddr3 (books_of card (past_with card past' e)) T
    at_same a a' = failing_alike card (past_with card past e) (past_with card past' e) T
        (either (λ p. fails_of (past_with card past e) T p ≡ fails_of (past_with card past' e) T p)
        (rw (of_next card P past e, of_next card P past' e, own))
        (there a a'))

    refused_alike : entry_refusal card past e ≡ entry_refusal card past' e
    refused_alike = go (above past T) refl
      where
        r : Read
        r = read_after card (of_part P past') e

        n : ℕ
        n = counter_at (of_part P past')

        go : (y : Bool) → above past T ≡ y → entry_refusal card past e ≡ entry_refusal card past' e
        go true o = unfold entry_refusal entry_checks checks view_for view_of read_for own_for others_for in
            rw (
              first_same T,
              at_same ((above_iff past T).0 o) ((above_iff past' T).0 (sym order ∙ o)),
              order,
              own,
              bus_broken (find card (of_part P past')) _ _ bus (delays_at card (mr4_at (of_part P past'))) (judged_as r) (move_of r) n T,
            )
        go false o = unfold entry_refusal entry_checks checks in rw (o, sym order ∙ o) (unfold unless first_of or_else in refl)

-- ---- so it is after two accepted runs up to the same cycle s. No card of two parts sleeps
module _ (card : Card) (awake : card.sleeps ≡ false) (es es' : List Entry) (s m n m' n' : ℕ) (l l' : List ℤ)
    (a : judge card es s ≡ accepted m n l) (a' : judge card es' s ≡ accepted m' n' l') (e : Entry)
    (own : entries_of card (part_in card e) es ≡ entries_of card (part_in card e) es')
    (h : SameOther card s (of_part (other (part_in card e)) (past_of card es)) (of_part (other (part_in card e)) (past_of card es'))) where
  abbrev past : Past
  past = past_of card es

  abbrev past' : Past
  past' = past_of card es'

  abbrev o : ℕ
  o = other (part_in card e)

  made : (es : List Entry) → Made card (past_of card es)
  unfolding past_of
  made es = over_made card [] es (unfold Made in tt)

  own_same : of_part (part_in card e) past ≡ of_part (part_in card e) past'
  own_same = own_only card (part_in card e) es es' own

  module _ (i : IsPart card o) where
    t : Trace card (of_part o past) s
    t = traced card es s m n l a o i

    t' : Trace card (of_part o past') s
    t' = traced card es' s m' n' l' a' o i

    -- the other part's dues go by the fields, which are among the own entries
    dues : schedule_of card (of_part o past) ≡ schedule_of card (of_part o past')
    dues =
        (same_pace card awake o (part_in card e) i (judging_part card e) past (made es)).schedule
        ∙ ap (schedule_of card) own_same
        ∙ sym (same_pace card awake o (part_in card e) i (judging_part card e) past' (made es')).schedule

    fails_same : (u : ℕ) → failing_on lpddr3 (book_of card (of_part o past)) u ≡ failing_on lpddr3 (book_of card (of_part o past')) u
    fails_same = failing_same card (of_part o past) (of_part o past') s t t' (all_counted card es awake o) (all_counted card es' awake o) dues h.ledger h.refreshed

    there_same : (b : Body) → e.body ≡ b → Above past e.stamp → Above past' e.stamp →
        failing_on lpddr3 (book_of card (of_part o (past_with card past e))) e.stamp ≡ failing_on lpddr3 (book_of card (of_part o (past_with card past' e))) e.stamp
    there_same (pins x) b u u' = rw (other_next card e x b past, other_next card e x b past') (fails_same e.stamp)
    there_same (mr4 v) b u u' =
        rw (own_next card awake past (made es) e v b o i, own_next card awake past' (made es') e v b o i)
        (field_same card (of_part o past) (of_part o past') s t t' (all_counted card es awake o) (all_counted card es' awake o) dues h.ledger h.refreshed e v
        (is_sensed card awake past (made es) e v b o i) (is_sensed card awake past' (made es') e v b o i)
        (above_part card o past e.stamp (up es s m n l a) u) (above_part card o past' e.stamp (up es' s m' n' l' a') u'))
      where
        up : (es : List Entry) (s m n : ℕ) (l : List ℤ) → judge card es s ≡ accepted m n l → Rising (past_of card es)
        up es s m n l a = unfold past_of in rises card [] es ((accepted_iff card es s m n l).0 a).entries (unfold Rising in tt)

  pub besides : above (past_of card es) e.stamp ≡ above (past_of card es') e.stamp → entry_refusal card (past_of card es) e ≡ entry_refusal card (past_of card es') e
  besides order = refused_alike card e past past' own_same order h.bus fails_same (λ u u' i. there_same i e.body refl u u')

-- ---- the end, by each part's account as after cycle s: its ledger, the number since which its gap counts, and its dues; and by stamp order
pub record SameAccount (card : Card) (s : ℕ) (own own' : Past) : Type 0 where
  pub ledger : ledger_on lpddr3.credit (book_of card own) s ≡ ledger_on lpddr3.credit (book_of card own') s
  pub since : since_on (book_of card own) s ≡ since_on (book_of card own') s
  pub beat : beat_at card own ≡ beat_at card own'

none_below : (k : Terms) (b : Book) (n : ℕ) → ((t : ℕ) → t < n → failing_on k b t ≡ none) → first_on k b n ≡ none
unfolding first_on
none_below k b zero h = refl
none_below k b (suc n) h = none_or_else (none_below k b n (λ t l. h t (omega arith))) (h n (omega arith))

module _ (card : Card) (awake : card.sleeps ≡ false) (own own' : Past) (s : ℕ) (a : Trace card own s) (a' : Trace card own' s) (c : Counting own) (c' : Counting own')
    (h : SameAccount card s own own') where
  paid_to : (own : Past) → Trace card own s → (n : ℕ) → n ≤ suc s → first_on lpddr3 (book_of card own) n ≡ none
  paid_to own a n l = none_below lpddr3 (book_of card own) n (λ t q. (paid_iff lpddr3 (book_of card own) t).1 (a.paid t (omega arith)))

  from_last : (own : Past) → Trace card own s → last_cycle own ≤ s
  from_last own a = go own a.ended
    where
      go : (own : Past) → AllBelow (suc s) own → last_cycle own ≤ s
      go [] b = unfold last_cycle in omega arith
      go (x ∷ t) b = unfold last_cycle AllBelow in omega (arith, b.0)

  ledger_same : ledger_at card own s ≡ ledger_at card own' s
  ledger_same = λ i. record { at = s; owing = h.ledger i; since = h.since i; skipped = skipped i; level = level i }
    where
      skipped : s - clock own s ≡ s - clock own' s
      skipped = rw (number card own s a c s, number card own' s a' c' s)

      level : level_at own ≡ level_at own'
      level = a.orderly.quiet awake ∙ sym (a'.orderly.quiet awake)

  first_later : (t : ℕ) → first_on lpddr3 (book_of card own) t ≡ first_on lpddr3 (book_of card own') t
  first_later t = ⊎_elim
      (λ (q : (s < t) × (ltb s t ≡ true)).
      sym (failing_to_lem card own a.rising s (from_last own a) a.ended (paid_to own a (suc s) (omega arith)) t (omega (arith, q.0)))
      ∙ rw (h.beat, ledger_same) (failing_to_lem card own' a'.rising s (from_last own' a') a'.ended (paid_to own' a' (suc s) (omega arith)) t (omega (arith, q.0))))
      (λ (q : (t ≤ s) × (ltb s t ≡ false)). paid_to own a t (omega (arith, q.0)) ∙ sym (paid_to own' a' t (omega (arith, q.0))))
      (lt_cases s t)

pub besides_end : (card : Card) → card.sleeps ≡ false → (es es' : List Entry) (s m n m' n' : ℕ) (l l' : List ℤ) →
    judge card es s ≡ accepted m n l → judge card es' s ≡ accepted m' n' l' → (end : ℕ) →
    not_below (past_of card es) end ≡ not_below (past_of card es') end →
    ((p : ℕ) → IsPart card p → SameAccount card s (of_part p (past_of card es)) (of_part p (past_of card es'))) →
    end_refusal card (past_of card es) end ≡ end_refusal card (past_of card es') end
unfolding end_refusal end_checks
besides_end card awake es es' s m n m' n' l l' a a' end order h = rw (order, firsts)
  where
    firsts : first_in lpddr3 (books_of card (past_of card es)) (suc end) ≡ first_in lpddr3 (books_of card (past_of card es')) (suc end)
    firsts =
        first_parts card (past_of card es) (suc end)
        ∙ ap earliest (map_each _ _ (parts card) (λ p j. let i : IsPart card p = unfold has_part in j in
        first_later card awake (of_part p (past_of card es)) (of_part p (past_of card es')) s (traced card es s m n l a p i) (traced card es' s m' n' l' a' p i)
        (all_counted card es awake p) (all_counted card es' awake p) (h p i) (suc end)))
        ∙ sym (first_parts card (past_of card es') (suc end))
