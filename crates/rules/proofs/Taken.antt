-- What an accepted past has: rising stamps, a round counter up to 7, MR2 values that MRW may write, and an account that is paid through its last entry.
use Prim.Native.Nat.{ℕ, suc, ◌+◌, ◌*◌, ◌-◌, ◌≤◌, ◌<◌, max}
use mathlib.Core.Path.{◌≡◌, refl, ap, ◌∙◌}
use mathlib.Core.Logic.{⊎_elim}
use mathlib.Core.Bool.{Bool, true, false, cond, ◌&&◌, ◌||◌}
use mathlib.Core.List.{[], ◌∷◌}
use mathlib.Core.Option.{none}
use native.Mathlib.Omega.{arith}
use lib.Dec.{leb, ltb, eqb}
use lib.IntN.{pos, negsuc, sub_ℕ}
use lib.Signed.{le_z}
use borrow.Author.Tests.{le-leb, eqb-true, ne_eqb}
use Rattle.rules.specs.Lists.{is_one_of}
use Rattle.rules.specs.Card.{Card}
use Rattle.rules.specs.Heat.{start_mr4, interval_at}
use Rattle.rules.specs.Commands.{Command, REFPB, REFAB, MRW, code, kind_of, bare, carries, is}
use Rattle.rules.specs.Registers.{mr2_good, mr1_good, may_write}
use Rattle.rules.specs.Ranges.{card_good}
use Rattle.rules.specs.Levels.{self_refresh, Move, rises_from, Read, plain, moved, asleep, barred, clash, sensed}
use Rattle.rules.specs.Whose.{is_of, parts}
use Rattle.rules.specs.Past.{Past, of_part, last_cycle, writes_ma, register_after, register, mr2_after, mr2_at, counter_after, counter_at, stamps_where, counted_stamps}
use Rattle.rules.specs.Folds.{or_else}
use Rattle.rules.specs.Account.{lpddr3, is_due, every, cycle, ledger_before, ledger_after, last_counted, on_beat, failing, Book, ledger_on, last_on, failing_on, first_on}
use Rattle.rules.specs.Clock.{counted_from, clock, beat_at, schedule_of, book_of, books_of}
use Rattle.rules.specs.Entries.{Entry, whose_of, read_after, read_for, recorded_as, judged_as, taken, taken_for, past_with}
use Rattle.rules.specs.Checks.{value_good, entry_refusal}
use Rattle.rules.specs.Reading.{AllPass, plainly, Above, paid_below, paid_at, entry_reads}
use Rattle.rules.specs.Lent.{owing_good, has_part, stands_at, AllTaken, PaidTo}
use Rattle.rules.proofs.Tests.{lt_cases, eq_cases}
use Rattle.rules.proofs.CardGood.{good_parts}
use Rattle.rules.proofs.Biased.{owed, ledger_biased, le_biased}
use Rattle.rules.proofs.Rounds.{AllBelow, Rising, below_more}
use Rattle.rules.proofs.Filtered.{IsPart, every_at, own_read, of_next, below_part, rising_part}
use Rattle.rules.proofs.Decided.{none_or_else, paid_iff, none_in, none_at}
use Rattle.rules.proofs.Exactly.{entry_decides}
use Rattle.rules.proofs.Refreshed.{above_all, within_limit}
use Rattle.rules.proofs.Clocks.{Orderly, start_orderly, taken_orderly}
use Rattle.rules.proofs.Owings.{first_with}

-- what an entry that passed its checks has
pub record Passed (card : Card) (past : Past) (e : Entry) : Type 0 where
  pub above : Above past e.stamp
  pub value : value_good card (judged_as (read_for card past e)) ≡ true
  pub before : (p : ℕ) → IsPart card p → first_on lpddr3 (book_of card (of_part p past)) e.stamp ≡ none
  pub here : (p : ℕ) → IsPart card p → failing_on lpddr3 (book_of card (of_part p (past_with card past e))) e.stamp ≡ none

pub passed : (card : Card) (past : Past) (e : Entry) → entry_refusal card past e ≡ none → Passed card past e
unfolding AllPass entry_reads plainly paid_below paid_at books_of has_part
passed card past e h =
    let (above, (before, (bits, (selects, (kind, (state, (permitted, (value, (code, (delays, (here, end))))))))))) = (entry_decides card past e).passing.0 h in
    record {
      above = above;
      value = value;
      before = every_at (λ b. first_on lpddr3 b e.stamp ≡ none) (λ p. book_of card (of_part p past)) (parts card) (none_in lpddr3 (books_of card past) e.stamp before);
      here = every_at (λ b. failing_on lpddr3 b e.stamp ≡ none) (λ p. book_of card (of_part p (past_with card past e))) (parts card)
          (none_at lpddr3 (books_of card (past_with card past e)) e.stamp here);
    }

pub counter_step : (c : Command) (m : Move) (n : ℕ) → n ≤ 7 → counter_after c m n ≤ 7
unfolding counter_after
counter_step c m n h = go (rises_from self_refresh m || is REFAB c) (is REFPB c)
  where
    go : (a p : Bool) → cond a 0 (cond p (cond (eqb n 7) 0 (suc n)) n) ≤ 7
    go true p = omega arith
    go false false = h
    go false true = ⊎_elim
        (λ (q : (n ≡ 7) × (eqb n 7 ≡ true)). rw q.1 (omega arith))
        (λ (q : (n ≡ 7 → ⊥) × (eqb n 7 ≡ false)). rw q.1 (omega (arith, q.0)))
        (eq_cases n 7)

pub counter_good : (past : Past) → counter_at past ≤ 7
unfolding counter_at
counter_good [] = omega arith
counter_good (e ∷ t) = counter_step e.cmd e.move (counter_at t) (counter_good t)

pub below_last : (past : Past) → Rising past → AllBelow (suc (last_cycle past)) past
unfolding Rising AllBelow last_cycle
below_last [] r = tt
below_last (e ∷ t) r = (omega arith, below_more e.stamp (suc e.stamp) t (omega arith) r.0)

-- nothing falls due at number 0
start_free : (I : ℕ) → on_beat (every I) 0 ≡ false
unfolding on_beat every
start_free I = let z : 0 + I - I ≡ 0 = omega arith in ap (is_due I) z ∙ (unfold is_due in refl)

pub owing_start : (card : Card) → ledger_on lpddr3.credit (book_of card []) 0 ≡ pos 0
unfolding ledger_on ledger_after ledger_before cycle book_of schedule_of beat_at clock counted_from counted_stamps stamps_where is_one_of
owing_start card = rw (start_free (interval_at card start_mr4))

-- what is recorded has a value that may be written, if what is judged has: it is that command, or NOP
pub recorded_good : (card : Card) (r : Read) → value_good card (judged_as r) ≡ true → value_good card (recorded_as r) ≡ true
unfolding judged_as recorded_as value_good is code kind_of carries bare
recorded_good card (plain d) h = h
recorded_good card (moved m) h = refl
recorded_good card asleep h = refl
recorded_good card barred h = refl
recorded_good card clash h = refl
recorded_good card (sensed v) h = refl

-- no ledger was moved on behind the last entry
abbrev pub unmoved : ℕ → ℕ
unmoved p = 0

module _ (card : Card) where
  -- from each entry to the next
  pub taken_induction : (P : Past → Type 0) → P [] → ((t : Past) (e : Entry) → Passed card t e → P t → P (past_with card t e)) →
      (past : Past) → AllTaken card past → P past
  unfolding AllTaken past_with
  taken_induction P start step [] all = start
  taken_induction P start step (x ∷ t) all =
      rw all.0.1 (step t all.0.0 (passed card t all.0.0 all.0.2) (taken_induction P start step t all.1))

  -- over a part's own entries: one of them comes behind those before it, any other entry changes nothing
  part_induction : (p : ℕ) (P : Past → Type 0) → P [] →
      ((t : Past) (e : Entry) → is_of p (whose_of card e) ≡ true → Passed card t e → P (of_part p t) → P (taken card (of_part p t) e ∷ of_part p t)) →
      (past : Past) → AllTaken card past → P (of_part p past)
  part_induction p P start step = taken_induction (λ t. P (of_part p t)) (unfold of_part in start) (λ t e x h. rw (of_next card p t e) (go t e x h (is_of p (whose_of card e)) refl))
    where
      go : (t : Past) (e : Entry) → Passed card t e → P (of_part p t) → (y : Bool) → is_of p (whose_of card e) ≡ y → P (cond y (taken card (of_part p t) e ∷ of_part p t) (of_part p t))
      go t e x h true i = step t e i x h
      go t e x h false i = h

  pub rising : (past : Past) → AllTaken card past → Rising past
  rising = taken_induction Rising (unfold Rising in tt) (λ t e p r. unfold Rising past_with taken_for taken in (above_all t e.stamp r p.above, r))

  pub orderly : (p : ℕ) (past : Past) → AllTaken card past → Orderly card (of_part p past)
  orderly p = part_induction p (Orderly card) (start_orderly card) (λ t e i x o. taken_orderly card (of_part p t) e o)

  pub write_good : (c : Command) (v : ℕ) → value_good card c ≡ true → mr2_good card.period v ≡ true → mr2_good card.period (mr2_after c v) ≡ true
  unfolding value_good may_write mr2_after register_after writes_ma
  write_good c v h g = go (is MRW c) (eqb (carries c).ma 2) refl h
    where
      go : (w x : Bool) → eqb (carries c).ma 2 ≡ x →
          cond w (cond (eqb (carries c).ma 1) (mr1_good (carries c).op) (cond x (mr2_good card.period (carries c).op) true)) true ≡ true →
          mr2_good card.period (cond (w && x) (carries c).op v) ≡ true
      go true true e k = rw (ne_eqb (carries c).ma 1 (other (eqb-true (carries c).ma 2 e))) at k
        where
          other : (carries c).ma ≡ 2 → (carries c).ma ≡ 1 → ⊥
          other p q = omega arith
      go true false e k = g
      go false true e k = g
      go false false e k = g

  own_value : (p : ℕ) (t : Past) (e : Entry) → is_of p (whose_of card e) ≡ true → Passed card t e → value_good card (taken card (of_part p t) e).cmd ≡ true
  unfolding taken
  own_value p t e i x = recorded_good card (read_after card (of_part p t) e) (rw (own_read card t p e i) at x.value)

  pub mr2_good_lem : card_good card ≡ true → (p : ℕ) (past : Past) → AllTaken card past → mr2_good card.period (mr2_at card (of_part p past)) ≡ true
  unfolding mr2_at register mr2_after
  mr2_good_lem good p = part_induction p (λ t. mr2_good card.period (mr2_at card t) ≡ true) (good_parts card good).mr2
      (λ t e i x h. write_good (taken card (of_part p t) e).cmd (mr2_at card (of_part p t)) (own_value p t e i x) h)

  -- ---- the account
  pub above_part : (p : ℕ) (past : Past) (t : ℕ) → Rising past → Above past t → Above (of_part p past) t
  above_part p past t r a = below_above (of_part p past) (below_part p t past (above_all past t r a))
    where
      below_above : (own : Past) → AllBelow t own → Above own t
      below_above [] b = unfold Above in tt
      below_above (x ∷ own) b = unfold Above AllBelow in b.0

  -- what is paid below an entry's stamp stays so
  first_next : (p : ℕ) (past : Past) (e : Entry) → AllTaken card past → Above past e.stamp →
      first_on lpddr3 (book_of card (of_part p past)) e.stamp ≡ none → first_on lpddr3 (book_of card (of_part p (past_with card past e))) e.stamp ≡ none
  first_next p past e all a h = rw (of_next card p past e) (go (is_of p (whose_of card e)))
    where
      go : (y : Bool) → first_on lpddr3 (book_of card (cond y (taken card (of_part p past) e ∷ of_part p past) (of_part p past))) e.stamp ≡ none
      go true = first_with card (of_part p past) e (rising_part p past (rising past all)) (orderly p past all) (above_part p past e.stamp (rising past all) a) h
      go false = h

  pub paid_with : (p : ℕ) → IsPart card p → (past : Past) (e : Entry) → AllTaken card past → Passed card past e →
      first_on lpddr3 (book_of card (of_part p (past_with card past e))) (suc e.stamp) ≡ none
  unfolding first_on
  paid_with p i past e all x = none_or_else (first_next p past e all x.above (x.before p i)) (x.here p i)

  fine_start : failing_on lpddr3 (book_of card []) 0 ≡ none
  unfolding failing_on failing last_on last_counted book_of schedule_of clock counted_from counted_stamps stamps_where lpddr3
  fine_start = rw (owing_start card) (rw (le-leb 0 (9 * (beat_at card []).span) (omega arith)))

  paid_none : first_on lpddr3 (book_of card []) 1 ≡ none
  unfolding first_on or_else
  paid_none = fine_start

  pub paid_through : (p : ℕ) → IsPart card p → (past : Past) → AllTaken card past → first_on lpddr3 (book_of card (of_part p past)) (suc (last_cycle past)) ≡ none
  unfolding last_cycle AllTaken
  paid_through p i [] all = unfold of_part in paid_none
  paid_through p i (x ∷ t) all = rw all.0.1 (unfold past_with taken_for taken in paid_with p i t all.0.0 all.1 (passed card t all.0.0 all.0.2))

  pub paid_to_last : (past : Past) → AllTaken card past → PaidTo card past unmoved
  unfolding PaidTo stands_at
  paid_to_last past all p i = let m : max (last_cycle past) 0 ≡ last_cycle past = omega arith in rw m (paid_through p i past all)

-- the ledger's range
above_credit : (k o : ℕ) → le_z (negsuc k) (sub_ℕ o (suc k)) ≡ true
above_credit k o = ⊎_elim
    (λ (p : (o < suc k) × (ltb o (suc k) ≡ true)). rw p.1 (le-leb (suc k - suc o) k (omega arith)))
    (λ (p : (suc k ≤ o) × (ltb o (suc k) ≡ false)). rw p.1)
    (lt_cases o (suc k))

pub owing_biased : (o : ℕ) → owing_good (sub_ℕ o 8) ≡ leb o 16
unfolding owing_good lpddr3
owing_biased o = rw (above_credit 7 o, le_biased o 8 8)

pub owing_good_lem : (b : Book) (t : ℕ) → failing_on lpddr3 b t ≡ none → owing_good (ledger_on lpddr3.credit b t) ≡ true
unfolding ledger_on ledger_after lpddr3
owing_good_lem b t h =
    rw (ledger_biased 8 b.schedule b.refreshes (suc (b.clock t)), owing_biased (owed 8 b.schedule b.refreshes (suc (b.clock t))))
    (le-leb (owed 8 b.schedule b.refreshes (suc (b.clock t))) 16 (within_limit lpddr3 b t ((paid_iff lpddr3 b t).0 h).limit))
