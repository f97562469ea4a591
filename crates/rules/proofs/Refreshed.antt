-- Demand 3: in an accepted trace every bank of each part is refreshed often enough in every stretch in which no temperature field lies, counted in the list of
-- that part's entries. A stretch is any run of cycles inside the trace, a sleep with it; its length is the number of its counted cycles, and I is the interval in
-- force before it.
use Prim.Native.Nat.{ℕ, zero, suc, ◌+◌, ◌-◌, ◌/◌, ◌≤◌, ◌<◌}
use mathlib.Core.Path.{◌≡◌, refl, subst}
use mathlib.Core.Bool.{false}
use mathlib.Core.List.{List, [], ◌∷◌, map}
use native.Mathlib.Omega.{arith}
use lib.Dec.{T, leb→le}
use lib.IntN.{ℤ, pos}
use lib.Signed.{le_z}
use lib.ListN.{length}
use Rattle.rules.specs.Lists.{Every}
use Rattle.rules.specs.Card.{Card}
use Rattle.rules.specs.Whose.{parts}
use Rattle.rules.specs.Heat.{start_mr4, interval_at}
use Rattle.rules.specs.Past.{Past, of_part, refresh_stamps, counted_stamps}
use Rattle.rules.specs.Entries.{Entry, taken, taken_for, past_with, past_over, past_of}
use Rattle.rules.specs.Account.{Schedule, Terms, lpddr3, every, on_beat, Book, ledger_after, ledger_on}
use Rattle.rules.specs.Clock.{counted_from, clock, beat_at, schedule_of, book_of, books_of, past_below, interval_below}
use Rattle.rules.specs.Verdict.{accepted, judge}
use Rattle.rules.specs.Reading.{AllPass, plainly, Above, NotBelow, WithinLimit, Paid, EachPaid, paid_below, entry_reads, end_reads, reads_at, Accepts}
use Rattle.rules.specs.Stretch.{count_in, Free}
use Rattle.rules.specs.Lent.{has_part}
use Rattle.rules.proofs.Biased.{owed, ledger_biased, le_biased}
use Rattle.rules.proofs.Dues.{dues, dues_later, dues_first}
use Rattle.rules.proofs.Counted.{counted_in}
use Rattle.rules.proofs.Rounds.{AllBelow, Rising, below_more, each_bank}
use Rattle.rules.proofs.Filtered.{IsPart, every_at, below_part, rising_part}
use Rattle.rules.proofs.Clocks.{N, N_clock, stretch, all_in, Orderly, start_orderly, orderly_over, refreshes_counted, Counting, counted_all, counting_over}
use Rattle.rules.proofs.Beats.{interval_least, beat_positive, keeps, next_within, none_below, interval_below_lem}
use Rattle.rules.proofs.Exactly.{accepted_iff}

-- ---- stamps rise
pub above_all : (past : Past) (t : ℕ) → Rising past → Above past t → AllBelow t past
unfolding Above AllBelow Rising
above_all [] t r h = tt
above_all (x ∷ past) t r h = (h, below_more x.stamp t past (omega arith) r.0)

not_below_all : (past : Past) (t : ℕ) → Rising past → NotBelow past t → AllBelow (suc t) past
unfolding NotBelow AllBelow Rising
not_below_all [] t r h = tt
not_below_all (x ∷ past) t r h = (omega arith, below_more x.stamp (suc t) past (omega arith) r.0)

pub rises : (card : Card) (past : Past) (es : List Entry) → ((i : ℕ) → i < length es → AllPass (reads_at card past es i)) → Rising past → Rising (past_over card past es)
unfolding past_over
rises card past [] h r = r
rises card past (e ∷ es) h r = rises card (past_with card past e) es (λ i l. unfold reads_at past_over in h (suc i) (omega arith)) next
  where
    first : Above past e.stamp
    first = unfold reads_at past_over entry_reads AllPass plainly in (h 0 (omega arith)).0

    next : Rising (past_with card past e)
    next = unfold Rising past_with taken_for taken in (above_all past e.stamp r first, r)

-- ---- the limit, as the biased ledger
pub within_limit : (k : Terms) (b : Book) (t : ℕ) → WithinLimit k b t → owed k.credit b.schedule b.refreshes (suc (b.clock t)) ≤ k.credit + k.limit
unfolding WithinLimit ledger_on ledger_after
within_limit k b t h =
    leb→le _ _ (subst T (le_biased (owed k.credit b.schedule b.refreshes (suc (b.clock t))) k.credit k.limit)
    (subst (λ (z : ℤ). T (le_z z (pos k.limit))) (ledger_biased k.credit b.schedule b.refreshes (suc (b.clock t))) h.le))

-- ---- what the entries of a part have, in an accepted trace
pub record Trace (card : Card) (past : Past) (end : ℕ) : Type 0 where
  pub rising : Rising past
  pub orderly : Orderly card past
  pub ended : AllBelow (suc end) past
  pub paid : (t : ℕ) → t < suc end → Paid lpddr3 (book_of card past) t

pub traced : (card : Card) (es : List Entry) (end m n : ℕ) (l : List ℤ) → judge card es end ≡ accepted m n l → (p : ℕ) → IsPart card p →
    Trace card (of_part p (past_of card es)) end
unfolding past_of
traced card es end m n l e p ip = record {
  rising = rising_part p _ up;
  orderly = orderly_over card p [] es (unfold of_part in start_orderly card);
  ended = below_part p _ _ (not_below_all (past_over card [] es) end up (unfold end_reads AllPass plainly in a.ended.0));
  paid = λ t h. every_at (λ b. Paid lpddr3 b t) (λ p. book_of card (of_part p (past_over card [] es))) (parts card) (all t h) p (unfold has_part in ip);
}
  where
    a : Accepts card [] es end m n l
    a = (accepted_iff card es end m n l).0 e

    all : (t : ℕ) → t < suc end → Every (λ b. Paid lpddr3 b t) (map (λ p. book_of card (of_part p (past_over card [] es))) (parts card))
    all = unfold end_reads AllPass paid_below EachPaid books_of in a.ended.1.0

    up : Rising (past_over card [] es)
    up = rises card [] es a.entries (unfold Rising in tt)

-- at the start nothing is owed, and 8 is the credit
dues_begun : (s : Schedule) (I L : ℕ) (ns : List ℕ) → L / I ≤ dues s L + 1 → L / (every I).span + dues s 0 ≤ dues s L + owed 8 s ns 0
unfolding every dues owed
dues_begun s I L ns d = omega (arith, d)

module _ (card : Card) (past : Past) (end : ℕ) (t : Trace card past end) where
  abbrev numbers : List ℕ
  numbers = map (clock past) (counted_stamps past)

  abbrev Owed : ℕ → ℕ
  Owed n = owed 8 (schedule_of card past) numbers n

  owed_through : (n : ℕ) → n ≤ end + 1 → Owed (N past n) ≤ 16
  unfolding lpddr3 book_of
  owed_through zero h = unfold counted_from owed in omega arith
  owed_through (suc n) h = rw (N_clock past n) (within_limit lpddr3 (book_of card past) n (t.paid n (omega arith)).limit)

  -- the dues of a stretch of n cycles from cycle a on, by their numbers; those at the start are one fewer, and the ledger is then 0
  dues_in : (a n : ℕ) → Free past a n →
      counted_from past a n / interval_below card a past + dues (schedule_of card past) (N past a) ≤ dues (schedule_of card past) (N past a + counted_from past a n) + Owed (N past a)
  dues_in a n f = rw (← interval_below_lem card past a) (go (N past a) refl)
    where
      z : N past a + counted_from past a n ≡ N past (a + n)
      z = omega (arith, stretch past a n)

      same : (m : ℕ) → N past a ≤ m → m < N past a + counted_from past a n → (schedule_of card past).due m ≡ on_beat (beat_at card (past_below a past)) m
      same m l h = keeps card past t.rising a n f m l (omega (arith, h, z))

      go : (A : ℕ) → N past a ≡ A →
          counted_from past a n / (beat_at card (past_below a past)).span + dues (schedule_of card past) A ≤ dues (schedule_of card past) (A + counted_from past a n) + Owed A
      go (suc k) e =
          let e' : suc k + counted_from past a n ≡ suc (k + counted_from past a n) = omega arith in
          let d = dues_later (schedule_of card past) (beat_at card (past_below a past)) (beat_positive card (past_below a past)) k (counted_from past a n)
          (next_within card past t.rising a k e) (λ m l h. same m (omega (arith, e)) (omega (arith, e))) in
          rw e' (omega (arith, d))
      go zero e =
          let a0 : a ≡ 0 = at_start a e in
          let b0 : beat_at card (past_below a past) ≡ every (interval_at card start_mr4) = rw a0 (none_below card past) in
          let l0 : 0 + counted_from past a n ≡ counted_from past a n = omega arith in
          let d = dues_first (schedule_of card past) (interval_at card start_mr4) (counted_from past a n) (interval_least card start_mr4)
          (λ m h. rw (← b0) (same m (omega (arith, e)) (omega (arith, e)))) in
          rw (b0, l0) (dues_begun (schedule_of card past) (interval_at card start_mr4) (counted_from past a n) numbers d)
        where
          at_start : (a : ℕ) → N past a ≡ 0 → a ≡ 0
          at_start zero e = refl
          at_start (suc a) e = absurd (never (N_clock past a))
            where
              never : N past (suc a) ≡ suc (clock past a) → ⊥
              never g = omega (arith, e)

  -- the counted refreshes of the stretch
  counted_stretch : (a n : ℕ) → a + n ≤ end + 1 → Free past a n → counted_from past a n / interval_below card a past ≤ count_in a (a + n) (counted_stamps past) + 16
  counted_stretch a n h f =
      let z : N past a + counted_from past a n ≡ N past (a + n) = omega (arith, stretch past a n) in
      let o = owed_through (a + n) h in
      let c : counted_from past a n / interval_below card a past ≤ count_in (N past a) (N past a + counted_from past a n) numbers + 16 =
      counted_in 8 (schedule_of card past) numbers 8 (N past a) (counted_from past a n) (counted_from past a n / interval_below card a past) (dues_in a n f) (rw z o) in
      let c' : counted_from past a n / interval_below card a past ≤ count_in (N past a) (N past (a + n)) numbers + 16 = rw z at c in
      omega (arith, c', all_in past a (a + n) (counted_stamps past) (refreshes_counted past t.rising t.orderly.awakes))

-- every bank of the part, in the n cycles from cycle a on, of which L are counted and in which no field of the part's lies
pub refreshed : (card : Card) (es : List Entry) (end m n : ℕ) (l : List ℤ) → judge card es end ≡ accepted m n l → (p : ℕ) → IsPart card p →
    (b a n : ℕ) → b < 8 → a + n ≤ end + 1 → Free (of_part p (past_of card es)) a n →
    counted_from (of_part p (past_of card es)) a n / interval_below card a (of_part p (past_of card es)) - 17 ≤ count_in a (a + n) (refresh_stamps b (of_part p (past_of card es)))
refreshed card es end m n l e p ip b a k hb h f =
    let t = traced card es end m n l e p ip in
    omega (
      arith,
      each_bank a (a + k) b (of_part p (past_of card es)) hb t.rising,
      counted_stretch card (of_part p (past_of card es)) end t a k h f,
    )

-- where every cycle counts, as under a card without low clock-enable, L is the length of the stretch
pub all_counted : (card : Card) (es : List Entry) → card.sleeps ≡ false → (p : ℕ) → Counting (of_part p (past_of card es))
unfolding past_of
all_counted card es h p = counting_over card h p [] es (unfold of_part in start_orderly card) (unfold of_part Counting in tt)

pub refreshed_awake : (card : Card) (es : List Entry) (end m n : ℕ) (l : List ℤ) → judge card es end ≡ accepted m n l → (p : ℕ) → IsPart card p →
    Counting (of_part p (past_of card es)) →
    (b a L : ℕ) → b < 8 → a + L ≤ end + 1 → Free (of_part p (past_of card es)) a L →
    L / interval_below card a (of_part p (past_of card es)) - 17 ≤ count_in a (a + L) (refresh_stamps b (of_part p (past_of card es)))
refreshed_awake card es end m n l e p ip c b a L hb h f = rw (counted_all (of_part p (past_of card es)) c a L) at (refreshed card es end m n l e p ip b a L hb h f)
