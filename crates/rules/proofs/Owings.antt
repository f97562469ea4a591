-- The ledger that stands for a part's own entries at a cycle: moved on, and with one more entry, it stands for what the list's account says there, and it
-- knows the first failing cycle after it.
use Prim.Native.Nat.{ℕ, zero, suc, ◌+◌, ◌*◌, ◌-◌, ◌≤◌, ◌<◌, max}
use mathlib.Core.Path.{◌≡◌, refl, ap, sym, ◌∙◌}
use mathlib.Core.Logic.{⊎_elim}
use mathlib.Core.Bool.{Bool, true, false, cond}
use mathlib.Core.List.{List, ◌∷◌, map}
use mathlib.Core.Option.{Option, none, some}
use native.Mathlib.Nat.{add-zero, add-suc, max-eq_left, max-le}
use native.Mathlib.Omega.{arith}
use lib.Dec.{leb, ltb}
use lib.IntN.{ℤ, pos}
use lib.Signed.{le_z}
use borrow.Author.Tests.{le-ltb, le-leb, eq-eqb}
use Rattle.rules.specs.Lists.{is_one_of}
use Rattle.rules.specs.Card.{Card}
use Rattle.rules.specs.Levels.{Level, stopped, level_after}
use Rattle.rules.specs.Past.{Taken, Past, last_cycle, level_at, counter_at, is_counted, stamps_where, counted_stamps}
use Rattle.rules.specs.Folds.{or_else}
use Rattle.rules.specs.Entries.{Entry, read_after, recorded_as, move_of, mr4_of, taken}
use Rattle.rules.specs.Reading.{Above}
use Rattle.rules.specs.Account.{lpddr3, Schedule, Beat, steady, replaced, take_one, cycle, ledger_before, ledger_after, last_counted, failing, Book, ledger_on, last_on, since_on, failing_on, first_on, idle, first_idle}
use Rattle.rules.specs.Clock.{counts, clock, beat_at, schedule_of, book_of}
use Rattle.rules.specs.Lent.{Ledger, number_of, is_there, counted_to, ledger_to, refreshed_at, sensed_at, at_level, failing_of, failing_to, ledger_at}
use Rattle.rules.proofs.Tests.{lt_cases}
use Rattle.rules.proofs.Biased.{ledger_biased}
use Rattle.rules.proofs.Rounds.{AllBelow, Rising, Less, less_where, below_more}
use Rattle.rules.proofs.Clocks.{sensed_uncounted, clock_other, clocks_other, N_up, counted_number, N_clock, less_numbers, Awake, Orderly, taken_orderly, all_below, refreshes_counted}
use Rattle.rules.proofs.Decided.{or_else_none, none_or_else}
use Rattle.rules.proofs.Refreshed.{above_all}
use Rattle.rules.proofs.Idle.{same_idle, same_first, owed_ahead, last_ahead, not_yet, last_by_lem, same_ledger, ledger_idle, last_idle, first_idle_lem}
use Rattle.rules.proofs.Clocked.{clock_up, clock_le, clock_runs, less_clock, relabel, relabel_failing}
use Rattle.rules.proofs.Beats.{plain_schedule, sensed_schedule, due_other, gap_other, last_below, sensed_number, sensed_by, due_after, gap_after}

-- ---- by numbers: a refresh at n
module _ (k : ℕ) (d : Schedule) where
  ledger_ahead : (c n : ℕ) (cs : List ℕ) → n ≤ c → ledger_before k d (c ∷ cs) n ≡ ledger_before k d cs n
  ledger_ahead c n cs h = rw (ledger_biased k d (c ∷ cs) n, ledger_biased k d cs n, owed_ahead k d c cs n h)

  ledger_here : (n : ℕ) (cs : List ℕ) → Less n cs → take_one k (ledger_after k d cs n) ≡ ledger_after k d (n ∷ cs) n
  unfolding ledger_after ledger_before cycle is_one_of
  ledger_here n cs l = rw (ledger_ahead n n cs (omega arith), not_yet n cs l, eq-eqb n n refl)

last_here : (n : ℕ) (cs : List ℕ) → last_counted (n ∷ cs) n ≡ n
unfolding last_counted
last_here n cs = rw (le-leb n n (omega arith))

-- ---- the ledger that stands for a part's own entries as after cycle t
pub number_at_lem : (card : Card) (past : Past) (t : ℕ) → number_of (ledger_at card past t) ≡ clock past t
unfolding number_of
number_at_lem card past t = omega (arith, clock_le past t)

-- idle time from cycle s on, at which or before which the last entry came
module _ (card : Card) (past : Past) (up : Rising past) (s : ℕ) (from : last_cycle past ≤ s) (below : AllBelow (suc s) past) where
  abbrev b : Book
  b = book_of card past

  abbrev here : ℕ
  here = clock past s

  -- the dues after the last entry, as one beat throughout
  abbrev beating : Schedule
  beating = steady (beat_at card past)

  abbrev counted : ℕ → ℕ
  counted j = cond (stopped (level_at past)) 0 j

  less : Less (suc (b.clock s)) b.refreshes
  unfolding book_of counted_stamps
  less = less_clock past s (stamps_where is_counted past) (less_where is_counted (suc s) past below)

  number_by : (j : ℕ) → clock past (s + j) ≡ here + counted j
  number_by j = clock_runs past s j from

  reached : clock past (last_cycle past) ≤ here
  reached = clock_up past (last_cycle past) s from

  same_dues : (m : ℕ) → here < m → b.schedule.due m ≡ beating.due m
  unfolding book_of
  same_dues m l = due_after card past up m (omega (arith, reached))

  since_is : (t : ℕ) → here ≤ clock past t → since_on b t ≡ max (last_on b t) (sensed_number past)
  unfolding since_on book_of
  since_is t l = (gap_after card past up (clock past t) (omega (arith, l, reached))).1 _

  same_gaps : (m : ℕ) → here < m → (b.schedule.since (last_on b s) m ≡ beating.since (since_on b s) m) × (b.schedule.span m ≡ beating.span m)
  same_gaps m l =
      let g = gap_after card past up m (omega (arith, l, reached)) in
      rw (since_is s (omega arith)) (unfold book_of in (g.1 _, g.0))

  -- the gap counts from a number that has come
  pub since_by : since_on b s ≤ here
  since_by = rw (since_is s (omega arith)) (max-le (unfold last_on book_of in last_by_lem _ here) (omega (arith, sensed_by card past up, reached)))

  -- 19 and 20 at cycle s, by the ledger that stands there
  pub failing_at_lem : failing_of (beat_at card past) (ledger_at card past s) ≡ failing_on lpddr3 b s
  unfolding failing_of failing failing_on
  failing_at_lem =
      let g = gap_after card past up here reached in
      rw (number_at_lem card past s, since_is s (omega arith)) (unfold book_of in rw (g.0, g.1 (last_on b s)))

  ledger_by_lem : (j : ℕ) → ledger_on lpddr3.credit b (s + j) ≡ idle lpddr3.credit beating (ledger_on lpddr3.credit b s) here (counted j)
  ledger_by_lem j = by_list ∙ same_idle (schedule_of card past) beating here same_dues' lpddr3.credit (ledger_on lpddr3.credit b s) (counted j)
    where
      same_dues' : (m : ℕ) → here < m → (schedule_of card past).due m ≡ beating.due m
      same_dues' m l = unfold book_of in same_dues m l

      by_list : ledger_on lpddr3.credit b (s + j) ≡ idle lpddr3.credit (schedule_of card past) (ledger_on lpddr3.credit b s) here (counted j)
      by_list = unfold ledger_on book_of in rw (number_by j) (ledger_idle lpddr3.credit (schedule_of card past) here b.refreshes less (counted j))

  last_at : (j : ℕ) → last_on b (s + j) ≡ last_on b s
  unfolding last_on book_of
  last_at j = rw (number_by j) (last_idle here (here + counted j) b.refreshes less (omega arith))

  moved_by : (j : ℕ) → ledger_to (beat_at card past) (ledger_at card past s) (s + j) ≡ ledger_at card past (s + j)
  unfolding ledger_to
  moved_by j = λ i. record { at = s + j; owing = owing i; since = since i; skipped = skipped i; level = level_at past }
    where
      gone : counted_to (ledger_at card past s) (s + j) ≡ counted j
      gone = unfold counted_to in let z : s + j - s ≡ j = omega arith in rw z

      owing : idle lpddr3.credit beating (ledger_on lpddr3.credit b s) (number_of (ledger_at card past s)) (counted_to (ledger_at card past s) (s + j))
          ≡ ledger_on lpddr3.credit b (s + j)
      owing = rw (number_at_lem card past s, gone) (sym (ledger_by_lem j))

      since : since_on b s ≡ since_on b (s + j)
      since = rw (since_is (s + j) (omega (arith, number_by j)), since_is s (omega arith), last_at j)

      skipped : s + j - (number_of (ledger_at card past s) + counted_to (ledger_at card past s) (s + j)) ≡ s + j - clock past (s + j)
      skipped = rw (number_at_lem card past s, gone, number_by j)

  pub moved_on_lem : (t : ℕ) → s ≤ t → ledger_to (beat_at card past) (ledger_at card past s) t ≡ ledger_at card past t
  moved_on_lem t h = let z : s + (t - s) ≡ t = omega arith in rw z at (moved_by (t - s))

  runs : stopped (level_at past) ≡ false → (j : ℕ) → b.clock (s + j) ≡ b.clock s + j
  unfolding book_of
  runs w j = number_by j ∙ rw w

  module _ (paid : first_on lpddr3 b (suc s) ≡ none) where
    until : first_on lpddr3 b s ≡ none
    unfolding first_on
    until = (or_else_none _ _ paid).0

    -- where no cycle counts nothing new fails
    rest_paid : stopped (level_at past) ≡ true → (j : ℕ) → failing_on lpddr3 b (s + j) ≡ none
    rest_paid w j =
        same_failing (clock_same (number_by j ∙ rw w (omega arith)))
        ∙ sym (relabel_failing (λ n. s + j) lpddr3 b.schedule _ _ _ s) ∙ rw here_paid (unfold relabel in refl)
      where
        here_paid : failing lpddr3 b.schedule (ledger_on lpddr3.credit b s) (last_on b s) (b.clock s) s ≡ none
        here_paid = unfold failing_on first_on in (or_else_none _ _ paid).1

        clock_same : clock past (s + j) ≡ here → b.clock (s + j) ≡ b.clock s
        clock_same e = unfold book_of in e

        same_failing : b.clock (s + j) ≡ b.clock s →
            failing_on lpddr3 b (s + j) ≡ failing lpddr3 b.schedule (ledger_on lpddr3.credit b s) (last_on b s) (b.clock s) (s + j)
        same_failing e = unfold failing_on ledger_on last_on in rw e

    rest_first : stopped (level_at past) ≡ true → (j : ℕ) → first_on lpddr3 b (s + j) ≡ none
    unfolding first_on
    rest_first w zero = rw add-zero until
    rest_first w (suc j) = rw add-suc (none_or_else (rest_first w j) (rest_paid w j))

    run_first : stopped (level_at past) ≡ false → (j : ℕ) →
        first_idle lpddr3 beating (ledger_on lpddr3.credit b s) (since_on b s) here s j ≡ first_on lpddr3 b (suc (s + j))
    run_first w j =
        sym (first_idle_lem lpddr3 b s less (runs w) j ∙ rw paid (unfold or_else book_of in
        same_first b.schedule beating here same_dues lpddr3 (last_on b s) (since_on b s) same_gaps (ledger_on lpddr3.credit b s) s j))

    pub failing_to_lem : (t : ℕ) → s ≤ t → failing_to (beat_at card past) (ledger_at card past s) t ≡ first_on lpddr3 b t
    unfolding failing_to first_idle
    failing_to_lem t h = rw (number_at_lem card past s) (go (stopped (level_at past)) refl)
      where
        z : s + (t - s) ≡ t
        z = omega arith

        go : (w : Bool) → stopped (level_at past) ≡ w →
            cond w none (first_idle lpddr3 beating (ledger_on lpddr3.credit b s) (since_on b s) here s (t - suc s)) ≡ first_on lpddr3 b t
        go true w = sym (rw z at (rest_first w (t - s)))
        go false w = ⊎_elim
            (λ (p : (s < t) × (ltb s t ≡ true)).
            let y : suc (s + (t - suc s)) ≡ t = omega arith in
            run_first w (t - suc s) ∙ ap (first_on lpddr3 b) y)
            (λ (p : (t ≤ s) × (ltb s t ≡ false)).
            let y : t - suc s ≡ 0 = omega arith in
            let x : t ≡ s = omega arith in
            rw (y, x) (sym until))
            (lt_cases s t)

-- ---- where the gap is 0 the limit alone can fail
two_fine : (x y : Bool) (t : ℕ) →
    Path (Option (ℕ × ℕ)) (cond x (cond y none (some (lpddr3.gap_rule, t))) (some (lpddr3.limit_rule, t))) none →
    Path (Option (ℕ × ℕ)) (cond x none (some (lpddr3.limit_rule, t))) none
two_fine true y t h = refl
two_fine false y t h = h

pub gapless : (d d' : Schedule) (z : ℤ) (last last' n t : ℕ) → n ≤ d'.since last' n → failing lpddr3 d z last n t ≡ none → failing lpddr3 d' z last' n t ≡ none
unfolding failing
gapless d d' z last last' n t h p =
    rw (le-leb (n - d'.since last' n) (lpddr3.gap * d'.span n) (omega arith))
    (two_fine (le_z z (pos lpddr3.limit)) (leb (n - d.since last n) (lpddr3.gap * d.span n)) t p)

-- ---- one more of the part's own entries
module _ (card : Card) (past : Past) (e : Entry) (up : Rising past) (o : Orderly card past) (a : Above past e.stamp) where
  abbrev x : Taken
  x = taken card past e

  abbrev is_counted_lem : Bool
  is_counted_lem = is_counted (recorded_as (read_after card past e)) (counter_at past)

  abbrev nums : List ℕ
  nums = map (clock past) (counted_stamps past)

  abbrev own : ℕ
  own = clock past e.stamp

  abbrev d : Schedule
  d = schedule_of card past

  abbrev d' : Schedule
  d' = schedule_of card (x ∷ past)

  below : AllBelow e.stamp past
  below = above_all past e.stamp up a

  stamps_less : Less e.stamp (counted_stamps past)
  stamps_less = unfold counted_stamps in less_where is_counted e.stamp past below

  clock_with : (t : ℕ) → t ≤ e.stamp → clock (x ∷ past) t ≡ clock past t
  clock_with t h = clock_other x past t (unfold taken in h)

  numbers_with : map (clock (x ∷ past)) (counted_stamps (x ∷ past)) ≡ cond is_counted_lem (own ∷ nums) nums
  unfolding counted_stamps stamps_where taken
  numbers_with = go is_counted_lem
    where
      older : map (clock (x ∷ past)) (stamps_where is_counted past) ≡ map (clock past) (stamps_where is_counted past)
      older = clocks_other x past (stamps_where is_counted past)
          (less_where is_counted (suc x.stamp) past (below_more e.stamp (suc x.stamp) past (unfold taken in omega arith) below))

      go : (y : Bool) → map (clock (x ∷ past)) (cond y (x.stamp ∷ stamps_where is_counted past) (stamps_where is_counted past))
          ≡ cond y (clock past e.stamp ∷ map (clock past) (stamps_where is_counted past)) (map (clock past) (stamps_where is_counted past))
      go true = rw older (unfold taken in rw (clock_with e.stamp (omega arith)))
      go false = older

  counts_here : is_counted_lem ≡ true → counts past e.stamp ≡ true
  unfolding counts stopped Awake taken
  counts_here h = rw (all_below past e.stamp below, (taken_orderly card past e o).awakes.0 h)

  less_here : is_counted_lem ≡ true → Less own nums
  less_here h = less_numbers past e.stamp (counted_stamps past) (counts_here h) (refreshes_counted past up o.awakes) stamps_less

  not_counted : (v : ℕ) → x.mr4 ≡ some v → is_counted_lem ≡ false
  not_counted v h = unfold taken in sensed_uncounted _ v (counter_at past) h

  reaches : (m : ℕ) → m < suc own → d'.due m ≡ d.due m
  reaches m l = due_other card x past m (unfold taken in omega arith)

  -- ---- what is paid before its stamp stays so: the ledger and the last counted refresh there are as they were
  module _ (t : ℕ) (h : t < e.stamp) where
    abbrev n : ℕ
    n = clock past t

    sooner : n ≤ own
    sooner = clock_up past t e.stamp (omega arith)

    earlier : is_counted_lem ≡ true → n < own
    earlier c = omega (arith, counted_number past e.stamp (counts_here c), N_clock past t, N_up past (suc t) e.stamp h)

    same_owing : ledger_on lpddr3.credit (book_of card (x ∷ past)) t ≡ ledger_on lpddr3.credit (book_of card past) t
    unfolding ledger_on ledger_after book_of
    same_owing = rw (clock_with t (omega arith), numbers_with) (go is_counted_lem refl)
      where
        go : (y : Bool) → is_counted_lem ≡ y → ledger_before lpddr3.credit d' (cond y (own ∷ nums) nums) (suc n) ≡ ledger_before lpddr3.credit d nums (suc n)
        go true c = rw (ledger_ahead lpddr3.credit d' own (suc n) nums (earlier c)) (same_ledger lpddr3.credit d' d nums (suc n) (λ m l. reaches m (omega (arith, l, sooner))))
        go false c = same_ledger lpddr3.credit d' d nums (suc n) (λ m l. reaches m (omega (arith, l, sooner)))

    same_last : last_on (book_of card (x ∷ past)) t ≡ last_on (book_of card past) t
    unfolding last_on book_of
    same_last = rw (clock_with t (omega arith), numbers_with) (go is_counted_lem refl)
      where
        go : (y : Bool) → is_counted_lem ≡ y → last_counted (cond y (own ∷ nums) nums) n ≡ last_counted nums n
        go true c = last_ahead own nums n (earlier c)
        go false c = refl

    -- a temperature that is taken asleep can only help: the gap is then 0 at its number
    gap_with : Path (Option (ℕ × ℕ)) (failing lpddr3 d (ledger_on lpddr3.credit (book_of card past) t) (last_on (book_of card past) t) n t) none →
        failing lpddr3 d' (ledger_on lpddr3.credit (book_of card past) t) (last_on (book_of card past) t) n t ≡ none
    gap_with p = ⊎_elim early (λ (q : (own ≤ n) × (ltb n own ≡ false)). by x.mr4 refl q.1) (lt_cases n own)
      where
        early : (n < own) × (ltb n own ≡ true) →
            failing lpddr3 d' (ledger_on lpddr3.credit (book_of card past) t) (last_on (book_of card past) t) n t ≡ none
        early q = let g = gap_other card x past n (unfold taken in q.0) in unfold failing in rw (g.0, g.1 (last_on (book_of card past) t)) (unfold failing in p)

        by : (m : Option ℕ) → x.mr4 ≡ m → ltb n own ≡ false →
            failing lpddr3 d' (ledger_on lpddr3.credit (book_of card past) t) (last_on (book_of card past) t) n t ≡ none
        by none g q = rw (plain_schedule card x past g) p
        by (some v) g q = gapless d d' _ _ _ n t (rw (sensed_schedule card x past v g) (unfold replaced taken in rw q (omega (arith, sooner)))) p

    paid_there : failing_on lpddr3 (book_of card past) t ≡ none → failing_on lpddr3 (book_of card (x ∷ past)) t ≡ none
    unfolding failing_on
    paid_there p = rw (same_owing, same_last) (unfold book_of in rw (clock_with t (omega arith)) (gap_with (unfold book_of in p)))

  first_below : (t : ℕ) → t ≤ e.stamp → first_on lpddr3 (book_of card past) t ≡ none → first_on lpddr3 (book_of card (x ∷ past)) t ≡ none
  unfolding first_on
  first_below zero h p = refl
  first_below (suc t) h p =
      let q = or_else_none (first_on lpddr3 (book_of card past) t) (failing_on lpddr3 (book_of card past) t) p in
      none_or_else (first_below t (omega arith) q.0) (paid_there t (omega arith) q.1)

  pub first_with : first_on lpddr3 (book_of card past) e.stamp ≡ none → first_on lpddr3 (book_of card (x ∷ past)) e.stamp ≡ none
  first_with p = first_below e.stamp (omega arith) p

  -- ---- at its stamp: what is due, then the refresh, then the temperature and the level
  own_after : clock past (last_cycle past) ≤ own
  own_after = clock_up past (last_cycle past) e.stamp (last_below past e.stamp below)

  since_own : d.since own own ≡ own
  since_own = (gap_after card past up own own_after).1 own ∙ max-eq_left (omega (arith, sensed_by card past up, own_after))

  since_with : since_on (book_of card (x ∷ past)) e.stamp ≡ d'.since (last_counted (cond is_counted_lem (own ∷ nums) nums) own) own
  unfolding since_on last_on book_of
  since_with =
      ap (λ (n : ℕ). d'.since (last_counted (map (clock (x ∷ past)) (counted_stamps (x ∷ past))) n) n) (clock_with e.stamp (omega arith))
      ∙ ap (λ (l : List ℕ). d'.since (last_counted l own) own) numbers_with

  abbrev level : Level
  level = level_after (move_of (read_after card past e)) (level_at past)

  -- what the ledger then holds, the counted refreshes being at these numbers and the dues those of this schedule
  abbrev then : Schedule → List ℕ → Ledger
  then s cs = record {
    at = e.stamp;
    owing = ledger_after lpddr3.credit s cs own;
    since = s.since (last_counted cs own) own;
    skipped = e.stamp - own;
    level = level;
  }

  then_is : then d' (cond is_counted_lem (own ∷ nums) nums) ≡ ledger_at card (x ∷ past) e.stamp
  unfolding level_at ledger_on book_of
  then_is = rw (since_with, clock_with e.stamp (omega arith), numbers_with) (unfold taken in refl)

  plain_then : (y : Bool) → is_counted_lem ≡ y → at_level level (refreshed_at y (ledger_at card past e.stamp)) ≡ then d (cond y (own ∷ nums) nums)
  unfolding at_level refreshed_at ledger_on since_on last_on book_of
  plain_then true c = rw (number_at_lem card past e.stamp, ledger_here lpddr3.credit d own nums (less_here c), last_here own nums, since_own)
  plain_then false c = refl

  sensed_then : (v : ℕ) → x.mr4 ≡ some v → at_level level (sensed_at true (ledger_at card past e.stamp)) ≡ then d' nums
  unfolding at_level sensed_at ledger_on book_of
  sensed_then v g = rw (number_at_lem card past e.stamp, owing, since)
    where
      owing : ledger_after lpddr3.credit d' nums own ≡ ledger_after lpddr3.credit d nums own
      owing = unfold ledger_after in same_ledger lpddr3.credit d' d nums (suc own) reaches

      since : d'.since (last_counted nums own) own ≡ own
      since = rw (sensed_schedule card x past v g) (unfold replaced taken in rw (le-ltb own own (omega arith)) (omega (arith, last_by_lem nums own)))

  -- behind a temperature the gap is 0
  pub sensed_gap : (v : ℕ) → x.mr4 ≡ some v → number_of (ledger_at card (x ∷ past) e.stamp) ≤ (ledger_at card (x ∷ past) e.stamp).since
  sensed_gap v g =
      rw (number_at_lem card (x ∷ past) e.stamp, clock_with e.stamp (omega arith), since_with, sensed_schedule card x past v g)
      (unfold replaced taken in rw (le-ltb own own (omega arith)) (omega arith))

  pub entered_with : at_level level (sensed_at (is_there (mr4_of (read_after card past e))) (refreshed_at is_counted_lem (ledger_at card past e.stamp))) ≡ ledger_at card (x ∷ past) e.stamp
  entered_with = by (mr4_of (read_after card past e)) (unfold taken in refl) ∙ then_is
    where
      by : (m : Option ℕ) → x.mr4 ≡ m → at_level level (sensed_at (is_there m) (refreshed_at is_counted_lem (ledger_at card past e.stamp))) ≡ then d' (cond is_counted_lem (own ∷ nums) nums)
      by none g = unfold is_there sensed_at in rw (plain_schedule card x past g) (plain_then is_counted_lem refl)
      by (some v) g = unfold is_there in rw (not_counted v g) (unfold refreshed_at in sensed_then v g)

-- the beat that the account goes by does not matter where the gap is 0
pub gap_free : (b c : Beat) (g : Ledger) → number_of g ≤ g.since → failing_of b g ≡ failing_of c g
unfolding failing_of failing
gap_free b c g h = rw (le-leb (number_of g - g.since) (lpddr3.gap * b.span) (omega arith), le-leb (number_of g - g.since) (lpddr3.gap * c.span) (omega arith))

-- so what fails behind a temperature goes by the ledger alone
pub sensed_failing : (card : Card) (past : Past) (e : Entry) (up : Rising past) (o : Orderly card past) (a : Above past e.stamp) (v : ℕ) → (taken card past e).mr4 ≡ some v → (b : Beat) →
    failing_on lpddr3 (book_of card (taken card past e ∷ past)) e.stamp
    ≡ failing lpddr3 (steady b) (ledger_on lpddr3.credit (book_of card past) e.stamp) (clock past e.stamp) (clock past e.stamp) e.stamp
sensed_failing card past e up o a v g b =
    sym (failing_at_lem card next rising e.stamp (unfold last_cycle taken in omega arith) here)
    ∙ gap_free (beat_at card next) b (ledger_at card next e.stamp) (sensed_gap card past e up o a v g)
    ∙ ap (failing_of b) (sym (entered_with card past e up o a))
    ∙ behind
  where
    next : Past
    next = taken card past e ∷ past

    below : AllBelow e.stamp past
    below = above_all past e.stamp up a

    rising : Rising next
    rising = unfold Rising taken in (below, up)

    here : AllBelow (suc e.stamp) next
    here = unfold AllBelow taken in (omega arith, below_more e.stamp (suc e.stamp) past (omega arith) below)

    uncounted : is_counted (recorded_as (read_after card past e)) (counter_at past) ≡ false
    uncounted = sensed_uncounted (read_after card past e) v (counter_at past) (unfold taken in g)

    behind : failing_of b (at_level (level_after (move_of (read_after card past e)) (level_at past))
        (sensed_at (is_there (mr4_of (read_after card past e))) (refreshed_at (is_counted (recorded_as (read_after card past e)) (counter_at past)) (ledger_at card past e.stamp))))
        ≡ failing lpddr3 (steady b) (ledger_on lpddr3.credit (book_of card past) e.stamp) (clock past e.stamp) (clock past e.stamp) e.stamp
    behind = rw (uncounted, there) (unfold is_there refreshed_at sensed_at at_level failing_of number_of in rw number_there)
      where
        there : mr4_of (read_after card past e) ≡ some v
        there = unfold taken in g

        number_there : e.stamp - (e.stamp - clock past e.stamp) ≡ clock past e.stamp
        number_there = unfold number_of in number_at_lem card past e.stamp
