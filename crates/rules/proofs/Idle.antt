-- The account over idle time in closed form, from a ledger that stands as after some cycle: the ledger then, and the first cycle that fails, from two facts
-- about how cycles add dues (`Counts`). And the account of a list, from its last counted refresh on, is idle time.
use Prim.Native.Nat.{ℕ, zero, suc, ◌+◌, ◌*◌, ◌-◌, ◌≤◌, ◌<◌, min, max}
use mathlib.Core.Path.{◌≡◌, refl, ap, sym, ◌∙◌, subst}
use mathlib.Core.Logic.{⊎_elim}
use mathlib.Core.Bool.{true, false, cond}
use mathlib.Core.List.{List, [], ◌∷◌}
use mathlib.Core.Option.{Option, none, some}
use native.Mathlib.Nat.{add-zero, add-suc, min-eq_left, min-eq_right, le_of_lt}
use native.Mathlib.Omega.{arith}
use lib.Dec.{leb, ltb, eqb}
use lib.IntN.{ℤ, sub_ℕ}
use borrow.Author.Tests.{le-leb, lt-leb, ne_eqb}
use Rattle.rules.specs.Lists.{is_one_of}
use Rattle.rules.specs.Folds.{or_else}
use Rattle.rules.specs.Account.{Terms, Schedule, Beat, fallen, next_after, steady, ledger_before, ledger_after, last_counted, failing, Book, ledger_on, last_on, failing_on, first_on, cycle, idle, first_idle}
use Rattle.rules.proofs.Tests.{lt_cases, le_cases, eq_cases}
use Rattle.rules.proofs.Biased.{due, owed, cycle_biased, owing, failing_biased}
use Rattle.rules.proofs.Dues.{Counts, beats, reach_is}
use Rattle.rules.proofs.Decided.{or_none, or_assoc}
use Rattle.rules.proofs.Rounds.{Less}

-- ---- by any schedule: j numbers after number n
unfoldable pub owed_in : Schedule → (n o j : ℕ) → ℕ
owed_in d n o zero = o
owed_in d n o (suc j) = owed_in d n o j + due d (n + suc j)

pub idle_biased : (d : Schedule) (k o n j : ℕ) → idle k d (sub_ℕ o k) n j ≡ sub_ℕ (owed_in d n o j) k
unfolding idle owed_in
idle_biased d k o n zero = refl
idle_biased d k o n (suc j) =
    let z : owed_in d n o j + due d (n + suc j) - 0 ≡ owed_in d n o j + due d (n + suc j) = omega arith in
    rw (idle_biased d k o n j) (cycle_biased k d false (n + suc j) (owed_in d n o j) ∙ ap (λ (x : ℕ). sub_ℕ x k) z)

-- ---- by any way in which numbers add dues
module _ (d : Schedule) (by : Counts (due d)) where
  -- the biased ledger o after number s, at number t with no counted refresh since
  unfoldable owed_by : (s o t : ℕ) → ℕ
  owed_by s o t = o + (by.up_to t - by.up_to s)

  rise : (s j : ℕ) → by.up_to s ≤ by.up_to (s + j)
  rise s zero = rw add-zero (omega arith)
  rise s (suc j) = rw add-suc (omega (arith, rise s j, by.next (s + j)))

  rise_to : (s t : ℕ) → s ≤ t → by.up_to s ≤ by.up_to t
  rise_to s t h = let z : s + (t - s) ≡ t = omega arith in subst (λ (u : ℕ). by.up_to s ≤ by.up_to u) z (rise s (t - s))

  owed_in_lem : (s o j : ℕ) → owed_in d s o j ≡ owed_by s o (s + j)
  unfolding owed_in owed_by
  owed_in_lem s o zero = rw add-zero (omega arith)
  owed_in_lem s o (suc j) = rw (owed_in_lem s o j, add-suc) (omega (arith, by.next (s + j), rise s j))

  idle_by : (k o s j : ℕ) → idle k d (sub_ℕ o k) s j ≡ sub_ℕ (owed_by s o (s + j)) k
  idle_by k o s j = idle_biased d k o s j ∙ ap (λ (x : ℕ). sub_ℕ x k) (owed_in_lem s o j)

-- the first cycle at which 20 fails, and the first after cycle s
unfoldable pub next20 : Terms → (I last : ℕ) → ℕ
next20 k I last = last + k.gap * I + 1

unfoldable pub after20 : Terms → (I s last : ℕ) → ℕ
after20 k I s last = max (suc s) (next20 k I last)

pub after_is : (k : Terms) (I s last : ℕ) → s - last ≤ k.gap * I → after20 k I s last ≡ next20 k I last
unfolding after20 next20
after_is k I s last h = omega arith

-- of the two, the one that comes first below n; 19 where they are one
unfoldable pub first_next : Terms → (x y n : ℕ) → Option (ℕ × ℕ)
first_next k x y n = cond (leb n (min x y)) none (some (cond (leb x y) k.limit_rule k.gap_rule, min x y))

-- a rule that fails at a cycle
abbrev fails : ℕ → ℕ → Option (ℕ × ℕ)
fails q t = some (q, t)

-- three places of a cycle against m
data Place (n m : ℕ) : Type 0 where
  ahead : n < m → leb n m ≡ true → leb (suc n) m ≡ true → leb m n ≡ false → Place n m
  here : n ≡ m → leb n m ≡ true → leb (suc n) m ≡ false → leb m n ≡ true → Place n m
  behind : m < n → leb n m ≡ false → leb (suc n) m ≡ false → Place n m

place : (n m : ℕ) → Place n m
place n m = ⊎_elim
    (λ (q : (n < m) × (ltb n m ≡ true)). ahead q.0 (le-leb n m (omega arith)) q.1 (lt-leb m n q.0))
    (λ (q : (m ≤ n) × (ltb n m ≡ false)). ⊎_elim
    (λ (e : (n ≡ m) × (eqb n m ≡ true)). here e.0 (le-leb n m (omega arith)) q.1 (le-leb m n q.0))
    (λ (e : (n ≡ m → ⊥) × (eqb n m ≡ false)). behind (omega (arith, q.0, e.0)) (lt-leb n m (omega (arith, q.0, e.0))) q.1)
    (eq_cases n m))
    (lt_cases n m)

-- both rules at cycle n, given the first cycles at which they fail
unfoldable overdue : Terms → (x y n : ℕ) → Option (ℕ × ℕ)
overdue k x y n = cond (leb x n) (some (k.limit_rule, n)) (cond (leb y n) (some (k.gap_rule, n)) none)

first_step : (k : Terms) (x y n : ℕ) → or_else (first_next k x y n) (overdue k x y n) ≡ first_next k x y (suc n)
unfolding first_next overdue or_else
first_step k x y n = ⊎_elim early late (le_cases x y)
  where
    early : (x ≤ y) × (leb x y ≡ true) → or_else (first_next k x y n) (overdue k x y n) ≡ first_next k x y (suc n)
    early p = rw (min-eq_left p.0, p.1) (go (place n x))
      where
        go : Place n x → or_else (cond (leb n x) none (fails k.limit_rule x)) (cond (leb x n) (fails k.limit_rule n) (cond (leb y n) (fails k.gap_rule n) none))
            ≡ cond (leb (suc n) x) none (fails k.limit_rule x)
        go (ahead h a b c) = rw (a, b, c, lt-leb y n (omega (arith, p.0)))
        go (here h a b c) = rw (a, b, c) (ap (fails k.limit_rule) h)
        go (behind h a b) = rw (a, b)

    late : (y < x) × (leb x y ≡ false) → or_else (first_next k x y n) (overdue k x y n) ≡ first_next k x y (suc n)
    late p = rw (min-eq_right (le_of_lt p.0), p.1) (go (place n y))
      where
        go : Place n y → or_else (cond (leb n y) none (fails k.gap_rule y)) (cond (leb x n) (fails k.limit_rule n) (cond (leb y n) (fails k.gap_rule n) none))
            ≡ cond (leb (suc n) y) none (fails k.gap_rule y)
        go (ahead h a b c) = rw (a, b, c, lt-leb x n (omega (arith, p.0)))
        go (here h a b c) = rw (a, b, c, lt-leb x n (omega (arith, p.0))) (ap (fails k.gap_rule) h)
        go (behind h a b) = rw (a, b)

-- the schedule keeps its interval I after number s, and the gap counts from number `since`
module _ (k : Terms) (d : Schedule) (by : Counts (due d)) (I s o last since : ℕ) (le : o ≤ k.credit + k.limit)
    (steady : (n : ℕ) → s < n → (d.since last n ≡ since) × (d.span n ≡ I)) where
  -- the first cycle at which 19 fails
  unfoldable next_by : ℕ
  next_by = by.reach (k.credit + k.limit + 1 + by.up_to s - o)

  limit_at : (t : ℕ) → s ≤ t → leb (owed_by d by s o t) (k.credit + k.limit) ≡ leb (suc t) next_by
  unfolding owed_by next_by
  limit_at t h = ⊎_elim
      (λ (q : (by.reach (k.credit + k.limit + 1 + by.up_to s - o) ≤ t) × (leb (by.reach (k.credit + k.limit + 1 + by.up_to s - o)) t ≡ true)).
      let r : k.credit + k.limit + 1 + by.up_to s - o ≤ by.up_to t = (by.reached _ t).0 q.0 in
      lt-leb (o + (by.up_to t - by.up_to s)) (k.credit + k.limit) (omega (arith, rise_to d by s t h)) ∙ sym (lt-leb (suc t) _ (omega (arith, q.0))))
      (λ (q : (t < by.reach (k.credit + k.limit + 1 + by.up_to s - o)) × (leb (by.reach (k.credit + k.limit + 1 + by.up_to s - o)) t ≡ false)).
      le-leb (o + (by.up_to t - by.up_to s)) (k.credit + k.limit) (under q.0) ∙ sym (le-leb (suc t) _ q.0))
      (le_cases (by.reach (k.credit + k.limit + 1 + by.up_to s - o)) t)
    where
      under : t < by.reach (k.credit + k.limit + 1 + by.up_to s - o) → o + (by.up_to t - by.up_to s) ≤ k.credit + k.limit
      under h' = ⊎_elim
          (λ (q : (k.credit + k.limit + 1 + by.up_to s - o ≤ by.up_to t) × (leb (k.credit + k.limit + 1 + by.up_to s - o) (by.up_to t) ≡ true)).
          absurd (clash ((by.reached _ t).1 q.0)))
          (λ (q : (by.up_to t < k.credit + k.limit + 1 + by.up_to s - o) × (leb (k.credit + k.limit + 1 + by.up_to s - o) (by.up_to t) ≡ false)).
          omega (arith, rise_to d by s t h))
          (le_cases (k.credit + k.limit + 1 + by.up_to s - o) (by.up_to t))
        where
          clash : by.reach (k.credit + k.limit + 1 + by.up_to s - o) ≤ t → ⊥
          clash r = omega arith

  gap_at : (t : ℕ) → s < t → leb (t - since) (k.gap * I) ≡ leb (suc t) (after20 k I s since)
  unfolding after20 next20
  gap_at t h = ⊎_elim
      (λ (q : (t - since ≤ k.gap * I) × (leb (t - since) (k.gap * I) ≡ true)). q.1 ∙ sym (le-leb (suc t) (max (suc s) (since + k.gap * I + 1)) (omega arith)))
      (λ (q : (k.gap * I < t - since) × (leb (t - since) (k.gap * I) ≡ false)). q.1 ∙ sym (lt-leb (suc t) (max (suc s) (since + k.gap * I + 1)) (omega arith)))
      (le_cases (t - since) (k.gap * I))

  owing_at : (t : ℕ) → s < t → owing k d (owed_by d by s o t) last t t ≡ overdue k next_by (after20 k I s since) t
  unfolding owing overdue
  owing_at t h = rw ((steady t h).0, (steady t h).1, limit_at t (le_of_lt h), gap_at t h) (go (place t next_by) (place t (after20 k I s since)))
    where
      inner : Place t (after20 k I s since) → cond (leb (suc t) (after20 k I s since)) none (fails k.gap_rule t) ≡ cond (leb (after20 k I s since) t) (fails k.gap_rule t) none
      inner (ahead h a b c) = rw (b, c)
      inner (here h a b c) = rw (b, c)
      inner (behind h a b) = rw (b, le-leb (after20 k I s since) t (le_of_lt h))

      go : Place t next_by → Place t (after20 k I s since) →
          cond (leb (suc t) next_by) (cond (leb (suc t) (after20 k I s since)) none (fails k.gap_rule t)) (fails k.limit_rule t)
          ≡ cond (leb next_by t) (fails k.limit_rule t) (cond (leb (after20 k I s since) t) (fails k.gap_rule t) none)
      go (ahead h a b c) q = rw (b, c) (inner q)
      go (here h a b c) q = rw (b, c)
      go (behind h a b) q = rw (b, le-leb next_by t (le_of_lt h))

  starts : suc s ≤ min next_by (after20 k I s since)
  unfolding next_by after20
  starts = ⊎_elim
      (λ (q : (by.reach (k.credit + k.limit + 1 + by.up_to s - o) ≤ s) × (leb (by.reach (k.credit + k.limit + 1 + by.up_to s - o)) s ≡ true)).
      absurd (clash ((by.reached _ s).0 q.0)))
      (λ (q : (s < by.reach (k.credit + k.limit + 1 + by.up_to s - o)) × (leb (by.reach (k.credit + k.limit + 1 + by.up_to s - o)) s ≡ false)). omega arith)
      (le_cases (by.reach (k.credit + k.limit + 1 + by.up_to s - o)) s)
    where
      clash : k.credit + k.limit + 1 + by.up_to s - o ≤ by.up_to s → ⊥
      clash r = omega arith

  -- the first failing cycle of idle time
  closed_by : (j : ℕ) → first_idle k d (sub_ℕ o k.credit) last s s j ≡ first_next k next_by (after20 k I s since) (suc (s + j))
  unfolding first_idle
  closed_by zero = sym (unfold first_next in rw (add-zero, le-leb (suc s) (min next_by (after20 k I s since)) starts))
  closed_by (suc j) =
      rw (closed_by j, idle_by d by k.credit o s (suc j), failing_biased k d (owed_by d by s o (s + suc j)) last (s + suc j) (s + suc j), owing_at (s + suc j) (omega arith), add-suc)
      (first_step k next_by (after20 k I s since) (suc (s + j)))

-- ---- by a beat
unfoldable pub owed_at : Beat → (s o t : ℕ) → ℕ
owed_at b s o t = o + (fallen b t - fallen b s)

-- the first number at which 19 fails: the next due, and one more for each that the ledger is below its limit
unfoldable pub next19 : Terms → Beat → (s o : ℕ) → ℕ
next19 k b s o = next_after b s + (k.credit + k.limit - o) * b.span

module _ (b : Beat) (positive : 0 < b.span) where
  pub idle_beat : (k o s j : ℕ) → idle k (steady b) (sub_ℕ o k) s j ≡ sub_ℕ (owed_at b s o (s + j)) k
  unfolding owed_at owed_by beats
  idle_beat k o s j = idle_by (steady b) (beats b positive) k o s j

  pub idle_closed : (k : Terms) (s o last : ℕ) → o ≤ k.credit + k.limit → (j : ℕ) →
      first_idle k (steady b) (sub_ℕ o k.credit) last s s j ≡ first_next k (next19 k b s o) (after20 k b.span s last) (suc (s + j))
  idle_closed k s o last le j =
      closed_by k (steady b) (beats b positive) b.span s o last last le (λ n h. (refl, refl)) j
      ∙ ap (λ (x : ℕ). first_next k x (after20 k b.span s last) (suc (s + j))) reach
    where
      ahead : k.credit + k.limit + 1 + fallen b s - o ≡ suc (fallen b s + (k.credit + k.limit - o))
      ahead = omega arith

      reach : next_by k (steady b) (beats b positive) b.span s o last last le (λ n h. (refl, refl)) ≡ next19 k b s o
      reach = unfold next_by next19 beats in ap (λ (x : ℕ). (beats b positive).reach x) ahead ∙ reach_is b positive s (k.credit + k.limit - o)

-- ---- by two schedules that agree after number n
module _ (d d' : Schedule) (n : ℕ) (same : (m : ℕ) → n < m → d.due m ≡ d'.due m) where
  pub same_idle : (k : ℕ) (z : ℤ) (j : ℕ) → idle k d z n j ≡ idle k d' z n j
  unfolding idle
  same_idle k z zero = refl
  same_idle k z (suc j) = rw (same_idle k z j) (unfold cycle in rw (same (n + suc j) (omega arith)))

  pub same_first : (k : Terms) (last last' : ℕ) → ((m : ℕ) → n < m → (d.since last m ≡ d'.since last' m) × (d.span m ≡ d'.span m)) →
      (z : ℤ) (t j : ℕ) → first_idle k d z last n t j ≡ first_idle k d' z last' n t j
  unfolding first_idle
  same_first k last last' gap z t zero = refl
  same_first k last last' gap z t (suc j) =
      let g = gap (n + suc j) (omega arith) in
      rw (same_first k last last' gap z t j, same_idle k.credit z (suc j)) (unfold failing in rw (g.0, g.1))

-- ---- a counted refresh at number c changes nothing before c
pub owed_ahead : (k : ℕ) (d : Schedule) (c : ℕ) (cs : List ℕ) (n : ℕ) → n ≤ c → owed k d (c ∷ cs) n ≡ owed k d cs n
unfolding owed is_one_of
owed_ahead k d c cs zero h = refl
owed_ahead k d c cs (suc t) h = rw (owed_ahead k d c cs t (omega arith), ne_eqb c t (omega arith))

pub last_ahead : (c : ℕ) (cs : List ℕ) (t : ℕ) → t < c → last_counted (c ∷ cs) t ≡ last_counted cs t
unfolding last_counted
last_ahead c cs t h = rw (lt-leb c t h)

pub not_yet : (c : ℕ) (cs : List ℕ) → Less c cs → is_one_of cs c ≡ false
unfolding Less is_one_of
not_yet c [] l = refl
not_yet c (x ∷ xs) l = rw (ne_eqb x c (omega (arith, l.0)), not_yet c xs l.1)

-- the last counted refresh is not after the number asked for
pub last_by_lem : (cs : List ℕ) (t : ℕ) → last_counted cs t ≤ t
unfolding last_counted
last_by_lem [] t = omega arith
last_by_lem (c ∷ cs) t = ⊎_elim
    (λ (p : (c ≤ t) × (leb c t ≡ true)). rw p.1 p.0)
    (λ (p : (t < c) × (leb c t ≡ false)). rw p.1 (last_by_lem cs t))
    (le_cases c t)

-- nor does a due after number n change anything up to it
pub same_ledger : (k : ℕ) (d d' : Schedule) (cs : List ℕ) (n : ℕ) → ((m : ℕ) → m < n → d.due m ≡ d'.due m) → ledger_before k d cs n ≡ ledger_before k d' cs n
unfolding ledger_before
same_ledger k d d' cs zero same = refl
same_ledger k d d' cs (suc n) same = rw (same_ledger k d d' cs n (λ m l. same m (omega arith))) (unfold cycle in rw (same n (omega arith)))

-- ---- a list of counted refreshes, none of which comes after number s
not_one : (s t : ℕ) (cs : List ℕ) → Less (suc s) cs → s < t → is_one_of cs t ≡ false
unfolding Less is_one_of
not_one s t [] l h = refl
not_one s t (c ∷ cs) l h = rw (ne_eqb c t (differ l.0), not_one s t cs l.1 h)
  where
    differ : c < suc s → c ≡ t → ⊥
    differ a e = omega arith

pub last_idle : (s t : ℕ) (cs : List ℕ) → Less (suc s) cs → s ≤ t → last_counted cs t ≡ last_counted cs s
unfolding Less last_counted
last_idle s t [] l h = refl
last_idle s t (c ∷ cs) l h = rw (le-leb c t (within l.0), le-leb c s (under l.0))
  where
    within : c < suc s → c ≤ t
    within a = omega arith

    under : c < suc s → c ≤ s
    under a = omega arith

pub ledger_idle : (k : ℕ) (d : Schedule) (s : ℕ) (cs : List ℕ) → Less (suc s) cs → (j : ℕ) → ledger_after k d cs (s + j) ≡ idle k d (ledger_after k d cs s) s j
unfolding ledger_after idle
ledger_idle k d s cs l zero = rw add-zero
ledger_idle k d s cs l (suc j) = rw add-suc (step ∙ ap (cycle k d false (suc (s + j))) (ledger_idle k d s cs l j))
  where
    step : ledger_before k d cs (suc (suc (s + j))) ≡ cycle k d false (suc (s + j)) (ledger_before k d cs (suc (s + j)))
    step = unfold ledger_before in rw (not_one s (suc (s + j)) cs l (omega arith))

-- a book whose clock runs on from cycle t, with no counted refresh after it
module _ (k : Terms) (b : Book) (t : ℕ) (l : Less (suc (b.clock t)) b.refreshes) (runs : (j : ℕ) → b.clock (t + j) ≡ b.clock t + j) where
  pub ledger_later : (j : ℕ) → ledger_on k.credit b (t + j) ≡ idle k.credit b.schedule (ledger_on k.credit b t) (b.clock t) j
  unfolding ledger_on
  ledger_later j = rw (runs j) (ledger_idle k.credit b.schedule (b.clock t) b.refreshes l j)

  last_later : (j : ℕ) → last_on b (t + j) ≡ last_on b t
  unfolding last_on
  last_later j = rw (runs j) (last_idle (b.clock t) (b.clock t + j) b.refreshes l (omega arith))

  abbrev now : ℕ → Option (ℕ × ℕ)
  now j = failing k b.schedule (idle k.credit b.schedule (ledger_on k.credit b t) (b.clock t) j) (last_on b t) (b.clock t + j) (t + j)

  pub failing_idle : (j : ℕ) → failing_on k b (t + j) ≡ now j
  unfolding failing_on
  failing_idle j = rw (ledger_later j, last_later j, runs j)

  first_more : (j : ℕ) → first_on k b (suc (t + suc j)) ≡ or_else (first_on k b (suc (t + j))) (now (suc j))
  unfolding first_on
  first_more j = rw (failing_idle (suc j)) (ap (λ (n : ℕ). or_else (first_on k b n) (now (suc j))) (add-suc t j))

  pub first_idle_lem : (j : ℕ) →
      first_on k b (suc (t + j)) ≡ or_else (first_on k b (suc t)) (first_idle k b.schedule (ledger_on k.credit b t) (last_on b t) (b.clock t) t j)
  unfolding first_idle
  first_idle_lem zero = rw add-zero (sym (or_none (first_on k b (suc t))))
  first_idle_lem (suc j) =
      first_more j ∙ ap (λ (o : Option (ℕ × ℕ)). or_else o (now (suc j))) (first_idle_lem j)
      ∙ or_assoc (first_on k b (suc t)) (first_idle k b.schedule (ledger_on k.credit b t) (last_on b t) (b.clock t) t j) (now (suc j))
