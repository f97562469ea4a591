-- What a lent ledger gains when it is moved on, whatever it holds and whatever its dues are.
use Prim.Native.Nat.{ℕ, zero, suc, ◌+◌, ◌-◌, ◌≤◌}
use mathlib.Core.Path.{◌≡◌, refl, ap, sym, ◌∙◌, subst}
use mathlib.Core.Bool.{Bool, true, false, cond}
use mathlib.Core.Option.{Option, none}
use native.Mathlib.Nat.{add-zero}
use native.Mathlib.Omega.{arith}
use lib.IntN.{ℤ}
use borrow.Author.Tests.{le-leb}
use Rattle.rules.specs.Card.{Card}
use Rattle.rules.specs.Levels.{awake, power_down, stopped, level_after}
use Rattle.rules.specs.Folds.{or_else, first_of}
use Rattle.rules.specs.Checks.{unless, named}
use Rattle.rules.specs.Account.{Terms, lpddr3, Schedule, Beat, steady, failing, idle, first_idle}
use Rattle.rules.specs.Lent.{Ledger, number_of, Pace, beat_of, Effect, counted_to, ledger_to, refreshed_at, sensed_at, at_level, entered, failing_to, ledger_good, move_refusal, moved_on}
use Rattle.rules.proofs.Decided.{or_none, or_assoc}

-- ---- a lent ledger moved on
module _ (g : Ledger) where
  counted_none : counted_to g g.at ≡ 0
  unfolding counted_to
  counted_none = let z : g.at - g.at ≡ 0 = omega arith in rw z (same (stopped g.level))
    where
      same : (x : Bool) → ◌≡◌ {A = ℕ} (cond x 0 0) 0
      same true = refl
      same false = refl

  pub counted_by : (t : ℕ) → counted_to g t ≤ t - g.at
  unfolding counted_to
  counted_by t = go (stopped g.level)
    where
      go : (x : Bool) → cond x 0 (t - g.at) ≤ t - g.at
      go true = omega arith
      go false = omega arith

module _ (b : Beat) (g : Ledger) where
  -- its number grows by the cycles that count
  pub number_to : (t : ℕ) → g.at ≤ t → number_of (ledger_to b g t) ≡ number_of g + counted_to g t
  unfolding ledger_to number_of
  number_to t h = omega (arith, counted_by g t)

  -- the cycle where it stands changes nothing
  pub none_yet : (t : ℕ) → t ≤ suc g.at → failing_to b g t ≡ none
  unfolding failing_to first_idle
  none_yet t h = let z : t - suc g.at ≡ 0 = omega arith in rw z (go (stopped g.level))
    where
      go : (x : Bool) → Path (Option (ℕ × ℕ)) (cond x none none) none
      go true = refl
      go false = refl

  pub as_it_was : g.skipped ≤ g.at → ledger_to b g g.at ≡ g
  unfolding ledger_to idle
  as_it_was h =
      let z : g.at - (number_of g + 0) ≡ g.skipped = unfold number_of in omega arith in
      rw (counted_none g, z)

-- a ledger that says it skipped more cycles than there were is as one that skipped them all
pub stands_still : (card : Card) (p : Pace) (g : Ledger) → g.skipped ≤ g.at → (move_refusal card p g g.at ≡ unless (ledger_good card g) 13) × (moved_on card p g g.at ≡ g)
unfolding move_refusal moved_on first_of or_else unless named
stands_still card p g h = (
  rw (le-leb g.at g.at (omega arith), none_yet (beat_of card p) g (suc g.at) (omega arith)) (or_none _),
  as_it_was (beat_of card p) g h,
)

-- a second entry in one cycle: what fell due there is not added again, and a second counted refresh takes 1 more
again_there : (y : Effect) (b : Beat) (g : Ledger) (t : ℕ) → ledger_to b g t ≡ g →
    entered y b g t ≡ at_level (level_after y.move g.level) (sensed_at y.sensed (refreshed_at y.counted g))
unfolding entered
again_there y b g t e = rw e

pub entered_again : (x y : Effect) (b : Beat) (g : Ledger) (t : ℕ) →
    entered y b (entered x b g t) t ≡ at_level (level_after y.move (entered x b g t).level) (sensed_at y.sensed (refreshed_at y.counted (entered x b g t)))
entered_again x y b g t = again_there y b (entered x b g t) t (unfold entered in still (once x.sensed x.counted) (there x.sensed x.counted).0 (there x.sensed x.counted).1)
  where
    once : (s c : Bool) → Ledger
    once s c = at_level (level_after x.move g.level) (sensed_at s (refreshed_at c (ledger_to b g t)))

    there : (s c : Bool) → ((once s c).at ≡ t) × ((once s c).skipped ≤ t)
    there true true = unfold at_level sensed_at refreshed_at ledger_to in (refl, omega arith)
    there true false = unfold at_level sensed_at refreshed_at ledger_to in (refl, omega arith)
    there false true = unfold at_level sensed_at refreshed_at ledger_to in (refl, omega arith)
    there false false = unfold at_level sensed_at refreshed_at ledger_to in (refl, omega arith)

    still : (h : Ledger) → h.at ≡ t → h.skipped ≤ t → ledger_to b h t ≡ h
    still h e l = subst (λ u. ledger_to b h u ≡ h) e (as_it_was b h (omega arith))

-- moved on where its cycles are not counted its cycle moves; it gains nothing, and nothing fails
pub gains_nothing : (card : Card) (p : Pace) (g : Ledger) (t : ℕ) → stopped g.level ≡ true →
    (moved_on card p g t ≡ record { at = t; owing = g.owing; since = g.since; skipped = t - number_of g; level = g.level }) × (failing_to (beat_of card p) g (suc t) ≡ none)
unfolding moved_on ledger_to counted_to failing_to idle
gains_nothing card p g t w = let z : number_of g + 0 ≡ number_of g = omega arith in (rw (w, z), rw w)

-- in power-down it gains as awake
pub gains_as_awake : (card : Card) (p : Pace) (g : Ledger) (t : ℕ) →
    (moved_on card p (at_level power_down g) t ≡ at_level power_down (moved_on card p (at_level awake g) t)) ×
    (failing_to (beat_of card p) (at_level power_down g) t ≡ failing_to (beat_of card p) (at_level awake g) t)
unfolding moved_on ledger_to counted_to failing_to at_level number_of stopped
gains_as_awake card p g t = (refl, refl)

-- ---- moved on twice is moved on once, whatever it says it skipped
idle_twice : (k : ℕ) (d : Schedule) (z : ℤ) (n i j : ℕ) → idle k d (idle k d z n i) (n + i) j ≡ idle k d z n (i + j)
unfolding idle
idle_twice k d z n i zero = rw add-zero
idle_twice k d z n i (suc j) =
    let e : n + i + suc j ≡ n + suc (i + j) = omega arith in
    let s : i + suc j ≡ suc (i + j) = omega arith in
    rw (idle_twice k d z n i j, s, e)

first_twice : (k : Terms) (d : Schedule) (z : ℤ) (last n t i j : ℕ) →
    first_idle k d z last n t (i + j) ≡ or_else (first_idle k d z last n t i) (first_idle k d (idle k.credit d z n i) last (n + i) (t + i) j)
unfolding first_idle
first_twice k d z last n t i zero = rw add-zero (sym (or_none _))
first_twice k d z last n t i (suc j) =
    let e : n + i + suc j ≡ n + suc (i + j) = omega arith in
    let f : t + i + suc j ≡ t + suc (i + j) = omega arith in
    let s : i + suc j ≡ suc (i + j) = omega arith in
    let x : first_idle k d z last n t (suc (i + j))
    ≡ or_else (first_idle k d z last n t i)
    (or_else (first_idle k d (idle k.credit d z n i) last (n + i) (t + i) j) (failing k d (idle k.credit d z n (suc (i + j))) last (n + suc (i + j)) (t + suc (i + j)))) =
    ap (λ (o : Option (ℕ × ℕ)). or_else o (failing k d (idle k.credit d z n (suc (i + j))) last (n + suc (i + j)) (t + suc (i + j)))) (first_twice k d z last n t i j) ∙ or_assoc _ _ _ in
    let y : idle k.credit d (idle k.credit d z n i) (n + i) (suc j) ≡ idle k.credit d z n (suc (i + j)) = rw s at (idle_twice k.credit d z n i (suc j)) in
    rw (s, y, e, f) x

module _ (b : Beat) (g : Ledger) (s t : ℕ) (from : g.at ≤ s) (to : s ≤ t) where
  counted_twice : counted_to g s + counted_to (ledger_to b g s) t ≡ counted_to g t
  unfolding counted_to ledger_to
  counted_twice = go (stopped g.level)
    where
      go : (x : Bool) → cond x 0 (s - g.at) + cond x 0 (t - s) ≡ cond x 0 (t - g.at)
      go true = refl
      go false = omega arith

  number_twice : number_of (ledger_to b g s) + counted_to (ledger_to b g s) t ≡ number_of g + counted_to g t
  number_twice = omega (arith, number_to b g s from, counted_twice)

  owing_twice : idle lpddr3.credit (steady b) (ledger_to b g s).owing (number_of (ledger_to b g s)) (counted_to (ledger_to b g s) t)
      ≡ idle lpddr3.credit (steady b) g.owing (number_of g) (counted_to g t)
  owing_twice = rw (number_to b g s from, ← counted_twice) (unfold ledger_to in idle_twice lpddr3.credit (steady b) g.owing (number_of g) (counted_to g s) _)

  pub moved_twice : ledger_to b (ledger_to b g s) t ≡ ledger_to b g t
  unfolding ledger_to
  moved_twice = λ i. record { at = t; owing = owing_twice i; since = g.since; skipped = t - number_twice i; level = g.level }

  from_there : failing_to b (ledger_to b g s) (suc t)
      ≡ cond (stopped g.level) none
      (first_idle lpddr3 (steady b) (idle lpddr3.credit (steady b) g.owing (number_of g) (counted_to g s)) g.since (number_of g + counted_to g s) s (suc t - suc s))
  unfolding failing_to
  from_there = rw (number_to b g s from) (unfold ledger_to in refl)

  -- and what fails on the way is what fails up to the one cycle, or then up to the other
  pub failing_twice : failing_to b g (suc t) ≡ or_else (failing_to b g (suc s)) (failing_to b (ledger_to b g s) (suc t))
  failing_twice = rw from_there (unfold failing_to counted_to in go (stopped g.level))
    where
      j : suc t - suc s ≡ t - s
      j = omega arith

      go : (x : Bool) →
          cond x none (first_idle lpddr3 (steady b) g.owing g.since (number_of g) g.at (suc t - suc g.at))
          ≡ or_else (cond x none (first_idle lpddr3 (steady b) g.owing g.since (number_of g) g.at (suc s - suc g.at)))
          (cond x none (first_idle lpddr3 (steady b) (idle lpddr3.credit (steady b) g.owing (number_of g) (cond x 0 (s - g.at))) g.since (number_of g + cond x 0 (s - g.at)) s (suc t - suc s)))
      go true = unfold or_else in refl
      go false =
          let p : suc s - suc g.at ≡ s - g.at = omega arith in
          let q : suc t - suc g.at ≡ s - g.at + (t - s) = omega arith in
          let w : g.at + (s - g.at) ≡ s = omega arith in
          rw (p, q, j) (rw w at (first_twice lpddr3 (steady b) g.owing g.since (number_of g) g.at (s - g.at) (t - s)))
