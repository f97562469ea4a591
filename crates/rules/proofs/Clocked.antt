-- The numbers of cycles after the last entry, and the first failing cycle of idle time by numbers.
use Prim.Native.Nat.{ℕ, zero, suc, ◌+◌, ◌*◌, ◌-◌, ◌≤◌, ◌<◌}
use mathlib.Core.Path.{◌≡◌, refl, ◌∙◌}
use mathlib.Core.Bool.{Bool, true, false, cond, not}
use mathlib.Core.List.{List, [], ◌∷◌, map}
use mathlib.Core.Option.{Option, none, some}
use native.Mathlib.Nat.{add-zero, add-suc}
use native.Mathlib.Omega.{arith}
use lib.Dec.{leb}
use lib.IntN.{ℤ, pos}
use lib.Signed.{le_z}
use borrow.Author.Tests.{lt-ltb}
use Rattle.rules.specs.Levels.{stopped}
use Rattle.rules.specs.Past.{Taken, Past, last_cycle, level_at}
use Rattle.rules.specs.Folds.{or_else}
use Rattle.rules.specs.Account.{Terms, Schedule, failing, idle, first_idle}
use Rattle.rules.specs.Clock.{past_below, counts, counted_from, clock}
use Rattle.rules.proofs.Tests.{bit_le}
use Rattle.rules.proofs.Rounds.{Less}
use Rattle.rules.proofs.Clocks.{clock_other, N_suc, N_clock, N_up}

-- ---- the number of a cycle
-- after the last entry each cycle is counted, or none is
clock_suc : (past : Past) (t : ℕ) → clock past (suc t) ≡ clock past t + cond (counts past (suc t)) 1 0
clock_suc past t = let z = N_suc past (suc t) in omega (arith, z, N_clock past (suc t), N_clock past t)

after_last : (e : Taken) (p : Past) (t : ℕ) → e.stamp < t → counts (e ∷ p) t ≡ not (stopped (level_at (e ∷ p)))
unfolding counts past_below
after_last e p t h = rw (lt-ltb e.stamp t h)

clock_on : (e : Taken) (p : Past) (j : ℕ) → clock (e ∷ p) (e.stamp + j) ≡ clock p e.stamp + cond (stopped (level_at (e ∷ p))) 0 j
clock_on e p zero = rw (add-zero, clock_other e p e.stamp (omega arith)) (none (stopped (level_at (e ∷ p))))
  where
    none : (x : Bool) → clock p e.stamp ≡ clock p e.stamp + cond x 0 0
    none true = omega arith
    none false = omega arith
clock_on e p (suc j) =
    rw (add-suc, clock_suc (e ∷ p) (e.stamp + j), clock_on e p j, after_last e p (suc (e.stamp + j)) (omega arith)) (one (stopped (level_at (e ∷ p))))
  where
    one : (x : Bool) → clock p e.stamp + cond x 0 j + cond (not x) 1 0 ≡ clock p e.stamp + cond x 0 (suc j)
    one true = omega arith
    one false = omega arith

clock_start : (t : ℕ) → clock [] t ≡ t
clock_start zero = unfold clock counted_from in refl
clock_start (suc t) = clock_suc [] t ∙ rw (clock_start t) (unfold counts past_below level_at stopped in omega arith)

-- ---- from a cycle that no entry comes after
pub clock_up : (past : Past) (t u : ℕ) → t ≤ u → clock past t ≤ clock past u
clock_up past t u h = omega (arith, N_up past (suc t) (suc u) (omega arith), N_clock past t, N_clock past u)

pub clock_le : (past : Past) (t : ℕ) → clock past t ≤ t
clock_le past zero = unfold clock counted_from in omega arith
clock_le past (suc t) = omega (arith, clock_suc past t, clock_le past t, bit_le (counts past (suc t)))

pub clock_runs : (past : Past) (s j : ℕ) → last_cycle past ≤ s → clock past (s + j) ≡ clock past s + cond (stopped (level_at past)) 0 j
unfolding last_cycle
clock_runs [] s j h = rw (clock_start (s + j), clock_start s) (unfold level_at stopped in refl)
clock_runs (e ∷ p) s j h =
    let a : e.stamp + (s - e.stamp + j) ≡ s + j = omega arith in
    let b : e.stamp + (s - e.stamp) ≡ s = omega arith in
    let x : clock (e ∷ p) (s + j) ≡ clock p e.stamp + cond (stopped (level_at (e ∷ p))) 0 (s - e.stamp + j) = rw a at (clock_on e p (s - e.stamp + j)) in
    let y : clock (e ∷ p) s ≡ clock p e.stamp + cond (stopped (level_at (e ∷ p))) 0 (s - e.stamp) = rw b at (clock_on e p (s - e.stamp)) in
    x ∙ rw y (both (stopped (level_at (e ∷ p))))
  where
    both : (x : Bool) → clock p e.stamp + cond x 0 (s - e.stamp + j) ≡ clock p e.stamp + cond x 0 (s - e.stamp) + cond x 0 j
    both true = omega arith
    both false = omega arith

pub less_clock : (past : Past) (t : ℕ) (ss : List ℕ) → Less (suc t) ss → Less (suc (clock past t)) (map (clock past) ss)
unfolding Less
less_clock past t [] l = tt
less_clock past t (s ∷ ss) l = (omega (arith, clock_up past s t (omega (arith, l.0))), less_clock past t ss l.1)

-- ---- the first failing cycle
unfoldable pub relabel : (ℕ → ℕ) → Option (ℕ × ℕ) → Option (ℕ × ℕ)
relabel f none = none
relabel f (some x) = some (x.0, f x.1)

relabel_or : (f : ℕ → ℕ) (x y : Option (ℕ × ℕ)) → relabel f (or_else x y) ≡ or_else (relabel f x) (relabel f y)
unfolding relabel or_else
relabel_or f none y = refl
relabel_or f (some x) y = refl

pub relabel_failing : (f : ℕ → ℕ) (k : Terms) (s : Schedule) (z : ℤ) (last n t : ℕ) → relabel f (failing k s z last n t) ≡ failing k s z last n (f t)
unfolding failing relabel
relabel_failing f k s z last n t = go (le_z z (pos k.limit)) (leb (n - s.since last n) (k.gap * s.span n))
  where
    go : (x y : Bool) → relabel f (cond x (cond y none (some (k.gap_rule, t))) (some (k.limit_rule, t)))
        ≡ cond x (cond y none (some (k.gap_rule, f t))) (some (k.limit_rule, f t))
    go true true = refl
    go true false = refl
    go false y = refl

-- idle time that follows cycle t of the trace, at number n, from the same by numbers alone
pub idle_labelled : (k : Terms) (s : Schedule) (z : ℤ) (last n t j : ℕ) → first_idle k s z last n t j ≡ relabel (λ m. t + (m - n)) (first_idle k s z last n n j)
unfolding first_idle
idle_labelled k s z last n t zero = unfold relabel in refl
idle_labelled k s z last n t (suc j) =
    let e : t + (n + suc j - n) ≡ t + suc j = omega arith in
    rw (
      relabel_or (λ m. t + (m - n)) (first_idle k s z last n n j) (failing k s (idle k.credit s z n (suc j)) last (n + suc j) (n + suc j)),
      relabel_failing (λ m. t + (m - n)) k s (idle k.credit s z n (suc j)) last (n + suc j) (n + suc j),
      e,
      ← idle_labelled k s z last n t j,
    )
