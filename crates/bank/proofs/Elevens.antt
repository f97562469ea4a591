-- The cycle of an 11: below a stamp, where it fails in the idle time up to it, and the stamp itself, where it fails at an entry.
use Prim.Native.Nat.{ℕ, zero, suc, ◌+◌, ◌*◌, ◌-◌, ◌≤◌, ◌<◌}
use mathlib.Core.Path.{◌≡◌, refl, ap, sym, ◌∙◌}
use mathlib.Core.Bool.{Bool, true, false, cond}
use mathlib.Core.List.{List, [], ◌∷◌, map}
use mathlib.Core.Option.{Option, none, some, some-injective}
use native.Mathlib.Omega.{arith}
use lib.Dec.{leb}
use lib.IntN.{ℤ, pos}
use lib.Signed.{le_z}
use Rattle.rules.specs.Whose.{parts}
use Rattle.rules.specs.Levels.{stopped}
use Rattle.rules.specs.Folds.{or_else, first_of}
use Rattle.rules.specs.Account.{Terms, lpddr3, Schedule, Beat, steady, failing, earlier, earliest, idle, first_idle}
use Rattle.rules.specs.Lent.{Ledger, Lent, beat_of, number_of, Effect, ledger_to, refreshed_at, sensed_at, at_level, entered, failing_of, failing_to, failings_to}
use Rattle.rules.proofs.Tests.{some_none}

abbrev pub Below : ℕ → Option (ℕ × ℕ) → Type 0
Below t o = (x : ℕ × ℕ) → o ≡ some x → x.1 < t

abbrev pub There : ℕ → Option (ℕ × ℕ) → Type 0
There t o = (x : ℕ × ℕ) → o ≡ some x → x.1 ≡ t

module _ (k : Terms) (s : Schedule) (z : ℤ) (last : ℕ) where
  failing_cycle : (n t : ℕ) → There t (failing k s z last n t)
  unfolding failing
  failing_cycle n t x e = go (le_z z (pos k.limit)) (leb (n - s.since last n) (k.gap * s.span n)) e
    where
      go : (a b : Bool) → cond a (cond b none (some (k.gap_rule, t))) (some (k.limit_rule, t)) ≡ some x → x.1 ≡ t
      go true true e = absurd (some_none e)
      go true false e = sym (ap (λ (y : ℕ × ℕ). y.1) (some-injective _ _ e))
      go false b e = sym (ap (λ (y : ℕ × ℕ). y.1) (some-injective _ _ e))

module _ (k : Terms) (s : Schedule) (z : ℤ) (last n t : ℕ) where
  idle_cycle_lem : (j : ℕ) (x : ℕ × ℕ) → first_idle k s z last n t j ≡ some x → (x.1 ≤ t + j) × (0 < j)
  unfolding first_idle or_else
  idle_cycle_lem zero x e = absurd (some_none e)
  idle_cycle_lem (suc j) x e = go (first_idle k s z last n t j) refl e (idle_cycle_lem j x)
    where
      go : (o : Option (ℕ × ℕ)) → first_idle k s z last n t j ≡ o → or_else o (failing k s (idle k.credit s z n (suc j)) last (n + suc j) (t + suc j)) ≡ some x →
          (first_idle k s z last n t j ≡ some x → (x.1 ≤ t + j) × (0 < j)) → (x.1 ≤ t + suc j) × (0 < suc j)
      go none m e ih = let h = failing_cycle k s (idle k.credit s z n (suc j)) last (n + suc j) (t + suc j) x e in omega arith
      go (some y) m e ih = let h = ih (m ∙ e) in omega arith

pub below_cycle : (b : Beat) (g : Ledger) (t : ℕ) → Below t (failing_to b g t)
unfolding failing_to
below_cycle b g t x e = go (stopped g.level) e
  where
    first : Option (ℕ × ℕ)
    first = first_idle lpddr3 (steady b) g.owing g.since (number_of g) g.at (t - suc g.at)

    go : (y : Bool) → cond y none first ≡ some x → x.1 < t
    go true h = absurd (some_none h)
    go false h = let l = idle_cycle_lem lpddr3 (steady b) g.owing g.since (number_of g) g.at (t - suc g.at) x h in omega arith

pub here_cycle : (x : Effect) (b : Beat) (g : Ledger) (t : ℕ) → There t (failing_of b (entered x b g t))
unfolding failing_of entered at_level
here_cycle x b g t y e = failing_cycle lpddr3 _ _ _ _ _ y e ∙ sensed_stays x.sensed (refreshed_at x.counted (ledger_to b g t)) ∙ stays x.counted
  where
    sensed_stays : (c : Bool) (h : Ledger) → (sensed_at c h).at ≡ h.at
    sensed_stays true h = unfold sensed_at in refl
    sensed_stays false h = unfold sensed_at in refl

    stays : (c : Bool) → (refreshed_at c (ledger_to b g t)).at ≡ t
    stays true = unfold refreshed_at ledger_to in refl
    stays false = unfold refreshed_at ledger_to in refl

-- ---- of every part
earlier_below : (t : ℕ) (o u : Option (ℕ × ℕ)) → Below t o → Below t u → Below t (earlier o u)
unfolding earlier
earlier_below t none u a b z e = b z e
earlier_below t (some x) none a b z e = a z e
earlier_below t (some x) (some y) a b z e = go (leb x.1 y.1) e
  where
    go : (w : Bool) → cond w (some x) (some y) ≡ some z → z.1 < t
    go true h = a z h
    go false h = b z h

first_there : (t : ℕ) (o u : Option (ℕ × ℕ)) → There t o → There t u → There t (or_else o u)
unfolding or_else
first_there t none u a b = b
first_there t (some x) u a b = a

module _ (t : ℕ) (f : ℕ → Option (ℕ × ℕ)) where
  earliest_below : ((p : ℕ) → Below t (f p)) → (ps : List ℕ) → Below t (earliest (map f ps))
  unfolding earliest
  earliest_below h [] x e = absurd (some_none e)
  earliest_below h (p ∷ ps) x e = earlier_below t (f p) (earliest (map f ps)) (h p) (earliest_below h ps) x e

  any_there : ((p : ℕ) → There t (f p)) → (ps : List ℕ) → There t (first_of (map f ps))
  unfolding first_of
  any_there h [] x e = absurd (some_none e)
  any_there h (p ∷ ps) x e = first_there t (f p) (first_of (map f ps)) (h p) (any_there h ps) x e

module _ (l : Lent) (t : ℕ) where
  abbrev beat : Beat
  beat = beat_of l.card l.pace

  pub below_any : Below t (failings_to l t)
  unfolding failings_to
  below_any = earliest_below t (λ p. failing_to beat (l.share p).ledger t) (λ p. below_cycle beat (l.share p).ledger t) (parts l.card)

  pub here_any : (x : ℕ → Effect) →
      There t (first_of (map (λ p. failing_of (beat_of l.card l.pace) (entered (x p) (beat_of l.card l.pace) (l.share p).ledger t)) (parts l.card)))
  here_any x = any_there t (λ p. failing_of beat (entered (x p) beat (l.share p).ledger t)) (λ p. here_cycle (x p) beat (l.share p).ledger t) (parts l.card)
