-- An entry's own cycle, as its promise says it.
use Prim.Native.Nat.{ℕ, ◌+◌, ◌-◌, ◌*◌, ◌≤◌, ◌<◌}
use mathlib.Core.Path.{◌≡◌, refl, ap, sym, ◌∙◌}
use mathlib.Core.Bool.{Bool, true, false, cond, ◌||◌}
use mathlib.Core.Option.{Option, none, some}
use native.Mathlib.Omega.{arith}
use lib.IntN.{sub_ℕ}
use borrow.Author.Tests.{le-leb, lt-leb}
use Rattle.rules.specs.Levels.{level_after}
use Rattle.rules.specs.Levels as levels
use Rattle.rules.specs.Account.{lpddr3, Beat, steady}
use Rattle.rules.specs.Folds.{or_else}
use Rattle.rules.specs.Checks.{named}
use Rattle.rules.specs.Checks as checks
use Rattle.rules.specs.Lent.{number_of, ledger_to, refreshed_at, sensed_at, at_level, failing_to, failing_of}
use Rattle.rules.specs.Lent as lent
use Rattle.rules.proofs.Biased.{take_biased, owing, failing_biased}
use Rattle.pins.specs.Values.{level_of, moved_of}
use Rattle.pins.specs.declared.Level.{Level}
use Rattle.ledger.specs.declared.Ledger.{Ledger}
use Rattle.ledger.specs.declared.Effect.{Effect}
use Rattle.ledger.specs.Values.{ledger_of, effect_of}
use Rattle.ledger.specs.Parts.{changed_by}

-- ---- what an entry does there
changes : (c s : Bool) (v : levels.Level) (g : Ledger) → at_level v (sensed_at s (refreshed_at c (ledger_of g)))
    ≡ record { at = g.at; owing = sub_ℕ (cond c (g.owed - 1) g.owed) 8; since = cond (c || s) (number_of (ledger_of g)) g.since; skipped = g.skipped; level = v }
unfolding at_level sensed_at refreshed_at number_of ledger_of lpddr3
changes true true v g = rw (take_biased 8 g.owed)
changes true false v g = rw (take_biased 8 g.owed)
changes false true v g = refl
changes false false v g = refl

-- as the code finds it
pub changed_so : (g : Ledger) (x : Effect) (o s : ℕ) (v : Level) → o ≡ cond x.counted (g.owed - 1) g.owed →
    s ≡ cond (x.counted || x.sensed) (number_of (ledger_of g)) g.since → level_of v ≡ level_after (moved_of x.moved) (level_of g.level) →
    ledger_of (record { at = g.at; owed = o; since = s; skipped = g.skipped; level = v }) ≡ changed_by (effect_of x) (ledger_of g)
changed_so g x o s v eo es ev = came ∙ sym (unfold changed_by effect_of ledger_of in changes x.counted x.sensed (level_after (moved_of x.moved) (level_of g.level)) g)
  where
    came : ledger_of (record { at = g.at; owed = o; since = s; skipped = g.skipped; level = v })
        ≡ record {
          at = g.at;
          owing = sub_ℕ (cond x.counted (g.owed - 1) g.owed) 8;
          since = cond (x.counted || x.sensed) (number_of (ledger_of g)) g.since;
          skipped = g.skipped;
          level = level_after (moved_of x.moved) (level_of g.level);
        }
    came = unfold ledger_of in λ i. record { at = g.at; owing = sub_ℕ (eo i) 8; since = es i; skipped = g.skipped; level = ev i }

-- an entry's own cycle, where the ledger came to it
pub entered_there : (x : lent.Effect) (b : Beat) (g : lent.Ledger) (t : ℕ) → changed_by x (ledger_to b g t) ≡ lent.entered x b g t
unfolding changed_by lent.entered ledger_to
entered_there x b g t = refl

-- ---- 19 and 20
module _ (h : Ledger) (b : Beat) where
  failing_here : failing_of b (ledger_of h) ≡ owing lpddr3 (steady b) h.owed h.since (number_of (ledger_of h)) h.at
  unfolding failing_of ledger_of lpddr3
  failing_here = failing_biased lpddr3 (steady b) h.owed h.since (number_of (ledger_of h)) h.at

  pub fails_19 : 16 < h.owed → failing_of b (ledger_of h) ≡ some (19, h.at)
  unfolding owing lpddr3
  fails_19 a = failing_here ∙ (rw (lt-leb h.owed 16 a))

  pub fails_20 : h.owed ≤ 16 → h.since + 9 * b.span < number_of (ledger_of h) → failing_of b (ledger_of h) ≡ some (20, h.at)
  unfolding owing lpddr3
  fails_20 a l = failing_here ∙ (rw (le-leb h.owed 16 a, lt-leb (number_of (ledger_of h) - h.since) (9 * b.span) (omega arith)))

  pub fails_not : h.owed ≤ 16 → number_of (ledger_of h) ≤ h.since + 9 * b.span → failing_of b (ledger_of h) ≡ none
  unfolding owing lpddr3
  fails_not a l = failing_here ∙ (rw (le-leb h.owed 16 a, le-leb (number_of (ledger_of h) - h.since) (9 * b.span) (omega arith)))

-- ---- below the stamp, and at it
module _ (x : lent.Effect) (b : Beat) (g : lent.Ledger) (t : ℕ) where
  abbrev below : Option checks.Refusal
  below = named 11 (failing_to b g t)

  abbrev at_it : Option checks.Refusal
  at_it = named 11 (failing_of b (lent.entered x b g t))

  pub below_so : (u : ℕ) (y : checks.Refusal) → u ≡ t → named 11 (failing_to b g u) ≡ some y → or_else below at_it ≡ some y
  unfolding or_else
  below_so u y s e = rw (rw s at e)

  module _ (r h : Ledger) (er : ledger_of r ≡ ledger_to b g t) (eh : ledger_of h ≡ changed_by x (ledger_of r)) where
    pub there_so : ledger_of h ≡ lent.entered x b g t
    there_so = eh ∙ ap (changed_by x) er ∙ entered_there x b g t

    pub here_so : (u : ℕ) → u ≡ t → named 11 (failing_to b g u) ≡ none → or_else below at_it ≡ named 11 (failing_of b (ledger_of h))
    unfolding or_else
    here_so u s e = rw (rw s at e, there_so)
