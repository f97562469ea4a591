-- The private parts of the account: a beat and a ledger's numbers as the rules have them, what a check answers, and the first cycle that fails.
use Rattle.std.specs.Prelude.{ℕ, ◌+◌, ◌-◌, ◌≡◌, [], ◌∷◌, true, false, cond, leb, Option, Some, None, Result, Ok, Err}
use Rattle.std.proofs.Math.Option as math
use Rattle.std.proofs.Math.Option.{none}
use Rattle.rules.specs.Card.{Card}
use Rattle.rules.specs.Levels.{level_after, stopped}
use Rattle.rules.specs.Folds.{first_of}
use Rattle.rules.specs.Account as paper
use Rattle.rules.specs.Checks.{unless}
use Rattle.rules.specs.Checks as checks
use Rattle.rules.specs.Lent as lent
use Rattle.pins.specs.Values.{level_of}
use Rattle.ledger.specs.declared.Ledger.{Ledger}
use Rattle.ledger.specs.declared.Refusal.{Refusal}
use Rattle.ledger.specs.declared.After.{After}
use Rattle.ledger.specs.declared.beat.Beat.{Beat}
use Rattle.ledger.specs.declared.account.Account.{Account}
use Rattle.ledger.specs.declared.account.First.{First}
use Rattle.ledger.specs.Values.{ledger_of, refused_as, over_at, late_at, deadline_by, after_as}

abbrev pub beat_as : Beat → paper.Beat
beat_as b = record { next = b.next; span = b.span }

-- the number of the cycle where a ledger stands, and a later number as a cycle
abbrev pub number_in : Ledger → ℕ
number_in g = lent.number_of (ledger_of g)

abbrev pub cycle_in : Ledger → ℕ → ℕ
cycle_in g m = g.at + (m - number_in g)

-- refused as a check says, or a value of which this is true
abbrev pub Checked : {A : Type 0} → math.Option checks.Refusal → (A → Type 0) → Result A Refusal → Type 0
Checked o P (Ok x) = (o ≡ none) × P x
Checked o P (Err e) = o ≡ math.some (refused_as e)

-- the first cycle that fails, with its rule, where the cycles of the level are counted
pub record Failing (b : paper.Beat) (g : Ledger) (x : First) : Type 0 where
  pub runs : stopped (level_of g.level) ≡ false
  pub rule : x.rule ≡ cond (leb (over_at b (number_in g) g.owed) (late_at b.span (number_in g) g.since)) 19 20
  pub cycle : x.cycle ≡ deadline_by b g

abbrev pub FirstAs : paper.Beat → Ledger → Option First → Type 0
FirstAs b g None = stopped (level_of g.level) ≡ true
FirstAs b g (Some x) = Failing b g x

-- what an entry does where the ledger stands
unfoldable pub changed_by : lent.Effect → lent.Ledger → lent.Ledger
changed_by x g = lent.at_level (level_after x.move g.level) (lent.sensed_at x.sensed (lent.refreshed_at x.counted g))

-- the account of a ledger at a pace
pub record Opened (card : Card) (p : lent.Pace) (g : Ledger) (a : Account) : Type 0 where
  pub ledger : a.ledger ≡ g
  pub beat : beat_as a.beat ≡ lent.beat_of card p

-- 13, then 5
unfoldable pub admission : Card → lent.Ledger → ℕ → math.Option checks.Refusal
admission card g t = first_of (unless (lent.ledger_good card g) 13 ∷ unless (leb g.at t) 5 ∷ [])

-- what a caller is told
abbrev pub after_of : Ledger → Result Ledger Refusal → After
after_of g (Ok h) = after_as h (Ok tt)
after_of g (Err e) = after_as g (Err e)
