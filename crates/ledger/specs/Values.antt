-- The types of the code, read as the values of the rules.
use Rattle.std.specs.Prelude.{ℕ, ◌+◌, ◌-◌, ◌*◌, max, min, ◌≡◌, Bool, true, false, cond, not, ◌&&◌, ℤ, pos, negsuc, Result, Ok, Err}
use Rattle.std.proofs.Math.Option.{Option, none, some}
use Rattle.std.proofs.Math.IntN.{sub_ℕ}
use Rattle.rules.specs.Checks.{refusal}
use Rattle.rules.specs.Checks as checks
use Rattle.rules.specs.Levels.{stopped}
use Rattle.rules.specs.Levels as levels
use Rattle.rules.specs.Account.{Beat, next_after}
use Rattle.rules.specs.Lent.{number_of, beat_of, ledger_good}
use Rattle.rules.specs.Lent as lent
use Rattle.card.specs.Values.{card_of}
use Rattle.card.specs.declared.Card.{Card}
use Rattle.pins.specs.Values.{level_of, moved_of}
use Rattle.pins.specs.declared.Level.{Level}
use Rattle.pins.specs.declared.Level.TheVariants.{Awake, PowerDown, SelfRefresh, Deep}
use Rattle.ledger.specs.declared.Ledger.{Ledger}
use Rattle.ledger.specs.declared.Pace.{Pace}
use Rattle.ledger.specs.declared.Effect.{Effect}
use Rattle.ledger.specs.declared.Refusal.{Refusal}
use Rattle.ledger.specs.declared.Refusal.TheVariants.{BadRecord, Earlier, Overdue}
use Rattle.ledger.specs.declared.After.{After}
unfoldable pub use Rattle.card.specs.Reading.{unless_refused}

unfoldable pub ledger_of : Ledger → lent.Ledger
ledger_of g = record { at = g.at; owing = sub_ℕ g.owed 8; since = g.since; skipped = g.skipped; level = level_of g.level }

unfoldable pub pace_of : Pace → lent.Pace
pace_of p = record { next = p.next; mr4 = p.mr4 }

unfoldable pub effect_of : Effect → lent.Effect
effect_of x = record { counted = x.counted; sensed = x.sensed; move = moved_of x.moved }

-- and back: the number as it is stored, and the level
unfoldable pub stored : ℤ → ℕ
stored (pos n) = 8 + n
stored (negsuc n) = 7 - n

unfoldable pub level_in : levels.Level → Level
level_in levels.awake = Awake
level_in levels.power_down = PowerDown
level_in levels.self_refresh = SelfRefresh
level_in levels.deep = Deep

unfoldable pub code_of : lent.Ledger → Ledger
code_of g = record { at = g.at; owed = stored g.owing; since = g.since; skipped = g.skipped; level = level_in g.level }

unfoldable pub pace_in : lent.Pace → Pace
pace_in p = record { next = p.next; mr4 = p.mr4 }

-- document 01's numbers of each case
abbrev pub refused_as : Refusal → checks.Refusal
refused_as BadRecord = refusal 13 0 0
refused_as Earlier = refusal 5 0 0
refused_as (Overdue q t) = refusal 11 q t

unfoldable pub refusal_of : Result (Unit {0}) Refusal → Option checks.Refusal
refusal_of (Ok x) = none
refusal_of (Err e) = some (refused_as e)

unfoldable pub is_none : Option checks.Refusal → Bool
is_none none = true
is_none (some x) = false

abbrev pub after_as : Ledger → Result (Unit {0}) Refusal → After
after_as g a = record { ledger = g; answer = a }

-- this refusal, or none, is told, and the ledger then is the new one, or on a refusal the old one
pub record Left (o : Option checks.Refusal) (old new : lent.Ledger) (r : After) : Type 0 where
  pub told : refusal_of r.answer ≡ o
  pub ledger : ledger_of r.ledger ≡ unless_refused o old new

-- ---- idle time in closed form, over the numbers of the counted cycles
-- the first numbers after n at which 19 and 20 fail with no counted refresh
abbrev pub over_at : Beat → (n owed : ℕ) → ℕ
over_at b n owed = next_after b n + (16 - owed) * b.span

abbrev pub late_at : (span n since : ℕ) → ℕ
late_at span n since = max (n + 1) (since + 9 * span + 1)

abbrev pub closed_at : Beat → (n owed since : ℕ) → ℕ
closed_at b n owed since = min (over_at b n owed) (late_at b.span n since)

-- as a cycle of the trace: as far after the ledger's cycle as that number is after the number of this cycle
unfoldable pub deadline_by : Beat → Ledger → ℕ
deadline_by b g = let n = number_of (ledger_of g) in g.at + (closed_at b n g.owed g.since - n)

-- the first cycle at which one of them does; 0 where 13 refuses the ledger or its card, or the cycles of its level are not counted
unfoldable pub deadline_of : Card → Pace → Ledger → ℕ
deadline_of card p g =
    cond (ledger_good (card_of card) (ledger_of g) && not (stopped (level_of g.level))) (deadline_by (beat_of (card_of card) (pace_of p)) g) 0
