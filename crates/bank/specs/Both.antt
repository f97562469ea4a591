-- The ledgers of both parts: what is answered of them, and what they are then.
use Rattle.std.specs.Prelude.{ℕ, ◌+◌, ◌≡◌, Bool, true, false, cond, ltb, eqb, Result}
use Rattle.std.proofs.Math.Option.{Option, none, some}
use Rattle.rules.specs.Whose.{Whose, is_of}
use Rattle.rules.specs.Checks as checks
use Rattle.rules.specs.Lent as lent
use Rattle.rules.specs.Lent.{beat_of, no_effect, enter_refusal, entered, moved_on, close_refusal}
use Rattle.card.specs.Values.{card_of}
use Rattle.card.specs.declared.Card.{Card}
use Rattle.ledger.specs.Values.{ledger_of, pace_of, refusal_of, unless_refused, Left}
use Rattle.ledger.specs.declared.Ledger.{Ledger}
use Rattle.ledger.specs.declared.Pace.{Pace}
use Rattle.ledger.specs.declared.Refusal.{Refusal}
use Rattle.ledger.specs.declared.After.{After}
use Rattle.bank.specs.declared.Ledgers.{Ledgers}
use Rattle.bank.specs.declared.Paid.{Paid}
use Rattle.bank.specs.declared.Record.{Record}
use Rattle.bank.specs.Values.{lent_of}

abbrev pub ledgers_as : (first second : Ledger) → Ledgers
ledgers_as g h = record { first = g; second = h }

unfoldable pub ledgers_in : Record → Ledgers
ledgers_in r = ledgers_as r.first.ledger r.second.ledger

abbrev pub paid_as : Ledgers → Result (Unit {0}) Refusal → Paid
paid_as g a = record { ledgers = g; answer = a }

-- how early a refusal by an account comes: 13, then 5, then 11 by its cycle
unfoldable pub place_of : checks.Refusal → ℕ
place_of x = cond (eqb x.number 13) 0 (cond (eqb x.number 5) 1 (2 + x.cycle))

unfoldable pub comes_before : Option checks.Refusal → Option checks.Refusal → Bool
comes_before none y = false
comes_before (some x) none = true
comes_before (some x) (some y) = ltb (place_of x) (place_of y)

-- where both come at once the first is told
unfoldable pub sooner_of : Option checks.Refusal → Option checks.Refusal → Option checks.Refusal
sooner_of x y = cond (comes_before y x) y x

-- of the second part only where it is there
unfoldable pub told_of : (paired : Bool) → Option checks.Refusal → Option checks.Refusal → Option checks.Refusal
told_of paired x y = cond paired (sooner_of x y) x

-- this refusal, or none, is told, and the ledgers then are the new ones, or on a refusal the old ones
pub record LeftBoth (o : Option checks.Refusal) (old : Ledgers) (g h : lent.Ledger) (r : Paid) : Type 0 where
  pub told : refusal_of r.answer ≡ o
  pub first : ledger_of r.ledgers.first ≡ unless_refused o (ledger_of old.first) g
  pub second : ledger_of r.ledgers.second ≡ unless_refused o (ledger_of old.second) h

-- that of a part which is not there stays
unfoldable pub second_of : (paired : Bool) → Ledgers → lent.Ledger → lent.Ledger
second_of paired old h = cond paired h (ledger_of old.second)

-- x and y are what the two ledgers' accounts are refused with
abbrev pub PaidBy : (paired : Bool) → (x y : Option checks.Refusal) → (old : Ledgers) → (g h : lent.Ledger) → Paid → Type 0
PaidBy paired x y old g h r = LeftBoth (told_of paired x y) old g (second_of paired old h) r

abbrev pub alone_as : Ledgers → After → Paid
alone_as old a = paid_as (ledgers_as a.ledger old.second) a.answer

pub record JoinedAs (old : Ledgers) (a b : After) (r : Paid) : Type 0 where
  pub told : refusal_of r.answer ≡ sooner_of (refusal_of a.answer) (refusal_of b.answer)
  pub ledgers : r.ledgers ≡ unless_refused (sooner_of (refusal_of a.answer) (refusal_of b.answer)) old (ledgers_as a.ledger b.ledger)

-- ---- an entry's own cycle: an entry does nothing to a part whose own it is not
unfoldable pub effect_for : (own : Bool) → lent.Effect → lent.Effect
effect_for own x = cond own x no_effect

module _ (own : Bool) (x : lent.Effect) (pace : Pace) (card : Card) (g : lent.Ledger) (t : ℕ) where
  abbrev pub entered_for : lent.Ledger
  entered_for = entered (effect_for own x) (beat_of (card_of card) (pace_of pace)) g t

  abbrev pub refused_for : Option checks.Refusal
  refused_for = enter_refusal (effect_for own x) (card_of card) (pace_of pace) g t

abbrev pub EnteredOn : (own : Bool) → Ledger → Pace → Card → (stamp : ℕ) → lent.Effect → After → Type 0
EnteredOn own g pace card t x r = Left (refused_for own x pace card (ledger_of g) t) (ledger_of g) (entered_for own x pace card (ledger_of g) t) r

abbrev pub EnteredBoth : Ledgers → Pace → Card → Whose → (stamp : ℕ) → lent.Effect → Paid → Type 0
EnteredBoth gs pace card w t x r =
    let g = ledger_of gs.first in
    let h = ledger_of gs.second in
    PaidBy card.paired (refused_for (is_of 0 w) x pace card g t) (refused_for (is_of 1 w) x pace card h t) gs (entered_for (is_of 0 w) x pace card g t)
    (entered_for (is_of 1 w) x pace card h t) r

-- ---- the end
abbrev pub ClosedAs : Record → (end : ℕ) → Paid → Type 0
ClosedAs rec end r =
    let old = ledgers_in rec in
    let card = card_of rec.card in
    let pace = pace_of rec.pace in
    LeftBoth (close_refusal (lent_of rec) end) old (moved_on card pace (ledger_of rec.first.ledger) end)
    (second_of rec.card.paired old (moved_on card pace (ledger_of rec.second.ledger) end)) r
