-- The end offered to a record goes by the ledgers that are moved on to it.
use Prim.Native.Nat.{ℕ}
use mathlib.Core.Path.{◌≡◌, subst, ◌∙◌}
use mathlib.Core.Bool.{true, false}
use mathlib.Core.Option.{Option}
use Rattle.std.specs.Prelude.{Err}
use Rattle.rules.specs.Lists.{all}
use Rattle.rules.specs.Whose.{parts}
use Rattle.rules.specs.Folds.{or_else, first_of}
use Rattle.rules.specs.Checks.{Refusal, unless}
use Rattle.rules.specs.Lent.{Lent, has_part, lent_good, last_by, ledger_good, close_refusal, move_refusal, moved_on}
use Rattle.rules.proofs.Filtered.{all_parts}
use Rattle.rules.proofs.Sound.{ledger_good_lem}
use Rattle.card.specs.Values.{card_of}
use Rattle.ledger.specs.declared.Refusal.TheVariants.{BadRecord, Earlier}
use Rattle.ledger.specs.Values.{ledger_of, pace_of, refusal_of, unless_refused}
use Rattle.bank.specs.declared.Ledgers.{Ledgers}
use Rattle.bank.specs.declared.Paid.{Paid}
use Rattle.bank.specs.declared.Record.{Record}
use Rattle.bank.specs.Values.{last_of, share_of, share_in, lent_of}
use Rattle.bank.specs.Both.{ledgers_in, paid_as, told_of, second_of, LeftBoth, PaidBy, ClosedAs}
use Rattle.bank.proofs.Accounts.{told_moved}

-- 13 of a record that it lets pass lets each ledger pass
pub ledgers_good : (l : Lent) → lent_good l ≡ true → all (λ p. ledger_good l.card (l.share p).ledger) (parts l.card) ≡ true
unfolding has_part
ledgers_good l e = all_parts (λ p. ledger_good l.card (l.share p).ledger) (parts l.card) (λ p i. ledger_good_lem l e p i)

as_moved : (l : Lent) (end : ℕ) → lent_good l ≡ true → last_by l.last end ≡ true →
    told_of l.card.paired (move_refusal l.card l.pace (l.share 0).ledger end) (move_refusal l.card l.pace (l.share 1).ledger end) ≡ close_refusal l end
unfolding close_refusal
as_moved l end e f = told_moved l end ∙ rw (e, f, ledgers_good l e)

module _ (r : Record) (end : ℕ) where
  pub bad : lent_good (lent_of r) ≡ false → ClosedAs r end (paid_as (ledgers_in r) (Err BadRecord))
  unfolding close_refusal first_of or_else unless refusal_of unless_refused
  bad e = record { told = rw e; first = rw e; second = rw e }

  pub early : lent_good (lent_of r) ≡ true → last_by (last_of r.last) end ≡ false → ClosedAs r end (paid_as (ledgers_in r) (Err Earlier))
  unfolding lent_of close_refusal first_of or_else unless refusal_of unless_refused
  early e f = record { told = rw (e, f); first = rw (e, f); second = rw (e, f) }

  told_so : lent_good (lent_of r) ≡ true → last_by (last_of r.last) end ≡ true →
      told_of r.card.paired (move_refusal (card_of r.card) (pace_of r.pace) (ledger_of r.first.ledger) end) (move_refusal (card_of r.card) (pace_of r.pace) (ledger_of r.second.ledger) end)
      ≡ close_refusal (lent_of r) end
  unfolding lent_of share_in share_of card_of
  told_so e f = as_moved (lent_of r) end e f

  abbrev Moves : (old : Ledgers) → (o : Option Refusal) → Paid → Type 0
  Moves old o a =
      LeftBoth o old (moved_on (card_of r.card) (pace_of r.pace) (ledger_of old.first) end)
      (second_of r.card.paired old (moved_on (card_of r.card) (pace_of r.pace) (ledger_of old.second) end)) a

  pub moved_on_lem : lent_good (lent_of r) ≡ true → last_by (last_of r.last) end ≡ true → (old : Ledgers) → old ≡ ledgers_in r → (a : Paid) →
      PaidBy r.card.paired (move_refusal (card_of r.card) (pace_of r.pace) (ledger_of old.first) end)
      (move_refusal (card_of r.card) (pace_of r.pace) (ledger_of old.second) end)
      old (moved_on (card_of r.card) (pace_of r.pace) (ledger_of old.first) end) (moved_on (card_of r.card) (pace_of r.pace) (ledger_of old.second) end) a →
      ClosedAs r end a
  unfolding ledgers_in
  moved_on_lem e f old h a p = subst (λ (o : Option Refusal). Moves (ledgers_in r) o a) (told_so e f) (rw h at p)
