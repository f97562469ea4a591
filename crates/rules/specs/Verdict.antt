-- The verdict over a list of entries and an end (document 01, "What comes back").
use Rattle.std.specs.Prelude.{ℕ, suc, ◌+◌, List, [], ◌∷◌, map, ℤ, length}
use Rattle.std.proofs.Math.Option.{Option, none, some}
use Rattle.rules.specs.Card.{Card}
use Rattle.rules.specs.Whose.{parts}
use Rattle.rules.specs.Past.{Past, of_part, counted_stamps, command_count}
use Rattle.rules.specs.Entries.{Entry, past_with}
use Rattle.rules.specs.Account.{lpddr3, ledger_on}
use Rattle.rules.specs.Clock.{books_of}
use Rattle.rules.specs.Checks.{Refusal, entry_refusal, end_refusal}

-- accepted: entries other than NOP, counted refreshes, each part's ledger at E; refused: at the entry with this index, or at the end behind them all
pub data Verdict : Type 0 where
  accepted : (commands refreshes : ℕ) (ledgers : List ℤ) → Verdict
  refused : Refusal → (place : ℕ) → Verdict

-- over all parts
unfoldable pub sum : List ℕ → ℕ
sum [] = 0
sum (n ∷ ns) = n + sum ns

unfoldable pub refresh_count : Card → Past → ℕ
refresh_count card past = sum (map (λ p. length (counted_stamps (of_part p past))) (parts card))

unfoldable pub ledgers_at : Card → Past → ℕ → List ℤ
ledgers_at card past end = map (λ b. ledger_on lpddr3.credit b end) (books_of card past)

unfoldable pub at_end : Card → Past → (place end : ℕ) → Option Refusal → Verdict
at_end card past k end none = accepted (command_count past) (refresh_count card past) (ledgers_at card past end)
at_end card past k end (some x) = refused x k

-- the entries that were taken, their number, and the entries yet to come
unfoldable pub judge_from : Card → Past → ℕ → List Entry → ℕ → Verdict
judge_from card past k [] end = at_end card past k end (end_refusal card past end)
judge_from card past k (e ∷ es) end =
    elim (entry_refusal card past e) [ none ↦ judge_from card (past_with card past e) (suc k) es end | some x ↦ refused x k ]

unfoldable pub judge : Card → List Entry → ℕ → Verdict
judge card es end = judge_from card [] 0 es end
