-- The verdict of a whole file, field by field, each refusal with its offset (document 01, "What comes back").
use Rattle.std.specs.Prelude.{ℕ, zero, suc, ◌+◌, Bool, true, false, cond, List, [], ◌∷◌, eqb, ℤ, length}
use Rattle.std.proofs.Math.Option.{Option, none, some}
use Rattle.rules.specs.Past.{Past, command_count}
use Rattle.rules.specs.Entries.{past_with}
use Rattle.rules.specs.Checks.{Refusal, entry_refusal, end_refusal}
use Rattle.rules.specs.Verdict.{refresh_count, ledgers_at}
use Rattle.rules.specs.Form.{Field, size_of, of_entry, Head, whole, cut, bad_tag, bad_length, head_of, card_of, field_good, entry_of, end_of}

-- four numbers of a refusal, or entries other than NOP, counted refreshes and each part's ledger at E
pub data FileVerdict : Type 0 where
  accepted : (commands refreshes : ℕ) (ledgers : List ℤ) → FileVerdict
  refused : (number rule offset cycle : ℕ) → FileVerdict

-- what one field does: the file goes on behind it, or ends with a verdict
pub data Step : Type 0 where
  goes_on : List Field → Past → (offset : ℕ) → (rest : List ℕ) → Step
  ends : FileVerdict → Step

-- unless it is refused
unfoldable pub or_refused : (offset : ℕ) → Option Refusal → Step → Step
or_refused at none s = s
or_refused at (some x) s = ends (refused x.number x.rule at x.cycle)

unfoldable pub card_step : List Field → Past → ℕ → Field → List ℕ → Step
card_step fs past at f rest = cond (field_good fs f) (goes_on (f ∷ fs) past (at + size_of f) rest) (ends (refused 4 0 at 0))

unfoldable pub entry_step : List Field → Past → ℕ → Field → List ℕ → Step
entry_step fs past at f rest =
    or_refused at (entry_refusal (card_of fs) past (entry_of f)) (goes_on fs (past_with (card_of fs) past (entry_of f)) (at + size_of f) rest)

unfoldable pub accepted_at : List Field → Past → ℕ → FileVerdict
accepted_at fs past end = accepted (command_count past) (refresh_count (card_of fs) past) (ledgers_at (card_of fs) past end)

-- bytes behind the end field are 12, at the first of them
unfoldable pub closing : FileVerdict → ℕ → List ℕ → Step
closing v behind [] = ends v
closing v behind (b ∷ bs) = ends (refused 12 0 behind 0)

unfoldable pub end_step : List Field → Past → ℕ → Field → List ℕ → Step
end_step fs past at f rest =
    or_refused at (end_refusal (card_of fs) past (end_of f)) (closing (accepted_at fs past (end_of f)) (at + size_of f) rest)

unfoldable pub by_head : List Field → Past → ℕ → Head → Step
by_head fs past at cut = ends (refused 1 0 at 0)
by_head fs past at (bad_tag x) = ends (refused x.number x.rule at x.cycle)
by_head fs past at bad_length = ends (refused 3 0 at 0)
by_head fs past at (whole f rest) =
    cond (of_entry f.tag) (entry_step fs past at f rest)
    (cond (eqb f.tag 33) (end_step fs past at f rest) (card_step fs past at f rest))

-- an entry has come
unfoldable pub begun : Past → Bool
begun [] = false
begun (e ∷ t) = true

unfoldable pub step_of : List Field → Past → ℕ → List ℕ → Step
step_of fs past at bs = by_head fs past at (head_of (begun past) fs bs)

-- the entries that were taken, and the verdict
pub record Judged : Type 0 where
  pub past : Past
  pub verdict : FileVerdict

-- at most k fields; a file has fewer fields than bytes, so the count never runs out
unfoldable pub file_from : ℕ → List Field → Past → ℕ → List ℕ → Judged
file_from zero fs past at bs = record { past = past; verdict = refused 1 0 at 0 }
file_from (suc k) fs past at bs =
    elim (step_of fs past at bs) [ goes_on fs' past' at' rest ↦ file_from k fs' past' at' rest | ends v ↦ record { past = past; verdict = v } ]

unfoldable pub judged : List ℕ → Judged
judged bs = file_from (suc (length bs)) [] [] 0 bs

unfoldable pub judge_file : List ℕ → FileVerdict
judge_file bs = (judged bs).verdict
