-- The refresh account (document 01, "The refresh account"): the ledger, cycle by cycle, as a signed number, and rules 19 and 20. It runs over counted
-- cycles, which have numbers from 0 on; a book says which number a cycle of the trace has.
use Rattle.std.specs.Prelude.{ℕ, zero, suc, ◌+◌, ◌*◌, ◌-◌, ◌/◌, ◌%◌, min, max, Bool, false, cond, List, [], ◌∷◌, map, leb, ltb, eqb, ℤ, pos, neg_ℤ}
use Rattle.std.proofs.Math.Option.{Option, none, some}
use Rattle.std.proofs.Math.IntN.{suc_ℤ, pred_ℤ}
use Rattle.std.specs.Int.Signed.{lt_z, le_z}
use Rattle.rules.specs.Lists.{is_one_of}
use Rattle.rules.specs.Folds.{or_else, first_of}

-- what a family fixes: the ledger is at most `limit` and never below minus `credit`; at most `gap` intervals pass from one counted refresh to the next;
-- and the numbers of the two rules
pub record Terms : Type 0 where
  pub limit : ℕ
  pub credit : ℕ
  pub gap : ℕ
  pub limit_rule : ℕ
  pub gap_rule : ℕ

unfoldable pub lpddr3 : Terms
lpddr3 = record { limit = 8; credit = 8; gap = 9; limit_rule = 19; gap_rule = 20 }

-- when refreshes are due: at which numbers; the interval in force at a number; and the number since which the gap counts there, the last counted refresh
-- being at number `last`
pub record Schedule : Type 0 where
  pub due : ℕ → Bool
  pub span : ℕ → ℕ
  pub since : (last n : ℕ) → ℕ

-- a positive multiple of I
unfoldable pub is_due : ℕ → ℕ → Bool
is_due I zero = false
is_due I (suc n) = eqb (suc n % I) 0

-- dues at number `next` and every `span` after it
pub record Beat : Type 0 where
  pub next : ℕ
  pub span : ℕ

-- the positive multiples of I
unfoldable pub every : ℕ → Beat
every I = record { next = I; span = I }

-- a due is at number n
unfoldable pub on_beat : Beat → ℕ → Bool
on_beat b n = is_due b.span (n + b.span - b.next)

-- how many are at numbers up to n, and the first after it
unfoldable pub fallen : Beat → ℕ → ℕ
fallen b n = (n + b.span - b.next) / b.span

unfoldable pub next_after : Beat → ℕ → ℕ
next_after b n = b.next + fallen b n * b.span

-- one beat throughout, and the gap counts from the last counted refresh
abbrev pub steady : Beat → Schedule
steady b = record { due = on_beat b; span = λ n. b.span; since = λ last n. last }

-- ---- another interval from number n on (document 02, Eleven)
-- n is due by the old beat; then the next due is the earlier of the old next one and one new interval after n
unfoldable pub respaced : Beat → (n I : ℕ) → Beat
respaced b n I = record { next = min (next_after b n) (n + I); span = I }

-- the dues after n are those of the new beat b; from n on its interval is in force, and the gap counts from n at the earliest
unfoldable pub replaced : Schedule → (n : ℕ) → Beat → Schedule
replaced s n b = record {
  due = λ m. cond (leb m n) (s.due m) (on_beat b m);
  span = λ m. cond (ltb m n) (s.span m) b.span;
  since = λ last m. cond (ltb m n) (s.since last m) (max last n);
}

-- a counted refresh takes 1, not below minus the credit
unfoldable pub take_one : ℕ → ℤ → ℤ
take_one credit z = cond (lt_z (neg_ℤ (pos credit)) z) (pred_ℤ z) z

-- number n: what is due adds 1; then a counted refresh takes 1
unfoldable pub cycle : ℕ → Schedule → (counted : Bool) → (n : ℕ) → ℤ → ℤ
cycle credit s counted n z =
    let added = cond (s.due n) (suc_ℤ z) z in
    cond counted (take_one credit added) added

-- the ledger before number n, that is after all below it; cs are the numbers of the counted refreshes, the newest first
unfoldable pub ledger_before : ℕ → Schedule → List ℕ → ℕ → ℤ
ledger_before credit s cs zero = pos 0
ledger_before credit s cs (suc n) = cycle credit s (is_one_of cs n) n (ledger_before credit s cs n)

-- after number n
unfoldable pub ledger_after : ℕ → Schedule → List ℕ → ℕ → ℤ
ledger_after credit s cs n = ledger_before credit s cs (suc n)

-- the last counted refresh not after n, or 0
unfoldable pub last_counted : List ℕ → ℕ → ℕ
last_counted [] n = 0
last_counted (c ∷ cs) n = cond (leb c n) c (last_counted cs n)

-- the rule that fails after number n, with cycle t of the trace, where the ledger is z and the last counted refresh was at number `last`: 19 is named
-- where both do
unfoldable pub failing : Terms → Schedule → ℤ → (last n t : ℕ) → Option (ℕ × ℕ)
failing k s z last n t =
    cond (le_z z (pos k.limit)) (cond (leb (n - s.since last n) (k.gap * s.span n)) none (some (k.gap_rule, t))) (some (k.limit_rule, t))

-- ---- over the cycles of a trace
-- when refreshes are due, the number of each cycle (an uncounted one has that of the counted one before it), and those of the counted refreshes
pub record Book : Type 0 where
  pub schedule : Schedule
  pub clock : ℕ → ℕ
  pub refreshes : List ℕ

-- after cycle t
unfoldable pub ledger_on : ℕ → Book → ℕ → ℤ
ledger_on credit b t = ledger_after credit b.schedule b.refreshes (b.clock t)

unfoldable pub last_on : Book → ℕ → ℕ
last_on b t = last_counted b.refreshes (b.clock t)

-- the number since which the gap counts
unfoldable pub since_on : Book → ℕ → ℕ
since_on b t = b.schedule.since (last_on b t) (b.clock t)

unfoldable pub failing_on : Terms → Book → ℕ → Option (ℕ × ℕ)
failing_on k b t = failing k b.schedule (ledger_on k.credit b t) (last_on b t) (b.clock t) t

-- the first cycle below t at which one of the two rules fails, with the rule
unfoldable pub first_on : Terms → Book → ℕ → Option (ℕ × ℕ)
first_on k b zero = none
first_on k b (suc t) = or_else (first_on k b t) (failing_on k b t)

-- ---- over several books: at one cycle the first that fails is named
unfoldable pub failing_in : Terms → List Book → ℕ → Option (ℕ × ℕ)
failing_in k bs t = first_of (map (λ b. failing_on k b t) bs)

unfoldable pub first_in : Terms → List Book → ℕ → Option (ℕ × ℕ)
first_in k bs zero = none
first_in k bs (suc t) = or_else (first_in k bs t) (failing_in k bs t)

-- the one with the lower cycle; at one cycle the first
unfoldable pub earlier : Option (ℕ × ℕ) → Option (ℕ × ℕ) → Option (ℕ × ℕ)
earlier none y = y
earlier (some x) none = some x
earlier (some x) (some y) = cond (leb x.1 y.1) (some x) (some y)

unfoldable pub earliest : List (Option (ℕ × ℕ)) → Option (ℕ × ℕ)
earliest [] = none
earliest (x ∷ xs) = earlier x (earliest xs)

-- ---- idle time
-- the ledger z stands as after number n; j counted cycles later, with no counted refresh since
unfoldable pub idle : (credit : ℕ) → Schedule → ℤ → (n j : ℕ) → ℤ
idle credit s z n zero = z
idle credit s z n (suc j) = cycle credit s false (n + suc j) (idle credit s z n j)

-- the first of these j cycles, which follow cycle t of the trace, at which one of the two rules fails, with the rule
unfoldable pub first_idle : Terms → Schedule → ℤ → (last n t j : ℕ) → Option (ℕ × ℕ)
first_idle k s z last n t zero = none
first_idle k s z last n t (suc j) =
    or_else (first_idle k s z last n t j) (failing k s (idle k.credit s z n (suc j)) last (n + suc j) (t + suc j))
