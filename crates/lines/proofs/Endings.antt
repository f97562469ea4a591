-- The commonest commands by their kinds, and what their lines have behind the stamp.
use Rattle.std.proofs.Common.{◌≡◌, ℕ, zero, suc, ◌+◌, ◌-◌, ◌*◌, ◌/◌, ◌%◌, ◌<◌, ◌≤◌, Bool, true, false, [], ◌∷◌, refl, ◌∙◌, arith, eq-eqb, le-leb}
use lib.ListN.{get_or-eq_default}
use borrow.Author.Tests.{lt-leb}
use Rattle.rules.specs.Commands.{Command, Kind, NOP, MRW, MRR, REFPB, REFAB, ACT, RD, WR, PRE, PREA, RESERVED, code, is, kind_of, carries, bare, bank_of, ap_of}
use Rattle.rules.specs.Past.{bank_at}
use Rattle.rules.specs.Bits.{bits, on}
use Rattle.rules.specs.Pins.{kind_at, of_kind, decode}
use Rattle.rules.specs.Levels.{plain, awake, rises_from, read_at, read_pins, read_as}
use Rattle.rules.specs.Entries as entries
use Rattle.rules.specs.Lines.{name_of, shows_bank, decimal}
use Rattle.pins.specs.Counter.{counter_on}
use Rattle.pins.proofs.Codes.{by_edge}
use Rattle.pins.proofs.Places.{gathers}
use Rattle.std.specs.Prelude.{Option, None, Some, IfSome}
use Rattle.lines.specs.declared.tails.Tail.{Tail}
use Rattle.lines.specs.Quick.{tails, tail_at, TailGood, TailOn}
use Rattle.lines.proofs.Decimals.{one_digit}

-- ---- the table of tails
below : (k : ℕ) → k < 10 → None ≡ tail_at k
unfolding tail_at
below k h = rw (lt-leb 10 k h)

beyond : (k : ℕ) → 18 ≤ k → None ≡ tail_at k
unfolding tail_at
beyond k h = rw (le-leb 10 k (omega arith), get_or-eq_default tails None {n = k - 10} (omega arith))

-- ---- what the tails say
bank_digit : (b : ℕ) → b < 8 → decimal b ≡ (48 + b) ∷ []
bank_digit b h = let e : b % 10 ≡ b = omega arith in rw e at (one_digit b (omega arith))

-- the tail of this key, if any, is that of this command
abbrev Says : (k digit : ℕ) → Command → Type 0
Says k digit c = IfSome (tail_at k) (λ t. TailGood c t digit)

no_key : (k digit : ℕ) (c : Command) → None ≡ tail_at k → Says k digit c
no_key k digit c e = rw (← e) tt

early : (k a digit : ℕ) (c : Command) → k ≤ 4 → a < 2 → Says (2 * k + a) digit c
early k a digit c h l = no_key (2 * k + a) digit c (below (2 * k + a) (omega arith))

late : (k a digit : ℕ) (c : Command) → 9 ≤ k → Says (2 * k + a) digit c
late k a digit c h = no_key (2 * k + a) digit c (beyond (2 * k + a) (omega arith))

-- by the kind and auto-precharge
of_kind_lem : (k : Kind) (p a : ℕ) → a ≡ p / 1024 % 2 → Says (2 * code k + a) (48 + p / 128 % 8) (entries.command_of (of_kind k p))
unfolding code tail_at of_kind entries.command_of name_of shows_bank bank_at bank_of ap_of is kind_of carries bare counter_on rises_from
of_kind_lem NOP p a e = early 0 a _ _ (omega arith) (omega arith)
of_kind_lem MRW p a e = early 1 a _ _ (omega arith) (omega arith)
of_kind_lem MRR p a e = early 2 a _ _ (omega arith) (omega arith)
of_kind_lem REFPB p a e = early 3 a _ _ (omega arith) (omega arith)
of_kind_lem REFAB p a e = early 4 a _ _ (omega arith) (omega arith)
of_kind_lem ACT p zero e = rw (← (gathers p).2) (record { fits = record { long = refl; some = omega arith; fits = omega arith }; text = λ n. rw (bank_digit (p / 128 % 8) (omega arith)); still = λ n. refl })
of_kind_lem ACT p (suc zero) e = rw (← (gathers p).2) (record { fits = record { long = refl; some = omega arith; fits = omega arith }; text = λ n. rw (bank_digit (p / 128 % 8) (omega arith)); still = λ n. refl })
of_kind_lem ACT p (suc (suc a)) e = absurd (omega arith)
of_kind_lem RD p zero e = rw (← (gathers p).2, ← (gathers p).5, ← e) (record { fits = record { long = refl; some = omega arith; fits = omega arith }; text = λ n. rw (bank_digit (p / 128 % 8) (omega arith)); still = λ n. refl })
of_kind_lem RD p (suc zero) e = rw (← (gathers p).2, ← (gathers p).5, ← e) (record { fits = record { long = refl; some = omega arith; fits = omega arith }; text = λ n. rw (bank_digit (p / 128 % 8) (omega arith)); still = λ n. refl })
of_kind_lem RD p (suc (suc a)) e = absurd (omega arith)
of_kind_lem WR p zero e = rw (← (gathers p).2, ← (gathers p).5, ← e) (record { fits = record { long = refl; some = omega arith; fits = omega arith }; text = λ n. rw (bank_digit (p / 128 % 8) (omega arith)); still = λ n. refl })
of_kind_lem WR p (suc zero) e = rw (← (gathers p).2, ← (gathers p).5, ← e) (record { fits = record { long = refl; some = omega arith; fits = omega arith }; text = λ n. rw (bank_digit (p / 128 % 8) (omega arith)); still = λ n. refl })
of_kind_lem WR p (suc (suc a)) e = absurd (omega arith)
of_kind_lem PRE p zero e = rw (← (gathers p).2) (record { fits = record { long = refl; some = omega arith; fits = omega arith }; text = λ n. rw (bank_digit (p / 128 % 8) (omega arith)); still = λ n. refl })
of_kind_lem PRE p (suc zero) e = rw (← (gathers p).2) (record { fits = record { long = refl; some = omega arith; fits = omega arith }; text = λ n. rw (bank_digit (p / 128 % 8) (omega arith)); still = λ n. refl })
of_kind_lem PRE p (suc (suc a)) e = absurd (omega arith)
of_kind_lem PREA p a e = late 9 a _ _ (omega arith)
of_kind_lem RESERVED p a e = late 10 a _ _ (omega arith)

abbrev key_on : ℕ → ℕ
key_on p = 2 * code (kind_at (p % 1024)) + p / 1024 % 2

-- awake, clock-enable is high and nothing stands above it
awake_plain : (p : ℕ) → p / 1048576 ≡ 2 → (sleeps : Bool) → read_as sleeps false awake p ≡ plain (decode p)
unfolding read_as read_pins read_at on bits
awake_plain p high false = refl
awake_plain p high true = rw (eq-eqb (p / 4194304) 0 (omega arith), eq-eqb (p / 2097152 % 2) 1 (omega arith))

pub quick_tail : (p : ℕ) → p / 1048576 ≡ 2 → IfSome (tail_at (key_on p)) (TailOn p)
quick_tail p high =
    go (tail_at (key_on p)) (rw (by_edge p (omega arith) (λ (o : p / 1048576 % 2 ≡ 1). absurd (omega arith))) (of_kind_lem (kind_at (p % 1024)) p (p / 1024 % 2) refl))
  where
    go : (o : Option Tail) → IfSome o (λ t. TailGood (entries.command_of (decode p)) t (48 + p / 128 % 8)) → IfSome o (TailOn p)
    go None h = tt
    go (Some t) h = record { reads = awake_plain p high; good = h }

pub tail_if : (p high : ℕ) → p / 1048576 ≡ high → p < 4294967296 → IfSome (tail_at (key_on p)) (λ t. (p / 1048576 ≡ high) × (high < 4096) × (high ≡ 2 → TailOn p t))
tail_if p high e l = go (tail_at (key_on p)) (λ two. quick_tail p (e ∙ two))
  where
    go : (o : Option Tail) → (high ≡ 2 → IfSome o (TailOn p)) → IfSome o (λ t. (p / 1048576 ≡ high) × (high < 4096) × (high ≡ 2 → TailOn p t))
    go None h = tt
    go (Some t) h = (e, omega arith, h)
