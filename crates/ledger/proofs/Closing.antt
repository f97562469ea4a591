-- The closed form that the code computes, against the account of the rules.
use Prim.Native.Nat.{ℕ, suc, ◌+◌, ◌-◌, ◌*◌, ◌/◌, ◌^◌, ◌≤◌, ◌<◌, max}
use mathlib.Core.Path.{◌≡◌, sym, ◌∙◌}
use mathlib.Core.Logic.{⊎_elim}
use mathlib.Core.Bool.{true, false, cond}
use mathlib.Core.Option.{none, some}
use native.Mathlib.Nat.{add-mul, div-mul-le_self, div-eq_of_lt, add-div_right}
use native.Mathlib.Omega.{arith}
use lib.Dec.{leb}
use lib.IntN.{sub_ℕ}
use borrow.Author.Tests.{le-leb, lt-leb}
use Rattle.rules.specs.Account.{lpddr3, Beat, fallen, next_after, steady, first_idle}
use Rattle.rules.proofs.Tests.{le_cases}
use Rattle.rules.proofs.Dues.{next_later, fallen_up, due_by}
use Rattle.rules.proofs.Idle.{next19, next20, after20, first_next, idle_closed}
use Rattle.ledger.specs.Values.{over_at, late_at, closed_at}

-- ---- a beat, by where a number stands to its next due
module _ (b : Beat) (n : ℕ) where
  abbrev I : ℕ
  I = b.span

  -- before it nothing is due
  pub fallen_none : 0 < I → n < b.next → 0 ≡ fallen b n
  unfolding fallen
  fallen_none p h = sym (div-eq_of_lt (omega arith))

  past : b.next ≤ n → n + I - b.next ≡ n - b.next + I
  past h = omega arith

  pub fallen_some : 0 < I → b.next ≤ n → (n - b.next) / I + 1 ≡ fallen b n
  unfolding fallen
  fallen_some p h = rw (past h) (sym (add-div_right (n - b.next) p))

  -- the next due after a number is that one or at most a span away
  past_near : fallen b n * I ≤ n + I - b.next
  unfolding fallen
  past_near = div-mul-le_self (n + I - b.next) I

  module _ (small : I < 2 ^ 46) (low : n < 2 ^ 32) where
    pub fallen_fits : (x : ℕ) → x ≡ fallen b n → x * I < 2 ^ 64
    fallen_fits x e = rw e (omega (arith, past_near))

    pub next_fits : (x : ℕ) → b.next < 2 ^ 64 → x ≡ fallen b n → b.next + x * I < 2 ^ 64
    next_fits x l e = rw e (omega (arith, past_near))

-- as the code finds it
pub next_so : (b : Beat) (n x : ℕ) → x ≡ fallen b n → b.next + x * b.span ≡ next_after b n
unfolding next_after
next_so b n x e = rw e

-- ---- the first number that fails
pub late_small : (span n since : ℕ) → span < 2 ^ 46 → n < 2 ^ 32 → since < 2 ^ 32 → late_at span n since < 2 ^ 50
late_small span n since l h k = omega arith

-- 19 is named where both fail at once
pub rule_over : (over late : ℕ) → over ≤ late → ◌≡◌ {A = ℕ} 19 (cond (leb over late) 19 20)
rule_over over late h = rw (le-leb over late h)

pub rule_late : (over late : ℕ) → late < over → ◌≡◌ {A = ℕ} 20 (cond (leb over late) 19 20)
rule_late over late h = rw (lt-leb over late h)

pub closed_ahead : (b : Beat) (s o last : ℕ) → 0 < b.span → s < closed_at b s o last
closed_ahead b s o last p = omega (arith, next_later b p s)

module _ (b : Beat) (s o last : ℕ) (positive : 0 < b.span) (low : o ≤ 16) where
  abbrev rule : ℕ
  rule = cond (leb (over_at b s o) (late_at b.span s last)) 19 20

  first : (j : ℕ) → first_idle lpddr3 (steady b) (sub_ℕ o 8) last s s j ≡ first_next lpddr3 (over_at b s o) (late_at b.span s last) (suc (s + j))
  unfolding lpddr3 next19 next20 after20
  first j =
      let y : max (suc s) (last + 9 * b.span + 1) ≡ late_at b.span s last = omega arith in
      let e : first_idle lpddr3 (steady b) (sub_ℕ o 8) last s s j ≡ first_next lpddr3 (over_at b s o) (max (suc s) (last + 9 * b.span + 1)) (suc (s + j)) =
      idle_closed b positive lpddr3 s o last low j in
      rw y at e

  pub none_by : (j : ℕ) → s + j < closed_at b s o last → first_idle lpddr3 (steady b) (sub_ℕ o 8) last s s j ≡ none
  unfolding first_next
  none_by j h = first j ∙ rw (le-leb (suc (s + j)) (closed_at b s o last) h)

  -- it is at the first of the two numbers, 19 where they are one
  pub fails_by : (j : ℕ) → closed_at b s o last ≤ s + j → first_idle lpddr3 (steady b) (sub_ℕ o 8) last s s j ≡ some (rule, closed_at b s o last)
  unfolding first_next lpddr3
  fails_by j h = first j ∙ rw (lt-leb (suc (s + j)) (closed_at b s o last) (omega arith))

-- ---- how much is owed on the way
module _ (b : Beat) (s o to : ℕ) (positive : 0 < b.span) (low : o ≤ 16) (later : s ≤ to) where
  pub past_le : fallen b s ≤ fallen b to
  past_le = fallen_up b positive s to later

  few : (k : ℕ) → to < next_after b s + k * b.span → fallen b to ≤ fallen b s + k
  few k h = ⊎_elim
      (λ (q : (suc (fallen b s + k) ≤ fallen b to) × (leb (suc (fallen b s + k)) (fallen b to) ≡ true)). absurd (clash (due_by b positive s k to q.0)))
      (λ (q : (fallen b to < suc (fallen b s + k)) × (leb (suc (fallen b s + k)) (fallen b to) ≡ false)). omega arith)
      (le_cases (suc (fallen b s + k)) (fallen b to))
    where
      clash : next_after b s + k * b.span ≤ to → ⊥
      clash r = omega arith

  -- before 19 fails the ledger is within its limit, and where it does fail one more
  pub within : to < over_at b s o → o + (fallen b to - fallen b s) ≤ 16
  within h = omega (arith, low, few (16 - o) h)

  pub within_one : to ≤ over_at b s o → o + (fallen b to - fallen b s) ≤ 17
  within_one h =
      let e : (16 - o + 1) * b.span ≡ (16 - o) * b.span + 1 * b.span = add-mul (16 - o) 1 b.span in
      omega (arith, low, few (16 - o + 1) (rw e (omega (arith, positive))))
