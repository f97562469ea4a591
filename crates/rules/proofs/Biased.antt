-- The ledger with the credit added, a natural number: "not below minus the credit" is then the subtraction of naturals. It is document 01's signed
-- number plus the credit.
use Prim.Native.Nat.{ℕ, zero, suc, ◌+◌, ◌*◌, ◌-◌, ◌≤◌, ◌<◌}
use mathlib.Core.Path.{◌≡◌, refl, ap, sym, ◌∙◌}
use mathlib.Core.Logic.{⊎_elim}
use mathlib.Core.Bool.{Bool, true, false, cond}
use mathlib.Core.List.{List}
use mathlib.Core.Option.{Option, none, some}
use native.Mathlib.Omega.{arith}
use lib.Dec.{leb, ltb}
use lib.IntN.{pos, negsuc, suc_ℤ, neg_ℤ, sub_ℕ, pred-suc}
use lib.Signed.{lt_z, le_z}
use borrow.Author.Tests.{lt-ltb, le-ltb, le-leb, lt-leb}
use Rattle.rules.specs.Lists.{is_one_of}
use Rattle.rules.specs.Account.{Terms, Schedule, take_one, cycle, ledger_before, failing, Book}
use Rattle.rules.proofs.Tests.{lt_cases, le_cases}

unfoldable pub due : Schedule → ℕ → ℕ
due s n = cond (s.due n) 1 0

-- the ledger before cycle t, plus the credit k
unfoldable pub owed : (k : ℕ) → Schedule → List ℕ → ℕ → ℕ
owed k s cs zero = k
owed k s cs (suc n) = owed k s cs n + due s n - cond (is_one_of cs n) 1 0

-- ---- o less k, and one more or less
pub sub_below : (o k : ℕ) → o < k → sub_ℕ o k ≡ negsuc (k - suc o)
sub_below o k h = rw (lt-ltb o k h)

pub sub_from : (o k : ℕ) → k ≤ o → sub_ℕ o k ≡ pos (o - k)
sub_from o k h = rw (le-ltb o k h)

sub_suc : (o k : ℕ) → suc_ℤ (sub_ℕ o k) ≡ sub_ℕ (suc o) k
sub_suc o k = ⊎_elim below from (lt_cases o k)
  where
    last : (o < k) × (ltb o k ≡ true) → k ≤ suc o → suc_ℤ (sub_ℕ o k) ≡ sub_ℕ (suc o) k
    last p h =
        let e : k - suc o ≡ 0 = omega arith in
        let d : suc o - k ≡ 0 = omega arith in
        rw (sub_below o k p.0, sub_from (suc o) k h, e, d)

    below : (o < k) × (ltb o k ≡ true) → suc_ℤ (sub_ℕ o k) ≡ sub_ℕ (suc o) k
    below p = ⊎_elim
        (λ (q : (suc o < k) × (ltb (suc o) k ≡ true)).
        let e : k - suc o ≡ suc (k - suc (suc o)) = omega arith in
        rw (sub_below o k p.0, sub_below (suc o) k q.0, e))
        (λ (q : (k ≤ suc o) × (ltb (suc o) k ≡ false)). last p q.0)
        (lt_cases (suc o) k)

    from : (k ≤ o) × (ltb o k ≡ false) → suc_ℤ (sub_ℕ o k) ≡ sub_ℕ (suc o) k
    from p =
        let h : k ≤ suc o = omega arith in
        let e : suc (o - k) ≡ suc o - k = omega arith in
        rw (sub_from o k p.0, sub_from (suc o) k h) (ap pos e)

-- the credit is not undercut
at_least : (k o : ℕ) → lt_z (neg_ℤ (pos k)) (sub_ℕ (suc o) k) ≡ true
at_least zero o = rw (sub_from (suc o) 0 (omega arith)) (lt-ltb 0 (suc o - 0) (omega arith))
at_least (suc k) o = ⊎_elim
    (λ (p : (suc o < suc k) × (ltb (suc o) (suc k) ≡ true)). rw (sub_below (suc o) (suc k) p.0) (lt-ltb (suc k - suc (suc o)) k (omega arith)))
    (λ (p : (suc k ≤ suc o) × (ltb (suc o) (suc k) ≡ false)). rw (sub_from (suc o) (suc k) p.0))
    (lt_cases (suc o) (suc k))

bottom : (k : ℕ) → lt_z (neg_ℤ (pos k)) (sub_ℕ 0 k) ≡ false
bottom zero = refl
bottom (suc k) =
    let e : suc k - 1 ≡ k = omega arith in
    rw (sub_below 0 (suc k) (omega arith), e) (le-ltb k k (omega arith))

pub take_biased : (k o : ℕ) → take_one k (sub_ℕ o k) ≡ sub_ℕ (o - 1) k
unfolding take_one
take_biased k zero = rw (bottom k)
take_biased k (suc o) =
    let e : suc o - 1 ≡ o = omega arith in
    rw (at_least k o, e, ← sub_suc o k) (pred-suc (sub_ℕ o k))

-- one cycle
pub cycle_biased : (k : ℕ) (s : Schedule) (b : Bool) (n o : ℕ) → cycle k s b n (sub_ℕ o k) ≡ sub_ℕ (o + due s n - cond b 1 0) k
unfolding cycle due
cycle_biased k s b n o = go (s.due n) b
  where
    go : (d b : Bool) → cond b (take_one k (cond d (suc_ℤ (sub_ℕ o k)) (sub_ℕ o k))) (cond d (suc_ℤ (sub_ℕ o k)) (sub_ℕ o k)) ≡ sub_ℕ (o + cond d 1 0 - cond b 1 0) k
    go true true = let z : suc o - 1 ≡ o + 1 - 1 = omega arith in ap (take_one k) (sub_suc o k) ∙ take_biased k (suc o) ∙ ap (λ (n : ℕ). sub_ℕ n k) z
    go true false = let z : suc o ≡ o + 1 - 0 = omega arith in sub_suc o k ∙ ap (λ (n : ℕ). sub_ℕ n k) z
    go false true = let z : o - 1 ≡ o + 0 - 1 = omega arith in take_biased k o ∙ ap (λ (n : ℕ). sub_ℕ n k) z
    go false false = let z : o ≡ o + 0 - 0 = omega arith in ap (λ (n : ℕ). sub_ℕ n k) z

pub ledger_biased : (k : ℕ) (s : Schedule) (cs : List ℕ) (n : ℕ) → ledger_before k s cs n ≡ sub_ℕ (owed k s cs n) k
unfolding ledger_before owed
ledger_biased k s cs zero = rw (sub_from k k (omega arith)) (ap pos (omega arith))
ledger_biased k s cs (suc n) = rw (ledger_biased k s cs n) (cycle_biased k s (is_one_of cs n) n (owed k s cs n))

-- the signed number against a limit
pub le_biased : (o k m : ℕ) → le_z (sub_ℕ o k) (pos m) ≡ leb o (k + m)
le_biased o k m = ⊎_elim
    (λ (p : (o < k) × (ltb o k ≡ true)). rw (sub_below o k p.0) (sym (le-leb o (k + m) (omega arith))))
    (λ (p : (k ≤ o) × (ltb o k ≡ false)). rw (sub_from o k p.0) (above p))
    (lt_cases o k)
  where
    above : (k ≤ o) × (ltb o k ≡ false) → leb (o - k) m ≡ leb o (k + m)
    above p = ⊎_elim
        (λ (q : (o ≤ k + m) × (leb o (k + m) ≡ true)). le-leb (o - k) m (omega arith) ∙ sym q.1)
        (λ (q : (k + m < o) × (leb o (k + m) ≡ false)). lt-leb (o - k) m (omega arith) ∙ sym q.1)
        (le_cases o (k + m))

-- rules 19 and 20 by the biased number
unfoldable pub owing : Terms → Schedule → (o last n t : ℕ) → Option (ℕ × ℕ)
owing k s o last n t =
    cond (leb o (k.credit + k.limit)) (cond (leb (n - s.since last n) (k.gap * s.span n)) none (some (k.gap_rule, t))) (some (k.limit_rule, t))

pub failing_biased : (k : Terms) (s : Schedule) (o last n t : ℕ) → failing k s (sub_ℕ o k.credit) last n t ≡ owing k s o last n t
unfolding failing owing
failing_biased k s o last n t = rw (le_biased o k.credit k.limit)

-- ---- the account by numbers alone: each cycle is counted, and its number is its own
abbrev pub numbered : Schedule → List ℕ → Book
numbered s cs = record { schedule = s; clock = λ t. t; refreshes = cs }
