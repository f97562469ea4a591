-- The digits of a number: one below ten, else one more than those of a tenth of it.
use Rattle.std.proofs.Common.{◌≡◌, ℕ, zero, suc, ◌+◌, ◌-◌, ◌/◌, ◌%◌, ◌^◌, ◌<◌, ◌≤◌, true, false, ltb, List, [], ◌∷◌, ◌++◌, length, take, drop, set, refl, ap, ◌∙◌, length-take-le, drop_at, ⊎_elim, append_assoc, arith, length-append, le-ltb, lt-ltb}
use lib.Seq.{set_split}
use Rattle.rules.specs.Lines.{digits, decimal, signed}
use Rattle.lines.specs.Parts.{owed_part}
use Rattle.lines.specs.Stamps.{last_four}
use Rattle.rules.proofs.Tests.{lt_cases}

below_ten : (k x : ℕ) → x < 10 → digits (suc k) x ≡ (48 + x) ∷ []
unfolding digits
below_ten k x h = rw (lt-ltb x 10 h, digits)

from_ten : (k x : ℕ) → 10 ≤ x → digits (suc k) x ≡ digits k (x / 10) ++ ((48 + x % 10) ∷ [])
unfolding digits
from_ten k x h = rw (le-ltb x 10 h, digits)

-- any bound above the number is enough
enough : (j k x : ℕ) → x < j → x < k → digits j x ≡ digits k x
enough zero k x h l = absurd (omega arith)
enough (suc j) zero x h l = absurd (omega arith)
enough (suc j) (suc k) x h l =
    ⊎_elim (λ (p : (x < 10) × (ltb x 10 ≡ true)). rw (below_ten j x p.0, below_ten k x p.0))
    (λ (p : (10 ≤ x) × (ltb x 10 ≡ false)). rw (from_ten j x p.0, from_ten k x p.0, enough j k (x / 10) (omega arith) (omega arith)))
    (lt_cases x 10)

pub one_digit : (x : ℕ) → x < 10 → decimal x ≡ (48 + x % 10) ∷ []
unfolding decimal
one_digit x h = let e : x % 10 ≡ x = omega arith in rw e (below_ten x x h)

pub more_digits : (x : ℕ) → 10 ≤ x → decimal x ≡ decimal (x / 10) ++ ((48 + x % 10) ∷ [])
unfolding decimal
more_digits x h = rw (from_ten x x h, enough x (suc (x / 10)) (x / 10) (omega arith) (omega arith))

pub one_more : (x : ℕ) → 10 ≤ x → length (decimal x) ≡ length (decimal (x / 10)) + 1
one_more x h = ap length (more_digits x h) ∙ length-append (decimal (x / 10)) ((48 + x % 10) ∷ [])

pub some_digit : (x : ℕ) → 1 ≤ length (decimal x)
some_digit x =
    ⊎_elim (λ (p : (x < 10) × (ltb x 10 ≡ true)). rw (one_digit x p.0) (omega arith))
    (λ (p : (10 ≤ x) × (ltb x 10 ≡ false)). omega (arith, one_more x p.0))
    (lt_cases x 10)

pub short : (k x : ℕ) → x < 10 ^ suc k → length (decimal x) ≤ suc k
short zero x h = rw (one_digit x (omega arith)) (omega arith)
short (suc k) x h =
    ⊎_elim (λ (p : (x < 10) × (ltb x 10 ≡ true)). rw (one_digit x p.0) (omega arith))
    (λ (p : (10 ≤ x) × (ltb x 10 ≡ false)). omega (arith, one_more x p.0, short k (x / 10) (omega arith)))
    (lt_cases x 10)

pub short_digit : (x : ℕ) → x < 10 → length (decimal x) ≤ 1
short_digit x h = short 0 x (omega arith)

pub short_byte : (x : ℕ) → x < 256 → length (decimal x) ≤ 3
short_byte x h = short 2 x (omega arith)

pub short_stamp : (x : ℕ) → x < 4294967296 → length (decimal x) ≤ 10
short_stamp x h = short 9 x (omega arith)

pub short_word : (x : ℕ) → x < 18446744073709551616 → length (decimal x) ≤ 20
short_word x h = short 19 x (omega arith)

some_power : (k : ℕ) → 1 ≤ 10 ^ k
some_power zero = omega arith
some_power (suc k) = omega (arith, some_power k)

pub long : (k x : ℕ) → 10 ^ k ≤ x → suc k ≤ length (decimal x)
long zero x h = some_digit x
long (suc k) x h =
    let p : 1 ≤ 10 ^ k = some_power k in
    omega (arith, one_more x (omega arith), long k (x / 10) (omega arith))

-- ---- digits put from the last one on: those that are still to be put, so many, are the digits of the rest
abbrev pub ahead : (count rest : ℕ) → List ℕ
ahead zero rest = []
ahead (suc k) rest = decimal rest

set_there : (k d : ℕ) (out : List ℕ) → k < length out → drop k (set out k d) ≡ d ∷ drop (suc k) out
set_there k d out h = ap (drop k) (set_split out k d h) ∙ drop_at (take k out) (d ∷ drop (suc k) out) k (length-take-le k out (omega arith))

digit_put : (k rest : ℕ) (out whole : List ℕ) → k < length out → length (ahead (suc k) rest) ≡ suc k → ahead (suc k) rest ++ drop (suc k) out ≡ whole
    → (length (ahead k (rest / 10)) ≡ k) × (ahead k (rest / 10) ++ drop k (set out k (48 + rest % 10)) ≡ whole)
digit_put zero rest out whole h n e =
    ⊎_elim (λ (p : (rest < 10) × (ltb rest 10 ≡ true)). (refl, set_there 0 (48 + rest % 10) out h ∙ rw (one_digit rest p.0) at e))
    (λ (p : (10 ≤ rest) × (ltb rest 10 ≡ false)). absurd (omega (arith, one_more rest p.0, some_digit (rest / 10))))
    (lt_cases rest 10)
digit_put (suc k) rest out whole h n e =
    ⊎_elim (λ (p : (rest < 10) × (ltb rest 10 ≡ true)). absurd (let one : length (decimal rest) ≡ 1 = ap length (one_digit rest p.0) in omega arith))
    (λ (p : (10 ≤ rest) × (ltb rest 10 ≡ false)). (
      omega (arith, one_more rest p.0),
      rw (set_there (suc k) (48 + rest % 10) out h, ← append_assoc (decimal (rest / 10)) ((48 + rest % 10) ∷ []) (drop (suc (suc k)) out), ← more_digits rest p.0) e,
    ))
    (lt_cases rest 10)

pub all_ahead : (n x : ℕ) → n ≡ length (decimal x) → ahead n x ≡ decimal x
all_ahead zero x e = absurd (omega (arith, some_digit x))
all_ahead (suc k) x e = refl

pub digit_back : (i rest : ℕ) (out whole : List ℕ) → 0 < i → i ≤ length out → length (ahead i rest) ≡ i → ahead i rest ++ drop i out ≡ whole
    → (length (ahead (i - 1) (rest / 10)) ≡ i - 1) × (ahead (i - 1) (rest / 10) ++ drop (i - 1) (set out (i - 1) (48 + rest % 10)) ≡ whole)
digit_back zero rest out whole h l n e = absurd (omega arith)
digit_back (suc k) rest out whole h l n e = let p : suc k - 1 ≡ k = omega arith in rw p (digit_put k rest out whole (omega arith) n e)

-- the first digit, which is all that the rest has
pub digit_first : (rest : ℕ) (out whole : List ℕ) → 0 < length out → length (ahead 1 rest) ≡ 1 → ahead 1 rest ++ drop 1 out ≡ whole → (rest < 10) × (set out 0 (48 + rest) ≡ whole)
digit_first rest out whole h n e =
    ⊎_elim (λ (p : (rest < 10) × (ltb rest 10 ≡ true)). (p.0, let m : rest % 10 ≡ rest = omega arith in rw m at (digit_put 0 rest out whole h n e).1))
    (λ (p : (10 ≤ rest) × (ltb rest 10 ≡ false)). absurd (omega (arith, one_more rest p.0, some_digit (rest / 10))))
    (lt_cases rest 10)

-- the last four digits, behind the others
pub four_more : (x : ℕ) → 10000 ≤ x → decimal x ≡ decimal (x / 10000) ++ last_four x
four_more x h =
    let a : x / 10 / 10 ≡ x / 100 = omega arith in
    let b : x / 100 / 10 ≡ x / 1000 = omega arith in
    let c : x / 1000 / 10 ≡ x / 10000 = omega arith in
    rw (more_digits x (omega arith), more_digits (x / 10) (omega arith), a, more_digits (x / 100) (omega arith), b, more_digits (x / 1000) (omega arith), c)
    (simp append_assoc)

-- ---- the ledger, from the number that has 8 added
pub owed_below : (o : ℕ) → o < 8 → owed_part o ≡ 32 ∷ 45 ∷ decimal (8 - o)
unfolding signed
owed_below o h = let e : suc (8 - suc o) ≡ 8 - o = omega arith in rw (lt-ltb o 8 h, e)

pub owed_from : (o : ℕ) → 8 ≤ o → owed_part o ≡ 32 ∷ decimal (o - 8)
unfolding signed
owed_from o h = rw (le-ltb o 8 h)
