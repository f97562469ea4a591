-- Big-endian numbers, byte by byte, and the numbers that fit their places in the card.
use Prim.Native.Nat.{ℕ, ◌+◌, ◌*◌, ◌^◌, ◌≤◌, ◌<◌}
use mathlib.Core.Path.{◌≡◌, refl}
use mathlib.Core.Bool.{Bool, true, false, not, ◌&&◌, ◌||◌}
use mathlib.Core.List.{List}
use mathlib.Core.Logic.{⊎_elim}
use native.Mathlib.Nat.{zero-add, eq-or-lt_of_le}
use native.Mathlib.Numerals.{add-one}
use native.Mathlib.Omega.{arith}
use lib.Dec.{leb}
use lib.ListN.{length, get_or, drop, drop_of_length-le, get_or-eq_default}
use lib.Seq.{drop-cons}
use lib.Pow.{pow-add, pow_mono}
use borrow.Author.Tests.{leb-true, ltb-true, le-leb}
use Rattle.rules.specs.Card as paper
use Rattle.rules.specs.Units.{femto}
use Rattle.rules.specs.Registers.{mr2_good, mr1_good}
use Rattle.rules.specs.Ranges.{groups_good, trefi_good, timing_good, start_good, mr1_start, raise_good}
use Rattle.rules.specs.Form.{number, number_from}
use Rattle.rules.proofs.Tests.{both_true}
use Rattle.rules.proofs.Rounding.{within_both}
use Rattle.card.specs.Values.{mr1_if}

pub next_byte : (v : List ℕ) (i x : ℕ) → i < length v → number_from x (drop i v) ≡ number_from (256 * x + get_or v i 0) (drop (i + 1) v)
unfolding number_from
next_byte v i x h = rw (add-one, drop-cons v i 0 h)

pub one_more : (i x b : ℕ) → x < 2 ^ (8 * i) → b < 256 → 256 * x + b < 2 ^ (8 * (i + 1))
one_more i x b h l =
    let e : 8 * (i + 1) ≡ 8 * i + 8 = omega arith in
    rw (e, pow-add 2 (8 * i) 8) (omega arith)

pub bytes_fit : (w i x : ℕ) → i ≤ w → x < 2 ^ (8 * i) → x < 2 ^ (8 * w)
bytes_fit w i x h l = let m : 2 ^ (8 * i) ≤ 2 ^ (8 * w) = pow_mono {j = 8 * w} (omega arith) in omega arith

pub last_byte : (v : List ℕ) → length v ≡ 5 → get_or v 4 0 ≡ number (drop 4 v)
unfolding number number_from
last_byte v h = rw (drop-cons v 4 0 (omega arith), drop_of_length-le v {i = 5} (omega arith), zero-add)

-- the byte behind four, 0 where there is none
pub fifth_byte : (v : List ℕ) → length v ≤ 5 → get_or v 4 0 ≡ number (drop 4 v)
unfolding number number_from
fifth_byte v h = ⊎_elim
    (λ (e : length v ≡ 5). last_byte v e)
    (λ (lt : length v < 5). rw (get_or-eq_default v 0 {n = 4} (omega arith), drop_of_length-le v {i = 4} (omega arith)))
    (eq-or-lt_of_le h)

-- an MR2 in range is a byte
pub mr2_byte : (p x : ℕ) → mr2_good p x ≡ true → x < 256
unfolding mr2_good
mr2_byte p x e = ltb-true x 256 (both_true _ _ (both_true _ _ (both_true _ _ e).0).0).0

pub start_byte : (x : ℕ) → start_good x ≡ true → x ≤ 255
unfolding start_good
start_byte x e = leb-true x 255 (both_true _ _ e).0

-- the starting MR1, if there is one
pub start_good_lem : (b : Bool) (v : ℕ) → v ≤ 255 → (not b || mr1_good v) ≡ mr1_start (mr1_if b v)
unfolding mr1_if mr1_start start_good
start_good_lem true v h = rw (le-leb v 255 h)
start_good_lem false v h = refl

pub groups_short : (x : ℕ) → groups_good x ≡ true → x ≤ 16384
unfolding groups_good
groups_short x e = (within_both 1 16384 x e).1

-- what a card has in 32 bits
pub trefi_short : (p x : ℕ) → trefi_good p x ≡ true → x ≤ 20_000_000
unfolding trefi_good
trefi_short p x e = leb-true x 20_000_000 (both_true (leb p (femto x)) (leb x 20_000_000) e).1

pub raise_short : (x : ℕ) → raise_good x ≡ true → x ≤ 1_000_000
unfolding raise_good
raise_short x e = leb-true x 1_000_000 e

pub timing_short : (x : paper.Timing) → timing_good x ≡ true → x.duration ≤ 1_000_000
unfolding timing_good
timing_short x e = leb-true x.duration 1_000_000 (both_true (leb x.duration 1_000_000) (leb x.floor 255) e).0

pub gap_byte : (b : Bool) (x : ℕ) → (leb x 255 && b) ≡ true → x ≤ 255
gap_byte b x e = leb-true x 255 (both_true _ _ e).0
