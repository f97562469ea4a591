-- Bytes, and the numbers of four of them.
use Rattle.std.proofs.Common.{◌≡◌, ℕ, zero, suc, ◌+◌, ◌*◌, ◌^◌, ◌<◌, List, [], ◌∷◌, ◌++◌, length, get_or, take, drop, arith, length-take}
use Rattle.rules.specs.Lists.{Every}
use Rattle.rules.specs.Form.{number, number_from}
use Rattle.card.proofs.Numbers.{one_more, bytes_fit}

abbrev pub Bytes : List ℕ → Type 0
Bytes bs = Every (λ b. b < 256) bs

-- as a slice of bytes tells it
pub bytes_by : (bs : List ℕ) → ((i : ℕ) → i < length bs → get_or bs i 0 < 256) → Bytes bs
unfolding Every
bytes_by [] h = tt
bytes_by (b ∷ bs) h = (h 0 (omega arith), bytes_by bs (λ i l. h (suc i) (omega arith)))

pub bytes_part : (xs ys : List ℕ) → Bytes (xs ++ ys) → Bytes xs × Bytes ys
unfolding Every
bytes_part [] ys h = (tt, h)
bytes_part (x ∷ xs) ys h = let r = bytes_part xs ys h.1 in ((h.0, r.0), r.1)

bytes_take : (n : ℕ) (xs : List ℕ) → Bytes xs → Bytes (take n xs)
unfolding Every
bytes_take zero xs h = tt
bytes_take (suc n) [] h = tt
bytes_take (suc n) (x ∷ xs) h = (h.0, bytes_take n xs h.1)

pub bytes_drop : (n : ℕ) (xs : List ℕ) → Bytes xs → Bytes (drop n xs)
unfolding Every
bytes_drop zero xs h = h
bytes_drop (suc n) [] h = tt
bytes_drop (suc n) (x ∷ xs) h = bytes_drop n xs h.1

number_small : (v : List ℕ) (i x : ℕ) → Bytes v → x < 2 ^ (8 * i) → number_from x v < 2 ^ (8 * (i + length v))
unfolding Every number_from
number_small [] i x h l = let e : i + 0 ≡ i = omega arith in rw e l
number_small (b ∷ v) i x h l =
    let e : i + suc (length v) ≡ (i + 1) + length v = omega arith in
    rw e (number_small v (i + 1) (256 * x + b) h.1 (one_more i x b l h.0))

pub four_small : (v : List ℕ) → Bytes v → number (take 4 v) < 2 ^ 32
unfolding number
four_small v h = bytes_fit 4 (0 + length (take 4 v)) (number (take 4 v)) (rw length-take (omega arith)) (number_small (take 4 v) 0 0 (bytes_take 4 v h) (omega arith))
