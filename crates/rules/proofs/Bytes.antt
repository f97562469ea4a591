-- Numbers written in bytes are read back; an entry field that the writer puts is read as that entry.
use Prim.Native.Nat.{ℕ, zero, suc, ◌+◌, ◌*◌, ◌/◌, ◌%◌, ◌^◌, ◌<◌}
use mathlib.Core.Path.{◌≡◌, ◌∙◌}
use mathlib.Core.Bool.{Bool, true}
use mathlib.Core.List.{List, ◌++◌}
use native.Mathlib.Nat.{pow-zero, pow-succ', mod-one, mod-eq_of_lt}
use native.Mathlib.Omega.{arith}
use lib.Arith.{mod-mul}
use lib.Dec.{lit<}
use borrow.Author.Tests.{le-leb}
use lib.ListN.{length}
use Rattle.rules.specs.Entries.{pins, entry}
use Rattle.rules.specs.Lists.{is_one_of}
use Rattle.rules.specs.Form.{number_from, number, Field, card_whole, of_entry, of_trace, may_follow, may_come, lengths, ◌of◌, ◌of◌or◌, is_listed, length_good, whole, valued, sized, head_of, body_of, entry_of}
use Rattle.rules.specs.Writer.{big_endian, field_bytes, entry_bytes}

pow_positive : (w : ℕ) → 0 < 256 ^ w
pow_positive zero = rw pow-zero (lit< tt)
pow_positive (suc w) = rw pow-succ' (omega (arith, pow_positive w))

number_from_lem : (a w x : ℕ) → number_from a (big_endian w x) ≡ a * 256 ^ w + x % 256 ^ w
unfolding number_from big_endian
number_from_lem a zero x = rw (pow-zero, mod-one) (omega arith)
number_from_lem a (suc w) x =
    number_from_lem (256 * a + x / 256 ^ w % 256) w x
    ∙ rw (pow-succ', mod-mul x (lit< tt) (pow_positive w)) (sum a (x / 256 ^ w % 256) (256 ^ w) (x % 256 ^ w))
  where
    sum : (a d c r : ℕ) → (256 * a + d) * c + r ≡ a * (256 * c) + (d * c + r)
    sum a d c r = omega arith

pub number_bytes : (w x : ℕ) → x < 256 ^ w → number (big_endian w x) ≡ x
unfolding number
number_bytes w x h = number_from_lem 0 w x ∙ rw (mod-eq_of_lt h) (omega arith)

-- the entry field of a stamp and pins, with what follows it
unfoldable pub entry_field : (stamp p : ℕ) → Field
entry_field stamp p = record { tag = 32; high = 0; low = 7; value = big_endian 4 stamp ++ big_endian 3 p }

pub entry_head : (b : Bool) (fs : List Field) (stamp p : ℕ) (rest : List ℕ) → card_whole fs ≡ true → head_of b fs (entry_bytes stamp p ++ rest) ≡ whole (entry_field stamp p) rest
unfolding head_of sized valued card_whole may_come may_follow of_trace of_entry length_good is_listed is_one_of lengths ◌of◌ ◌of◌or◌ entry_bytes field_bytes big_endian entry_field
entry_head b fs stamp p rest h = rw (h, le-leb 7 (length ((big_endian 4 stamp ++ big_endian 3 p) ++ rest)) (omega arith))

pub entry_read : (stamp p : ℕ) → stamp < 256 ^ 4 → p < 256 ^ 3 → entry_of (entry_field stamp p) ≡ entry stamp p
unfolding entry_of body_of entry_field big_endian
entry_read stamp p hs hp = λ i. record { stamp = number_bytes 4 stamp hs i; body = pins (number_bytes 3 p hp i) }
