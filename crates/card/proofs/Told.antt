-- What is told of a field's value, test by test.
use Prim.Native.Nat.{ℕ}
use mathlib.Core.Path.{◌≡◌, refl, ap, sym, ◌∙◌}
use mathlib.Core.Bool.{Bool, true, false, ◌&&◌}
use mathlib.Core.List.{List}
use Rattle.std.specs.Prelude.{Result, Ok, Err}
use native.Mathlib.Omega.{arith}
use lib.ListN.{length, take, drop}
use lib.Seq.{take_all}
use borrow.Author.Tests.{ne_eqb}
use Rattle.rules.specs.Card.{Timing}
use Rattle.rules.specs.Ranges.{within}
use Rattle.rules.specs.Folds.{or_else, first_of}
use Rattle.rules.specs.Checks.{Refusal, refusal, unless}
use Rattle.rules.specs.Form.{may_follow, of_card, wrong_after, number, period_of, timing_of, length_good}
use Rattle.rules.proofs.Tests.{both_true}
use Rattle.rules.proofs.Rounding.{within_both}
use Rattle.card.specs.Values.{timing}
use Rattle.card.specs.Tags.{number_of, wrong_of}
use Rattle.card.specs.Reading.{number_for, good, put, read_refusal, refusal_of, card_then, unless_refused, ReadAs, misplaced_by, unread_by, answer_by, read_of}
use Rattle.card.specs.declared.Card.{Card}
use mathlib.Core.Option.{Option, none, some}
use Rattle.card.specs.declared.Misplaced.{Misplaced}
use Rattle.card.specs.declared.Misplaced.TheVariants.{Unknown, Passed, Early}
use Rattle.card.specs.declared.Unread.{Unread}
use Rattle.card.specs.declared.Unread.TheVariants.{Tag, Length, Value}
use Rattle.card.specs.declared.Wrong.{Wrong}
use Rattle.card.proofs.Lengths.{card_length}

-- two tests that are the rules' are good together, or not, as those are
barred : {p q : Bool} (x y : Bool) → x ≡ p → y ≡ q → (x && y) ≡ false → (p && q) ≡ false
barred x y d e h = rw (← d, ← e) h

let_come : {p q : Bool} (x y : Bool) → x ≡ p → y ≡ q → (x && y) ≡ true → (p && q) ≡ true
let_come x y d e h = rw (← d, ← e) h

-- a value of its tag's length, by its numbers: whether it is in range, and the card with it
abbrev pub taken : Card → (tag x : ℕ) → Timing → Bool × Card
taken c t x y = (good c.sleeps c.period.0 t x y, put c t x y)

-- a timing's tags do not look at the number
same_number : (c : Card) (t x z : ℕ) (y : Timing) → (within 5 22 t ≡ false → x ≡ z) → taken c t x y ≡ taken c t z y
same_number c t x z y h = go (within 5 22 t) refl
  where
    go : (b : Bool) → within 5 22 t ≡ b → taken c t x y ≡ taken c t z y
    go true e =
        let (low, high) = within_both 5 22 t e in
        unfold good put in
        rw (ne_eqb t 1 (omega arith), ne_eqb t 2 (omega arith), ne_eqb t 3 (omega arith), ne_eqb t 4 (omega arith), ne_eqb t 23 (omega arith), ne_eqb t 25 (omega arith), ne_eqb t 26 (omega arith))
    go false e = ap (λ (k : ℕ). taken c t k y) (h e)

-- a period's does not look at the timing
same_timing : (c : Card) (x : ℕ) (y z : Timing) → taken c 1 x y ≡ taken c 1 x z
unfolding good put within
same_timing c x y z = refl

module _ (c : Card) (b : Bool) (last t : ℕ) (v : List ℕ) where
  pub bad_tag_lem : (w : Wrong) → wrong_of w ≡ wrong_after b last c.sleeps t → (of_card t && may_follow b last t) ≡ false → ReadAs c b last t v (Err (Tag w))
  unfolding read_refusal refusal_of card_then unless_refused
  bad_tag_lem w h e = record { told = rw (e, h); card = rw e }

  module _ (tag : (of_card t && may_follow b last t) ≡ true) where
    pub bad_length_lem : length_good t (length v) ≡ false → ReadAs c b last t v (Err Length)
    unfolding read_refusal first_of or_else unless refusal refusal_of card_then unless_refused
    bad_length_lem e = record { told = rw (tag, e); card = rw (tag, e) }

    module _ (size : length_good t (length v) ≡ true) where
      -- a period
      pub in_fs : t ≡ 1 → (y : Timing) → taken c t (period_of v) y ≡ taken c t (number_for t v) (timing_of v)
      unfolding number_for
      in_fs e y =
          ap (λ (k : ℕ). taken c k (period_of v) y) e
          ∙ same_timing c (period_of v) y (timing_of v)
          ∙ ap (λ (k : ℕ). taken c k (number_for k v) (timing_of v)) (sym e)

      -- any other, read as four bytes and the rest
      pub in_parts : (t ≡ 1 → ⊥) → taken c t (number (take 4 v)) (timing (number (take 4 v)) (number (drop 4 v))) ≡ taken c t (number_for t v) (timing_of v)
      unfolding timing_of number_for
      in_parts n =
          rw (ne_eqb t 1 n)
          (same_number c t (number (take 4 v)) (number v) (timing_of v) (λ h. ap number (take_all 4 v ((card_length t (length v) (both_true _ _ tag).0 n size).1 h))))

      module _ (x floor : ℕ) (so : taken c t x (timing x floor) ≡ taken c t (number_for t v) (timing_of v)) where
        in_range_is : {a : Bool} → good c.sleeps c.period.0 t x (timing x floor) ≡ a → good c.sleeps c.period.0 t (number_for t v) (timing_of v) ≡ a
        in_range_is e = sym (ap (λ (p : Bool × Card). p.0) so) ∙ e

        pub bad_value_lem : good c.sleeps c.period.0 t x (timing x floor) ≡ false → ReadAs c b last t v (Err Value)
        unfolding read_refusal first_of or_else unless refusal refusal_of card_then unless_refused
        bad_value_lem e = let k = in_range_is e in record { told = rw (tag, size, k); card = rw (tag, size, k) }

        pub taken_lem : good c.sleeps c.period.0 t x (timing x floor) ≡ true → ReadAs c b last t v (Ok (put c t x (timing x floor)))
        unfolding read_refusal first_of or_else unless refusal refusal_of card_then unless_refused
        taken_lem e = let k = in_range_is e in record { told = rw (tag, size, k); card = rw (tag, size, k) (ap (λ (p : Bool × Card). p.1) so) }

-- an answer is told by its refusal and its card
told_back : (old : Card) (r : Result Card Unread) → r ≡ answer_by (refusal_of r) (card_then old r)
unfolding refusal_of card_then answer_by unread_by misplaced_by wrong_of number_of refusal
told_back old (Ok c) = refl
told_back old (Err (Tag w)) = by_why w w.why refl
  where
    by_why : (w : Wrong) (x : Misplaced) → w.why ≡ x → Err (Tag w) ≡ answer_by (some (wrong_of w)) old
    by_why w Unknown e = rw e
    by_why w Passed e = rw e
    by_why w Early e = rw e
told_back old (Err Length) = refl
told_back old (Err Value) = refl

unchanged : (c new : Card) (x : Option Refusal) → answer_by x (unless_refused x c new) ≡ answer_by x new
unfolding answer_by unless_refused
unchanged c new none = refl
unchanged c new (some x) = refl

-- the answer whole
pub read_is : (c : Card) (b : Bool) (last t : ℕ) (v : List ℕ) (r : Result Card Unread) → ReadAs c b last t v r → r ≡ read_of c b last t v
unfolding read_of
read_is c b last t v r h =
    told_back c r
    ∙ (λ i. answer_by (h.told i) (h.card i))
    ∙ unchanged c (put c t (number_for t v) (timing_of v)) (read_refusal c b last t v)
