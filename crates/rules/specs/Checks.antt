-- The checks of an entry and of the end, in their order, with what each refusal gives (document 01, "What comes back").
use Rattle.std.specs.Prelude.{ℕ, suc, Bool, true, false, cond, not, List, [], ◌∷◌, leb, ltb}
use Rattle.std.proofs.Math.Option.{Option, none, some}
use Rattle.rules.specs.Card.{Card}
use Rattle.rules.specs.Units.{Delays}
use Rattle.rules.specs.Heat.{mr4_good, delays_at}
use Rattle.rules.specs.Commands.{Command, carries, is, MRW}
use Rattle.rules.specs.Pins.{good, wrong_bits, reserved}
use Rattle.rules.specs.Registers.{may_write}
use Rattle.rules.specs.Levels.{Read, plain, moved, asleep, barred, clash, sensed}
use Rattle.rules.specs.Past.{Past, mr4_at}
use Rattle.rules.specs.States.{state_good}
use Rattle.rules.specs.Folds.{first_of, first_broken}
use Rattle.rules.specs.Delays.{delay_rules}
use Rattle.rules.specs.Entries.{Entry, View, own_for, view_for, read_for, move_of, judged_as, past_with}
use Rattle.rules.specs.Account.{lpddr3, failing_in, first_in}
use Rattle.rules.specs.Clock.{books_of}

-- a refusal is four numbers; rule and cycle are 0 except for 10 and 11
pub record Refusal : Type 0 where
  pub number : ℕ
  pub rule : ℕ
  pub offset : ℕ
  pub cycle : ℕ

-- its offset is 0 from single steps; a file puts the tag byte's in its place (`File.or_refused`)
unfoldable pub refusal : (number rule cycle : ℕ) → Refusal
refusal k q t = record { number = k; rule = q; offset = 0; cycle = t }

-- this number, unless the test passes
unfoldable pub unless : Bool → ℕ → Option Refusal
unless true k = none
unless false k = some (refusal k 0 0)

-- this number with the rule and the cycle, if there are any
unfoldable pub named : ℕ → Option (ℕ × ℕ) → Option Refusal
named k none = none
named k (some x) = some (refusal k x.0 x.1)

unfoldable pub is_wrong : Read → Bool
is_wrong (plain (good c)) = false
is_wrong (plain wrong_bits) = true
is_wrong (plain reserved) = false
is_wrong (moved m) = false
is_wrong asleep = false
is_wrong barred = false
is_wrong clash = false
is_wrong (sensed v) = false

unfoldable pub is_reserved : Read → Bool
is_reserved (plain (good c)) = false
is_reserved (plain wrong_bits) = false
is_reserved (plain reserved) = true
is_reserved (moved m) = false
is_reserved asleep = false
is_reserved barred = false
is_reserved clash = false
is_reserved (sensed v) = false

unfoldable pub is_barred : Read → Bool
is_barred (plain d) = false
is_barred (moved m) = false
is_barred asleep = false
is_barred barred = true
is_barred clash = false
is_barred (sensed v) = false

unfoldable pub is_clash : Read → Bool
is_clash (plain d) = false
is_clash (moved m) = false
is_clash asleep = false
is_clash barred = false
is_clash clash = true
is_clash (sensed v) = false

-- a value of MR4 whose code is taken
unfoldable pub code_good : Read → Bool
code_good (plain d) = true
code_good (moved m) = true
code_good asleep = true
code_good barred = true
code_good clash = true
code_good (sensed v) = mr4_good v

unfoldable pub value_good : Card → Command → Bool
value_good card c = cond (is MRW c) (may_write card.period (carries c).ma (carries c).op) true

-- The checks of an entry with stamp t: whether the stamp rises; 19 and 20 through the cycle before it; the pins, both CS_n, the bank state, what is
-- permitted, the value of MRW and of MR4, the delay rules; 19 and 20 at the stamp.
unfoldable pub checks : Card → Delays → View → (rises : Bool) → (before at : Option (ℕ × ℕ)) → Read → (t : ℕ) → List (Option Refusal)
checks card delays v rises before at r t =
    let c = judged_as r in
    unless rises 5 ∷
    named 11 before ∷
    unless (not (is_wrong r)) 6 ∷
    unless (not (is_clash r)) 24 ∷
    unless (not (is_reserved r)) 7 ∷
    unless (state_good v.open? v.counter c) 8 ∷
    unless (not (is_barred r)) 16 ∷
    unless (value_good card c) 9 ∷
    unless (code_good r) 26 ∷
    named 10 (first_broken v.look (delay_rules delays c (move_of r) v.counter) t) ∷
    named 11 at ∷ []

-- ---- over the list, of both parts' entries: stamps rise over both together, 11 looks at both ledgers, and delays go by the temperature at the later entry
-- t is above the last stamp, and not below it; where there is no entry yet, any is
unfoldable pub above : Past → ℕ → Bool
above [] t = true
above (e ∷ p) t = ltb e.stamp t

unfoldable pub not_below : Past → ℕ → Bool
not_below [] t = true
not_below (e ∷ p) t = leb e.stamp t

unfoldable pub entry_checks : Card → Past → Entry → List (Option Refusal)
entry_checks card past e =
    checks card (delays_at card (mr4_at (own_for card past e))) (view_for card past e) (above past e.stamp)
    (first_in lpddr3 (books_of card past) e.stamp)
    (failing_in lpddr3 (books_of card (past_with card past e)) e.stamp)
    (read_for card past e) e.stamp

-- the end: E not below the last stamp; 19 and 20 through E
unfoldable pub end_checks : Card → Past → ℕ → List (Option Refusal)
end_checks card past end =
    unless (not_below past end) 5 ∷
    named 11 (first_in lpddr3 (books_of card past) (suc end)) ∷ []

unfoldable pub entry_refusal : Card → Past → Entry → Option Refusal
entry_refusal card past e = first_of (entry_checks card past e)

unfoldable pub end_refusal : Card → Past → ℕ → Option Refusal
end_refusal card past end = first_of (end_checks card past end)
