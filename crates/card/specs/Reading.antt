-- What the next field of a card makes of it: refused 17, 18 or 19 (tag), 3 (length), 4 (range), or the card with the value in it.
use Rattle.std.specs.Prelude.{ℕ, ◌-◌, ◌≡◌, Bool, false, cond, not, ◌&&◌, ◌||◌, List, [], ◌∷◌, leb, eqb, length, set, replicate, Result, Ok, Err}
use Rattle.std.proofs.Math.Option.{Option, none, some}
use Rattle.rules.specs.Card as paper
use Rattle.rules.specs.Registers.{mr2_good}
use Rattle.rules.specs.Ranges.{within, period_good, groups_good, trefi_good, timing_good, start_good, raise_good}
use Rattle.rules.specs.Folds.{first_of}
use Rattle.rules.specs.Checks.{Refusal, refusal, unless}
use Rattle.rules.specs.Form.{may_follow, of_card, wrong_after, number, period_of, timing_of, length_good}
use Rattle.card.specs.declared.Card.{Card}
use Rattle.card.specs.declared.Misplaced.{Misplaced}
use Rattle.card.specs.declared.Misplaced.TheVariants.{Unknown, Passed, Early}
use Rattle.card.specs.declared.Unread.{Unread}
use Rattle.card.specs.declared.Unread.TheVariants.{Tag, Length, Value}
use Rattle.card.specs.Tags.{wrong_of}

-- the lengths that a tag may have, twice the same where there is one; 0 where there is no such tag
abbrev pub sizes : ℕ → ℕ → ℕ × ℕ
sizes k l = (k, l)

unfoldable pub sizes_of : ℕ → ℕ × ℕ
sizes_of t =
    cond (eqb t 1) (sizes 4 8)
    (cond (eqb t 4 || eqb t 26 || eqb t 33) (sizes 4 4)
    (cond (eqb t 2 || eqb t 23 || eqb t 25) (sizes 1 1)
    (cond (eqb t 3) (sizes 2 2) (cond (within 5 22 t || eqb t 34) (sizes 5 5) (cond (eqb t 32) (sizes 7 7) (sizes 0 0))))))

-- the number of a value: a period is in fs
unfoldable pub number_for : (tag : ℕ) → List ℕ → ℕ
number_for t v = cond (eqb t 1) (period_of v) (number v)

-- whether a value is in range: tags 1 to 4, 23, 25 and 26 are the number x, tags 5 to 22 the timing y; sleeps and period are those read before
unfoldable pub good : (sleeps : Bool) → (period tag x : ℕ) → paper.Timing → Bool
good s p t x y =
    cond (eqb t 1) (period_good x)
    (cond (eqb t 2) (mr2_good p x)
    (cond (eqb t 3) (groups_good x)
    (cond (eqb t 4) (trefi_good p x)
    (cond (eqb t 23) (start_good x)
    (cond (eqb t 25) (leb x 255 && not s)
    (cond (eqb t 26) (raise_good x) (timing_good y)))))))

-- the card with the value of this tag in it
unfoldable pub put : Card → (tag x : ℕ) → paper.Timing → Card
put c t x y = record {
  period = record { 0 = cond (eqb t 1) x c.period.0 };
  mr2 = cond (eqb t 2) x c.mr2;
  groups = cond (eqb t 3) x c.groups;
  trefi = cond (eqb t 4) x c.trefi;
  durations = cond (within 5 22 t) (set c.durations (t - 5) y.duration) c.durations;
  floors = cond (within 5 22 t) (set c.floors (t - 5) y.floor) c.floors;
  sleeps = eqb t 19 || c.sleeps;
  programmed = eqb t 23 || c.programmed;
  mr1 = cond (eqb t 23) x c.mr1;
  paired = eqb t 25 || c.paired;
  gap = cond (eqb t 25) x c.gap;
  raise = cond (eqb t 26) x c.raise;
}

-- what is refused, by the documents' numbers: the tag, where it is none of the card's or may not come, the length, the range
unfoldable pub read_refusal : Card → (begun : Bool) → (last tag : ℕ) → List ℕ → Option Refusal
read_refusal c b last t v =
    cond (of_card t && may_follow b last t)
    (first_of (unless (length_good t (length v)) 3 ∷ unless (good c.sleeps c.period.0 t (number_for t v) (timing_of v)) 4 ∷ []))
    (some (wrong_after b last c.sleeps t))

-- the refusal that an answer is, if it is one
unfoldable pub refusal_of : Result Card Unread → Option Refusal
refusal_of (Ok c) = none
refusal_of (Err (Tag w)) = some (wrong_of w)
refusal_of (Err Length) = some (refusal 3 0 0)
refusal_of (Err Value) = some (refusal 4 0 0)

-- the card behind an answer, on a refusal the old one
unfoldable pub card_then : Card → Result Card Unread → Card
card_then old (Ok c) = c
card_then old (Err e) = old

-- the old one, where it is refused
unfoldable pub unless_refused : {A : Type 0} → Option Refusal → A → A → A
unless_refused none old new = new
unless_refused (some x) old new = old

-- this refusal, or none, is told, and the card is the one with the value in it, or on a refusal the old one
pub record ReadAs (c : Card) (b : Bool) (last t : ℕ) (v : List ℕ) (r : Result Card Unread) : Type 0 where
  pub told : refusal_of r ≡ read_refusal c b last t v
  pub card : card_then c r ≡ unless_refused (read_refusal c b last t v) c (put c t (number_for t v) (timing_of v))

-- the answer that a refusal is
unfoldable pub misplaced_by : ℕ → Misplaced
misplaced_by k = cond (eqb k 17) Unknown (cond (eqb k 18) Passed Early)

unfoldable pub unread_by : Refusal → Unread
unread_by x = cond (eqb x.number 3) Length (cond (eqb x.number 4) Value (Tag (record { why = misplaced_by x.number; expected = x.rule })))

unfoldable pub answer_by : Option Refusal → (new : Card) → Result Card Unread
answer_by none new = Ok new
answer_by (some x) new = Err (unread_by x)

-- the answer so told (proofs/Told, `read_is`)
unfoldable pub read_of : Card → (begun : Bool) → (last tag : ℕ) → List ℕ → Result Card Unread
read_of c b last t v = answer_by (read_refusal c b last t v) (put c t (number_for t v) (timing_of v))

unfoldable pub blank_card : Card
blank_card = record {
  period = record { 0 = 0 };
  mr2 = 0;
  groups = 0;
  trefi = 0;
  durations = replicate 18 0;
  floors = replicate 18 0;
  sleeps = false;
  programmed = false;
  mr1 = 0;
  paired = false;
  gap = 0;
  raise = 0;
}
