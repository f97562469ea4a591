-- Tagged fields over the list of bytes: head, card, entry, end (document 01, "The file: card, entries, end"). What was read of the card is the list of its
-- fields, the newest first; the tests of a tag, of a length and of a whole card are predicates of that.
use Rattle.std.specs.Prelude.{ℕ, suc, ◌+◌, ◌*◌, min, Bool, false, cond, not, ◌&&◌, ◌||◌, List, [], ◌∷◌, leb, ltb, eqb, length, take, drop}
use Rattle.std.proofs.Math.Option.{Option, none, some}
use Rattle.rules.specs.Lists.{is_one_of}
use Rattle.rules.specs.Card.{Timing, Card}
use Rattle.rules.specs.Units.{femto}
use Rattle.rules.specs.Registers.{mr2_good}
use Rattle.rules.specs.Ranges.{period_good, groups_good, trefi_good, timing_good, start_good, raise_good}
use Rattle.rules.specs.Entries.{Body, pins, mr4, Entry}
use Rattle.rules.specs.Checks.{Refusal, refusal}

-- a field as it stands in the file: a tag byte, the two bytes of its length, the value
pub record Field : Type 0 where
  pub tag : ℕ
  pub high : ℕ
  pub low : ℕ
  pub value : List ℕ

unfoldable pub bytes_of : Field → List ℕ
bytes_of f = f.tag ∷ f.high ∷ f.low ∷ f.value

unfoldable pub size_of : Field → ℕ
size_of f = 3 + length f.value

-- numbers are big-endian
unfoldable pub number_from : ℕ → List ℕ → ℕ
number_from a [] = a
number_from a (b ∷ bs) = number_from (256 * a + b) bs

unfoldable pub number : List ℕ → ℕ
number = number_from 0

-- ---- tags
-- The card's tags come in groups, each whole, its tags once and in their order. The first group always comes; a later one may, behind those before it
pub record Group : Type 0 where
  pub first : ℕ
  pub last : ℕ

infix 90 ◌up_to◌
unfoldable pub ◌up_to◌ : ℕ → ℕ → Group
a up_to b = record { first = a; last = b }

-- the tags of a part that sleeps
abbrev pub sleep_tags : Group
sleep_tags = 19 up_to 22

unfoldable pub groups : List Group
groups = 1 up_to 18 ∷ sleep_tags ∷ 23 up_to 23 ∷ 25 up_to 25 ∷ 26 up_to 26 ∷ []

-- the tag of the newest field, 0 before the first
unfoldable pub last_tag : List Field → ℕ
last_tag [] = 0
last_tag (f ∷ fs) = f.tag

-- the card has this tag
unfoldable pub has : ℕ → List Field → Bool
has t [] = false
has t (f ∷ fs) = eqb f.tag t || has t fs

-- a group ends with this tag
unfoldable pub ends_group : List Group → ℕ → Bool
ends_group [] t = false
ends_group (g ∷ gs) t = eqb g.last t || ends_group gs t

-- a group begins with this tag
unfoldable pub begins_group : List Group → ℕ → Bool
begins_group [] t = false
begins_group (g ∷ gs) t = eqb g.first t || begins_group gs t

-- the card could end here
unfoldable pub card_whole : List Field → Bool
card_whole fs = ends_group groups (last_tag fs)

-- an entry (32), or the entry-like field of a temperature (34)
unfoldable pub of_entry : ℕ → Bool
of_entry tag = eqb tag 32 || eqb tag 34

-- or the end (33)
unfoldable pub of_trace : ℕ → Bool
of_trace tag = of_entry tag || eqb tag 33

-- Behind a tag of the card, the next one; where the card could end, an entry or the end, or, before the first entry, the first tag of a later group
unfoldable pub may_follow : (entries : Bool) → (last tag : ℕ) → Bool
may_follow entries last tag =
    cond (ends_group groups last) (of_trace tag || (not entries && (ltb last tag && begins_group groups tag))) (eqb tag (suc last))

unfoldable pub may_come : (entries : Bool) → List Field → ℕ → Bool
may_come entries fs tag = may_follow entries (last_tag fs) tag

-- ---- a tag that may not come. FileReading says it over the fields that were read (`Wrong`, `Expected`)
unfoldable pub in_group : Group → ℕ → Bool
in_group g t = leb g.first t && leb t g.last

unfoldable pub in_groups : List Group → ℕ → Bool
in_groups [] t = false
in_groups (g ∷ gs) t = in_group g t || in_groups gs t

-- a tag of the card
unfoldable pub of_card : ℕ → Bool
of_card = in_groups groups

-- or of the trace
unfoldable pub known : ℕ → Bool
known t = of_card t || of_trace t

-- seen, or behind a higher tag: the card's rise, and an entry's is above them
unfoldable pub passed_by : (entries : Bool) → (last tag : ℕ) → Bool
passed_by entries last t = entries || leb t last

-- unknown; a tag of the card that was passed; else too early
unfoldable pub wrong_number : (entries : Bool) → (last tag : ℕ) → ℕ
wrong_number entries last t = cond (known t) (cond (of_card t && passed_by entries last t) 18 19) 17

-- The lowest required tag that was not read, else the end's, which is above all of the card's. Inside a group that is the next one; where the card could end it
-- is 19, if one of 19 to 22 comes and none was read
unfoldable pub expected_after : (last : ℕ) → (four : Bool) → (tag : ℕ) → ℕ
expected_after last four t = cond (ends_group groups last) (cond (in_group sleep_tags t && not four) sleep_tags.first 33) (min (suc last) 33)

-- what was read is told by whether an entry has come, by the newest tag of the card, and by whether 19 to 22 were read
unfoldable pub wrong_after : (entries : Bool) → (last : ℕ) → (four : Bool) → (tag : ℕ) → Refusal
wrong_after entries last four t = refusal (wrong_number entries last t) (expected_after last four t) 0

unfoldable pub wrong_tag : (entries : Bool) → List Field → ℕ → Refusal
wrong_tag entries fs t = wrong_after entries (last_tag fs) (has sleep_tags.first fs) t

-- ---- lengths
-- a tag and the lengths that it may have
pub record Listed : Type 0 where
  pub tag : ℕ
  pub sizes : List ℕ

infix 90 ◌of◌
unfoldable pub ◌of◌ : ℕ → ℕ → Listed
t of l = record { tag = t; sizes = l ∷ [] }

infix 90 ◌of◌or◌
unfoldable pub ◌of◌or◌ : ℕ → ℕ → ℕ → Listed
t of k or l = record { tag = t; sizes = k ∷ l ∷ [] }

unfoldable pub lengths : List Listed
lengths =
    1 of 4 or 8 ∷ 2 of 1 ∷ 3 of 2 ∷ 4 of 4 ∷
    5 of 5 ∷ 6 of 5 ∷ 7 of 5 ∷ 8 of 5 ∷ 9 of 5 ∷ 10 of 5 ∷ 11 of 5 ∷ 12 of 5 ∷ 13 of 5 ∷ 14 of 5 ∷ 15 of 5 ∷ 16 of 5 ∷ 17 of 5 ∷ 18 of 5 ∷
    19 of 5 ∷ 20 of 5 ∷ 21 of 5 ∷ 22 of 5 ∷ 23 of 1 ∷ 25 of 1 ∷ 26 of 4 ∷
    32 of 7 ∷ 33 of 4 ∷ 34 of 5 ∷ []

unfoldable pub is_listed : List Listed → (tag size : ℕ) → Bool
is_listed [] t l = false
is_listed (x ∷ xs) t l = (eqb x.tag t && is_one_of x.sizes l) || is_listed xs t l

unfoldable pub length_good : (tag size : ℕ) → Bool
length_good = is_listed lengths

-- ---- the head of what is left: tag, length, cut
pub data Head : Type 0 where
  whole : Field → (rest : List ℕ) → Head
  cut : Head
  bad_tag : Refusal → Head
  bad_length : Head

unfoldable pub valued : (tag high low : ℕ) → List ℕ → Head
valued t h l bs =
    cond (leb (256 * h + l) (length bs))
    (whole (record { tag = t; high = h; low = l; value = take (256 * h + l) bs }) (drop (256 * h + l) bs)) cut

unfoldable pub sized : (tag : ℕ) → List ℕ → Head
sized t [] = cut
sized t (h ∷ []) = cut
sized t (h ∷ l ∷ bs) = cond (length_good t (256 * h + l)) (valued t h l bs) bad_length

unfoldable pub head_of : (entries : Bool) → List Field → List ℕ → Head
head_of b fs [] = cut
head_of b fs (t ∷ bs) = cond (may_come b fs t) (sized t bs) (bad_tag (wrong_tag b fs t))

-- ---- values
unfoldable pub timing_of : List ℕ → Timing
timing_of v = record { duration = number (take 4 v); floor = number (drop 4 v) }

-- the value of the card's field with this tag
unfoldable pub value_of : ℕ → List Field → List ℕ
value_of t [] = []
value_of t (f ∷ fs) = cond (eqb f.tag t) f.value (value_of t fs)

unfoldable pub number_at : ℕ → List Field → ℕ
number_at t fs = number (value_of t fs)

unfoldable pub timing_at : ℕ → List Field → Timing
timing_at t fs = timing_of (value_of t fs)

-- the period in fs: a value of 8 bytes has it, one of 4 has it in ps
unfoldable pub period_of : List ℕ → ℕ
period_of v = cond (eqb (length v) 8) (number v) (femto (number v))

unfoldable pub period_at : List Field → ℕ
period_at fs = period_of (value_of 1 fs)

-- where the card has this tag
unfoldable pub number_if : ℕ → List Field → Option ℕ
number_if t fs = cond (has t fs) (some (number_at t fs)) none

unfoldable pub card_of : List Field → Card
card_of fs = record {
  period = period_at fs;
  mr2 = number_at 2 fs;
  groups = number_at 3 fs;
  trefi = number_at 4 fs;
  trcd = timing_at 5 fs;
  trppb = timing_at 6 fs;
  trpab = timing_at 7 fs;
  tras = timing_at 8 fs;
  trrd = timing_at 9 fs;
  tfaw = timing_at 10 fs;
  trtp = timing_at 11 fs;
  twr = timing_at 12 fs;
  twtr = timing_at 13 fs;
  tdqsck = timing_at 14 fs;
  trfcab = timing_at 15 fs;
  trfcpb = timing_at 16 fs;
  tmrr = timing_at 17 fs;
  tmrw = timing_at 18 fs;
  sleeps = has 19 fs;
  tcke = timing_at 19 fs;
  txp = timing_at 20 fs;
  tckesr = timing_at 21 fs;
  txsr = timing_at 22 fs;
  mr1 = number_if 23 fs;
  paired = has 25 fs;
  gap = number_at 25 fs;
  raise = number_at 26 fs;
}

-- a gap is a byte, and comes in no card with tags 19 to 22
unfoldable pub gap_good : List Field → ℕ → Bool
gap_good fs x = leb x 255 && not (has 19 fs)

-- a card value in range; MR2 and tREFI are held against the period read before
unfoldable pub field_good : List Field → Field → Bool
field_good fs f =
    let t = f.tag in
    let x = number f.value in
    cond (eqb t 1) (period_good (period_of f.value))
    (cond (eqb t 2) (mr2_good (period_at fs) x)
    (cond (eqb t 3) (groups_good x)
    (cond (eqb t 4) (trefi_good (period_at fs) x)
    (cond (eqb t 23) (start_good x)
    (cond (eqb t 25) (gap_good fs x)
    (cond (eqb t 26) (raise_good x) (timing_good (timing_of f.value))))))))

-- an entry: stamp (4 bytes), pins (3) or the value of MR4 (1); the end: E
unfoldable pub body_of : (tag : ℕ) → ℕ → Body
body_of tag x = cond (eqb tag 34) (mr4 x) (pins x)

unfoldable pub entry_of : Field → Entry
entry_of f = record { stamp = number (take 4 f.value); body = body_of f.tag (number (drop 4 f.value)) }

unfoldable pub end_of : Field → ℕ
end_of f = number f.value
