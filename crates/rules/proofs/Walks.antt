-- Files by any judge of fields; and that two judges say the same of a file, where they do the same with every field that it comes to, or a tag comes that only
-- one of them knows, or an entry is taken of which one of them knows less. So that a file which uses nothing of a request has the verdict it had is proved of what
-- the request changed, and each such theorem follows on the last.
use Prim.Native.Nat.{ℕ, zero, suc, ◌+◌, ◌*◌, ◌<◌}
use mathlib.Core.Path.{◌≡◌, refl, ap, sym, ◌∙◌, subst}
use mathlib.Core.Logic.{◌⊎◌, inl, inr, ⊎_elim}
use mathlib.Core.Bool.{Bool, true, false, cond}
use mathlib.Core.List.{List, [], ◌∷◌, ◌++◌, append_assoc}
use mathlib.Core.Option.{Option, none, some}
use native.Mathlib.Omega.{arith}
use lib.Dec.{eqb}
use lib.ListN.{length, length-append}
use borrow.Author.Tests.{eqb-true}
use Rattle.rules.specs.Lists.{Every}
use Rattle.rules.specs.Card.{Card}
use Rattle.rules.specs.Past.{Taken, Past, command_count}
use Rattle.rules.specs.Entries.{Entry, taken_for, past_with}
use Rattle.rules.specs.Checks.{Refusal, entry_refusal, end_refusal}
use Rattle.rules.specs.Verdict.{refresh_count, ledgers_at}
use Rattle.rules.specs.Form.{Field, bytes_of, size_of, card_whole, of_entry, of_trace, may_follow, may_come, wrong_tag, length_good, Head, whole, cut, bad_tag, bad_length, valued, sized, head_of, card_of, field_good, entry_of, end_of}
use Rattle.rules.specs.File.{FileVerdict, accepted, refused, Step, goes_on, ends, or_refused, card_step, entry_step, accepted_at, closing, end_step, by_head, begun, step_of, Judged, file_from, judged}
use Rattle.rules.specs.FileReading.{RightForm, CardRight, EntryField, card_bytes, entries_bytes}
use Rattle.rules.proofs.Table.{every_both}
use Rattle.rules.proofs.FileHeads.{by_value}
use Rattle.rules.proofs.CardTags.{any_form, no_more, entry_tag, entry_high, next_small}

-- which tag may come, what refuses one that may not, and the lengths that it may have; which value of the card's is in range; what refuses an entry, and what it is
-- taken as; what refuses an end, and the verdict there
pub record Judge : Type 0 where
  pub come : (entries : Bool) → List Field → ℕ → Bool
  pub wrong : (entries : Bool) → List Field → ℕ → Refusal
  pub size : (tag size : ℕ) → Bool
  pub good : List Field → Field → Bool
  pub entry : Card → Past → Entry → Option Refusal
  pub taken : Card → Past → Entry → Taken
  pub end : Card → Past → ℕ → Option Refusal
  pub verdict : Card → Past → ℕ → FileVerdict

unfoldable pub sized_by : (size : (tag size : ℕ) → Bool) → (tag : ℕ) → List ℕ → Head
sized_by g t [] = cut
sized_by g t (h ∷ []) = cut
sized_by g t (h ∷ l ∷ bs) = cond (g t (256 * h + l)) (valued t h l bs) bad_length

module _ (j : Judge) where
  unfoldable pub head_by : (entries : Bool) → List Field → List ℕ → Head
  head_by b fs [] = cut
  head_by b fs (t ∷ bs) = cond (j.come b fs t) (sized_by j.size t bs) (bad_tag (j.wrong b fs t))

  unfoldable pub entry_by : List Field → Past → ℕ → Field → List ℕ → Step
  entry_by fs past at f rest = or_refused at (j.entry (card_of fs) past (entry_of f)) (goes_on fs (j.taken (card_of fs) past (entry_of f) ∷ past) (at + size_of f) rest)

  unfoldable pub end_by : List Field → Past → ℕ → Field → List ℕ → Step
  end_by fs past at f rest = or_refused at (j.end (card_of fs) past (end_of f)) (closing (j.verdict (card_of fs) past (end_of f)) (at + size_of f) rest)

  unfoldable pub card_by : List Field → Past → ℕ → Field → List ℕ → Step
  card_by fs past at f rest = cond (j.good fs f) (goes_on (f ∷ fs) past (at + size_of f) rest) (ends (refused 4 0 at 0))

  -- a field is an entry, the end, or one of the card, and what it is not is not looked at; a judge that does not know a tag lets it not come
  abbrev pub pick : List Field → Past → ℕ → Field → List ℕ → (entry end : Bool) → Step
  pick fs past at f rest x y = elim x [
    | true ↦ entry_by fs past at f rest
    | false ↦ elim y [ true ↦ end_by fs past at f rest | false ↦ card_by fs past at f rest ]
  ]

  unfoldable pub by_head_by : List Field → Past → ℕ → Head → Step
  by_head_by fs past at cut = ends (refused 1 0 at 0)
  by_head_by fs past at (bad_tag x) = ends (refused x.number x.rule at x.cycle)
  by_head_by fs past at bad_length = ends (refused 3 0 at 0)
  by_head_by fs past at (whole f rest) = pick fs past at f rest (of_entry f.tag) (eqb f.tag 33)

  unfoldable pub step_by : List Field → Past → ℕ → List ℕ → Step
  step_by fs past at bs = by_head_by fs past at (head_by (begun past) fs bs)

  unfoldable pub file_by : ℕ → List Field → Past → ℕ → List ℕ → Judged
  file_by zero fs past at bs = record { past = past; verdict = refused 1 0 at 0 }
  file_by (suc k) fs past at bs =
      elim (step_by fs past at bs) [ goes_on fs' past' at' rest ↦ file_by k fs' past' at' rest | ends v ↦ record { past = past; verdict = v } ]

  unfoldable pub judged_by : List ℕ → Judged
  judged_by bs = file_by (suc (length bs)) [] [] 0 bs

-- where they list the same lengths
pub same_sized : (g h : (tag size : ℕ) → Bool) (t : ℕ) → ((l : ℕ) → g t l ≡ h t l) → (bs : List ℕ) → sized_by g t bs ≡ sized_by h t bs
unfolding sized_by
same_sized g h t e [] = refl
same_sized g h t e (x ∷ []) = refl
same_sized g h t e (x ∷ y ∷ bs) = rw (e (256 * x + y))

-- ---- the judge of the definitions
unfoldable pub defined : Judge
defined = record {
  come = may_come;
  wrong = wrong_tag;
  size = length_good;
  good = field_good;
  entry = entry_refusal;
  taken = taken_for;
  end = end_refusal;
  verdict = λ card past end. accepted (command_count past) (refresh_count card past) (ledgers_at card past end);
}

defined_step : (fs : List Field) (past : Past) (at : ℕ) (bs : List ℕ) → step_by defined fs past at bs ≡ step_of fs past at bs
unfolding step_by step_of
defined_step fs past at bs = ap (by_head_by defined fs past at) (head (begun past) bs) ∙ by (head_of (begun past) fs bs)
  where
    head : (b : Bool) (bs : List ℕ) → head_by defined b fs bs ≡ head_of b fs bs
    head b [] = unfold head_by head_of in refl
    head b (t ∷ bs) = unfold head_by head_of defined in ap (λ (h : Head). cond (may_come b fs t) h (bad_tag (wrong_tag b fs t))) (size bs)
      where
        size : (bs : List ℕ) → sized_by length_good t bs ≡ sized t bs
        size [] = unfold sized_by sized in refl
        size (h ∷ []) = unfold sized_by sized in refl
        size (h ∷ l ∷ bs) = unfold sized_by sized in refl

    by : (h : Head) → by_head_by defined fs past at h ≡ by_head fs past at h
    by cut = unfold by_head_by by_head in refl
    by (bad_tag x) = unfold by_head_by by_head in refl
    by bad_length = unfold by_head_by by_head in refl
    by (whole f rest) = unfold by_head_by by_head in go (of_entry f.tag) (eqb f.tag 33)
      where
        go : (x y : Bool) → pick defined fs past at f rest x y ≡ cond x (entry_step fs past at f rest) (cond y (end_step fs past at f rest) (card_step fs past at f rest))
        go true y = unfold entry_by defined entry_step past_with in refl
        go false true = unfold end_by defined end_step accepted_at in refl
        go false false = unfold card_by defined card_step in refl

-- what a judge says behind a step
unfoldable pub behind : (List Field → Past → ℕ → List ℕ → Judged) → Past → Step → Judged
behind file past (goes_on fs' past' at' rest) = file fs' past' at' rest
behind file past (ends v) = record { past = past; verdict = v }

pub by_step : (j : Judge) (k : ℕ) (fs : List Field) (past : Past) (at : ℕ) (bs : List ℕ) → file_by j (suc k) fs past at bs ≡ behind (file_by j k) past (step_by j fs past at bs)
unfolding file_by
by_step j k fs past at bs = go (step_by j fs past at bs)
  where
    go : (s : Step) → Path Judged (elim s [ goes_on fs' past' at' rest ↦ file_by j k fs' past' at' rest | ends v ↦ record { past = past; verdict = v } ]) (behind (file_by j k) past s)
    go (goes_on fs' past' at' rest) = unfold behind in refl
    go (ends v) = unfold behind in refl

from_step : (k : ℕ) (fs : List Field) (past : Past) (at : ℕ) (bs : List ℕ) → file_from (suc k) fs past at bs ≡ behind (file_from k) past (step_of fs past at bs)
unfolding file_from
from_step k fs past at bs = go (step_of fs past at bs)
  where
    go : (s : Step) → Path Judged (elim s [ goes_on fs' past' at' rest ↦ file_from k fs' past' at' rest | ends v ↦ record { past = past; verdict = v } ]) (behind (file_from k) past s)
    go (goes_on fs' past' at' rest) = unfold behind in refl
    go (ends v) = unfold behind in refl

defined_file : (k : ℕ) (fs : List Field) (past : Past) (at : ℕ) (bs : List ℕ) → file_by defined k fs past at bs ≡ file_from k fs past at bs
defined_file zero fs past at bs = unfold file_by file_from in refl
defined_file (suc k) fs past at bs =
    by_step defined k fs past at bs
    ∙ ap (behind (file_by defined k) past) (defined_step fs past at bs)
    ∙ go (step_of fs past at bs) (λ fs' past' at' rest. defined_file k fs' past' at' rest)
    ∙ sym (from_step k fs past at bs)
  where
    go : (s : Step) → ((fs' : List Field) (past' : Past) (at' : ℕ) (rest : List ℕ) → file_by defined k fs' past' at' rest ≡ file_from k fs' past' at' rest) →
        behind (file_by defined k) past s ≡ behind (file_from k) past s
    go (goes_on fs' past' at' rest) ih = unfold behind in ih fs' past' at' rest
    go (ends v) ih = unfold behind in refl

pub defined_judged : (bs : List ℕ) → judged_by defined bs ≡ judged bs
unfolding judged_by judged
defined_judged bs = defined_file (suc (length bs)) [] [] 0 bs

-- ---- what every entry that is taken keeps, the entries taken of a file have
module _ (j : Judge) (P : Past → Type 0) (next : (card : Card) (past : Past) (e : Entry) → P past → P (j.taken card past e ∷ past)) where
  abbrev Has : Step → Type 0
  Has (goes_on fs past at rest) = P past
  Has (ends v) = Unit {0}

  module _ (fs : List Field) (past : Past) (at : ℕ) (p : P past) where
    unless_refused_lem : (o : Option Refusal) (s : Step) → Has s → Has (or_refused at o s)
    unfolding or_refused
    unless_refused_lem none s h = h
    unless_refused_lem (some x) s h = tt

    has_closed : (v : FileVerdict) (n : ℕ) (rest : List ℕ) → Has (closing v n rest)
    unfolding closing
    has_closed v n [] = tt
    has_closed v n (b ∷ bs) = tt

    has_card : (f : Field) (rest : List ℕ) → Has (card_by j fs past at f rest)
    unfolding card_by
    has_card f rest = go (j.good fs f)
      where
        go : (x : Bool) → Has (cond x (goes_on (f ∷ fs) past (at + size_of f) rest) (ends (refused 4 0 at 0)))
        go true = p
        go false = tt

    has_step : (h : Head) → Has (by_head_by j fs past at h)
    unfolding by_head_by
    has_step cut = tt
    has_step (bad_tag x) = tt
    has_step bad_length = tt
    has_step (whole f rest) = go (of_entry f.tag) (eqb f.tag 33)
      where
        go : (x y : Bool) → Has (pick j fs past at f rest x y)
        go true y = unfold entry_by in unless_refused_lem _ _ (next (card_of fs) past (entry_of f) p)
        go false true = unfold end_by in unless_refused_lem _ _ (has_closed _ _ rest)
        go false false = has_card f rest

  has_file : (k : ℕ) (fs : List Field) (past : Past) (at : ℕ) (bs : List ℕ) → P past → P (file_by j k fs past at bs).past
  has_file zero fs past at bs p = unfold file_by in p
  has_file (suc k) fs past at bs p = rw (by_step j k fs past at bs) (go (step_by j fs past at bs) (unfold step_by in has_step fs past at p _) (λ fs' past' at' rest. has_file k fs' past' at' rest))
    where
      go : (s : Step) → Has s → ((fs' : List Field) (past' : Past) (at' : ℕ) (rest : List ℕ) → P past' → P (file_by j k fs' past' at' rest).past) →
          P (behind (file_by j k) past s).past
      go (goes_on fs' past' at' rest) h ih = unfold behind in ih fs' past' at' rest h
      go (ends v) h ih = unfold behind in p

  pub all_have : (bytes : List ℕ) → P [] → P (judged_by j bytes).past
  unfolding judged_by
  all_have bytes p = has_file (suc (length bytes)) [] [] 0 bytes p

-- ---- what stands at a place of the file: a field whose tag may come, with a listed length and a whole value, or none
pub record Sized (size : (tag size : ℕ) → Bool) (f : Field) : Type 0 where
  pub listed : size f.tag (256 * f.high + f.low) ≡ true
  pub whole : length f.value ≡ 256 * f.high + f.low

pub data Stands (come : ℕ → Bool) (size : (tag size : ℕ) → Bool) : List ℕ → Head → Type 0 where
  is_field : (f : Field) (rest : List ℕ) → come f.tag ≡ true → Sized size f → Stands come size (bytes_of f ++ rest) (whole f rest)
  is_cut : {bs : List ℕ} → Stands come size bs cut
  is_bad_tag : {bs : List ℕ} (x : Refusal) → Stands come size bs (bad_tag x)
  is_bad_length : {bs : List ℕ} → Stands come size bs bad_length

module _ (come : ℕ → Bool) (size : (tag size : ℕ) → Bool) where
  valued_stands : (t h l : ℕ) (bs : List ℕ) → come t ≡ true → size t (256 * h + l) ≡ true → Stands come size (t ∷ h ∷ l ∷ bs) (valued t h l bs)
  valued_stands t h l bs m g = by_value (Stands come size) t h l bs full (λ s. is_cut)
    where
      full : (v rest : List ℕ) → length v ≡ 256 * h + l → Stands come size (t ∷ h ∷ l ∷ v ++ rest) (whole (record { tag = t; high = h; low = l; value = v }) rest)
      full v rest e = unfold bytes_of in is_field (record { tag = t; high = h; low = l; value = v }) rest m (record { listed = g; whole = e })

  sized_stands : (t : ℕ) (bs : List ℕ) → come t ≡ true → Stands come size (t ∷ bs) (sized_by size t bs)
  unfolding sized_by
  sized_stands t [] m = is_cut
  sized_stands t (h ∷ []) m = is_cut
  sized_stands t (h ∷ l ∷ bs) m = go (size t (256 * h + l)) refl
    where
      go : (x : Bool) → size t (256 * h + l) ≡ x → Stands come size (t ∷ h ∷ l ∷ bs) (cond x (valued t h l bs) bad_length)
      go true g = valued_stands t h l bs m g
      go false g = is_bad_length

pub stands : (j : Judge) (b : Bool) (fs : List Field) (bs : List ℕ) → Stands (j.come b fs) j.size bs (head_by j b fs bs)
unfolding head_by
stands j b fs [] = is_cut
stands j b fs (t ∷ bs) = go (j.come b fs t) refl
  where
    go : (x : Bool) → j.come b fs t ≡ x → Stands (j.come b fs) j.size (t ∷ bs) (cond x (sized_by j.size t bs) (bad_tag (j.wrong b fs t)))
    go true m = sized_stands (j.come b fs) j.size t bs m
    go false m = is_bad_tag (j.wrong b fs t)

-- ---- up to a place all is of right form: the fields of the card and, behind a whole one, entries; the offset is the number of their bytes
-- there is a field
unfoldable pub any_of : List Field → Bool
any_of [] = false
any_of (f ∷ fs) = true

-- the values of the card have lengths that are listed so
unfoldable pub AllSized : (size : (tag size : ℕ) → Bool) → List Field → Type 0
AllSized g [] = Unit {0}
AllSized g (f ∷ fs) = (g f.tag (length f.value) ≡ true) × AllSized g fs

record Place (size : (tag size : ℕ) → Bool) (bytes : List ℕ) (fs : List Field) (past : Past) (at : ℕ) (bs : List ℕ) : Type 0 where
  right : CardRight fs
  sizes : AllSized size fs
  behind : begun past ≡ true → card_whole fs ≡ true
  es : List Field
  entries : Every (EntryField fs) es
  came : begun past ≡ any_of es
  split : bytes ≡ card_bytes fs ++ (entries_bytes es ++ bs)
  offset : at ≡ length (card_bytes fs) + length (entries_bytes es)

-- an entry and the end come behind a whole card
whole_before : (b : Bool) (fs : List Field) → CardRight fs → (t : ℕ) → 31 < t → may_come b fs t ≡ true → card_whole fs ≡ true
unfolding may_come may_follow card_whole
whole_before b fs r t l m = go (card_whole fs) refl
  where
    go : (x : Bool) → card_whole fs ≡ x → card_whole fs ≡ true
    go true w = w
    go false w = absurd (never (eqb-true t (suc _) (unfold card_whole in rw w at m)) (next_small fs r w))
      where
        never : {n : ℕ} → t ≡ suc n → suc n < 32 → ⊥
        never e k = omega arith

more_bytes : (es : List Field) (f : Field) (rest : List ℕ) → entries_bytes (es ++ (f ∷ [])) ++ rest ≡ entries_bytes es ++ (bytes_of f ++ rest)
unfolding entries_bytes
more_bytes [] f rest = append_assoc (bytes_of f) [] rest
more_bytes (x ∷ es) f rest =
    append_assoc (bytes_of x) (entries_bytes (es ++ (f ∷ []))) rest ∙ ap (λ (l : List ℕ). bytes_of x ++ l) (more_bytes es f rest)
    ∙ sym (append_assoc (bytes_of x) (entries_bytes es) (bytes_of f ++ rest))

more_length : (es : List Field) (f : Field) → length (entries_bytes (es ++ (f ∷ []))) ≡ length (entries_bytes es) + size_of f
unfolding entries_bytes size_of bytes_of
more_length [] f = rw length-append (omega arith)
more_length (x ∷ es) f = simp (length-append, more_length es f) (omega arith)

any_more : (es : List Field) (f : Field) → any_of (es ++ (f ∷ [])) ≡ true
unfolding any_of
any_more [] f = refl
any_more (x ∷ es) f = refl

module _ {size : (tag size : ℕ) → Bool} {bytes : List ℕ} where
  place_start : Place size bytes [] [] 0 bytes
  unfolding card_bytes entries_bytes
  place_start = record {
    right = unfold CardRight in tt;
    sizes = unfold AllSized in tt;
    behind = λ b. absurd (not_begun b);
    es = [];
    entries = unfold Every in tt;
    came = unfold begun any_of in refl;
    split = refl;
    offset = refl;
  }
    where
      not_begun : begun [] ≡ true → ⊥
      not_begun b = let q : false ≡ true = unfold begun in b in let z : ◌≡◌ {A = ℕ} 0 1 = cc in omega arith

  module _ (fs : List Field) (past : Past) (at : ℕ) (f : Field) (rest : List ℕ) (p : Place size bytes fs past at (bytes_of f ++ rest))
      (form : RightForm (begun past) fs f) where
    -- a field of the card comes before the first entry
    before_entries : of_trace f.tag ≡ false → begun past ≡ false
    before_entries o = go (begun past) refl
      where
        go : (x : Bool) → begun past ≡ x → begun past ≡ false
        go true b = absurd (no_more fs f (rw b at form) (p.behind b) o)
        go false b = b

    place_card : of_trace f.tag ≡ false → size f.tag (length f.value) ≡ true → field_good fs f ≡ true → Place size bytes (f ∷ fs) past (at + size_of f) rest
    place_card o s g = go p.es p.came p.split p.offset
      where
        b : begun past ≡ false
        b = before_entries o

        never : {x y : Bool} → x ≡ false → x ≡ y → y ≡ true → ⊥
        never p q r = let z : true ≡ false = cc in let y : ◌≡◌ {A = ℕ} 0 1 = cc in omega arith

        go : (es : List Field) → begun past ≡ any_of es → bytes ≡ card_bytes fs ++ (entries_bytes es ++ (bytes_of f ++ rest)) →
            at ≡ length (card_bytes fs) + length (entries_bytes es) → Place size bytes (f ∷ fs) past (at + size_of f) rest
        go (x ∷ es) c e n = absurd (never b c (unfold any_of in refl))
        go [] c e n = record {
          right = unfold CardRight in (rw b at form, o, g, p.right);
          sizes = unfold AllSized in (s, p.sizes);
          behind = λ q. absurd (never b refl q);
          es = [];
          entries = unfold Every in tt;
          came = c;
          split = unfold card_bytes entries_bytes in (unfold entries_bytes in e) ∙ sym (append_assoc (card_bytes fs) (bytes_of f) rest);
          offset = unfold card_bytes entries_bytes size_of bytes_of in rw length-append (unfold entries_bytes in omega (arith, n));
        }

    place_entry : of_entry f.tag ≡ true → (e : Taken) → Place size bytes fs (e ∷ past) (at + size_of f) rest
    place_entry o e = record {
      right = p.right;
      sizes = p.sizes;
      behind = λ b. whole_before (begun past) fs p.right f.tag (entry_high f.tag o) form.tag;
      es = p.es ++ (f ∷ []);
      entries = every_both (EntryField fs) p.es (f ∷ []) p.entries (unfold Every in (record { form = any_form true fs f (entry_tag f.tag o) form; is_entry = o }, tt));
      came = unfold begun in sym (any_more p.es f);
      split = p.split ∙ ap (λ (l : List ℕ). card_bytes fs ++ l) (sym (more_bytes p.es f rest));
      offset = omega (arith, p.offset, more_length p.es f);
    }

-- ---- a newer judge and an older one, which knows fewer tags. `Is` says which tags it does not know, behind entries or not, and behind these fields of the card
-- one of them stands in the file, behind a right card that could end and entries of right form
pub record Newer (Is : (entries : Bool) → List Field → ℕ → Type 0) (bytes : List ℕ) : Type 0 where
  pub fs : List Field
  pub es : List Field
  pub tag : ℕ
  pub rest : List ℕ
  pub card : CardRight fs
  pub whole : card_whole fs ≡ true
  pub entries : Every (EntryField fs) es
  pub is : Is (any_of es) fs tag
  pub split : bytes ≡ card_bytes fs ++ (entries_bytes es ++ (tag ∷ rest))

-- and what was said of the file is a wrong tag there
pub record MetBy (wrong : (entries : Bool) → List Field → ℕ → Refusal) (Is : (entries : Bool) → List Field → ℕ → Type 0) (bytes : List ℕ) (j : Judged) : Type 0 where
  pub there : Newer Is bytes
  pub verdict : let x = wrong (any_of there.es) there.fs there.tag in
      j.verdict ≡ refused x.number x.rule (length (card_bytes there.fs) + length (entries_bytes there.es)) x.cycle

-- before request Three every wrong tag was 2
abbrev pub two : (entries : Bool) → List Field → ℕ → Refusal
two entries fs t = record { number = 2; rule = 0; offset = 0; cycle = 0 }

abbrev pub Met : (Is : (entries : Bool) → List Field → ℕ → Type 0) (bytes : List ℕ) (j : Judged) → Type 0
Met = MetBy two

-- both judges' tests of a tag: they agree, or the older one's fails, where the card could end, and P
abbrev pub TagTests : (newer older whole : Bool) → Type 0 → Type 0
TagTests x y w P = (x ≡ y) ⊎ ((y ≡ false) × (w ≡ true) × P)

pub tests_as : {x y v w : Bool} {P Q : Type 0} → (v ≡ true → P → (w ≡ true) × Q) → TagTests x y v P → TagTests x y w Q
tests_as f (inl e) = inl e
tests_as f (inr n) = let q = f n.1 n.2 in inr (n.0, q.0, q.1)

-- so the newer one lets come what the older one does
pub still_comes : {x y w : Bool} {P : Type 0} → TagTests x y w P → y ≡ true → x ≡ true
still_comes (inl e) m = e ∙ m
still_comes (inr n) m = let z : true ≡ false = sym m ∙ n.0 in let y : ◌≡◌ {A = ℕ} 0 1 = cc in absurd (omega arith)

-- an entry field that a judge lets come, behind a whole card
pub record Enters (j : Judge) (fs : List Field) (past : Past) (f : Field) : Type 0 where
  pub whole : card_whole fs ≡ true
  pub may : j.come (begun past) fs f.tag ≡ true
  pub is_entry : of_entry f.tag ≡ true

-- ---- two judges over a file, a the newer. `Also` holds at each place that the file comes to, of the fields of the card and the entries that were taken
-- behind these they do the same, and `Also` is kept: with a tag, unless it `Is` so, its lengths and its range; with an entry that may come; and, behind a whole card,
-- with the end. What the older one lists and holds to be in range is so still
pub record Alike (a b : Judge) (Is : (entries : Bool) → List Field → ℕ → Type 0) (Also : List Field → Past → Type 0) (fs : List Field) (past : Past) : Type 0 where
  pub tag : (t : ℕ) → TagTests (a.come (begun past) fs t) (b.come (begun past) fs t) (card_whole fs) (Is (begun past) fs t)
  pub known : (t : ℕ) → b.come (begun past) fs t ≡ true → may_come (begun past) fs t ≡ true
  pub wrong : (t : ℕ) → a.wrong (begun past) fs t ≡ b.wrong (begun past) fs t
  pub size : (t l : ℕ) → b.come (begun past) fs t ≡ true → a.size t l ≡ b.size t l
  pub listed : (t l : ℕ) → b.come (begun past) fs t ≡ true → b.size t l ≡ true → length_good t l ≡ true
  pub good : (f : Field) → b.come (begun past) fs f.tag ≡ true → of_trace f.tag ≡ false → a.good fs f ≡ b.good fs f
  pub ranged : (f : Field) → b.come (begun past) fs f.tag ≡ true → of_trace f.tag ≡ false → b.size f.tag (length f.value) ≡ true → b.good fs f ≡ true →
      field_good fs f ≡ true
  pub card : (f : Field) → begun past ≡ false → b.come (begun past) fs f.tag ≡ true → of_trace f.tag ≡ false → Also (f ∷ fs) past
  pub entry : (f : Field) → Enters b fs past f → a.entry (card_of fs) past (entry_of f) ≡ b.entry (card_of fs) past (entry_of f)
  pub taken : (f : Field) → Enters b fs past f → a.taken (card_of fs) past (entry_of f) ≡ b.taken (card_of fs) past (entry_of f)
  pub also : (f : Field) → Enters b fs past f → b.entry (card_of fs) past (entry_of f) ≡ none → Also fs (b.taken (card_of fs) past (entry_of f) ∷ past)
  pub end : card_whole fs ≡ true → (t : ℕ) → a.end (card_of fs) past t ≡ b.end (card_of fs) past t
  pub verdict : card_whole fs ≡ true → (t : ℕ) → b.end (card_of fs) past t ≡ none → a.verdict (card_of fs) past t ≡ b.verdict (card_of fs) past t

-- they need be so only until an entry is taken of which the older one knows less: of the entries that were taken `Gone` holds then, and every further one keeps it
module _ (a b : Judge) (Is : (entries : Bool) → List Field → ℕ → Type 0) (Also : List Field → Past → Type 0) (Gone : Past → Type 0)
    (keeps : (card : Card) (past : Past) (e : Entry) → Gone past → Gone (b.taken card past e ∷ past)) where
  abbrev AlsoOrGone : List Field → Past → Type 0
  AlsoOrGone fs past = Also fs past ⊎ Gone past

  module _ (alike : (fs : List Field) (past : Past) → CardRight fs → AllSized b.size fs → Also fs past → Alike a b Is AlsoOrGone fs past) (bytes : List ℕ) where
    -- both go on, where all is still so, or both end
    data Same : Step → Step → Type 0 where
      on : {fs : List Field} {past : Past} {at : ℕ} {rest : List ℕ} → Place b.size bytes fs past at rest → AlsoOrGone fs past → Same (goes_on fs past at rest) (goes_on fs past at rest)
      off : {v : FileVerdict} → Same (ends v) (ends v)

    module _ (fs : List Field) (past : Past) (at : ℕ) (q : Also fs past) where
      entered : (f : Field) (rest : List ℕ) → Place b.size bytes fs past at (bytes_of f ++ rest) → RightForm (begun past) fs f → Alike a b Is AlsoOrGone fs past → Enters b fs past f →
          Same (entry_by a fs past at f rest) (entry_by b fs past at f rest)
      unfolding entry_by
      entered f rest p form k n = rw (k.entry f n, k.taken f n) (go (b.entry (card_of fs) past (entry_of f)) refl)
        where
          go : (o : Option Refusal) → b.entry (card_of fs) past (entry_of f) ≡ o →
              Same (or_refused at o (goes_on fs (b.taken (card_of fs) past (entry_of f) ∷ past) (at + size_of f) rest))
              (or_refused at o (goes_on fs (b.taken (card_of fs) past (entry_of f) ∷ past) (at + size_of f) rest))
          go none e = unfold or_refused in on (place_entry fs past at f rest p form n.is_entry _) (k.also f n e)
          go (some x) e = unfold or_refused in off

      ended : (f : Field) (rest : List ℕ) → Alike a b Is AlsoOrGone fs past → card_whole fs ≡ true → Same (end_by a fs past at f rest) (end_by b fs past at f rest)
      unfolding end_by
      ended f rest k w = rw (k.end w (end_of f)) (go rest (b.end (card_of fs) past (end_of f)) refl)
        where
          go : (bs : List ℕ) (o : Option Refusal) → b.end (card_of fs) past (end_of f) ≡ o →
              Same (or_refused at o (closing (a.verdict (card_of fs) past (end_of f)) (at + size_of f) bs))
              (or_refused at o (closing (b.verdict (card_of fs) past (end_of f)) (at + size_of f) bs))
          go [] none e = rw (k.verdict w (end_of f) e) (unfold or_refused closing in off)
          go (c ∷ cs) none e = unfold or_refused closing in off
          go bs (some x) e = unfold or_refused in off

      carded : (f : Field) (rest : List ℕ) → Place b.size bytes fs past at (bytes_of f ++ rest) → RightForm (begun past) fs f → Alike a b Is AlsoOrGone fs past →
          Sized b.size f → b.come (begun past) fs f.tag ≡ true → of_trace f.tag ≡ false → Same (card_by a fs past at f rest) (card_by b fs past at f rest)
      unfolding card_by
      carded f rest p form k s m o = rw (k.good f m o) (go (b.good fs f) refl)
        where
          long : b.size f.tag (length f.value) ≡ true
          long = rw s.whole s.listed

          go : (x : Bool) → b.good fs f ≡ x →
              Same (cond x (goes_on (f ∷ fs) past (at + size_of f) rest) (ends (refused 4 0 at 0))) (cond x (goes_on (f ∷ fs) past (at + size_of f) rest) (ends (refused 4 0 at 0)))
          go true g = on (place_card fs past at f rest p form o long (k.ranged f m o long g)) (k.card f (before_entries fs past at f rest p form o) m o)
          go false g = off

      same_head : {cs : List ℕ} {h : Head} → Stands (b.come (begun past) fs) b.size cs h → Place b.size bytes fs past at cs → Same (by_head_by a fs past at h) (by_head_by b fs past at h)
      unfolding by_head_by
      same_head is_cut p = off
      same_head (is_bad_tag x) p = off
      same_head is_bad_length p = off
      same_head (is_field f rest m s) p = go (of_entry f.tag) (eqb f.tag 33) refl refl
        where
          k : Alike a b Is AlsoOrGone fs past
          k = alike fs past p.right p.sizes q

          form : RightForm (begun past) fs f
          form = record { tag = k.known f.tag m; size = k.listed f.tag _ m s.listed; whole = s.whole }

          behind : 31 < f.tag → card_whole fs ≡ true
          behind l = whole_before (begun past) fs p.right f.tag l form.tag

          go : (x y : Bool) → of_entry f.tag ≡ x → eqb f.tag 33 ≡ y → Same (pick a fs past at f rest x y) (pick b fs past at f rest x y)
          go true y u v = entered f rest p form k (record { whole = behind (entry_high f.tag u); may = m; is_entry = u })
          go false true u v = let t = eqb-true f.tag 33 v in ended f rest k (behind (omega (arith, t)))
          go false false u v = carded f rest p form k s m (unfold of_trace in rw (u, v))

    abbrev Parted : Judged → Type 0
    Parted j = MetBy b.wrong Is bytes j ⊎ Gone j.past

    abbrev Agrees : ℕ → List Field → Past → ℕ → List ℕ → Type 0
    Agrees k fs past at bs = (file_by a k fs past at bs ≡ file_by b k fs past at bs) ⊎ Parted (file_by b k fs past at bs)

    module _ (k : ℕ) (fs : List Field) (past : Past) (at : ℕ) (q : Also fs past)
        (further : (fs' : List Field) (past' : Past) (at' : ℕ) (rest : List ℕ) → Place b.size bytes fs' past' at' rest → Also fs' past' → Agrees k fs' past' at' rest) where
      same_step : {s t : Step} → Same s t → (behind (file_by a k) past s ≡ behind (file_by b k) past t) ⊎ Parted (behind (file_by b k) past t)
      unfolding behind
      same_step (on p (inl q)) = further _ _ _ _ p q
      same_step (on p (inr g)) = inr (inr (has_file b Gone keeps k _ _ _ _ g))
      same_step off = inl refl

      same_tag : (bs : List ℕ) → Place b.size bytes fs past at bs → head_by a (begun past) fs bs ≡ head_by b (begun past) fs bs → Agrees (suc k) fs past at bs
      same_tag bs p e = rw (by_step a k fs past at bs, by_step b k fs past at bs) (unfold step_by in rw e (same_step (same_head fs past at q (stands b (begun past) fs bs) p)))

      met : (t : ℕ) (rest : List ℕ) → Place b.size bytes fs past at (t ∷ rest) → (b.come (begun past) fs t ≡ false) × (card_whole fs ≡ true) × Is (begun past) fs t →
          MetBy b.wrong Is bytes (file_by b (suc k) fs past at (t ∷ rest))
      unfolding step_by head_by by_head_by behind
      met t rest p n = rw (by_step b k fs past at (t ∷ rest), n.0) (record {
        there = record { fs = fs; es = p.es; tag = t; rest = rest; card = p.right; whole = n.1; entries = p.entries; is = rw (← p.came) n.2; split = p.split };
        verdict = let x = b.wrong (begun past) fs t in
            ap (λ (n : ℕ). refused x.number x.rule n x.cycle) p.offset
            ∙ ap (λ (c : Bool). let x = b.wrong c fs t in refused x.number x.rule (length (card_bytes fs) + length (entries_bytes p.es)) x.cycle) p.came;
      })

      onward : (bs : List ℕ) → Place b.size bytes fs past at bs → Agrees (suc k) fs past at bs
      onward [] p = same_tag [] p (unfold head_by in refl)
      onward (t ∷ rest) p = ⊎_elim
          (λ (e : a.come (begun past) fs t ≡ b.come (begun past) fs t). same_tag (t ∷ rest) p (unfold head_by in rw (e, k'.wrong t) (same_sizes (b.come (begun past) fs t) refl rest)))
          (λ (n : (b.come (begun past) fs t ≡ false) × (card_whole fs ≡ true) × Is (begun past) fs t). inr (inl (met t rest p n)))
          (k'.tag t)
        where
          k' : Alike a b Is AlsoOrGone fs past
          k' = alike fs past p.right p.sizes q

          same_sizes : (x : Bool) → b.come (begun past) fs t ≡ x → (bs : List ℕ) →
              cond x (sized_by a.size t bs) (bad_tag (b.wrong (begun past) fs t)) ≡ cond x (sized_by b.size t bs) (bad_tag (b.wrong (begun past) fs t))
          same_sizes true m bs = same_sized a.size b.size t (λ l. k'.size t l m) bs
          same_sizes false m bs = refl

    walk : (k : ℕ) (fs : List Field) (past : Past) (at : ℕ) (bs : List ℕ) → Place b.size bytes fs past at bs → Also fs past → Agrees k fs past at bs
    walk zero fs past at bs p q = unfold file_by in inl refl
    walk (suc k) fs past at bs p q = onward k fs past at q (λ fs' past' at' rest. walk k fs' past' at' rest) bs p

    -- so of every file they say the same, or the older one met a tag that it does not know, or took an entry of which it knows less
    pub agree_until : Also [] [] → (judged_by a bytes ≡ judged_by b bytes) ⊎ (MetBy b.wrong Is bytes (judged_by b bytes) ⊎ Gone (judged_by b bytes).past)
    unfolding judged_by
    agree_until q = walk (suc (length bytes)) [] [] 0 bytes place_start q

-- where there is no such entry
module _ (a b : Judge) (Is : (entries : Bool) → List Field → ℕ → Type 0) (Also : List Field → Past → Type 0)
    (alike : (fs : List Field) (past : Past) → CardRight fs → AllSized b.size fs → Also fs past → Alike a b Is Also fs past) (bytes : List ℕ) where
  pub agree : Also [] [] → (judged_by a bytes ≡ judged_by b bytes) ⊎ MetBy b.wrong Is bytes (judged_by b bytes)
  agree q = ⊎_elim
      (λ (e : judged_by a bytes ≡ judged_by b bytes). inl e)
      (⊎_elim (λ (m : MetBy b.wrong Is bytes (judged_by b bytes)). inr m) (λ (n : ⊥). absurd n))
      (agree_until a b Is Also (λ past. ⊥) (λ card past e n. n) ever bytes q)
    where
      ever : (fs : List Field) (past : Past) → CardRight fs → AllSized b.size fs → Also fs past → Alike a b Is (λ fs past. Also fs past ⊎ ⊥) fs past
      ever fs past r s q = let k = alike fs past r s q in record {
        tag = k.tag;
        known = k.known;
        wrong = k.wrong;
        size = k.size;
        listed = k.listed;
        good = k.good;
        ranged = k.ranged;
        card = λ f b m o. inl (k.card f b m o);
        entry = k.entry;
        taken = k.taken;
        also = λ f n e. inl (k.also f n e);
        end = k.end;
        verdict = k.verdict;
      }

-- such a theorem behind another: what was said at first is said now, or one of the two exceptions holds of it
pub behind_it : {now then first : Judged} {P : Type 0} (Q : Judged → Type 0) → (then ≡ first) ⊎ P → (now ≡ then) ⊎ Q then → (now ≡ first) ⊎ (P ⊎ Q first)
behind_it Q (inr p) q = inr (inl p)
behind_it Q (inl e) (inl q) = inl (q ∙ e)
behind_it Q (inl e) (inr q) = inr (inr (subst Q e q))
