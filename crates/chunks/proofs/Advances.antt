-- A field that was taken: its front, and its line.
use Rattle.std.specs.Prelude.{Some, Ok}
use Rattle.std.proofs.Common.{◌≡◌, ℕ, ◌≤◌, Bool, true, false, cond, eqb, List, [], ◌∷◌, length, take, sym, refl, ap, ◌∙◌, eqb-true}
use mathlib.Core.Option.{Option, none, some}
use borrow.Author.Tests.{eqb-false}
use Rattle.rules.specs.Checks.{Refusal}
use Rattle.rules.specs.Form as form
use Rattle.rules.specs.Lent as lent
use Rattle.card.specs.Reading.{read_refusal}
use Rattle.ledger.specs.Values.{is_none}
use Rattle.bank.specs.Values.{lent_of}
use Rattle.chunks.specs.declared.State.{State}
use Rattle.chunks.specs.declared.Verdict.{Verdict}
use Rattle.chunks.specs.Took.{Move, On, End, Took, took_as, refused_here, refused_by, refused_tag, card_after, card_took, entry_after, entry_refused, entry_took, end_after, end_took, field_took, head_took, behind_took, read_in, head_at, took_of}
use Rattle.chunks.specs.Heard.{field_line, head_line, line_of}
use Rattle.chunks.specs.Parts.{field_in, head_as, NoneHere}
use Rattle.chunks.proofs.Fronts.{Fronted, front}
use Rattle.chunks.proofs.Entries.{refused_in, not_taken}
use Rattle.chunks.proofs.Taking.{whole_took}

either_how : {A : Type 0} (b : Bool) (x y : Took) (m : Move) → (x.how ≡ m → A) → (y.how ≡ m → A) → (cond b x y).how ≡ m → A
either_how true x y m f g e = f e
either_how false x y m f g e = g e

abbrev unless_refused : State → Took → Option Refusal → Took
unless_refused st x o = elim o [ none ↦ x | some r ↦ refused_here st r ]

refused_how : {A : Type 0} (o : Option Refusal) (x : Took) (st : State) (m : Move) → (x.how ≡ m → A) → ((v : Verdict) → End v ≡ m → A) → (unless_refused st x o).how ≡ m → A
unfolding refused_here
refused_how none x st m f g e = f e
refused_how (some r) x st m f g e = g _ e

-- a whole field is taken with all its bytes, or it ends the judging
pub field_how : {A : Type 0} (st : State) (f : form.Field) (m : Move) → (On (form.size_of f) ≡ m → A) → ((v : Verdict) → End v ≡ m → A) → (field_took st f).how ≡ m → A
unfolding field_took card_took entry_took end_took
field_how st f m g h =
    either_how (form.of_entry f.tag) (entry_took st f) (cond (eqb f.tag 33) (end_took st f) (card_took st f)) m
    (refused_how (entry_refused st f) (took_as (On (form.size_of f)) (entry_after st f)) st m g h)
    (either_how (eqb f.tag 33) (end_took st f) (card_took st f) m
    (refused_how (lent.close_refusal (lent_of st.rec) (form.end_of f)) (took_as (On (form.size_of f)) (end_after st f)) st m g h)
    (refused_how (read_refusal st.rec.card st.rec.last.seen st.tag f.tag f.value) (took_as (On (form.size_of f)) (card_after st f)) st m g h))

field_on : (st : State) (f : form.Field) (n : ℕ) → (field_took st f).how ≡ On n → form.size_of f ≡ n
field_on st f n = field_how st f (On n) (λ e. cc) (λ v e. absurd cc)

head_on : (st : State) (h : form.Head) (n : ℕ) → (head_took st h).how ≡ On n → head_as h ≡ Ok (Some n)
unfolding head_took head_as refused_by refused_tag
head_on st (form.whole f rest) n e = rw (field_on st f n e)
head_on st form.cut n e = absurd cc
head_on st (form.bad_tag x) n e = absurd cc
head_on st form.bad_length n e = absurd cc

pub behind_on : {A : Type 0} (st : State) (bs : List ℕ) (n : ℕ) → (behind_took st bs).how ≡ On n → A
unfolding behind_took refused_by
behind_on st [] n e = absurd cc
behind_on st (b ∷ bs) n e = absurd cc

took_on : (st : State) (bs : List ℕ) (n : ℕ) → (took_of st bs).how ≡ On n → (st.tag ≡ 33 → ⊥) × (head_as (head_at st bs) ≡ Ok (Some n))
unfolding took_of
took_on st bs n = go (eqb st.tag 33) refl
  where
    go : (b : Bool) → eqb st.tag 33 ≡ b → (cond b (behind_took st bs) (head_took st (head_at st bs))).how ≡ On n
        → (st.tag ≡ 33 → ⊥) × (head_as (head_at st bs) ≡ Ok (Some n))
    go true l e = behind_on st bs n e
    go false l e = (eqb-false st.tag 33 l, head_on st (head_at st bs) n e)

pub record OnField (st : State) (bs : List ℕ) (n : ℕ) : Type 0 where
  pub in_time_lem : st.tag ≡ 33 → ⊥
  pub fronted : Fronted st.rec.last.seen (read_in st) bs n

pub on_field : (st : State) (bs : List ℕ) (n : ℕ) → (took_of st bs).how ≡ On n → OnField st bs n
unfolding head_at
on_field st bs n e = let t = took_on st bs n e in record { in_time_lem = t.0; fronted = front st.rec.last.seen (read_in st) bs n t.1 }

pub taken_size : (st : State) (bs : List ℕ) (n : ℕ) → (took_of st bs).how ≡ On n → (3 ≤ n) × (n ≤ length bs)
taken_size st bs n e = let f = (on_field st bs n e).fronted in (f.least, f.long)

-- ---- where no entry of pins that is taken stands there, it has no line
refused_ends : {A : Type 0} (o : Option Refusal) (st : State) (x : Took) (n : ℕ) → is_none o ≡ false → (unless_refused st x o).how ≡ On n → A
unfolding is_none refused_here
refused_ends none st x n i e = absurd cc
refused_ends (some r) st x n i e = absurd cc

field_line_lem : (st : State) (f : form.Field) (n : ℕ) (b : Bool) → eqb f.tag 32 ≡ b → (f.tag ≡ 32 → is_none (entry_refused st f) ≡ false) → (field_took st f).how ≡ On n → field_line st f ≡ []
unfolding field_line field_took entry_took form.of_entry
field_line_lem st f n true t r e = refused_ends (entry_refused st f) st _ n (r (eqb-true f.tag 32 t)) (rw t at e)
field_line_lem st f n false t r e = rw t

pub no_line : (st : State) (bs : List ℕ) (n : ℕ) → NoneHere st bs → (took_of st bs).how ≡ On n → line_of st bs ≡ []
unfolding line_of head_at head_line field_in entry_refused
no_line st bs n gone e =
    let o = on_field st bs n e in
    let w = whole_took st bs o.in_time_lem n o.fronted in
    rw o.fronted.is
    (field_line_lem st (field_in (take n bs)) n _ refl
    (λ t. refused_in st.rec (take n bs) (not_taken st bs n o.fronted t gone)) (ap (λ (x : Took). x.how) (sym w) ∙ e))
