-- One field of any bytes moves a state as it moves the fields of the card, the past and the offset that the state stands for.
use Prim.Native.Nat.{ℕ, ◌+◌, ◌≤◌}
use mathlib.Core.Path.{◌≡◌, ◌∙◌, subst}
use mathlib.Core.List.{List, [], ◌∷◌, ◌++◌, append-nil}
use native.Mathlib.Omega.{arith}
use lib.ListN.{length, drop, length-append}
use lib.Seq.{drop_at}
use borrow.Author.Tests.{ne_eqb}
use Rattle.rules.specs.Past.{Past}
use Rattle.rules.specs.Checks.{refusal}
use Rattle.rules.specs.Form.{Field, bytes_of, size_of, ◌up_to◌, wrong_after, wrong_tag, whole, card_of, entry_of, end_of}
use Rattle.rules.specs.File.{FileVerdict, refused, Step, goes_on, ends, closing, accepted_at, begun, step_of}
use Rattle.rules.specs.FileReading.{RightForm, one, tag, three, four, entry, end, twelve, good}
use Rattle.rules.specs.Lines.{entry_lines}
use Rattle.rules.proofs.Exactly.{entry_decides, end_decides}
use Rattle.rules.proofs.WrongTags.{expected_only, wrong_only}
use Rattle.rules.proofs.FileHeads.{HeadSays, is_whole, is_cut, is_bad_tag, is_bad_length}
use Rattle.rules.proofs.FileSteps.{StepSays, card_on, entry_on, stops, step_says}
use Rattle.chunks.specs.declared.State.{State}
use Rattle.chunks.specs.declared.Verdict.{Verdict}
use Rattle.chunks.specs.declared.Verdict.TheVariants.{Refused}
use Rattle.chunks.specs.Values.{verdict_of}
use Rattle.chunks.specs.Took.{On, Wait, End, Took, took_as, refused_here, refused_by, refused_tag, head_took, took_of, field_took}
use Rattle.chunks.specs.Heard.{field_line, head_line, line_of}
use Rattle.chunks.proofs.Bytes.{Bytes, bytes_part}
use Rattle.judge.proofs.Stands.{Stands, took_by, line_by}
use Rattle.judge.proofs.StandsCard.{tag_in, card_refused, card_taken, card_stands}
use Rattle.judge.proofs.StandsEntry.{entry_refused_lem, entry_taken, entry_line_lem, entry_stands}
use Rattle.judge.proofs.StandsEnd.{Ended, end_refused, end_taken, end_stands}

-- what the state makes of these bytes, and the step of the rules that it is. Behind a good end field the rules look at what is left at once
pub data Moves (st : State) (past : Past) (at : ℕ) (bs : List ℕ) : Took → Step → Type 0 where
  waits : Moves st past at bs (took_as Wait st) (ends (refused 1 0 at 0))
  stopped : (v : Verdict) → Moves st past at bs (took_as (End v) st) (ends (verdict_of v))
  goes : (n : ℕ) {next : State} {fs' : List Field} {past' : Past} {at' : ℕ} → 1 ≤ n → n ≤ length bs → Stands next fs' past' at' →
      entry_lines past' ≡ entry_lines past ++ line_of st bs → Moves st past at bs (took_as (On n) next) (goes_on fs' past' at' (drop n bs))
  closes : (n : ℕ) {next : State} (v : FileVerdict) (at' : ℕ) → 1 ≤ n → n ≤ length bs → Ended next v at' →
      line_of st bs ≡ [] → Moves st past at bs (took_as (On n) next) (closing v at' (drop n bs))

module _ {st : State} {fs : List Field} {past : Past} {at : ℕ} (s : Stands st fs past at) where
  refused_here_lem : (k q t : ℕ) → verdict_of (Refused k q st.offset t) ≡ refused k q at t
  unfolding verdict_of
  refused_here_lem k q t = rw s.offset

  stops_so : {bs : List ℕ} (k q t : ℕ) → took_of st bs ≡ took_as (End (Refused k q st.offset t)) st →
      Moves st past at bs (took_of st bs) (ends (refused k q at t))
  stops_so k q t e = rw (e, ← refused_here_lem k q t) (stopped (Refused k q st.offset t))

  took_whole : (f : Field) (rest : List ℕ) → HeadSays (begun past) fs (bytes_of f ++ rest) (whole f rest) → took_of st (bytes_of f ++ rest) ≡ field_took st f
  unfolding head_took
  took_whole f rest h = took_by s h

  line_whole : (f : Field) (rest : List ℕ) → HeadSays (begun past) fs (bytes_of f ++ rest) (whole f rest) → line_of st (bytes_of f ++ rest) ≡ field_line st f
  unfolding head_line
  line_whole f rest h = line_by s h

  size_is : (f : Field) → length (bytes_of f) ≡ size_of f
  unfolding bytes_of size_of
  size_is f = omega arith

  some_bytes : (f : Field) (rest : List ℕ) → (1 ≤ size_of f) × (size_of f ≤ length (bytes_of f ++ rest))
  unfolding size_of
  some_bytes f rest = (omega arith, rw length-append (omega (arith, size_is f)))

  rest_is : (f : Field) (rest : List ℕ) → drop (size_of f) (bytes_of f ++ rest) ≡ rest
  rest_is f rest = drop_at (bytes_of f) rest (size_of f) (size_is f)

  no_line : (f : Field) → (f.tag ≡ 32 → ⊥) → field_line st f ≡ []
  unfolding field_line
  no_line f n = rw (ne_eqb f.tag 32 n)

  module _ (f : Field) (rest : List ℕ) (form : RightForm (begun past) fs f) where
    abbrev here : List ℕ
    here = bytes_of f ++ rest

    took : took_of st here ≡ field_took st f
    took = took_whole f rest (is_whole f rest form)

    line : line_of st here ≡ field_line st f
    line = line_whole f rest (is_whole f rest form)

    goes_so : {next : State} {fs' : List Field} {past' : Past} {at' : ℕ} → field_took st f ≡ took_as (On (size_of f)) next → Stands next fs' past' at' →
        entry_lines past' ≡ entry_lines past ++ field_line st f → Moves st past at here (took_of st here) (goes_on fs' past' at' rest)
    goes_so {next} {fs'} {past'} {at'} e n l =
        rw (took ∙ e)
        (subst (λ (r : List ℕ). Moves st past at here (took_as (On (size_of f)) next) (goes_on fs' past' at' r)) (rest_is f rest)
        (goes (size_of f) (some_bytes f rest).0 (some_bytes f rest).1 n (rw line l)))

    closes_so : {next : State} (v : FileVerdict) (at' : ℕ) → f.tag ≡ 33 → field_took st f ≡ took_as (On (size_of f)) next → Ended next v at' →
        Moves st past at here (took_of st here) (closing v at' rest)
    closes_so {next} v at' t e n =
        rw (took ∙ e)
        (subst (λ (r : List ℕ). Moves st past at here (took_as (On (size_of f)) next) (closing v at' r)) (rest_is f rest)
        (closes (size_of f) v at' (some_bytes f rest).0 (some_bytes f rest).1 n (line ∙ no_line f (λ e. omega arith))))

  moves_so : {bs : List ℕ} {x : Step} → StepSays fs past at bs x → Bytes bs → Moves st past at bs (took_of st bs) x
  unfolding head_took refused_by refused_tag refused_here wrong_tag wrong_after refusal ◌up_to◌ closing
  moves_so (card_on f rest form w g) b =
      goes_so f rest form (card_taken s f form w g) (card_stands s f form w g)
      (rw (no_line f (λ e. omega (arith, tag_in s f form w)), append-nil))
  moves_so (entry_on f rest form w t p) b =
      let n = (entry_decides (card_of fs) past (entry_of f)).passing.1 p in
      goes_so f rest form (entry_taken s w f form t n) (entry_stands s w f form t n (bytes_part (bytes_of f) rest b).0) (entry_line_lem s w f form t n)
  moves_so (stops (one c)) b = rw (took_by s (is_cut c)) waits
  moves_so (stops (tag {t = t} {k = k} {e = e} m w x)) b =
      stops_so k e 0 (took_by s (is_bad_tag m) ∙ rw (wrong_only fs s.card (begun past) t w, expected_only fs s.card t x))
  moves_so (stops (three m g)) b = stops_so 3 0 0 (took_by s (is_bad_length m g))
  moves_so (stops (four f rest form w g)) b = stops_so 4 0 0 (took f rest form ∙ card_refused s f form w g)
  moves_so (stops (entry f rest x form w t p)) b =
      let n = ((entry_decides (card_of fs) past (entry_of f)).failing_so x).1 p in
      stops_so x.number x.rule x.cycle (took f rest form ∙ entry_refused_lem s w f form t x n)
  moves_so (stops (end f rest x form w t p)) b =
      let n = ((end_decides (card_of fs) past (end_of f)).failing_so x).1 p in
      stops_so x.number x.rule x.cycle (took f rest form ∙ end_refused s w f form t x n)
  moves_so (stops (twelve f c rest form w t p)) b =
      let n = (end_decides (card_of fs) past (end_of f)).passing.1 p in
      closes_so f (c ∷ rest) form (accepted_at fs past (end_of f)) (at + size_of f) t (end_taken s w f form t n) (end_stands s w f form t n)
  moves_so (stops (good f form w t p)) b =
      let n = (end_decides (card_of fs) past (end_of f)).passing.1 p in
      closes_so f [] form (accepted_at fs past (end_of f)) (at + size_of f) t (end_taken s w f form t n) (end_stands s w f form t n)

  pub moves : (bs : List ℕ) → Bytes bs → Moves st past at bs (took_of st bs) (step_of fs past at bs)
  moves bs b = moves_so (step_says fs past at s.card bs) b
