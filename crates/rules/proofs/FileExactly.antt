-- Demand 2 for files: the verdict and its reading in propositions.
use Prim.Native.Nat.{ℕ, zero, suc, ◌+◌, ◌<◌}
use mathlib.Core.Path.{◌≡◌, refl, ap, sym, ◌∙◌, subst}
use mathlib.Core.Logic.{◌↔◌}
use mathlib.Core.Bool.{true}
use mathlib.Core.List.{List, [], ◌∷◌, ◌++◌, append_assoc, map}
use native.Mathlib.Omega.{arith}
use lib.ListN.{length, length-append}
use Rattle.rules.specs.Lists.{Every}
use Rattle.rules.specs.Past.{Past}
use Rattle.rules.specs.Entries.{Entry, past_with, past_over, past_of}
use Rattle.rules.specs.Reading.{AllPass, entry_reads, reads_at}
use Rattle.rules.specs.Form.{Field, bytes_of, size_of, card_whole, card_of, entry_of}
use Rattle.rules.specs.File.{FileVerdict, Step, goes_on, begun, Judged, file_from, judged, judge_file}
use Rattle.rules.specs.FileReading.{CardRight, card_bytes, entries_bytes, EntryField, Ends, Says}
use Rattle.rules.proofs.Tests.{nowhere}
use Rattle.rules.proofs.CardTags.{any_form, no_more, entry_tag}
use Rattle.rules.proofs.FileSteps.{StepSays, card_on, entry_on, stops, step_says, step_only}

-- ---- one field of the count
file_on : {fs fs' : List Field} {past past' : Past} {at at' : ℕ} {bs rest : List ℕ} → CardRight fs → StepSays fs past at bs (goes_on fs' past' at' rest) →
    (k : ℕ) → file_from (suc k) fs past at bs ≡ file_from k fs' past' at' rest
unfolding file_from
file_on {fs} {past = past} {at = at} r s k = rw (step_only fs past at r s, file_from)

file_ends : {fs : List Field} {past : Past} {at : ℕ} {bs : List ℕ} {v : FileVerdict} → CardRight fs → Ends fs past at bs v →
    (k : ℕ) → (file_from (suc k) fs past at bs).verdict ≡ v
unfolding file_from
file_ends {fs} {past} {at} r e k = rw (step_only fs past at r (stops e), file_from)

size_length : (f : Field) → length (bytes_of f) ≡ size_of f
unfolding bytes_of size_of
size_length f = omega arith

-- a field takes at least one of the count
shorter : (f : Field) (rest : List ℕ) {k : ℕ} → length (bytes_of f ++ rest) < suc k → length rest < k
unfolding bytes_of
shorter f rest h = omega (arith, simp length-append at h)

-- ---- behind these fields of the card and this past: entries that pass, and then the file ends so
record Behind (fs : List Field) (past : Past) (at : ℕ) (bs : List ℕ) (v : FileVerdict) : Type 0 where
  es : List Field
  rest : List ℕ
  split : bs ≡ entries_bytes es ++ rest
  entries : Every (λ f. (card_whole fs ≡ true) × EntryField fs f) es
  passed : (i : ℕ) → i < length es → AllPass (reads_at (card_of fs) past (map entry_of es) i)
  ending : Ends fs (past_over (card_of fs) past (map entry_of es)) (at + length (entries_bytes es)) rest v

moved : {fs : List Field} {past : Past} {a b : ℕ} {bs : List ℕ} {v : FileVerdict} → a ≡ b → Ends fs past a bs v → Ends fs past b bs v
moved {fs} {past} {bs = bs} {v = v} p = subst (λ (n : ℕ). Ends fs past n bs v) p

module _ (fs : List Field) (r : CardRight fs) where
  ends_here : {past : Past} {at : ℕ} {bs : List ℕ} {v : FileVerdict} → Ends fs past at bs v → Behind fs past at bs v
  unfolding entries_bytes Every past_over
  ends_here e = record { es = []; rest = _; split = refl; entries = tt; passed = λ i h. absurd (nowhere h); ending = moved (omega arith) e }

  entry_in_front : {past : Past} {at : ℕ} (f : Field) {bs : List ℕ} {v : FileVerdict} → (card_whole fs ≡ true) × EntryField fs f →
      AllPass (entry_reads (card_of fs) past (entry_of f)) → Behind fs (past_with (card_of fs) past (entry_of f)) (at + size_of f) bs v →
      Behind fs past at (bytes_of f ++ bs) v
  unfolding entries_bytes Every reads_at past_over
  entry_in_front {past} {at} f h p b = record {
    es = f ∷ b.es;
    rest = b.rest;
    split = ap (λ (l : List ℕ). bytes_of f ++ l) b.split ∙ sym (append_assoc (bytes_of f) (entries_bytes b.es) b.rest);
    entries = (h, b.entries);
    passed = all b.passed;
    ending = moved (rw length-append (omega (arith, size_length f))) b.ending;
  }
    where
      all : ((i : ℕ) → i < length b.es → AllPass (reads_at (card_of fs) (past_with (card_of fs) past (entry_of f)) (map entry_of b.es) i)) →
          (i : ℕ) → i < suc (length b.es) → AllPass (reads_at (card_of fs) past (map entry_of (f ∷ b.es)) i)
      all q zero h = p
      all q (suc i) h = q i (omega arith)

  -- behind an entry no field of the card comes
  behind_forth : (k : ℕ) (past : Past) (at : ℕ) (bs : List ℕ) → begun past ≡ true → card_whole fs ≡ true → length bs < k →
      Behind fs past at bs (file_from k fs past at bs).verdict
  behind_forth zero past at bs y w h = absurd (nowhere h)
  behind_forth (suc k) past at bs y w h =
      go (step_says fs past at r bs) h (λ e at' rest l. behind_forth k (past_with (card_of fs) past e) at' rest (unfold begun past_with in refl) w l)
    where
      go : {cs : List ℕ} {s : Step} → StepSays fs past at cs s → length cs < suc k →
          ((e : Entry) (at' : ℕ) (rest : List ℕ) → length rest < k →
          Behind fs (past_with (card_of fs) past e) at' rest (file_from k fs (past_with (card_of fs) past e) at' rest).verdict) →
          Behind fs past at cs (file_from (suc k) fs past at cs).verdict
      go (card_on f rest form o g) l ih = absurd (no_more fs f (rw y at form) w o)
      go (entry_on f rest form c t p) l ih =
          rw (file_on r (entry_on f rest form c t p) k)
          (entry_in_front f (c, record { form = any_form true fs f (entry_tag f.tag t) form; is_entry = t }) p (ih (entry_of f) _ rest (shorter f rest l)))
      go (stops e) l ih = rw (file_ends r e k) (ends_here e)

  behind_back : (k : ℕ) (past : Past) (at : ℕ) (es : List Field) (rest : List ℕ) (v : FileVerdict) →
      Every (λ f. (card_whole fs ≡ true) × EntryField fs f) es →
      ((i : ℕ) → i < length es → AllPass (reads_at (card_of fs) past (map entry_of es) i)) →
      Ends fs (past_over (card_of fs) past (map entry_of es)) (at + length (entries_bytes es)) rest v →
      length (entries_bytes es ++ rest) < k → (file_from k fs past at (entries_bytes es ++ rest)).verdict ≡ v
  unfolding entries_bytes Every reads_at past_over
  behind_back zero past at es rest v h p e l = absurd (nowhere l)
  behind_back (suc k) past at [] rest v h p e l = file_ends r (moved (omega arith) e) k
  behind_back (suc k) past at (f ∷ es) rest v h p e l =
      let again : bytes_of f ++ entries_bytes es ++ rest ≡ bytes_of f ++ (entries_bytes es ++ rest) = append_assoc (bytes_of f) (entries_bytes es) rest in
      let x = h.0.1 in
      let l' : length (bytes_of f ++ (entries_bytes es ++ rest)) < suc k = rw again at l in
      rw again
      (ap (λ (j : Judged). j.verdict) (file_on r (entry_on f (entries_bytes es ++ rest) (any_form (begun past) fs f (entry_tag f.tag x.is_entry) x.form) h.0.0 x.is_entry (p 0 (omega arith))) k)
      ∙ behind_back k (past_with (card_of fs) past (entry_of f)) (at + size_of f) es rest v h.1 (λ i q. p (suc i) (omega arith))
      (moved (rw length-append (omega (arith, size_length f))) e) (shorter f (entries_bytes es ++ rest) l'))

-- ---- the card in front, its newest field last in the file
newest_bytes : (f : Field) (fs : List Field) (rest : List ℕ) → card_bytes (f ∷ fs) ++ rest ≡ card_bytes fs ++ (bytes_of f ++ rest)
unfolding card_bytes
newest_bytes f fs rest = append_assoc (card_bytes fs) (bytes_of f) rest

newest_length : (f : Field) (fs : List Field) → length (card_bytes fs) + size_of f ≡ length (card_bytes (f ∷ fs))
unfolding card_bytes
newest_length f fs = rw length-append (omega (arith, size_length f))

says_behind : (fs : List Field) {bs : List ℕ} {v : FileVerdict} → CardRight fs → Behind fs [] (length (card_bytes fs)) bs v → Says (card_bytes fs ++ bs) v
unfolding past_of
says_behind fs r b = record {
  fs = fs;
  es = b.es;
  rest = b.rest;
  begun = record { split = ap (λ (l : List ℕ). card_bytes fs ++ l) b.split; card = r; entries = b.entries; passed = b.passed };
  ending = b.ending;
}

card_forth : (k : ℕ) (fs : List Field) (bs : List ℕ) → CardRight fs → length bs < k →
    Says (card_bytes fs ++ bs) (file_from k fs [] (length (card_bytes fs)) bs).verdict
card_forth zero fs bs r h = absurd (nowhere h)
card_forth (suc k) fs bs r h = go (step_says fs [] at r bs) h (λ f rest q l. card_forth k (f ∷ fs) rest q l)
  where
    at : ℕ
    at = length (card_bytes fs)

    On : Type 0
    On = (f : Field) (rest : List ℕ) → CardRight (f ∷ fs) → length rest < k →
        Says (card_bytes (f ∷ fs) ++ rest) (file_from k (f ∷ fs) [] (length (card_bytes (f ∷ fs))) rest).verdict

    go : {cs : List ℕ} {s : Step} → StepSays fs [] at cs s → length cs < suc k → On → Says (card_bytes fs ++ cs) (file_from (suc k) fs [] at cs).verdict
    go (card_on f rest form o g) l ih =
        let right : CardRight (f ∷ fs) = unfold CardRight begun in (form, o, g, r) in
        rw (file_on r (card_on f rest form o g) k, newest_length f fs, ← newest_bytes f fs rest) (ih f rest right (shorter f rest l))
    go (entry_on f rest form w t p) l ih =
        rw (file_on r (entry_on f rest form w t p) k)
        (says_behind fs r (entry_in_front fs r f (w, record { form = any_form true fs f (entry_tag f.tag t) form; is_entry = t }) p
        (behind_forth fs r k _ _ rest (unfold begun past_with in refl) w (shorter f rest l))))
    go (stops e) l ih = rw (file_ends r e k) (says_behind fs r (ends_here fs r e))

card_back : (fs : List Field) (bs : List ℕ) (n : ℕ) → CardRight fs → length (card_bytes fs ++ bs) < n →
    (k : ℕ) × (length bs < k) × (file_from n [] [] 0 (card_bytes fs ++ bs) ≡ file_from k fs [] (length (card_bytes fs)) bs)
unfolding CardRight begun
card_back [] bs n r h = unfold card_bytes in (n, h, refl)
card_back (f ∷ fs) bs n r h =
    let h' : length (card_bytes fs ++ (bytes_of f ++ bs)) < n = rw (newest_bytes f fs bs) at h in
    let t = card_back fs (bytes_of f ++ bs) n r.3 h' in
    go t.0 t.1 t.2
  where
    go : (k : ℕ) → length (bytes_of f ++ bs) < k →
        file_from n [] [] 0 (card_bytes fs ++ (bytes_of f ++ bs)) ≡ file_from k fs [] (length (card_bytes fs)) (bytes_of f ++ bs) →
        (j : ℕ) × (length bs < j) × (file_from n [] [] 0 (card_bytes (f ∷ fs) ++ bs) ≡ file_from j (f ∷ fs) [] (length (card_bytes (f ∷ fs))) bs)
    go zero l e = absurd (nowhere l)
    go (suc k) l e =
        (k, shorter f bs l, rw (newest_bytes f fs bs, ← newest_length f fs) (e ∙ file_on r.3 (card_on f bs r.0 r.1 r.2) k))

-- ---- demand 2
says_back : {bytes : List ℕ} {v : FileVerdict} → Says bytes v → judge_file bytes ≡ v
unfolding judge_file judged past_of
says_back {bytes} {v} s =
    let b = s.begun in
    let whole : bytes ≡ card_bytes s.fs ++ (entries_bytes s.es ++ s.rest) = b.split in
    let fits : length (card_bytes s.fs ++ (entries_bytes s.es ++ s.rest)) < suc (length bytes) = rw (← whole) (omega arith) in
    let t = card_back s.fs (entries_bytes s.es ++ s.rest) (suc (length bytes)) b.card fits in
    ap (λ (l : List ℕ). (file_from (suc (length bytes)) [] [] 0 l).verdict) whole
    ∙ ap (λ (j : Judged). j.verdict) t.2
    ∙ behind_back s.fs b.card t.0 [] (length (card_bytes s.fs)) s.es s.rest v b.entries b.passed s.ending t.1

pub file_iff : (bytes : List ℕ) (v : FileVerdict) → (judge_file bytes ≡ v) ↔ Says bytes v
file_iff bytes v = (λ e. subst (Says bytes) e judged_so, says_back)
  where
    judged_so : Says bytes (judge_file bytes)
    judged_so = unfold judge_file judged card_bytes in card_forth (suc (length bytes)) [] bytes (unfold CardRight in tt) (omega arith)

-- a file has one verdict
pub one_verdict : (bytes : List ℕ) → (v : FileVerdict) × Says bytes v × ((w : FileVerdict) → Says bytes w → w ≡ v)
one_verdict bytes = (judge_file bytes, (file_iff bytes (judge_file bytes)).0 refl, λ w s. sym ((file_iff bytes w).1 s))
