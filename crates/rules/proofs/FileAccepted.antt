-- A file is accepted exactly when it is a right card, right entry fields and a right end field, and the list of its entries is accepted; so demand 3 holds
-- of files.
use Prim.Native.Nat.{ℕ, suc, ◌+◌, ◌*◌, ◌-◌, ◌/◌, ◌≤◌, ◌<◌}
use mathlib.Core.Path.{◌≡◌, refl, ap, ◌∙◌}
use mathlib.Core.Logic.{◌⊎◌, ◌↔◌}
use mathlib.Core.Bool.{true, false}
use mathlib.Core.List.{List, [], ◌∷◌, ◌++◌, append-nil, map}
use native.Mathlib.Omega.{arith}
use lib.IntN.{ℤ}
use lib.ListN.{length-map}
use Rattle.rules.specs.Lists.{Every}
use Rattle.rules.specs.Card.{Card}
use Rattle.rules.specs.Past.{Past, of_part, refresh_stamps}
use Rattle.rules.specs.Entries.{past_of}
use Rattle.rules.specs.Reading.{AllPass, end_reads}
use Rattle.rules.specs.Clock.{counted_from, interval_below}
use Rattle.rules.specs.Stretch.{count_in, Free, Took}
use Rattle.rules.specs.Form.{Field, bytes_of, card_whole, card_of, entry_of, end_of}
use Rattle.rules.specs.File.{FileVerdict, accepted_at, begun, judge_file}
use Rattle.rules.specs.FileReading.{RightForm, card_bytes, entries_bytes, Ends, Says, AcceptedFile}
use Rattle.rules.proofs.Exactly.{accepted_iff}
use Rattle.rules.proofs.Filtered.{IsPart}
use Rattle.rules.proofs.Clocks.{counted_all}
use Rattle.rules.proofs.Refreshed.{refreshed, all_counted}
use Rattle.rules.proofs.Groups.{every_group, in_a_row}
use Rattle.rules.proofs.CardTags.{any_form, end_tag}
use Rattle.rules.proofs.FileExactly.{file_iff}

every_map : {A : Type 0} {P Q : A → Type 0} → ((x : A) → P x → Q x) → (xs : List A) → Every P xs → Every Q xs
unfolding Every
every_map f [] h = tt
every_map f (x ∷ xs) h = (f x h.0, every_map f xs h.1)

-- the one way to end that accepts
record EndsGood (fs : List Field) (past : Past) (bs : List ℕ) (v : FileVerdict) : Type 0 where
  z : Field
  split : bs ≡ bytes_of z
  form : RightForm (begun past) fs z
  whole : card_whole fs ≡ true
  is_end : z.tag ≡ 33
  passed : AllPass (end_reads (card_of fs) past (end_of z))
  verdict : accepted_at fs past (end_of z) ≡ v

refused_accepted : {a b c d m n : ℕ} {l : List ℤ} → FileVerdict.refused a b c d ≡ FileVerdict.accepted m n l → ⊥
refused_accepted e = let z : ◌≡◌ {A = ℕ} 0 1 = cc in omega arith

ends_good : {fs : List Field} {past : Past} {at : ℕ} {bs : List ℕ} {v : FileVerdict} → Ends fs past at bs v →
    {m n : ℕ} {l : List ℤ} → v ≡ FileVerdict.accepted m n l → EndsGood fs past bs v
ends_good (Ends.one c) e = absurd (refused_accepted e)
ends_good (Ends.tag m w x) e = absurd (refused_accepted e)
ends_good (Ends.three m g) e = absurd (refused_accepted e)
ends_good (Ends.four f bs h w g) e = absurd (refused_accepted e)
ends_good (Ends.entry f bs x h w t p) e = absurd (refused_accepted e)
ends_good (Ends.end f bs x h w t p) e = absurd (refused_accepted e)
ends_good (Ends.twelve f b bs h w t p) e = absurd (refused_accepted e)
ends_good (Ends.good f h w t p) e = record { z = f; split = append-nil (bytes_of f); form = h; whole = w; is_end = t; passed = p; verdict = refl }

module _ (bytes : List ℕ) (m n : ℕ) (l : List ℤ) where
  forth : Says bytes (FileVerdict.accepted m n l) → AcceptedFile bytes m n l
  unfolding accepted_at past_of
  forth s =
      let b = s.begun in
      let e = ends_good s.ending refl in
      let v = e.verdict in
      record {
        fs = s.fs;
        es = s.es;
        z = e.z;
        split = b.split ∙ ap (λ (r : List ℕ). card_bytes s.fs ++ (entries_bytes s.es ++ r)) e.split;
        card = b.card;
        whole = e.whole;
        entries = every_map (λ f h. h.1) s.es b.entries;
        end = any_form true s.fs e.z (end_tag e.z.tag e.is_end) e.form;
        is_end = e.is_end;
        list = (accepted_iff (card_of s.fs) (map entry_of s.es) (end_of e.z) m n l).1 (record {
          entries = λ i h. b.passed i (rw length-map at h);
          ended = e.passed;
          commands = cc;
          refreshes = cc;
          ledgers = cc;
        });
      }

  back : AcceptedFile bytes m n l → Says bytes (FileVerdict.accepted m n l)
  unfolding accepted_at past_of
  back a =
      let p = (accepted_iff (card_of a.fs) (map entry_of a.es) (end_of a.z) m n l).0 a.list in
      record {
        fs = a.fs;
        es = a.es;
        rest = bytes_of a.z ++ [];
        begun = record {
          split = rw append-nil a.split;
          card = a.card;
          entries = every_map (λ f h. (a.whole, h)) a.es a.entries;
          passed = λ i h. p.entries i (rw length-map h);
        };
        ending = rw (p.commands, p.refreshes, p.ledgers) (Ends.good a.z (any_form _ a.fs a.z (end_tag a.z.tag a.is_end) a.end) a.whole a.is_end p.ended);
      }

  pub accepted_file_iff : (judge_file bytes ≡ FileVerdict.accepted m n l) ↔ AcceptedFile bytes m n l
  accepted_file_iff =
      let i = file_iff bytes (FileVerdict.accepted m n l) in
      (λ e. forth (i.0 e), λ a. i.1 (back a))

-- ---- demand 3
module _ {bytes : List ℕ} {m n : ℕ} {l : List ℤ} (a : AcceptedFile bytes m n l) where
  abbrev pub card_in : Card
  card_in = card_of a.fs

  abbrev pub past_in : Past
  past_in = past_of (card_of a.fs) (map entry_of a.es)

  -- each part's own entries
  abbrev pub own_past : ℕ → Past
  own_past p = of_part p past_in

  -- each part, in the k cycles from cycle c on, of which so many are counted and in which no field lies
  pub refreshed_file : (p : ℕ) → IsPart card_in p → (b c k : ℕ) → b < 8 → c + k ≤ end_of a.z + 1 → Free (own_past p) c k →
      counted_from (own_past p) c k / interval_below card_in c (own_past p) - 17 ≤ count_in c (c + k) (refresh_stamps b (own_past p))
  refreshed_file = refreshed card_in (map entry_of a.es) (end_of a.z) m n l a.list

  -- all of them, where the card has no tags 19 to 22
  pub counted_file : card_in.sleeps ≡ false → (p c k : ℕ) → counted_from (own_past p) c k ≡ k
  counted_file h p = counted_all (own_past p) (all_counted card_in (map entry_of a.es) h p)

  module _ (p : ℕ) (ip : IsPart card_in p) (first b g : ℕ) (hb : b < 8) (hg : g < card_in.groups) where
    abbrev TakenAt : ℕ → Type 0
    TakenAt s = Took card_in.groups first g (refresh_stamps b (own_past p)) s

    -- the group is taken in every such stretch
    pub every_group_file : (c k : ℕ) → c + k ≤ end_of a.z + 1 → Free (own_past p) c k →
        (card_in.groups + 17) * interval_below card_in c (own_past p) ≤ counted_from (own_past p) c k →
        (s : ℕ) × (c ≤ s) × (s < c + k) × TakenAt s
    every_group_file = every_group card_in (map entry_of a.es) (end_of a.z) m n l a.list p ip first b g hb hg

    -- two takings with none between
    pub in_a_row_file : (s t : ℕ) → TakenAt s → TakenAt t → s < t → ((u : ℕ) → TakenAt u → (u ≤ s) ⊎ (t ≤ u)) → Free (own_past p) (suc s) (t - suc s) →
        counted_from (own_past p) (suc s) (t - s) ≤ (card_in.groups + 17) * interval_below card_in (suc s) (own_past p)
    in_a_row_file = in_a_row card_in (map entry_of a.es) (end_of a.z) m n l a.list p ip first b g hb hg
