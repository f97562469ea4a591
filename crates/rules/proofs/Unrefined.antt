-- A file that does not begin with the head of an 8-byte period has, byte for byte, what it had before femtoseconds: a thousand cancels. One that does was
-- refused by 3 there.
use Prim.Native.Nat.{ℕ, zero, suc, ◌+◌, ◌*◌, ◌/◌, ◌≤◌, ◌<◌}
use mathlib.Core.Path.{◌≡◌, refl, ap, sym, ◌∙◌, fun_ext}
use mathlib.Core.Logic.{◌↔◌, ◌⊎◌, inl, inr, ⊎_elim}
use mathlib.Core.Bool.{Bool, true, false, cond, not, ◌&&◌, ◌||◌}
use mathlib.Core.List.{List, [], ◌∷◌, ◌++◌, map}
use mathlib.Core.Option.{Option, none, some}
use native.Mathlib.Nat.{le_antisymm, le-div_iff_mul-le, mul-div_cancel_left, mul-div-mul_left, mul-div-mul_right, div-zero}
use native.Mathlib.Omega.{arith}
use lib.Dec.{leb, ltb, eqb}
use lib.ListN.{length}
use borrow.Author.Tests.{leb-true, le-leb, lt-leb, eqb-true, ltb-true, ne_eqb}
use Rattle.rules.specs.Lists.{is_one_of}
use Rattle.rules.specs.Bits.{bits, on}
use Rattle.rules.specs.Card.{Timing, Card}
use Rattle.rules.specs.Units.{femto, rounded_up, n, row_cycle, delays_of}
use Rattle.rules.specs.Heat.{heat, start_mr4, quarters, interval_at, hot_card, delays_at}
use Rattle.rules.specs.Commands.{Command, carries}
use Rattle.rules.specs.Registers.{Latency, latencies, at_code, mr2_good, may_write}
use Rattle.rules.specs.Ranges.{within, period_good, trefi_good, card_good}
use Rattle.rules.specs.Whose.{parts}
use Rattle.rules.specs.Past.{Past, of_part, mr4_at}
use Rattle.rules.specs.Delays.{delay_rules}
use Rattle.rules.specs.Clock.{clock, beat_by, beat_at, schedule_of, book_of, books_of}
use Rattle.rules.specs.Entries.{Entry, own_for, read_for, judged_as, taken_for, past_with}
use Rattle.rules.specs.Checks.{Refusal, value_good, checks, entry_checks, end_checks, entry_refusal, end_refusal}
use Rattle.rules.specs.Verdict.{ledgers_at}
use Rattle.rules.specs.Form.{Field, size_of, last_tag, groups, ends_group, begins_group, ◌up_to◌, of_entry, of_trace, may_follow, may_come, wrong_tag, ◌of◌, ◌of◌or◌, lengths, is_listed, length_good, Head, whole, bad_tag, number, value_of, number_at, period_of, period_at, card_of, field_good, entry_of, end_of}
use Rattle.rules.specs.File.{FileVerdict, refused, Step, goes_on, ends, or_refused, closing, begun, Judged, judged, judge_file}
use Rattle.rules.specs.Lines.{entry_lines, verdict_line, lines_of}
use Rattle.rules.proofs.Tests.{eq_cases, le_cases, both_true}
use Rattle.rules.proofs.Rounding.{rounded_least, within_both}
use Rattle.rules.proofs.CardGood.{good_parts}
use Rattle.rules.proofs.Tags.{ends_high}
use Rattle.rules.proofs.CardTags.{entry_high}
use Rattle.rules.proofs.Walks.{Judge, two, sized_by, head_by, entry_by, end_by, card_by, pick, by_head_by, step_by, file_by, judged_by, same_sized, defined, behind, by_step, defined_judged, AllSized, Sized, Stands, is_field, is_cut, is_bad_tag, is_bad_length, stands}
use Rattle.rules.proofs.Retold.{curt}
use Rattle.rules.proofs.Coarse.{ps, coarse_n, coarse_row_cycle, coarse_delays_of, coarse_delays_at, coarse_interval, coarse_interval_at, coarse_beat_by, coarse_beat_at, coarse_schedule_of, coarse_book, coarse_books, coarse_mr2_good, coarse_may_write, coarse_value_good, coarse_entry_by, coarse_end, coarse_verdict, coarse_lengths, coarse_period_good, coarse_trefi_good, coarse_good, coarse_by, coarse, coarse_curt, judge_coarse, lines_coarse}

-- ---- a thousand cancels
pub cancels : (a b : ℕ) → leb (femto a) (femto b) ≡ leb a b
unfolding femto
cancels a b = ⊎_elim
    (λ (q : (a ≤ b) × (leb a b ≡ true)). rw q.1 (le-leb (1000 * a) (1000 * b) (omega (arith, q.0))))
    (λ (q : (b < a) × (leb a b ≡ false)). rw q.1 (lt-leb (1000 * a) (1000 * b) (omega (arith, q.0))))
    (le_cases a b)

pub rounding_cancels : (d p : ℕ) → rounded_up (femto d) (femto p) ≡ rounded_up d p
unfolding femto
rounding_cancels d zero = unfold rounded_up in rw (div-zero, div-zero)
rounding_cancels d (suc m) = le_antisymm
    ((in_fs r).1 (let l : d ≤ r * suc m = (in_ps r).0 (omega arith) in omega (arith, l)))
    ((in_ps q).1 (let l : 1000 * d ≤ q * (1000 * suc m) = (in_fs q).0 (omega arith) in omega (arith, l)))
  where
    q : ℕ
    q = rounded_up (1000 * d) (1000 * suc m)

    r : ℕ
    r = rounded_up d (suc m)

    in_fs : (k : ℕ) → (q ≤ k) ↔ (1000 * d ≤ k * (1000 * suc m))
    in_fs k = rounded_least (1000 * d) (1000 * suc m) k (omega arith)

    in_ps : (k : ℕ) → (r ≤ k) ↔ (d ≤ k * suc m)
    in_ps k = rounded_least d (suc m) k (omega arith)

quotient_cancels : (d q p : ℕ) → femto d * q / (femto p * 4) ≡ d * q / (p * 4)
unfolding femto
quotient_cancels d q p =
    let a : 1000 * d * q ≡ 1000 * (d * q) = omega arith in
    let b : 1000 * p * 4 ≡ 1000 * (p * 4) = omega arith in
    rw (a, b) (mul-div-mul_left (d * q) (p * 4) (omega arith))

-- ---- so a card whose period is in whole ps has the delays and the intervals that it had, and takes the same values of MR2
mr2_cancels : (p v : ℕ) → mr2_good (femto p) v ≡ coarse_mr2_good p v
unfolding mr2_good coarse_mr2_good
mr2_cancels p v = ap (λ (g : Latency → Bool). ltb v 256 && not (on v 7) && not (on v 5) && at_code (bits v 0 4) g false latencies) (fun_ext (λ (x : Latency). cancels x.least p))

module _ (card : Card) (p : ℕ) (e : card.period ≡ femto p) where
  ps_is : ps card ≡ p
  unfolding ps femto
  ps_is = rw e (mul-div_cancel_left p (omega arith))

  same_n : (x : Timing) → n card x ≡ coarse_n card x
  unfolding n coarse_n
  same_n x = rw (ps_is, e, rounding_cancels x.duration p)

  same_row : row_cycle card ≡ coarse_row_cycle card
  unfolding row_cycle coarse_row_cycle
  same_row = rw (ps_is, e, rounding_cancels (card.tras.duration + card.trppb.duration) p)

  same_delays_of : delays_of card ≡ coarse_delays_of card
  unfolding delays_of coarse_delays_of
  same_delays_of = λ i. record {
    trcd = same_n card.trcd i;
    trppb = same_n card.trppb i;
    trpab = same_n card.trpab i;
    tras = same_n card.tras i;
    trc = same_row i;
    trrd = same_n card.trrd i;
    tfaw = same_n card.tfaw i;
    trtp = same_n card.trtp i;
    twr = same_n card.twr i;
    twtr = same_n card.twtr i;
    tdqsck = same_n card.tdqsck i;
    trfcab = same_n card.trfcab i;
    trfcpb = same_n card.trfcpb i;
    tmrr = same_n card.tmrr i;
    tmrw = same_n card.tmrw i;
    tcke = same_n card.tcke i;
    txp = same_n card.txp i;
    tckesr = same_n card.tckesr i;
    txsr = same_n card.txsr i;
    gap = card.gap;
  }

  same_interval : (v : ℕ) → interval_at card v ≡ coarse_interval_at card v
  unfolding interval_at coarse_interval_at
  same_interval v = rw (ps_is, e, quotient_cancels card.trefi (quarters (heat v)) p)

  same_beat : (past : Past) → beat_at card past ≡ coarse_beat_at card past
  unfolding beat_at coarse_beat_at
  same_beat [] = rw (same_interval _)
  same_beat (x ∷ t) = rw (same_beat t) (go x.mr4)
    where
      go : (o : Option ℕ) → beat_by card (clock t x.stamp) o (coarse_beat_at card t) ≡ coarse_beat_by card (clock t x.stamp) o (coarse_beat_at card t)
      go none = unfold beat_by coarse_beat_by in refl
      go (some v) = unfold beat_by coarse_beat_by in rw (same_interval v)

  same_schedule : (past : Past) → schedule_of card past ≡ coarse_schedule_of card past
  unfolding schedule_of coarse_schedule_of
  same_schedule [] = rw (same_beat [])
  same_schedule (x ∷ t) = rw (same_beat (x ∷ t), same_schedule t)

  same_books : (past : Past) → books_of card past ≡ coarse_books card past
  unfolding books_of coarse_books
  same_books past = ap (λ f. map f (parts card)) (fun_ext (λ (q : ℕ). unfold book_of coarse_book in rw (same_schedule (of_part q past))))

  same_value : (c : Command) → value_good card c ≡ coarse_value_good card c
  unfolding value_good coarse_value_good may_write coarse_may_write
  same_value c = rw (ps_is, e, mr2_cancels p (carries c).op)

module _ (card : Card) (p : ℕ) (e : card.period ≡ femto p) where
  same_delays : (v : ℕ) → delays_at card v ≡ coarse_delays_at card v
  unfolding delays_at coarse_delays_at
  same_delays v = rw (same_delays_of card p e, same_delays_of (hot_card card) p (unfold hot_card in e))

  same_entry : (past : Past) (x : Entry) → entry_refusal card past x ≡ coarse_entry_by delay_rules card past x
  unfolding entry_refusal entry_checks checks coarse_entry_by
  same_entry past x =
      rw (
        same_books card p e past,
        same_books card p e (past_with card past x),
        same_value card p e (judged_as (read_for card past x)),
        same_delays (mr4_at (own_for card past x)),
      )

  same_end : (past : Past) (end : ℕ) → end_refusal card past end ≡ coarse_end card past end
  unfolding end_refusal end_checks coarse_end
  same_end past end = rw (same_books card p e past)

  same_ledgers : (past : Past) (end : ℕ) → defined.verdict card past end ≡ coarse_verdict card past end
  unfolding defined ledgers_at coarse_verdict
  same_ledgers past end = rw (same_books card p e past)

-- that interval, of a card in range, before the first temperature field
pub coarse_start : (card : Card) → card_good card ≡ true → coarse_interval_at card start_mr4 ≡ coarse_interval card
unfolding coarse_interval_at coarse_interval start_mr4 heat bits quarters
coarse_start card e =
    let q : card.trefi * 4 / (ps card * 4) ≡ card.trefi / ps card = mul-div-mul_right card.trefi (ps card) (omega arith) in
    let p : 1 ≤ card.trefi / ps card = (le-div_iff_mul-le {k = ps card} some.0).1 some.1 in
    rw q (omega (arith, p))
  where
    some : (0 < ps card) × (1 * ps card ≤ card.trefi)
    some =
        let g = good_parts card e in
        let low = (within_both 938000 100000000 card.period (unfold period_good in g.period)).0 in
        let high : card.period ≤ 1000 * card.trefi = unfold trefi_good femto in leb-true card.period (1000 * card.trefi) (both_true _ (leb card.trefi 20000000) g.trefi).0 in
        unfold ps in (omega (arith, low), omega (arith, high))

-- ---- the fields of a card whose period has not 8 bytes
unfoldable pub Short : List Field → Type 0
Short fs = eqb (length (value_of 1 fs)) 8 ≡ false

short_next : (f : Field) (fs : List Field) → (f.tag ≡ 1 → length f.value ≡ 8 → ⊥) → Short fs → Short (f ∷ fs)
unfolding Short value_of
short_next f fs n s = ⊎_elim
    (λ (q : (f.tag ≡ 1) × (eqb f.tag 1 ≡ true)). rw q.1 (ne_eqb (length f.value) 8 (n q.0)))
    (λ (q : (f.tag ≡ 1 → ⊥) × (eqb f.tag 1 ≡ false)). rw q.1 s)
    (eq_cases f.tag 1)

short_period : (fs : List Field) → Short fs → (card_of fs).period ≡ femto (number_at 1 fs)
unfolding Short card_of period_at period_of number_at
short_period fs s = rw s

-- their lengths
length_as_coarse : (t l : ℕ) → ((t ≡ 1) × (l ≡ 8) → ⊥) → length_good t l ≡ is_listed coarse_lengths t l
unfolding length_good is_listed is_one_of lengths coarse_lengths ◌of◌ ◌of◌or◌
length_as_coarse t l n = ⊎_elim
    (λ (q : (t ≡ 1) × (eqb t 1 ≡ true)). rw (q.0, ne_eqb 8 l (λ e. n (q.0, sym e))))
    (λ (q : (t ≡ 1 → ⊥) × (eqb t 1 ≡ false)). rw (ne_eqb 1 t (λ e. q.0 (sym e))))
    (eq_cases t 1)

never_eight : is_listed coarse_lengths 1 8 ≡ false
unfolding is_listed is_one_of coarse_lengths ◌of◌
never_eight = refl

-- where 8 is not listed for tag 1, no period has 8 bytes
not_eight : (size : (tag size : ℕ) → Bool) → size 1 8 ≡ false → (t l : ℕ) → size t l ≡ true → t ≡ 1 → l ≡ 8 → ⊥
not_eight size n t l s e k = let z : true ≡ false = sym (rw (e, k) at s) ∙ n in let y : ◌≡◌ {A = ℕ} 0 1 = cc in omega arith

sized_short : (size : (tag size : ℕ) → Bool) → size 1 8 ≡ false → (fs : List Field) → AllSized size fs → Short fs
unfolding AllSized
sized_short size n [] s = unfold Short value_of in refl
sized_short size n (f ∷ fs) s = short_next f fs (not_eight size n f.tag (length f.value) s.0) (sized_short size n fs s.1)

-- and their ranges
good_as_coarse : (fs : List Field) (f : Field) → Short fs → (f.tag ≡ 1 → length f.value ≡ 8 → ⊥) → field_good fs f ≡ coarse_good fs f
unfolding field_good coarse_good
good_as_coarse fs f s n = ⊎_elim
    (λ (q : (f.tag ≡ 1) × (eqb f.tag 1 ≡ true)). rw (q.1, of_period f.value (n q.0)))
    (λ (q : (f.tag ≡ 1 → ⊥) × (eqb f.tag 1 ≡ false)). rw (q.1, at_period, mr2_cancels (number_at 1 fs) (number f.value), of_trefi (number_at 1 fs) (number f.value)))
    (eq_cases f.tag 1)
  where
    at_period : period_at fs ≡ femto (number_at 1 fs)
    at_period = unfold card_of in short_period fs s

    of_period : (v : List ℕ) → (length v ≡ 8 → ⊥) → period_good (period_of v) ≡ coarse_period_good (number v)
    of_period v k = unfold period_of in rw (ne_eqb (length v) 8 k) (unfold period_good coarse_period_good within in rw ((in_range (number v)).0, (in_range (number v)).1))
      where
        in_range : (x : ℕ) → (leb 938000 (femto x) ≡ leb 938 x) × (leb (femto x) 100000000 ≡ leb x 100000)
        in_range x = (unfold femto in cancels 938 x, unfold femto in cancels x 100000)

    of_trefi : (p x : ℕ) → trefi_good (femto p) x ≡ coarse_trefi_good p x
    of_trefi p x = unfold trefi_good coarse_trefi_good within in rw (cancels p x)

-- for an older judge: what it lists, and what it holds to be in range, is so still
pub coarse_listed : (t l : ℕ) → is_listed coarse_lengths t l ≡ true → length_good t l ≡ true
coarse_listed t l s = length_as_coarse t l (λ q. not_eight (is_listed coarse_lengths) never_eight t l s q.0 q.1) ∙ s

pub coarse_ranged : (size : (tag size : ℕ) → Bool) → size 1 8 ≡ false → (fs : List Field) → AllSized size fs → (f : Field) → size f.tag (length f.value) ≡ true →
    coarse_good fs f ≡ true → field_good fs f ≡ true
coarse_ranged size n fs z f s g = good_as_coarse fs f (sized_short size n fs z) (not_eight size n f.tag (length f.value) s) ∙ g

-- ---- one field, whatever refuses a wrong tag
-- the judge of the definitions with this in that place
unfoldable pub fine_by : (wrong : (entries : Bool) → List Field → ℕ → Refusal) → Judge
fine_by w = record {
  come = may_come;
  wrong = w;
  size = length_good;
  good = field_good;
  entry = entry_refusal;
  taken = taken_for;
  end = end_refusal;
  verdict = defined.verdict;
}

-- a tag of the card comes behind lower ones; one of the trace behind some
trace_high : (t : ℕ) → of_trace t ≡ true → 31 < t
unfolding of_trace
trace_high t = go (of_entry t) refl
  where
    go : (x : Bool) → of_entry t ≡ x → (x || eqb t 33) ≡ true → 31 < t
    go true o e = entry_high t o
    go false o e = omega (arith, eqb-true t 33 e)

module _ (b : Bool) (fs : List Field) (t : ℕ) (m : may_come b fs t ≡ true) where
  comes_behind : (t ≡ suc (last_tag fs)) ⊎ ((18 ≤ last_tag fs) × (1 < t))
  unfolding may_come may_follow
  comes_behind = go (ends_group groups (last_tag fs)) refl (of_trace t) refl b m
    where
      go : (x : Bool) → ends_group groups (last_tag fs) ≡ x → (o : Bool) → of_trace t ≡ o → (b : Bool) →
          cond x (o || (not b && (ltb (last_tag fs) t && begins_group groups t))) (eqb t (suc (last_tag fs))) ≡ true → (t ≡ suc (last_tag fs)) ⊎ ((18 ≤ last_tag fs) × (1 < t))
      go false x o u b e = inl (eqb-true t (suc (last_tag fs)) e)
      go true x true u b e = inr (ends_high (last_tag fs) x, omega (arith, trace_high t u))
      go true x false u true e = let y : ◌≡◌ {A = ℕ} 0 1 = cc in absurd (omega arith)
      go true x false u false e =
          let l = ltb-true (last_tag fs) t (both_true (ltb (last_tag fs) t) (begins_group groups t) e).0 in
          inr (ends_high (last_tag fs) x, omega (arith, l, ends_high (last_tag fs) x))

  -- so none is 0, tag 1 is the first, and an entry is not
  some_tag : 0 < t
  some_tag = ⊎_elim (λ (e : t ≡ suc (last_tag fs)). omega (arith, e)) (λ (q : (18 ≤ last_tag fs) × (1 < t)). omega (arith, q.1)) comes_behind

  not_again : 0 < last_tag fs → t ≡ 1 → ⊥
  not_again k o = ⊎_elim (λ (e : t ≡ suc (last_tag fs)). omega (arith, e, k, o)) (λ (q : (18 ≤ last_tag fs) × (1 < t)). omega (arith, q.1, o)) comes_behind

  behind_some : 31 < t → 0 < last_tag fs
  behind_some h = ⊎_elim (λ (e : t ≡ suc (last_tag fs)). omega (arith, e, h)) (λ (q : (18 ≤ last_tag fs) × (1 < t)). omega (arith, q.0)) comes_behind

module _ (w : (entries : Bool) → List Field → ℕ → Refusal) where
  data Both : (was is : Step) → Type 0 where
    goes : {fs : List Field} {past : Past} {at : ℕ} {rest : List ℕ} → 0 < last_tag fs → Short fs → Both (goes_on fs past at rest) (goes_on fs past at rest)
    off : {v : FileVerdict} → Both (ends v) (ends v)

  module _ (fs : List Field) (past : Past) (at : ℕ) (s : Short fs) where
    both_unless : (o : Option Refusal) (x : Step) → Both x x → Both (or_refused at o x) (or_refused at o x)
    unfolding or_refused
    both_unless none x h = h
    both_unless (some r) x h = off

    both_closed : (v : FileVerdict) (k : ℕ) (rest : List ℕ) → Both (closing v k rest) (closing v k rest)
    unfolding closing
    both_closed v k [] = off
    both_closed v k (b ∷ bs) = off

    both_card : (f : Field) (rest : List ℕ) → Sized (is_listed coarse_lengths) f → 0 < f.tag → Both (card_by (coarse_by w) fs past at f rest) (card_by (fine_by w) fs past at f rest)
    unfolding card_by coarse_by fine_by
    both_card f rest z k = rw (good_as_coarse fs f s eight) (go (coarse_good fs f))
      where
        eight : f.tag ≡ 1 → length f.value ≡ 8 → ⊥
        eight = not_eight (is_listed coarse_lengths) never_eight f.tag (length f.value) (rw z.whole z.listed)

        go : (x : Bool) → Both (cond x (goes_on (f ∷ fs) past (at + size_of f) rest) (ends (refused 4 0 at 0))) (cond x (goes_on (f ∷ fs) past (at + size_of f) rest) (ends (refused 4 0 at 0)))
        go true = let l : 0 < last_tag (f ∷ fs) = unfold last_tag in k in goes l (short_next f fs eight s)
        go false = off

    both_field : (f : Field) (rest : List ℕ) → may_come (begun past) fs f.tag ≡ true → Sized (is_listed coarse_lengths) f →
        Both (by_head_by (coarse_by w) fs past at (whole f rest)) (by_head_by (fine_by w) fs past at (whole f rest))
    unfolding by_head_by
    both_field f rest m z = go (of_entry f.tag) (eqb f.tag 33) refl
      where
        whole_ps : (card_of fs).period ≡ femto (number_at 1 fs)
        whole_ps = short_period fs s

        go : (x y : Bool) → of_entry f.tag ≡ x → Both (pick (coarse_by w) fs past at f rest x y) (pick (fine_by w) fs past at f rest x y)
        go true y o = unfold entry_by coarse_by fine_by in
            rw (same_entry (card_of fs) (number_at 1 fs) whole_ps past (entry_of f)) (both_unless _ _ (goes (behind_some (begun past) fs f.tag m (entry_high f.tag o)) s))
        go false true o = unfold end_by coarse_by fine_by in
            rw (same_end (card_of fs) (number_at 1 fs) whole_ps past (end_of f), same_ledgers (card_of fs) (number_at 1 fs) whole_ps past (end_of f)) (both_unless _ _ (both_closed _ _ rest))
        go false false o = both_card f rest z (some_tag (begun past) fs f.tag m)

    both_head : {bs : List ℕ} {h : Head} → Stands (may_come (begun past) fs) (is_listed coarse_lengths) bs h → Both (by_head_by (coarse_by w) fs past at h) (by_head_by (fine_by w) fs past at h)
    both_head is_cut = unfold by_head_by in off
    both_head (is_bad_tag x) = unfold by_head_by in off
    both_head is_bad_length = unfold by_head_by in off
    both_head (is_field f rest m z) = both_field f rest m z

    both_step : (bs : List ℕ) → head_by (fine_by w) (begun past) fs bs ≡ head_by (coarse_by w) (begun past) fs bs → Both (step_by (coarse_by w) fs past at bs) (step_by (fine_by w) fs past at bs)
    unfolding step_by coarse_by
    both_step bs e = rw e (both_head (stands (coarse_by w) (begun past) fs bs))

  -- the heads are the same, unless an 8-byte period stands first
  same_head : (b : Bool) (fs : List Field) (t : ℕ) (bs : List ℕ) → (may_come b fs t ≡ true → sized_by length_good t bs ≡ sized_by (is_listed coarse_lengths) t bs) →
      head_by (fine_by w) b fs (t ∷ bs) ≡ head_by (coarse_by w) b fs (t ∷ bs)
  unfolding head_by fine_by coarse_by
  same_head b fs t bs h = go (may_come b fs t) refl
    where
      go : (x : Bool) → may_come b fs t ≡ x → cond x (sized_by length_good t bs) (bad_tag (w b fs t)) ≡ cond x (sized_by (is_listed coarse_lengths) t bs) (bad_tag (w b fs t))
      go true m = h m
      go false m = refl

  later_head : (b : Bool) (fs : List Field) → 0 < last_tag fs → (bs : List ℕ) → head_by (fine_by w) b fs bs ≡ head_by (coarse_by w) b fs bs
  later_head b fs k [] = unfold head_by in refl
  later_head b fs k (t ∷ bs) = same_head b fs t bs (λ m. same_sized length_good (is_listed coarse_lengths) t (λ l. length_as_coarse t l (λ q. not_again b fs t m k q.0)) bs)

  -- ---- a file
  same_behind : (k : ℕ) (past : Past) {s t : Step} → Both s t →
      ((fs : List Field) (past' : Past) (at : ℕ) (rest : List ℕ) → 0 < last_tag fs → Short fs → file_by (fine_by w) k fs past' at rest ≡ file_by (coarse_by w) k fs past' at rest) →
      behind (file_by (fine_by w) k) past t ≡ behind (file_by (coarse_by w) k) past s
  unfolding behind
  same_behind k past (goes l s) ih = ih _ _ _ _ l s
  same_behind k past off ih = refl

  same_file : (k : ℕ) (fs : List Field) (past : Past) (at : ℕ) (bs : List ℕ) → 0 < last_tag fs → Short fs → file_by (fine_by w) k fs past at bs ≡ file_by (coarse_by w) k fs past at bs
  same_file zero fs past at bs l s = unfold file_by in refl
  same_file (suc k) fs past at bs l s =
      rw (by_step (fine_by w) k fs past at bs, by_step (coarse_by w) k fs past at bs)
      (same_behind k past (both_step fs past at s bs (later_head (begun past) fs l bs)) (λ fs' past' at' rest. same_file k fs' past' at' rest))

-- it begins with the tag and the length of an 8-byte period
abbrev pub Refined : List ℕ → Type 0
Refined bytes = (rest : List ℕ) × (bytes ≡ 1 ∷ 0 ∷ 8 ∷ rest)

abbrev pub Unrefined : List ℕ → Type 0
Unrefined bytes = Refined bytes → ⊥

first_size : (bs : List ℕ) → Unrefined (1 ∷ bs) → sized_by length_good 1 bs ≡ sized_by (is_listed coarse_lengths) 1 bs
unfolding sized_by
first_size [] u = refl
first_size (h ∷ []) u = refl
first_size (h ∷ l ∷ bs) u = rw (length_as_coarse 1 (256 * h + l) (λ q. u (bs, eight q.1)))
  where
    eight : 256 * h + l ≡ 8 → 1 ∷ h ∷ l ∷ bs ≡ 1 ∷ 0 ∷ 8 ∷ bs
    eight e = let a : h ≡ 0 = omega (arith, e) in let b : l ≡ 8 = omega (arith, e) in rw (a, b)

module _ (w : (entries : Bool) → List Field → ℕ → Refusal) (bytes : List ℕ) where
  pub same_unrefined : Unrefined bytes → judged_by (fine_by w) bytes ≡ judged_by (coarse_by w) bytes
  unfolding judged_by
  same_unrefined u =
      rw (by_step (fine_by w) (length bytes) [] [] 0 bytes, by_step (coarse_by w) (length bytes) [] [] 0 bytes)
      (same_behind w (length bytes) [] (both_step w [] [] 0 (unfold Short value_of in refl) bytes (first bytes u)) (λ fs past at rest. same_file w (length bytes) fs past at rest))
    where
      first : (bs : List ℕ) → Unrefined bs → head_by (fine_by w) (begun []) [] bs ≡ head_by (coarse_by w) (begun []) [] bs
      first [] u = unfold head_by in refl
      first (t ∷ bs) u = same_head w (begun []) [] t bs (λ m. only t bs u (one t m))
        where
          one : (t : ℕ) → may_come (begun []) [] t ≡ true → t ≡ 1
          one t m = unfold may_come may_follow last_tag ends_group groups ◌up_to◌ in eqb-true t 1 m

          only : (t : ℕ) (bs : List ℕ) → Unrefined (t ∷ bs) → t ≡ 1 → sized_by length_good t bs ≡ sized_by (is_listed coarse_lengths) t bs
          only t bs u e = rw e (first_size bs (rw e at u))

  -- where it does, that judge refuses it there
  pub refined_refused : Refined bytes → judged_by (coarse_by w) bytes ≡ record { past = []; verdict = refused 3 0 0 0 }
  unfolding judged_by file_by step_by head_by sized_by by_head_by coarse_by begun may_come may_follow last_tag ends_group groups ◌up_to◌ is_listed is_one_of coarse_lengths ◌of◌
  refined_refused r = rw r.1

-- without request Three
fine_curt : fine_by two ≡ curt
unfolding fine_by curt defined
fine_curt = refl

pub same_curt : (bytes : List ℕ) → Unrefined bytes → judged_by curt bytes ≡ judged_by coarse_curt bytes
same_curt bytes u = ap (λ (j : Judge). judged_by j bytes) (sym fine_curt) ∙ same_unrefined two bytes u

-- ---- verdict and lines
fine_defined : fine_by wrong_tag ≡ defined
unfolding fine_by defined
fine_defined = refl

module _ (bytes : List ℕ) (u : Unrefined bytes) where
  same_coarse : judged bytes ≡ judged_by coarse bytes
  same_coarse = sym (defined_judged bytes) ∙ ap (λ (j : Judge). judged_by j bytes) (sym fine_defined) ∙ same_unrefined wrong_tag bytes u

  pub verdict_as_coarse : judge_file bytes ≡ judge_coarse bytes
  unfolding judge_file judge_coarse
  verdict_as_coarse = ap (λ (j : Judged). j.verdict) same_coarse

  pub lines_as_coarse : lines_of bytes ≡ lines_coarse bytes
  unfolding lines_of lines_coarse
  lines_as_coarse = ap (λ (j : Judged). entry_lines j.past ++ verdict_line j.verdict) same_coarse
