-- A step that is taken keeps a sound record sound, whether or not the record stands for a past: what 13 lets pass, and the checks of an entry after it, 13
-- lets pass again. So it is with a ledger alone, taken through an entry's cycle or moved on.
use Prim.Native.Nat.{ℕ, suc, ◌+◌, ◌-◌, ◌≤◌, ◌<◌}
use mathlib.Core.Path.{◌≡◌, refl, ap, sym, ◌∙◌}
use mathlib.Core.Logic.{⊎_elim}
use mathlib.Core.Bool.{Bool, true, false, cond}
use mathlib.Core.List.{List, [], ◌∷◌}
use mathlib.Core.Option.{Option, none, some}
use native.Mathlib.Omega.{arith}
use lib.Dec.{leb, ltb}
use lib.IntN.{ℤ, pos, negsuc, sub_ℕ}
use borrow.Author.Tests.{leb-true, le-leb, ltb-true}
use Rattle.rules.specs.Lists.{Every}
use Rattle.rules.specs.Card.{Card}
use Rattle.rules.specs.Registers.{mr2_good}
use Rattle.rules.specs.Ranges.{card_good}
use Rattle.rules.specs.Whose.{is_of, parts}
use Rattle.rules.specs.Past.{modes_after}
use Rattle.rules.specs.Folds.{first_of}
use Rattle.rules.specs.Levels.{level_after, stopped}
use Rattle.rules.specs.Account.{lpddr3, Beat, steady, take_one, idle, first_idle, failing}
use Rattle.rules.specs.Entries.{Entry, whose_of}
use Rattle.rules.specs.Checks.{checks, value_good}
use Rattle.rules.specs.Delays.{means, unnoted, noted_of}
use Rattle.rules.specs.Lent.{
  Ledger,
  number_of,
  Pace,
  beat_of,
  History,
  Share,
  Lent,
  has_part,
  all_stored,
  mr2s_good,
  owing_good,
  not_above,
  stamps_good,
  last_by,
  since_good,
  share_good,
  lent_good,
  above_last,
  not_behind,
  read_in,
  command_in,
  move_in,
  Effect,
  effect_on,
  counted_to,
  ledger_to,
  refreshed_at,
  sensed_at,
  at_level,
  entered,
  ledger_with,
  failing_of,
  failing_to,
  failings_with,
  step_refusal,
  history_after,
  share_after,
  with_ledger,
  share_with,
  lent_after,
  ledger_good,
  move_refusal,
  moved_on,
  enter_refusal,
}
use Rattle.rules.proofs.Tests.{lt_cases, both_true}
use Rattle.rules.proofs.Biased.{take_biased, sub_below, sub_from, owing, failing_biased}
use Rattle.rules.proofs.Filtered.{IsPart, every_at, all_parts, all_each}
use Rattle.rules.proofs.Decided.{or_else_none, named_none, unless_none}
use Rattle.rules.proofs.Idle.{idle_biased}
use Rattle.rules.proofs.Closed.{owing_none}
use Rattle.rules.proofs.Taken.{counter_step, recorded_good, write_good, owing_biased}
use Rattle.rules.proofs.Stored.{stored_on, all_on, all_after}
use Rattle.rules.proofs.Ledgers.{number_to}

-- ---- the clauses of 13
-- of a share
pub record SoundShare (card : Card) (last : Option ℕ) (s : Share) : Type 0 where
  pub mr2s : mr2s_good card s ≡ true
  pub owing : owing_good s.ledger.owing ≡ true
  pub stamps : stamps_good last s ≡ true
  pub last_by_lem : last_by last s.ledger.at ≡ true
  pub since : since_good s.ledger ≡ true
  pub counter : leb s.counter 7 ≡ true

module _ (card : Card) (last : Option ℕ) (s : Share) where
  pub sound_share : share_good card last s ≡ true → SoundShare card last s
  unfolding share_good
  sound_share e =
      let (upto_since, counter) = both_true _ _ e in
      let (upto_last, since) = both_true _ _ upto_since in
      let (upto_stamps, last_by_lem) = both_true _ _ upto_last in
      let (upto_owing, stamps) = both_true _ _ upto_stamps in
      let (mr2s, owing) = both_true _ _ upto_owing in
      record {
        mr2s = mr2s;
        owing = owing;
        stamps = stamps;
        last_by_lem = last_by_lem;
        since = since;
        counter = counter;
      }

  pub share_good_if : SoundShare card last s → share_good card last s ≡ true
  unfolding share_good
  share_good_if h = rw (h.mr2s, h.owing, h.stamps, h.last_by_lem, h.since, h.counter)

-- of a record: every part of the trace has such a share
pub record Sound (l : Lent) : Type 0 where
  pub card : card_good l.card ≡ true
  pub part : (p : ℕ) → IsPart l.card p → SoundShare l.card l.last (l.share p)

pub sound : (l : Lent) → lent_good l ≡ true → Sound l
unfolding lent_good has_part
sound l e =
    let (card, shares) = both_true _ _ e in
    record {
      card = card;
      part = λ p i. sound_share l.card l.last (l.share p) (all_each (λ p. share_good l.card l.last (l.share p)) (parts l.card) shares p i);
    }

pub good_if : (l : Lent) → Sound l → lent_good l ≡ true
unfolding lent_good has_part
good_if l s =
    rw s.card (all_parts (λ p. share_good l.card l.last (l.share p)) (parts l.card) (λ p i. share_good_if l.card l.last (l.share p) (s.part p i)))

pub record SoundLedger (c : Card) (g : Ledger) : Type 0 where
  pub card : card_good c ≡ true
  pub owing : owing_good g.owing ≡ true
  pub since : since_good g ≡ true

module _ (card : Card) (g : Ledger) where
  pub sound_ledger : ledger_good card g ≡ true → SoundLedger card g
  unfolding ledger_good
  sound_ledger e =
      let (both, since) = both_true _ _ e in
      let (card, owing) = both_true _ _ both in
      record { card = card; owing = owing; since = since }

  pub ledger_good_if : SoundLedger card g → ledger_good card g ≡ true
  unfolding ledger_good
  ledger_good_if s = rw (s.card, s.owing, s.since)

-- each ledger of a record
pub ledger_good_lem : (l : Lent) → lent_good l ≡ true → (p : ℕ) → IsPart l.card p → ledger_good l.card (l.share p).ledger ≡ true
ledger_good_lem l e p i =
    let s = sound l e in
    ledger_good_if l.card (l.share p).ledger (record { card = s.card; owing = (s.part p i).owing; since = (s.part p i).since })

-- ---- the ledger
-- not below minus the credit
abbrev Biased : ℤ → Type 0
Biased z = (o : ℕ) × (z ≡ sub_ℕ o lpddr3.credit)

biased : (z : ℤ) → owing_good z ≡ true → Biased z
unfolding owing_good lpddr3
biased (pos n) e = (n + 8, let z : n ≡ n + 8 - 8 = omega arith in sym (sub_from (n + 8) 8 (omega arith) ∙ ap pos (sym z)))
biased (negsuc n) e =
    let h : n ≤ 7 = leb-true n 7 (both_true _ _ e).0 in
    (7 - n, let z : n ≡ 8 - suc (7 - n) = omega arith in sym (sub_below (7 - n) 8 (omega arith) ∙ ap negsuc (sym z)))

within : (b : Beat) (z : ℤ) (last n t : ℕ) → Biased z → failing lpddr3 (steady b) z last n t ≡ none → owing_good z ≡ true
unfolding lpddr3
within b z last n t (o, e) h =
    let f : owing lpddr3 (steady b) o last n t ≡ none = sym (failing_biased lpddr3 (steady b) o last n t) ∙ (rw e at h) in
    rw (e, owing_biased o) (le-leb o 16 (owing_none lpddr3 (steady b) o last n t f).0)

biased_to : (b : Beat) (g : Ledger) (t : ℕ) → Biased g.owing → Biased (ledger_to b g t).owing
unfolding ledger_to
biased_to b g t (o, e) =
    (_, ap (λ (z : ℤ). idle lpddr3.credit (steady b) z (number_of g) (counted_to g t)) e ∙ idle_biased (steady b) lpddr3.credit o (number_of g) (counted_to g t))

biased_refreshed : (counted : Bool) (g : Ledger) → Biased g.owing → Biased (refreshed_at counted g).owing
unfolding refreshed_at
biased_refreshed true g (o, b) = (o - 1, ap (take_one lpddr3.credit) b ∙ take_biased lpddr3.credit o)
biased_refreshed false g b = b

-- the gap counts from no later than where the ledger stands
since_to : (b : Beat) (g : Ledger) (t : ℕ) → g.at ≤ t → g.since ≤ number_of g → (ledger_to b g t).since ≤ number_of (ledger_to b g t)
since_to b g t h s = rw (number_to b g t h) (unfold ledger_to in omega arith)

since_refreshed : (counted : Bool) (g : Ledger) → g.since ≤ number_of g → (refreshed_at counted g).since ≤ number_of (refreshed_at counted g)
unfolding refreshed_at number_of
since_refreshed true g h = omega arith
since_refreshed false g h = h

since_sensed : (sensed : Bool) (g : Ledger) → g.since ≤ number_of g → (sensed_at sensed g).since ≤ number_of (sensed_at sensed g)
unfolding sensed_at number_of
since_sensed true g h = omega arith
since_sensed false g h = h

owing_sensed : (sensed : Bool) (g : Ledger) → (sensed_at sensed g).owing ≡ g.owing
unfolding sensed_at
owing_sensed true g = refl
owing_sensed false g = refl

-- where it stands nothing is added
owing_here : (b : Beat) (g : Ledger) → (ledger_to b g g.at).owing ≡ g.owing
unfolding ledger_to counted_to
owing_here b g = go (stopped g.level)
  where
    go : (x : Bool) → idle lpddr3.credit (steady b) g.owing (number_of g) (cond x 0 (g.at - g.at)) ≡ g.owing
    go true = unfold idle in refl
    go false = let z : g.at - g.at ≡ 0 = omega arith in rw z (unfold idle in refl)

module _ (card : Card) (p : Pace) (g : Ledger) where
  abbrev b : Beat
  b = beat_of card p

  -- taken through an entry's cycle
  pub entered_good : (x : Effect) (t : ℕ) → ledger_good card g ≡ true → g.at ≤ t → failing_of (beat_of card p) (entered x (beat_of card p) g t) ≡ none →
      ledger_good card (entered x (beat_of card p) g t) ≡ true
  unfolding entered failing_of at_level
  entered_good x t good h n =
      let s = sound_ledger card g good in
      let to = ledger_to b g t in
      let back = refreshed_at x.counted to in
      let since : g.since ≤ number_of g = unfold since_good in leb-true g.since (number_of g) s.since in
      ledger_good_if card (at_level (level_after x.move g.level) (sensed_at x.sensed back)) (record {
        card = s.card;
        owing = within _ _ _ _ _ (rw (owing_sensed x.sensed back) (biased_refreshed x.counted to (biased_to b g t (biased g.owing s.owing)))) n;
        since = unfold since_good number_of in le-leb _ _ (since_sensed x.sensed back (since_refreshed x.counted to (since_to b g t h since)));
      })

  pub enter_good : (x : Effect) (t : ℕ) → enter_refusal x card p g t ≡ none → ledger_good card (entered x (beat_of card p) g t) ≡ true
  unfolding enter_refusal first_of
  enter_good x t n =
      let (good, n₁) = or_else_none _ _ n in
      let (from, n₂) = or_else_none _ _ n₁ in
      let (below, n₃) = or_else_none _ _ n₂ in
      let (here, n₄) = or_else_none _ _ n₃ in
      entered_good x t (unless_none _ 13 good) (leb-true g.at t (unless_none _ 5 from)) (named_none 11 _ here)

  -- of the cycles that a ledger is moved on over, the last does not take it out of its range
  owing_there : (c : ℕ) → SoundLedger card g → g.at < c → failing_to b g (suc c) ≡ none → owing_good (moved_on card p g c).owing ≡ true
  unfolding failing_to moved_on ledger_to counted_to
  owing_there c s h = go (stopped g.level)
    where
      j : suc c - suc g.at ≡ suc (c - suc g.at)
      j = omega arith

      k : c - g.at ≡ suc (c - suc g.at)
      k = omega arith

      go : (x : Bool) → cond x none (first_idle lpddr3 (steady b) g.owing g.since (number_of g) g.at (suc c - suc g.at)) ≡ none →
          owing_good (idle lpddr3.credit (steady b) g.owing (number_of g) (cond x 0 (c - g.at))) ≡ true
      go true n = unfold idle in s.owing
      go false n =
          let (o, e) = biased g.owing s.owing in
          let i = c - suc g.at in
          let m : failing lpddr3 (steady b) (idle lpddr3.credit (steady b) g.owing (number_of g) (suc i)) g.since (number_of g + suc i) (g.at + suc i) ≡ none =
          unfold first_idle in (or_else_none _ _ (rw j at n)).1 in
          rw k (within b _ _ _ _ (_, ap (λ (z : ℤ). idle lpddr3.credit (steady b) z (number_of g) (suc (c - suc g.at))) e ∙ idle_biased (steady b) lpddr3.credit o (number_of g) (suc (c - suc g.at))) m)

  pub moved_good : (c : ℕ) → move_refusal card p g c ≡ none → ledger_good card (moved_on card p g c) ≡ true
  unfolding move_refusal first_of
  moved_good c n =
      let (first, n₁) = or_else_none _ _ n in
      let (from, n₂) = or_else_none _ _ n₁ in
      let (below, n₃) = or_else_none _ _ n₂ in
      go (unless_none _ 13 first) (leb-true g.at c (unless_none _ 5 from)) (named_none 11 _ below)
    where
      go : ledger_good card g ≡ true → g.at ≤ c → failing_to b g (suc c) ≡ none → ledger_good card (moved_on card p g c) ≡ true
      go good h f = ledger_good_if card (moved_on card p g c) (record {
        card = s.card;
        owing = ⊎_elim
            (λ (p : (g.at < c) × (ltb g.at c ≡ true)). owing_there c s p.0 f)
            (λ (p : (c ≤ g.at) × (ltb g.at c ≡ false)).
            let e : c ≡ g.at = omega (arith, p.0) in
            rw e (unfold moved_on in rw (owing_here b g) s.owing))
            (lt_cases g.at c);
        since = unfold since_good moved_on in le-leb _ _ (since_to b g c h (unfold since_good in leb-true _ _ s.since));
      })
        where
          s : SoundLedger card g
          s = sound_ledger card g good

-- ---- a step
none_each : {A : Type 0} (os : List (Option A)) → first_of os ≡ none → Every (λ o. o ≡ none) os
unfolding Every first_of
none_each [] n = tt
none_each (o ∷ os) n = let (first, later) = or_else_none o (first_of os) n in (first, none_each os later)

-- what an entry that was taken has
pub record StepPassed (l : Lent) (e : Entry) : Type 0 where
  pub good : lent_good l ≡ true
  pub above : above_last l.last e.stamp ≡ true
  pub from : (p : ℕ) → IsPart l.card p → (l.share p).ledger.at ≤ e.stamp
  pub value : value_good l.card (command_in l e) ≡ true
  pub paid : (p : ℕ) → IsPart l.card p → failing_of (beat_of l.card l.pace) (ledger_with l e p) ≡ none

module _ (l : Lent) (e : Entry) (n : step_refusal l e ≡ none) where
  pub step_passed : StepPassed l e
  unfolding step_refusal checks first_of command_in not_behind failings_with has_part
  step_passed =
      let (good, n₁) = or_else_none _ _ n in
      let (rises, n₂) = or_else_none _ _ n₁ in
      let (before, n₃) = or_else_none _ _ n₂ in
      let (wrong, n₄) = or_else_none _ _ n₃ in
      let (selects, n₅) = or_else_none _ _ n₄ in
      let (reserved, n₆) = or_else_none _ _ n₅ in
      let (state, n₇) = or_else_none _ _ n₆ in
      let (permitted, n₈) = or_else_none _ _ n₇ in
      let (value, n₉) = or_else_none _ _ n₈ in
      let (code, n₁₀) = or_else_none _ _ n₉ in
      let (delays, n₁₁) = or_else_none _ _ n₁₀ in
      let (at, n₁₂) = or_else_none _ _ n₁₁ in
      let (above, from) = both_true _ _ (unless_none _ 5 rises) in
      record {
        good = unless_none _ 13 good;
        above = above;
        from = λ p i. leb-true (l.share p).ledger.at e.stamp (all_each (λ p. leb (l.share p).ledger.at e.stamp) (parts l.card) from p i);
        value = recorded_good l.card (read_in l e) (unless_none _ 9 value);
        paid = every_at (λ o. o ≡ none) (λ p. failing_of (beat_of l.card l.pace) (ledger_with l e p)) (parts l.card) (none_each _ (named_none 11 _ at));
      }

  -- stamps that are not above the last are not above what comes after it
  before_it : (s : ℕ) → not_above l.last s ≡ true → leb s e.stamp ≡ true
  before_it s = go l.last step_passed.above
    where
      go : (o : Option ℕ) → above_last o e.stamp ≡ true → not_above o s ≡ true → leb s e.stamp ≡ true
      go none a b = let z : false ≡ true = unfold not_above in b in cc
      go (some t) a b =
          let x : t < e.stamp = unfold above_last in ltb-true t e.stamp a in
          let y : s ≤ t = unfold not_above in leb-true s t b in
          le-leb s e.stamp (omega arith)

  -- ---- each part's share
  module _ (p : ℕ) (i : IsPart l.card p) where
    was : SoundShare l.card l.last (l.share p)
    was = (sound l step_passed.good).part p i

    -- after an entry of its own
    abbrev after : History
    after = history_after (command_in l e) (move_in l e) (l.share p).counter e.stamp (l.share p).modes (l.share p).history

    stamps_kept : all_stored (λ a f. not_above (some e.stamp) f.stamp) after ≡ true
    unfolding not_above
    stamps_kept = stored_on (λ a f. not_above l.last f.stamp) _ (l.share p).history after
        (λ q h. all_after _ (command_in l e) (move_in l e) _ _ _ (l.share p).history q (le-leb e.stamp e.stamp (omega arith)) (all_on _ _ (λ f. before_it f.stamp) ((l.share p).history q) h))
        (unfold stamps_good in was.stamps)

    abbrev fits : ℕ → Bool
    fits = mr2_good l.card.period

    mr2s_were : (fits (l.share p).modes.mr2 ≡ true) × (all_stored (λ a f. cond (means a).lags (fits f.noted.mr2) true) (l.share p).history ≡ true)
    mr2s_were = both_true _ _ (unfold mr2s_good in was.mr2s)

    notes_kept : all_stored (λ a f. cond (means a).lags (fits f.noted.mr2) true) after ≡ true
    unfolding noted_of
    notes_kept = stored_on (λ a f. cond (means a).lags (fits f.noted.mr2) true) _ (l.share p).history after
        (λ q h. all_after _ (command_in l e) (move_in l e) _ _ _ (l.share p).history q (go (means q.ask).lags) h) mr2s_were.1
      where
        go : (x : Bool) → cond x (fits (cond x (l.share p).modes unnoted).mr2) true ≡ true
        go true = mr2s_were.0
        go false = refl

    pub ledger_kept : ledger_good l.card (ledger_with l e p) ≡ true
    unfolding ledger_with
    ledger_kept =
        entered_good l.card l.pace (l.share p).ledger (effect_on l e p) e.stamp (ledger_good_lem l step_passed.good p i) (step_passed.from p i) (step_passed.paid p i)

    sound_kept : SoundLedger l.card (ledger_with l e p)
    sound_kept = sound_ledger l.card (ledger_with l e p) ledger_kept

    ledger_there : last_by (some e.stamp) (ledger_with l e p).at ≡ true
    unfolding last_by ledger_with entered at_level
    ledger_there = at_it (effect_on l e p).sensed (effect_on l e p).counted
      where
        at_it : (y x : Bool) → leb e.stamp (sensed_at y (refreshed_at x (ledger_to (beat_of l.card l.pace) (l.share p).ledger e.stamp))).at ≡ true
        at_it true true = unfold sensed_at refreshed_at ledger_to in le-leb e.stamp e.stamp (omega arith)
        at_it true false = unfold sensed_at refreshed_at ledger_to in le-leb e.stamp e.stamp (omega arith)
        at_it false true = unfold sensed_at refreshed_at ledger_to in le-leb e.stamp e.stamp (omega arith)
        at_it false false = unfold sensed_at refreshed_at ledger_to in le-leb e.stamp e.stamp (omega arith)

    own_kept : SoundShare l.card (some e.stamp) (share_after (command_in l e) (move_in l e) e.stamp (ledger_with l e p) (l.share p))
    unfolding share_after
    own_kept = record {
      mr2s = unfold mr2s_good modes_after in rw (write_good l.card (command_in l e) (l.share p).modes.mr2 step_passed.value mr2s_were.0, notes_kept);
      owing = sound_kept.owing;
      stamps = unfold stamps_good in stamps_kept;
      last_by_lem = ledger_there;
      since = sound_kept.since;
      counter = le-leb _ 7 (counter_step (command_in l e) (move_in l e) (l.share p).counter (leb-true (l.share p).counter 7 was.counter));
    }

    -- after any other
    other_kept : SoundShare l.card (some e.stamp) (with_ledger (ledger_with l e p) (l.share p))
    unfolding with_ledger
    other_kept = record {
      mr2s = unfold mr2s_good in was.mr2s;
      owing = sound_kept.owing;
      stamps = unfold stamps_good not_above in
          stored_on (λ a f. not_above l.last f.stamp) _ (l.share p).history (l.share p).history (λ q. all_on _ _ (λ f. before_it f.stamp) ((l.share p).history q))
          (unfold stamps_good in was.stamps);
      last_by_lem = ledger_there;
      since = sound_kept.since;
      counter = was.counter;
    }

    share_kept : SoundShare l.card (some e.stamp) (share_with l e p)
    unfolding share_with
    share_kept = go (is_of p (whose_of l.card e))
      where
        go : (x : Bool) → SoundShare l.card (some e.stamp)
            (cond x (share_after (command_in l e) (move_in l e) e.stamp (ledger_with l e p) (l.share p)) (with_ledger (ledger_with l e p) (l.share p)))
        go true = own_kept
        go false = other_kept

  pub good_kept : lent_good (lent_after l e) ≡ true
  good_kept = good_if (lent_after l e) (unfold lent_after in record {
    card = (sound l step_passed.good).card;
    part = λ p i. rw i (share_kept p i);
  })
