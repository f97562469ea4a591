-- The deadline of a ledger is the first cycle that fails with no counted refresh; moved on to a cycle before it, the ledger has the same one.
use Prim.Native.Nat.{ℕ, suc, ◌+◌, ◌-◌, ◌*◌, ◌≤◌, ◌<◌}
use mathlib.Core.Path.{◌≡◌, refl, ap, sym, ◌∙◌}
use mathlib.Core.Bool.{Bool, true, false, cond, not, ◌&&◌}
use mathlib.Core.Option.{none, some}
use native.Mathlib.Nat.{add-mul}
use native.Mathlib.Omega.{arith}
use lib.Dec.{leb}
use lib.IntN.{sub_ℕ}
use borrow.Author.Tests.{le-leb}
use Rattle.rules.specs.Levels.{stopped}
use Rattle.rules.specs.Account.{lpddr3, Beat, fallen, next_after, steady, failing, idle, first_idle}
use Rattle.rules.specs.Lent.{number_of, beat_of, since_good, ledger_good, counted_to, ledger_to, failing_to, failing_of}
use Rattle.rules.specs.Checks.{unless}
use Rattle.rules.specs.Checks as checks
use Rattle.rules.proofs.Tests.{some_none}
use Rattle.rules.proofs.Decided.{or_else_none, unless_none}
use Rattle.rules.proofs.Idle.{owed_at, idle_beat}
use Rattle.rules.proofs.Beats.{interval_least}
use Rattle.rules.proofs.Ledgers.{number_to}
use Rattle.rules.proofs.Taken.{owing_biased}
use Rattle.card.specs.Values.{card_of}
use Rattle.card.specs.declared.Card.{Card}
use Rattle.pins.specs.Values.{level_of}
use Rattle.ledger.specs.declared.Ledger.{Ledger}
use Rattle.ledger.specs.declared.Pace.{Pace}
use Rattle.ledger.specs.declared.account.Account.{Account}
use Rattle.ledger.specs.declared.account.First.{First}
use Rattle.ledger.specs.Values.{ledger_of, pace_of, stored, code_of, over_at, late_at, closed_at, deadline_by, deadline_of}
use Rattle.ledger.specs.Parts.{beat_as, Opened, Failing}
use Rattle.ledger.proofs.Admission.{Sound, sound_when}
use Rattle.ledger.proofs.Closing.{closed_ahead, past_le, within}
use Rattle.ledger.proofs.Moves.{running_counts, running_none, running_fails}
use Rattle.ledger.proofs.Promises.{stored_is, level_is}

below : (x y : Bool) (n t : ℕ) → t < cond (x && not y) n 0 → (x ≡ true) × (y ≡ false) × (t < n)
below true true n t h = absurd (omega arith)
below true false n t h = (refl, refl, h)
below false y n t h = absurd (omega arith)

over_is : (b : Beat) (n k : ℕ) → next_after b n + k * b.span ≡ b.next + (fallen b n + k) * b.span
unfolding next_after
over_is b n k = rw (add-mul (fallen b n) k b.span) (omega arith)

module _ (card : Card) (pace : Pace) (g : Ledger) where
  abbrev b : Beat
  b = beat_of (card_of card) (pace_of pace)

  spanned : 0 < b.span
  unfolding beat_of pace_of
  spanned = interval_least (card_of card) pace.mr4

  abbrev n : ℕ
  n = number_of (ledger_of g)

  abbrev closed : ℕ
  closed = closed_at b n g.owed g.since

  abbrev good : Bool
  good = ledger_good (card_of card) (ledger_of g)

  abbrev halted : Bool
  halted = stopped (level_of g.level)

  -- as the code finds the deadline
  pub not_sound : (x : checks.Refusal) → unless good 13 ≡ some x → 0 ≡ deadline_of card pace g
  unfolding deadline_of unless
  not_sound x e = go good refl
    where
      go : (y : Bool) → good ≡ y → 0 ≡ deadline_of card pace g
      go false w = rw w
      go true w = absurd (some_none (rw w at e))

  pub not_running : halted ≡ true → 0 ≡ deadline_of card pace g
  unfolding deadline_of
  not_running h = rw h (go good)
    where
      go : (y : Bool) → 0 ≡ cond (y && false) (deadline_by b g) 0
      go false = refl
      go true = refl

  pub running : good ≡ true → halted ≡ false → deadline_by b g ≡ deadline_of card pace g
  unfolding deadline_of
  running e h = rw (e, h)

  module _ (a : Account) (o : Opened (card_of card) (pace_of pace) g a) where
    pub halted_so : stopped (level_of a.ledger.level) ≡ true → 0 ≡ deadline_of card pace g
    halted_so h = not_running (rw o.ledger at h)

    pub running_so : unless good 13 ≡ none → (x : First) → Failing (beat_as a.beat) a.ledger x → x.cycle ≡ deadline_of card pace g
    running_so e x f = f.cycle ∙ rw (o.ledger, o.beat) (running (unless_none _ _ e) (rw o.ledger at f.runs))

  -- ---- of a ledger that 13 lets pass, and whose cycles count
  module _ (ok : good ≡ true) (runs : halted ≡ false) where
    s : Sound (card_of card) g
    s = sound_when (card_of card) g ok

    is : deadline_of card pace g ≡ deadline_by b g
    is = sym (running ok runs)

    is_at : deadline_of card pace g ≡ g.at + (closed - n)
    is_at = is ∙ (unfold deadline_by in refl)

    ahead : n < closed
    ahead = closed_ahead b n g.owed g.since spanned

    pub none_before : (t : ℕ) → t ≤ deadline_of card pace g → failing_to b (ledger_of g) t ≡ none
    none_before t h = running_none b g spanned s.low runs t (rw is at h)

    pub one_there : failing_to b (ledger_of g) (suc (deadline_of card pace g))
        ≡ some (cond (leb (over_at b n g.owed) (late_at b.span n g.since)) 19 20, deadline_of card pace g)
    one_there = rw is (running_fails b g spanned s.low runs (suc (deadline_by b g)) (omega arith))

  -- 19 and 20 where it comes to stand
  here_is : (t : ℕ) → g.at ≤ t → failing_of b (ledger_to b (ledger_of g) t)
      ≡ failing lpddr3 (steady b) (idle lpddr3.credit (steady b) (sub_ℕ g.owed 8) n (counted_to (ledger_of g) t)) g.since (n + counted_to (ledger_of g) t) t
  unfolding failing_of
  here_is t later = rw (number_to b (ledger_of g) t (unfold ledger_of in later)) (unfold ledger_to ledger_of in refl)

  -- ---- before the deadline
  module _ (t : ℕ) (later : g.at ≤ t) (early : t < deadline_of card pace g) where
    parts : (good ≡ true) × (halted ≡ false) × (t < deadline_by b g)
    unfolding deadline_of
    parts = below good halted (deadline_by b g) t early

    pub sound : Sound (card_of card) g
    sound = sound_when (card_of card) g parts.0

    pub none_failing : failing_to b (ledger_of g) (suc t) ≡ none
    none_failing = none_before parts.0 parts.1 (suc t) (omega arith)

    idle_none : g.at < t → first_idle lpddr3 (steady b) (sub_ℕ g.owed 8) g.since n g.at (suc (t - suc g.at)) ≡ none
    unfolding failing_to ledger_of
    idle_none h = let e : suc t - suc g.at ≡ suc (t - suc g.at) = omega arith in rw (parts.1, e) at none_failing

    last_none : g.at < t →
        failing lpddr3 (steady b) (idle lpddr3.credit (steady b) (sub_ℕ g.owed 8) n (suc (t - suc g.at))) g.since (n + suc (t - suc g.at)) t ≡ none
    unfolding first_idle
    last_none h = let w : g.at + suc (t - suc g.at) ≡ t = omega arith in rw w at (or_else_none _ _ (idle_none h)).1

    pub none_here : g.at < t → (failing_to b (ledger_of g) t ≡ none) × (failing_of b (ledger_to b (ledger_of g) t) ≡ none)
    none_here h =
        let m : counted_to (ledger_of g) t ≡ suc (t - suc g.at) = running_counts g parts.1 t ∙ omega arith in
        (none_before parts.0 parts.1 t (omega arith), here_is t later ∙ rw m (last_none h))

    abbrev m : ℕ
    m = n + (t - g.at)

    before : m < closed
    before = omega (arith, early, is_at parts.0 parts.1, ahead parts.0 parts.1)

    abbrev owed : ℕ
    owed = g.owed + (fallen b m - fallen b n)

    rise : fallen b n ≤ fallen b m
    rise = past_le b n g.owed m spanned sound.low (omega arith)

    still : owed ≤ 16
    still = within b n g.owed m spanned sound.low (omega arith) (omega (arith, before))

    -- its numbers then
    abbrev there : Ledger
    there = record { at = t; owed = owed; since = g.since; skipped = t - m; level = g.level }

    reaches : code_of (ledger_to b (ledger_of g) t) ≡ there
    unfolding code_of ledger_to ledger_of lpddr3
    reaches = λ i. record { at = t; owed = owing i; since = g.since; skipped = t - number i; level = level_is g.level i }
      where
        number : number_of (ledger_of g) + counted_to (ledger_of g) t ≡ m
        number = ap (λ (j : ℕ). number_of (ledger_of g) + j) (running_counts g parts.1 t)

        owing : stored (idle 8 (steady b) (sub_ℕ g.owed 8) (number_of (ledger_of g)) (counted_to (ledger_of g) t)) ≡ owed
        owing =
            let e : owed_at b n g.owed (n + counted_to (ledger_of g) t) ≡ owed = unfold owed_at in rw number in
            ap stored (idle_beat b spanned 8 g.owed n (counted_to (ledger_of g) t)) ∙ stored_is (owed_at b n g.owed (n + counted_to (ledger_of g) t)) ∙ e

    number_there : number_of (ledger_of there) ≡ m
    unfolding number_of ledger_of
    number_there = omega (arith, later)

    good_there : ledger_good (card_of card) (ledger_of there) ≡ true
    unfolding ledger_good since_good
    good_there = rw (sound.range, number_there) (unfold ledger_of in rw (owing_biased owed, le-leb owed 16 still, le-leb g.since m (omega (arith, sound.since))))

    over_there : over_at b m owed ≡ over_at b n g.owed
    over_there = over_is b m (16 - owed) ∙ ap (λ (k : ℕ). b.next + k * b.span) same ∙ sym (over_is b n (16 - g.owed))
      where
        same : fallen b m + (16 - owed) ≡ fallen b n + (16 - g.owed)
        same = omega (arith, rise, still)

    closed_there : closed_at b m owed g.since ≡ closed
    closed_there = rw over_there (omega (arith, before))

    pub same_deadline : deadline_of card pace (code_of (ledger_to b (ledger_of g) t)) ≡ deadline_of card pace g
    same_deadline =
        let x : deadline_by b there ≡ t + (closed - m) = unfold deadline_by in rw (number_there, closed_there) in
        let y : deadline_of card pace there ≡ deadline_by b there = unfold deadline_of in rw (good_there, parts.1) in
        ap (deadline_of card pace) reaches ∙ y ∙ x ∙ omega (arith, before, later, is_at parts.0 parts.1)
