-- The parts of a run, joined one behind the other.
use Prim.Native.Nat.{ℕ, ◌+◌, ◌-◌, ◌*◌, ◌/◌, ◌≤◌, ◌<◌, ◌^◌}
use mathlib.Core.Path.{◌≡◌, refl, ap, sym, ◌∙◌, subst}
use mathlib.Core.Bool.{Bool, true, false, ◌&&◌}
use mathlib.Core.List.{List}
use native.Mathlib.Omega.{arith}
use lib.ListN.{length, drop, length-drop}
use lib.Seq.{drop-drop}
use Rattle.std.specs.Prelude.{is_some}
use Rattle.rules.specs.Folds.{or_else, first_of}
use Rattle.rules.specs.Checks.{unless}
use Rattle.rules.specs.Lent.{lent_good, step_refusal}
use Rattle.card.specs.declared.Delays.{Delays}
use Rattle.pins.specs.Fronts.{front_of}
use Rattle.ledger.specs.Values.{pace_of, is_none}
use Rattle.bank.specs.declared.Record.{Record}
use Rattle.bank.specs.Values.{lent_of}
use Rattle.bank.specs.declared.Share.{Share}
use Rattle.bank.proofs.Sizes.{ShareWhole}
use Rattle.step.specs.declared.single.Single.{Single}
use Rattle.step.specs.declared.Ran.{Ran}
use Rattle.step.specs.Runs.{entry_at, takes, ran, behind, run_of}
use Rattle.step.specs.Parts.{Fitting, Prepared, onwards}
use Rattle.step.specs.Single.{single_of, whole, ran_with, Ready, SoFar}
use Rattle.step.proofs.Alone.{good}
use Rattle.step.proofs.Ahead.{good_whole}
use Rattle.step.proofs.Farther.{behind_twice, behind_none, from_start}
use Rattle.step.proofs.Onward.{run_on, run_stops, Counted, run_counted, Alike, run_good, Part, run_then}

abbrev pub join : Ran Single → Ran Single → Ran Single
join p r = behind p.used p.commands p.refreshes r

-- how many entries are left
abbrev pub left : ℕ → Ran Single → ℕ
left most p = most - p.used / 10

-- a part of the run behind what was run so far, whatever the share that is not looked at
abbrev pub Behind : List ℕ → ℕ → Ran Single → Ran Single → Type 0
Behind bs n p r = (x : Share) → Part n (whole x p.rec) (drop p.used bs) (ran_with x r)

-- joined with what was run so far
pub record Joined (d : Delays) (bs : List ℕ) (most : ℕ) (p r : Ran Single) : Type 0 where
  pub so_far : SoFar d bs most r
  pub same : (x : Share) → onwards bs most (ran_with x r) ≡ onwards bs most (ran_with x p)
  pub arrays : ShareWhole r.rec.share

module _ (d : Delays) (bs : List ℕ) (most : ℕ) (p : Ran Single) (s : SoFar d bs most p) (arrays : ShareWhole p.rec.share) (r : Ran Single) (part : Behind bs (left most p) p r) where
  -- with a share that has its lengths
  abbrev own : Share
  own = p.rec.share

  there : Alike (whole own p.rec) (whole own r.rec)
  unfolding ran_with
  there =
      subst (λ (q : Ran Record). Alike (whole own p.rec) q.rec) (sym (part own).is)
      (run_good (part own).count (whole own p.rec) (drop p.used bs) (good_whole d p.rec s.sound arrays))

  counted : Counted (drop p.used bs) (ran_with own r)
  counted = rw (part own).is (run_counted (part own).count (whole own p.rec) (drop p.used bs))

  rest : r.used ≤ length bs - p.used
  unfolding ran_with
  rest = rw length-drop at counted.within

  few_commands : r.commands ≤ r.used
  unfolding ran_with
  few_commands = counted.commands

  few_refreshes : r.refreshes ≤ r.used
  unfolding ran_with
  few_refreshes = counted.refreshes

  entries : (x : Share) → r.used ≡ 10 * (part x).count
  unfolding ran_with
  entries x = (part x).used

  pub fitting : length bs < 2 ^ 64 → Fitting p r
  fitting h = record {
    used = omega (arith, s.within, rest);
    commands = omega (arith, s.within, rest, s.commands, few_commands);
    refreshes = omega (arith, s.within, rest, s.refreshes, few_refreshes);
  }

  single_there : r.rec.card.paired ≡ false
  single_there = rw there.card s.sound.single

  ready_there : Ready r.rec d
  ready_there = record {
    single = single_there;
    sound = sym (good own r.rec single_there) ∙ there.good.passed;
    clocks = rw (there.card, there.pace) s.sound.clocks;
  }

  so_far_there : SoFar d bs most (join p r)
  so_far_there = record {
    sound = ready_there;
    entries = s.entries + (part own).count;
    used = omega (arith, s.used, entries own);
    few = omega (arith, s.used, s.few, (part own).few);
    within = omega (arith, s.within, rest);
    commands = omega (arith, s.commands, few_commands);
    refreshes = omega (arith, s.refreshes, few_refreshes);
  }

  same_run : (x : Share) → onwards bs most (ran_with x (join p r)) ≡ onwards bs most (ran_with x p)
  unfolding onwards ran_with
  same_run x =
      let k = left most (join p r) in
      let m : left most p ≡ (part x).count + k = omega (arith, s.used, s.few, entries x, (part x).few) in
      let rec = whole x p.rec in
      let then = run_of k (whole x r.rec) (drop r.used (drop p.used bs)) in
      let h : run_of (left most p) rec (drop p.used bs) ≡ behind r.used r.commands r.refreshes then =
      (rw (← (part x).is) at (run_then (part x).count rec (drop p.used bs))) (entries x) k (left most p) m in
      sym
      (ap (behind p.used p.commands p.refreshes) h
      ∙ behind_twice p.used p.commands p.refreshes r.used r.commands r.refreshes then
      ∙ ap (λ (y : List ℕ). behind (p.used + r.used) (p.commands + r.commands) (p.refreshes + r.refreshes) (run_of k (whole x r.rec) y)) (drop-drop r.used p.used bs))

  pub joined_so : Joined d bs most p (join p r)
  joined_so = record { so_far = so_far_there; same = same_run; arrays = there.good.arrays.first }

-- ---- where a run ends
module _ (bs : List ℕ) (most : ℕ) (r : Ran Record) where
  pub full : most ≤ r.used / 10 → onwards bs most r ≡ r
  unfolding onwards run_of
  full h = let z : most - r.used / 10 ≡ 0 = omega arith in rw z (behind_none r)

  one_refused : (b : Bool) → takes r.rec (drop r.used bs) ≡ b → (run_of 1 r.rec (drop r.used bs)).used ≡ 0 → b ≡ false
  one_refused true e h = let g = rw (run_on r.rec (drop r.used bs) e 0) at h in absurd (omega arith)
  one_refused false e h = refl

  pub refused : (run_of 1 r.rec (drop r.used bs)).used ≡ 0 → onwards bs most r ≡ r
  unfolding onwards
  refused h =
      let e = one_refused (takes r.rec (drop r.used bs)) refl h in
      ap (behind r.used r.commands r.refreshes) (run_stops r.rec (drop r.used bs) e (most - r.used / 10)) ∙ behind_none r

-- ---- where it begins
pub unsound : (rec : Record) (bs : List ℕ) (most : ℕ) → lent_good (lent_of rec) ≡ false → ran rec 0 0 0 ≡ run_of most rec bs
unfolding takes
unsound rec bs most bad = sym (run_stops rec bs (go (is_some (front_of bs))) most)
  where
    go : (b : Bool) → (b && is_none (step_refusal (lent_of rec) (entry_at bs))) ≡ false
    go true = unfold step_refusal first_of or_else unless is_none in rw bad
    go false = refl

pub ready_of : (rec : Record) (d : Delays) → Prepared rec d → rec.card.paired ≡ false → Ready (single_of rec) d
unfolding single_of lent_of pace_of
ready_of rec d p n = record { single = n; sound = sym (good rec.second (single_of rec) n) ∙ p.good; clocks = p.clocks }

module _ (s : Single) (bs : List ℕ) (most : ℕ) where
  pub begins : (x : Share) → onwards bs most (ran_with x (ran s 0 0 0)) ≡ run_of most (whole x s) bs
  unfolding onwards ran_with
  begins x = let z : most - 0 ≡ most = omega arith in rw z (from_start (run_of most (whole x s) bs))

  pub begins_so_far : (d : Delays) → Ready s d → SoFar d bs most (ran s 0 0 0)
  begins_so_far d r = record {
    sound = r;
    entries = 0;
    used = refl;
    few = omega arith;
    within = omega arith;
    commands = omega arith;
    refreshes = omega arith;
  }
