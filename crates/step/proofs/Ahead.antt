-- What the quick run takes is a part of the run, whatever the share that is not looked at holds.
use Prim.Native.Nat.{ℕ, zero, suc}
use mathlib.Core.Path.{◌≡◌, refl, sym, ◌∙◌, subst}
use mathlib.Core.Bool.{Bool, true, false, cond}
use mathlib.Core.List.{List}
use mathlib.Core.Option.{none}
use lib.ListN.{drop}
use Rattle.std.specs.Prelude.{Option, Some, None, is_some, unwrap_or}
use Rattle.rules.specs.Commands.{NOP, is}
use Rattle.rules.specs.Entries.{entry, recorded_as}
use Rattle.card.specs.declared.Delays.{Delays}
use Rattle.pins.specs.declared.Front.{Front}
use Rattle.pins.specs.Fronts.{front_as, front_of}
use Rattle.bank.specs.declared.Share.{Share}
use Rattle.bank.specs.declared.Record.{Record}
use Rattle.bank.proofs.Sizes.{ShareWhole}
use Rattle.step.specs.declared.single.Single.{Single}
use Rattle.step.specs.declared.Ran.{Ran}
use Rattle.step.specs.Values.{record_with}
use Rattle.step.specs.Runs.{front_at, entry_at, takes, commands_by, refreshes_by, behind, ran}
use Rattle.step.specs.Single.{whole, ran_with, read_by, refusal_by, single_with, Ready}
use Rattle.step.specs.Quick.{goes_on, quick_of}
use Rattle.step.proofs.Paced.{single_pace}
use Rattle.step.proofs.Kept.{Good, good_with}
use Rattle.step.proofs.Onward.{takes_if, Part, part_none, part_on}
use Rattle.step.proofs.Alone.{commands_by_lem, refreshes_by_lem, good, refusals, record_with_lem}
use Rattle.step.proofs.Standing.{not_so}
use Rattle.step.proofs.Cleared.{Clears, ready_taken}

-- ---- sound behind an entry that is taken
module _ (d : Delays) (s : Single) (ready : Ready s d) (arrays : ShareWhole s.share) where
  -- with any share that has its lengths
  pub good_whole : Good (whole s.share s)
  good_whole = record { passed = good s.share s ready.single ∙ ready.sound; arrays = record { first = arrays; second = arrays } }

  -- pins leave the pace
  sound_next : (t p : ℕ) → refusal_by s (entry t p) ≡ none → Ready (single_with s (entry t p)) d × ShareWhole (single_with s (entry t p)).share
  unfolding single_with
  sound_next t p n =
      let e = entry t p in
      let x = s.share in
      let there : Good (whole x (single_with s e)) =
      subst Good (record_with_lem x s ready.single e) (good_with (whole x s) e good_whole (refusals x s ready.single e ∙ n)) in (
        record { single = ready.single; sound = sym (good x (single_with s e) ready.single) ∙ there.passed; clocks = rw (single_pace s t p) ready.clocks },
        there.arrays.first,
      )

-- ---- the quick run
-- an entry that it takes is taken, and is no counted refresh
module _ (d : Delays) (s : Single) (bs : List ℕ) (ready : Ready s d) (e : goes_on d s (front_of bs) ≡ true) where
  cleared : Clears d s (front_at bs).stamp (front_at bs).pins
  unfolding goes_on
  cleared = go (front_of bs) e
    where
      go : (o : Option Front) → goes_on d s o ≡ true → (let f = unwrap_or o (front_as 0 0) in Clears d s f.stamp f.pins)
      go None h = not_so h
      go (Some f) h = ready_taken d s f.stamp f.pins ready h

  is_there : is_some (front_of bs) ≡ true
  unfolding goes_on
  is_there = go (front_of bs) e
    where
      go : (o : Option Front) → goes_on d s o ≡ true → is_some o ≡ true
      go None h = not_so h
      go (Some f) h = refl

  module _ (x : Share) where
    quick_takes : takes (whole x s) bs ≡ true
    quick_takes = takes_if (whole x s) bs is_there (refusals x s ready.single (entry_at bs) ∙ cleared.taken)

    quick_uncounted : refreshes_by (whole x s) (entry_at bs) ≡ 0
    quick_uncounted = refreshes_by_lem x s ready.single (entry_at bs) ∙ rw cleared.uncounted

    -- what it adds is what the run adds
    quick_adds : (g : Ran Single) → behind 10 (commands_by (whole x s) (entry_at bs)) (refreshes_by (whole x s) (entry_at bs)) (ran_with x g)
        ≡ ran_with x (behind 10 (cond (is NOP (recorded_as (read_by s (entry_at bs)))) 0 1) 0 g)
    unfolding ran_with
    quick_adds g = λ i. behind 10 (commands_by_lem x s ready.single (entry_at bs) i) (quick_uncounted i) (ran_with x g)

module _ (n : ℕ) (d : Delays) (s : Single) (bs : List ℕ) where
  abbrev then : Ran Single
  then = quick_of n d (single_with s (entry_at bs)) (drop 10 bs)

  quick_on : goes_on d s (front_of bs) ≡ true → quick_of (suc n) d s bs ≡ behind 10 (cond (is NOP (recorded_as (read_by s (entry_at bs)))) 0 1) 0 then
  unfolding quick_of
  quick_on e = rw e

  quick_off : goes_on d s (front_of bs) ≡ false → quick_of (suc n) d s bs ≡ ran s 0 0 0
  unfolding quick_of
  quick_off e = rw e

abbrev PartBy : ℕ → Single → List ℕ → Share → Ran Single → Type 0
PartBy n s bs x g = Part n (whole x s) bs (ran_with x g)

abbrev PartFor : ℕ → Delays → Single → List ℕ → Type 0
PartFor n d s bs = Ready s d → ShareWhole s.share → (x : Share) → PartBy n s bs x (quick_of n d s bs)

quick_none : (d : Delays) (s : Single) (bs : List ℕ) → PartFor 0 d s bs
unfolding quick_of ran_with
quick_none d s bs ready arrays x = part_none 0 (whole x s) bs

quick_more : (n : ℕ) (d : Delays) (s : Single) (bs : List ℕ) → PartFor n d (single_with s (entry_at bs)) (drop 10 bs) → PartFor (suc n) d s bs
unfolding ran_with
quick_more n d s bs ih ready arrays x = go (goes_on d s (front_of bs)) refl
  where
    go : (b : Bool) → goes_on d s (front_of bs) ≡ b → PartBy (suc n) s bs x (quick_of (suc n) d s bs)
    go false e = subst (PartBy (suc n) s bs x) (sym (quick_off n d s bs e)) (unfold ran_with in part_none (suc n) (whole x s) bs)
    go true e =
        let next = sound_next d s ready arrays _ _ (cleared d s bs ready e).taken in
        let g = then n d s bs in
        let rest : Part n (record_with (whole x s) (entry_at bs)) (drop 10 bs) (ran_with x g) =
        subst (λ (r : Record). Part n r (drop 10 bs) (ran_with x g)) (sym (record_with_lem x s ready.single (entry_at bs))) (ih next.0 next.1 x) in
        subst (PartBy (suc n) s bs x) (sym (quick_on n d s bs e))
        (subst (Part (suc n) (whole x s) bs) (quick_adds d s bs ready e x g) (part_on n (whole x s) bs (quick_takes d s bs ready e x) (ran_with x g) rest))

pub quick_part : (n : ℕ) (d : Delays) (s : Single) (bs : List ℕ) → PartFor n d s bs
quick_part zero d s bs = quick_none d s bs
quick_part (suc n) d s bs = quick_more n d s bs (quick_part n d (single_with s (entry_at bs)) (drop 10 bs))
