-- A run over some bytes, entry by entry and part by part.
use Prim.Native.Nat.{ℕ, zero, suc, ◌+◌, ◌-◌, ◌*◌, ◌≤◌}
use mathlib.Core.Path.{◌≡◌, refl, ap, sym, ◌∙◌}
use mathlib.Core.Bool.{Bool, true, false, cond}
use mathlib.Core.List.{List}
use mathlib.Core.Option.{none}
use native.Mathlib.Omega.{arith}
use lib.ListN.{length, take, drop, length-drop}
use lib.Seq.{take_all, drop-drop}
use Rattle.std.specs.Prelude as rust
use Rattle.std.specs.Prelude.{Some, None, is_some, unwrap_or}
use Rattle.rules.specs.Commands.{NOP, is}
use Rattle.rules.specs.Lent.{command_in, effect_in, step_refusal}
use Rattle.rules.proofs.Tests.{both_true}
use Rattle.pins.specs.declared.Front.{Front}
use Rattle.pins.specs.Fronts.{front_as, front_of}
use Rattle.pins.proofs.Fronts.{entry_room}
use Rattle.ledger.specs.Values.{is_none}
use Rattle.bank.specs.declared.Record.{Record}
use Rattle.bank.specs.Values.{lent_of}
use Rattle.bank.specs.After.{record_after}
use Rattle.step.specs.declared.Ran.{Ran}
use Rattle.step.specs.Values.{record_with}
use Rattle.step.specs.Runs.{front_at, entry_at, takes, commands_by, refreshes_by, ran, behind, run_of}
use Rattle.step.proofs.Answers.{none_so}
use Rattle.step.proofs.Paced.{pins_pace}
use Rattle.step.proofs.Kept.{Good, good_with}
use Rattle.step.proofs.Farther.{behind_twice, from_start}

-- the bytes from a place on, as a part of a slice is read
pub rest_of : (bs : List ℕ) (at : ℕ) → take (length bs - at) (drop at bs) ≡ drop at bs
rest_of bs at = take_all (length bs - at) (drop at bs) (rw length-drop (omega arith))

-- ---- the first entry
pub front_there : (bs : List ℕ) → is_some (front_of bs) ≡ true → front_of bs ≡ Some (front_at bs)
front_there bs = go (front_of bs)
  where
    go : (o : rust.Option Front) → is_some o ≡ true → o ≡ Some (unwrap_or o (front_as 0 0))
    go (Some f) e = refl
    go None e = absurd cc

module _ (rec : Record) (bs : List ℕ) where
  pub taken_if : takes rec bs ≡ true → (is_some (front_of bs) ≡ true) × (step_refusal (lent_of rec) (entry_at bs) ≡ none)
  unfolding takes
  taken_if e = let p = both_true _ _ e in (p.0, none_so _ p.1)

  pub takes_if : is_some (front_of bs) ≡ true → step_refusal (lent_of rec) (entry_at bs) ≡ none → takes rec bs ≡ true
  unfolding takes is_none
  takes_if w n = rw (w, n)

  -- the run behind it
  abbrev pub follows : ℕ → Ran Record
  follows n = behind 10 (commands_by rec (entry_at bs)) (refreshes_by rec (entry_at bs)) (run_of n (record_with rec (entry_at bs)) (drop 10 bs))

  pub run_on : takes rec bs ≡ true → (n : ℕ) → run_of (suc n) rec bs ≡ follows n
  unfolding run_of
  run_on e n = rw e

  pub run_stops : takes rec bs ≡ false → (n : ℕ) → run_of n rec bs ≡ ran rec 0 0 0
  unfolding run_of
  run_stops e zero = refl
  run_stops e (suc n) = rw e

-- ---- what holds where nothing is taken, and from an entry to the next, holds of a run
module _ (P : ℕ → Record → List ℕ → Ran Record → Type 0)
    (stops : (n : ℕ) (rec : Record) (bs : List ℕ) → P n rec bs (ran rec 0 0 0))
    (goes : (n : ℕ) (rec : Record) (bs : List ℕ) → takes rec bs ≡ true → (r : Ran Record) → P n (record_with rec (entry_at bs)) (drop 10 bs) r →
    P (suc n) rec bs (behind 10 (commands_by rec (entry_at bs)) (refreshes_by rec (entry_at bs)) r)) where
  along : (n : ℕ) (rec : Record) (bs : List ℕ) → P n rec bs (run_of n rec bs)
  unfolding run_of
  along zero rec bs = stops zero rec bs
  along (suc n) rec bs = go (takes rec bs) refl (along n (record_with rec (entry_at bs)) (drop 10 bs))
    where
      go : (b : Bool) → takes rec bs ≡ b → P n (record_with rec (entry_at bs)) (drop 10 bs) (run_of n (record_with rec (entry_at bs)) (drop 10 bs)) → P (suc n) rec bs (run_of (suc n) rec bs)
      go true e p = rw (run_on rec bs e n) (goes n rec bs e _ p)
      go false e p = rw (run_stops rec bs e (suc n)) (stops (suc n) rec bs)

-- ---- its numbers
pub record Counted (bs : List ℕ) (r : Ran Record) : Type 0 where
  pub within : r.used ≤ length bs
  pub commands : r.commands ≤ r.used
  pub refreshes : r.refreshes ≤ r.used

commands_low : (rec : Record) (bs : List ℕ) → commands_by rec (entry_at bs) ≤ 1
unfolding commands_by
commands_low rec bs = go (is NOP (command_in (lent_of rec) (entry_at bs)))
  where
    go : (b : Bool) → cond b 0 1 ≤ 1
    go true = omega arith
    go false = omega arith

refreshes_low : (rec : Record) (bs : List ℕ) → refreshes_by rec (entry_at bs) ≤ 1
unfolding refreshes_by
refreshes_low rec bs = go (effect_in (lent_of rec) (entry_at bs)).counted
  where
    go : (b : Bool) → cond b 1 0 ≤ 1
    go true = omega arith
    go false = omega arith

pub run_counted : (n : ℕ) (rec : Record) (bs : List ℕ) → Counted bs (run_of n rec bs)
run_counted = along (λ n rec bs r. Counted bs r)
    (λ n rec bs. record { within = omega arith; commands = omega arith; refreshes = omega arith })
    (λ n rec bs e r p.
    let room = entry_room bs _ (front_there bs (taken_if rec bs e).0) in
    let rest : r.used ≤ length bs - 10 = rw length-drop at p.within in
    record {
      within = omega arith;
      commands = omega (arith, p.commands, commands_low rec bs);
      refreshes = omega (arith, p.refreshes, refreshes_low rec bs);
    })

-- ---- its record: sound again, of the same card and pace
pub record Alike (before then : Record) : Type 0 where
  pub good : Good then
  pub card : then.card ≡ before.card
  pub pace : then.pace ≡ before.pace

pub run_good : (n : ℕ) (rec : Record) (bs : List ℕ) → Good rec → Alike rec (run_of n rec bs).rec
unfolding record_with record_after
run_good = along (λ n rec bs r. Good rec → Alike rec r.rec)
    (λ n rec bs g. record { good = g; card = refl; pace = refl })
    (λ n rec bs e r p g.
    let k = p (good_with rec (entry_at bs) g (taken_if rec bs e).1) in
    record { good = k.good; card = k.card; pace = k.pace ∙ pins_pace rec _ _ })

-- ---- whole entries, at most so many, and none of them refused
pub record Part (most : ℕ) (rec : Record) (bs : List ℕ) (r : Ran Record) : Type 0 where
  pub count : ℕ
  pub few : count ≤ most
  pub used : r.used ≡ 10 * count
  pub is : r ≡ run_of count rec bs

pub part_none : (most : ℕ) (rec : Record) (bs : List ℕ) → Part most rec bs (ran rec 0 0 0)
part_none most rec bs = record { count = 0; few = omega arith; used = refl; is = unfold run_of in refl }

pub part_on : (most : ℕ) (rec : Record) (bs : List ℕ) → takes rec bs ≡ true → (r : Ran Record) → Part most (record_with rec (entry_at bs)) (drop 10 bs) r →
    Part (suc most) rec bs (behind 10 (commands_by rec (entry_at bs)) (refreshes_by rec (entry_at bs)) r)
part_on most rec bs e r p = record {
  count = suc p.count;
  few = omega (arith, p.few);
  used = omega (arith, p.used);
  is = ap (behind 10 (commands_by rec (entry_at bs)) (refreshes_by rec (entry_at bs))) p.is ∙ sym (run_on rec bs e p.count);
}

pub run_part : (n : ℕ) (rec : Record) (bs : List ℕ) → Part n rec bs (run_of n rec bs)
run_part = along Part part_none part_on

-- ---- a run goes on behind a part of it
-- behind these entries, none of which is refused
abbrev Goes_on : ℕ → Record → List ℕ → Ran Record → Type 0
Goes_on n rec bs r = r.used ≡ 10 * n → (k m : ℕ) → m ≡ n + k → run_of m rec bs ≡ behind r.used r.commands r.refreshes (run_of k r.rec (drop r.used bs))

pub run_then : (n : ℕ) (rec : Record) (bs : List ℕ) → Goes_on n rec bs (run_of n rec bs)
run_then = along Goes_on
    (λ n rec bs u k m e. let z : m ≡ k = omega arith in rw z (sym (from_start (run_of k rec bs))))
    (λ n rec bs e r p u k m f.
    let z : m ≡ suc (n + k) = omega arith in
    let entry = entry_at bs in
    ap (λ (x : ℕ). run_of x rec bs) z
    ∙ run_on rec bs e (n + k)
    ∙ ap (behind 10 (commands_by rec entry) (refreshes_by rec entry)) (p (omega arith) k (n + k) refl)
    ∙ behind_twice 10 (commands_by rec entry) (refreshes_by rec entry) r.used r.commands r.refreshes (run_of k r.rec (drop r.used (drop 10 bs)))
    ∙ ap (λ (x : List ℕ). behind (10 + r.used) (commands_by rec entry + r.commands) (refreshes_by rec entry + r.refreshes) (run_of k r.rec x)) (drop-drop r.used 10 bs))
