-- An entry of a quick run: it stops there, or goes on from the record after it.
use Prim.Native.Nat.{ℕ, zero, suc, ◌+◌, ◌-◌, ◌*◌, ◌/◌, ◌≤◌, ◌<◌, min}
use mathlib.Core.Path.{◌≡◌, refl, ap, sym, ◌∙◌}
use mathlib.Core.Bool.{Bool, true, false, cond, ◌&&◌}
use mathlib.Core.List.{List}
use native.Mathlib.Nat.{le_trans, le_of_lt}
use native.Mathlib.Omega.{arith}
use lib.Dec.{ltb}
use lib.ListN.{length, get_or, take, drop, length-take, length-drop}
use lib.Seq.{drop-drop}
use borrow.Author.Tests.{le-leb, ltb-true, eq-eqb}
use Rattle.std.specs.Prelude.{Some, None}
use Rattle.rules.specs.Commands.{NOP, is}
use Rattle.rules.specs.Pins.{decode}
use Rattle.rules.specs.Levels.{awake, depth, same_level}
use Rattle.rules.specs.Entries.{Entry, entry, recorded_as}
use Rattle.rules.specs.Lent.{number_of, counted_to, ledger_to}
use Rattle.rules.proofs.Tests.{both_true}
use Rattle.card.specs.declared.Delays.{Delays}
use Rattle.pins.specs.Values.{level_of}
use Rattle.pins.specs.Places.{bank_on, ap_on}
use Rattle.pins.specs.declared.Front.{Front}
use Rattle.pins.specs.Fronts.{front_of}
use Rattle.pins.proofs.Fronts.{entry_room, front_take}
use Rattle.ledger.specs.Values.{ledger_of, level_in, code_of, deadline_of}
use Rattle.ledger.proofs.Deadlines.{same_deadline}
use Rattle.step.specs.declared.single.Single.{Single}
use Rattle.step.specs.Single.{read_by, single_with}
use Rattle.step.specs.Runs.{ran, behind}
use Rattle.step.specs.declared.waits.Waits.{Waits}
use Rattle.step.specs.declared.kinds.Hot.{Hot}
use Rattle.step.specs.declared.kinds.Hot.TheVariants.{Nop, Act, Rd, Wr, Pre, Cold}
use Rattle.step.specs.Ready.{lane_of, waits_of, hot_of, ready_by, stands_of, ready_of}
use Rattle.step.specs.declared.quick.Quick.{Quick}
use Rattle.step.specs.Quick.{nops_by, taken_by, goes_on, quick_of, hot_count, now_of, EndArgs}
use Rattle.step.proofs.Farther.{behind_twice, behind_none}
use Rattle.step.proofs.Standing.{not_so, Stands, stands_so}
use Rattle.step.proofs.Places.{refpb_kept, taken_so}
use Rattle.step.proofs.Begun.{Going}

-- an entry is a NOP, or a command that is counted
nops_counted : (h : Hot) → nops_by h + hot_count h ≡ 1
unfolding hot_count
nops_counted Nop = refl
nops_counted Act = refl
nops_counted Rd = refl
nops_counted Wr = refl
nops_counted Pre = refl
nops_counted Cold = refl

-- what the code finds of the entry here
pub record Saw (d : Delays) (rec : Single) (v : List ℕ) (most : ℕ) (q : Quick) (size : ℕ)
    (f : Front) (hot : Hot) (b : ℕ) (w : Waits) (end : ℕ) (clear ok : Bool) : Type 0 where
  pub going : Going d rec v most q
  pub cut : size ≡ min (10 * most) (length v)
  pub front : front_of (drop q.used (take size v)) ≡ Some f
  pub kind : hot ≡ hot_of (decode f.pins)
  pub bank : b ≡ bank_on f.pins
  pub waits : w ≡ waits_of d rec
  pub deadline : end ≡ deadline_of rec.card rec.pace rec.share.ledger
  pub ready : clear ≡ ready_by hot (lane_of (now_of rec q.banks q.bus q.four q.last) b) w d q.bus q.banks.act.at (get_or q.four.at 3 0) f.stamp
  pub passes : ok ≡ ((ltb q.last f.stamp && ltb f.stamp end) && clear)

-- it stops where the entry here does not go on
module _ {d : Delays} {rec : Single} {v : List ℕ} {most : ℕ} {q : Quick} (g : Going d rec v most q)
    (size : ℕ) (cut : size ≡ min (10 * most) (length v)) where
  same_front : (n : ℕ) → most - q.used / 10 ≡ suc n → front_of (drop q.used (take size v)) ≡ front_of (drop q.used v)
  same_front n e = front_take v size q.used (λ h. omega (arith, g.whole, cut))

  stops : goes_on d (now_of rec q.banks q.bus q.four q.last) (front_of (drop q.used (take size v))) ≡ false → ran (now_of rec q.banks q.bus q.four q.last) q.used (q.used / 10 - q.nops) 0 ≡ quick_of most d rec v
  unfolding quick_of
  stops n = sym (g.same ∙ ap (behind q.used (q.used / 10 - q.nops) 0) (go (most - q.used / 10) refl) ∙ behind_none (ran (now_of rec q.banks q.bus q.four q.last) q.used (q.used / 10 - q.nops) 0))
    where
      go : (k : ℕ) → most - q.used / 10 ≡ k → quick_of k d (now_of rec q.banks q.bus q.four q.last) (drop q.used v) ≡ ran (now_of rec q.banks q.bus q.four q.last) 0 0 0
      go zero e = refl
      go (suc k) e = rw (← same_front k e, n)

  pub ended_so : front_of (drop q.used (take size v)) ≡ None → ran (now_of rec q.banks q.bus q.four q.last) q.used (q.used / 10 - q.nops) 0 ≡ quick_of most d rec v
  unfolding goes_on
  ended_so n = stops (rw n)

module _ {d : Delays} {rec : Single} {v : List ℕ} {most : ℕ} {q : Quick} {size : ℕ}
    {f : Front} {hot : Hot} {b : ℕ} {w : Waits} {end : ℕ} {clear ok : Bool}
    (s : Saw d rec v most q size f hot b w end clear ok) where
  abbrev now : Single
  now = now_of rec q.banks q.bus q.four q.last

  -- what an entry adds to the commands
  abbrev counts : Entry → ℕ
  counts e = cond (is NOP (recorded_as (read_by now e))) 0 1

  abbrev g : Going d rec v most q
  g = s.going

  stands : Stands rec
  stands = stands_so rec g.stood

  stands_now : stands_of now ≡ true
  unfolding stands_of code_of ledger_to
  stands_now =
      let before = ledger_of rec.share.ledger in
      let wakes : before.level ≡ awake = unfold ledger_of in stands.wakes in
      rw (eq-eqb q.last q.last refl, le-leb (q.last - (number_of before + counted_to before q.last)) q.last (omega arith), wakes) (unfold level_in level_of same_level depth in refl)

  same_end : deadline_of rec.card rec.pace now.share.ledger ≡ deadline_of rec.card rec.pace rec.share.ledger
  same_end = same_deadline rec.card rec.pace rec.share.ledger q.last g.ends.later g.ends.early

  goes : goes_on d now (Some f) ≡ ok
  unfolding goes_on ready_of
  goes =
      let c : clear ≡ ready_by (hot_of (decode f.pins)) (lane_of now (bank_on f.pins)) (waits_of d now) d q.bus q.banks.act.at (get_or q.four.at 3 0) f.stamp =
      s.ready ∙ rw (s.kind, s.bank, s.waits, g.kept) in
      rw (stands_now, same_end, s.passes, s.deadline, c)

  abbrev left : ℕ
  left = most - q.used / 10

  from_here : (n : ℕ) → left ≡ suc n → quick_of (suc n) d now (drop q.used v) ≡
      cond ok (behind 10 (counts (entry f.stamp f.pins)) 0 (quick_of n d (single_with now (entry f.stamp f.pins)) (drop 10 (drop q.used v)))) (ran now 0 0 0)
  unfolding quick_of
  from_here n e = rw (← same_front g size s.cut n e, s.front, goes)

  -- all of them but NOP
  abbrev commands : ℕ
  commands = q.used / 10 - q.nops

  pub stopped : ok ≡ false → ran now q.used commands 0 ≡ quick_of most d rec v
  stopped n = stops g size s.cut (rw s.front (goes ∙ n))

  module _ (yes : ok ≡ true) where
    parts : (ltb q.last f.stamp ≡ true) × (ltb f.stamp end ≡ true) × (clear ≡ true)
    parts =
        let a = both_true _ _ (sym s.passes ∙ yes) in
        let c = both_true _ _ a.0 in
        (c.0, c.1, a.1)

    pub room : q.used + 10 ≤ min (10 * most) (length v)
    room =
        let r = entry_room (drop q.used (take size v)) f s.front in
        omega (arith, rw (length-drop, length-take) at r, s.cut)

    above : q.last < f.stamp
    above = ltb-true _ _ parts.0

    pub ends_there : EndArgs rec f.stamp
    ends_there = record { later = le_trans g.ends.later (le_of_lt above); early = rw (← s.deadline) (ltb-true _ _ parts.1) }

    not_cold : hot_of (decode f.pins) ≡ Cold → ⊥
    unfolding ready_by
    not_cold e = not_so (sym (rw (s.kind, e) at s).ready ∙ parts.2)

    pub went : Going d rec v most (taken_by hot f rec.share.modes q)
    went =
        let t = f.stamp in
        let e = entry t f.pins in
        let then = taken_by hot f rec.share.modes q in
        let taken = taken_so rec q.banks q.bus q.four q.last t f.pins stands g.ends (le_of_lt above) not_cold in
        let r : now_of rec then.banks then.bus then.four t ≡ single_with now e = rw s.kind (sym taken.0) in
        let c : hot_count hot ≡ counts e = rw s.kind (sym taken.1) in
        let more_commands : q.used / 10 - q.nops + hot_count hot ≡ (q.used + 10) / 10 - then.nops = omega (arith, g.few, nops_counted hot) in
        let n : left ≡ suc (most - (q.used + 10) / 10) = omega (arith, g.whole, room) in
        let x = quick_of (most - (q.used + 10) / 10) d (now_of rec then.banks then.bus then.four t) (drop (q.used + 10) v) in
        let y : quick_of left d now (drop q.used v) ≡ behind 10 (hot_count hot) 0 x =
        ap (λ (k : ℕ). quick_of k d now (drop q.used v)) n ∙ from_here _ n ∙ rw (yes, ← r, ← c, drop-drop 10 q.used v) in
        record {
          same = g.same ∙ ap (behind q.used commands 0) y ∙ behind_twice q.used commands 0 10 (hot_count hot) 0 x ∙ ap (λ (m : ℕ). behind (q.used + 10) m 0 x) more_commands;
          kept = refpb_kept hot (bank_on f.pins) (ap_on f.pins) t rec.share.modes q.banks ∙ g.kept;
          stood = g.stood;
          ends = ends_there;
          whole = omega (arith, g.whole);
          within = room;
          few = omega (arith, g.few, nops_counted hot);
        }
