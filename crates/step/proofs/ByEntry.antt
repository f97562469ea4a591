-- A run over any sound record, one entry after the other by the table.
use Prim.Native.Nat.{ℕ, suc, ◌+◌, ◌-◌, ◌≤◌, ◌<◌, ◌^◌}
use mathlib.Core.Path.{◌≡◌, refl, ap, sym, ◌∙◌, subst}
use mathlib.Core.Bool.{Bool, true, false}
use mathlib.Core.List.{List}
use mathlib.Core.Option.{none}
use native.Mathlib.Omega.{arith}
use lib.ListN.{length, drop, length-drop}
use lib.Seq.{drop-drop}
use Rattle.std.specs.Prelude.{Result, Ok, Err, Some, None, is_some}
use Rattle.rules.specs.Heat.{delays_at}
use Rattle.rules.specs.Entries.{Entry, entry, whose_of}
use Rattle.rules.specs.Lent.{read_in, command_in, move_in, step_refusal, lent_after}
use Rattle.rules.proofs.Sound.{good_kept}
use Rattle.card.specs.Values.{clocks_of}
use Rattle.card.specs.declared.Delays.{Delays}
use Rattle.pins.specs.declared.Front.{Front}
use Rattle.pins.specs.Fronts.{front_of}
use Rattle.ledger.specs.declared.Pace.{Pace}
use Rattle.ledger.specs.Values.{is_none}
use Rattle.bank.specs.declared.Ledgers.{Ledgers}
use Rattle.bank.specs.declared.Record.{Record}
use Rattle.bank.specs.Values.{lent_of}
use Rattle.bank.specs.After.{record_after, Changed}
use Rattle.step.specs.declared.Ran.{Ran}
use Rattle.step.specs.declared.Refusal.{Refusal}
use Rattle.step.specs.Values.{refusal_of, record_with}
use Rattle.step.specs.Runs.{entry_at, takes, commands_by, refreshes_by, ran, behind, run_of}
use Rattle.step.specs.Parts.{Prepared, Ruled, OneOn, Fitting}
use Rattle.step.proofs.Answers.{err_some}
use Rattle.step.proofs.Paced.{pins_pace}
use Rattle.step.proofs.Leaves.{ChangedBy, ruled_told, ruled_none, ruled_record, ruled_lent}
use Rattle.step.proofs.Farther.{behind_twice, from_start, behind_none}
use Rattle.step.proofs.Onward.{takes_if, run_on, run_stops, Counted, run_counted, run_then}

-- ---- one entry
module _ (d : Delays) (rec : Record) (bs : List ℕ) (s : Prepared rec d) where
  none_here : takes rec bs ≡ false → OneOn rec d bs None
  none_here e = record { is = sym (run_stops rec bs e 1); sound = s; ten = λ r h. absurd cc }

  pub none_there : front_of bs ≡ None → OneOn rec d bs None
  unfolding takes
  none_there e = none_here (rw e)

  module _ (f : Front) (front : front_of bs ≡ Some f) (y : Result Ledgers Refusal)
      (ruled : Ruled (delays_at (lent_of rec).card (lent_of rec).pace.mr4) (lent_of rec) (whose_of (lent_of rec).card (entry f.stamp f.pins)) (read_in (lent_of rec) (entry f.stamp f.pins)) f.stamp y) where
    abbrev e : Entry
    e = entry f.stamp f.pins

    told : refusal_of y ≡ step_refusal (lent_of rec) e
    told = ruled_told rec e s.good y ruled

    pub refused_there : (x : Refusal) → y ≡ Err x → OneOn rec d bs None
    unfolding takes is_none
    refused_there x h = none_here (rw (front, sym told ∙ err_some y x h))

    -- an entry that is taken leaves a record that 13 lets pass, of the same card and pace
    module _ (g : Ledgers) (h : y ≡ Ok g) (z : Record) (changed : Changed rec f.stamp (whose_of (lent_of rec).card e) (command_in (lent_of rec) e) (move_in (lent_of rec) e) g rec.pace z) where
      changed_so : ChangedBy rec e g z
      changed_so =
          let l = lent_of rec in
          subst (λ (k : Pace). Changed rec e.stamp (whose_of l.card e) (command_in l e) (move_in l e) g k z) (sym (pins_pace rec _ _)) changed

      passes : step_refusal (lent_of rec) e ≡ none
      passes = ruled_none rec e s.good y ruled g h

      after_it : lent_of z ≡ lent_after (lent_of rec) e
      after_it = ruled_lent rec e s.good y ruled g h z changed_so

      same_clocks : clocks_of d ≡ delays_at (lent_of z).card (lent_of z).pace.mr4
      unfolding record_after lent_of
      same_clocks = rw changed.is s.clocks

      sound_then : Prepared z d
      sound_then = record { good = rw after_it (good_kept (lent_of rec) e passes); clocks = same_clocks }

      pub taken_there : (m k : ℕ) → m ≡ commands_by rec e → k ≡ refreshes_by rec e → OneOn rec d bs (Some (ran z 10 m k))
      unfolding run_of
      taken_there m k me ke =
          let there = ruled_record rec e s.good y ruled g h z changed_so.is in
          let is_front : is_some (front_of bs) ≡ true = rw front in
          let same : entry_at bs ≡ e = rw front in
          let on = run_on rec bs (takes_if rec bs is_front (rw same passes)) 0 in
          record {
            is =
                (λ i. ran (there i) 10 (me i) (ke i))
                ∙ (λ i. ran (record_with rec (sym same i)) 10 (commands_by rec (sym same i)) (refreshes_by rec (sym same i)))
                ∙ sym (behind_none (ran (record_with rec (entry_at bs)) 10 (commands_by rec (entry_at bs)) (refreshes_by rec (entry_at bs)))) ∙ sym on;
            sound = sound_then;
            ten = λ r q. let t : r ≡ ran z 10 m k = cc in rw t;
          }

-- ---- from an entry to the next
-- so much of the run was run, and so many entries may follow
pub record Along (d : Delays) (bs : List ℕ) (all : Ran Record) (left : ℕ) (p : Ran Record) : Type 0 where
  pub sound : Prepared p.rec d
  pub within : p.used ≤ length bs
  pub commands : p.commands ≤ p.used
  pub refreshes : p.refreshes ≤ p.used
  pub same : behind p.used p.commands p.refreshes (run_of left p.rec (drop p.used bs)) ≡ all

pub along_start : (d : Delays) (rec : Record) (bs : List ℕ) (most : ℕ) → Prepared rec d → Along d bs (run_of most rec bs) most (ran rec 0 0 0)
along_start d rec bs most s = record { sound = s; within = omega arith; commands = omega arith; refreshes = omega arith; same = from_start (run_of most rec bs) }

pub along_done : (d : Delays) (bs : List ℕ) (all : Ran Record) (left : ℕ) (p : Ran Record) → Along d bs all left p → left ≡ 0 → p ≡ all
unfolding run_of
along_done d bs all left p so e = sym (behind_none p) ∙ (rw e at so.same)

-- where no entry is taken there is no run
run_ends : (rec : Record) (bs : List ℕ) → (run_of 1 rec bs).used ≡ 0 → (n : ℕ) → run_of n rec bs ≡ ran rec 0 0 0
run_ends rec bs e n = go (takes rec bs) refl
  where
    go : (b : Bool) → takes rec bs ≡ b → run_of n rec bs ≡ ran rec 0 0 0
    go false h = run_stops rec bs h n
    go true h = let z = ap (λ (r : Ran Record). r.used) (run_on rec bs h 0) in absurd (omega (arith, z, e))

module _ (d : Delays) (bs : List ℕ) (all : Ran Record) (left : ℕ) (p : Ran Record) (so : Along d bs all left p) where
  pub along_ends : OneOn p.rec d (drop p.used bs) None → p ≡ all
  along_ends one =
      let rest = drop p.used bs in
      sym (behind_none p) ∙ ap (behind p.used p.commands p.refreshes) (sym (run_ends p.rec rest (rw (← one.is) refl) left)) ∙ so.same

  -- it was one entry
  module _ (o : Ran Record) (one : OneOn p.rec d (drop p.used bs) (Some o)) where
    counted : Counted (drop p.used bs) o
    counted = rw one.is (run_counted 1 p.rec (drop p.used bs))

    within_rest : o.used ≤ length bs - p.used
    within_rest = rw length-drop at counted.within

    pub along_fits : length bs < 2 ^ 64 → Fitting p o
    along_fits small = record {
      used = omega (arith, within_rest, so.within, small);
      commands = omega (arith, within_rest, so.within, so.commands, counted.commands, small);
      refreshes = omega (arith, within_rest, so.within, so.refreshes, counted.refreshes, small);
    }

    module _ (k : ℕ) (l : left ≡ suc k) where
      then : run_of left p.rec (drop p.used bs) ≡ behind o.used o.commands o.refreshes (run_of k o.rec (drop o.used (drop p.used bs)))
      then =
          let ten : (run_of 1 p.rec (drop p.used bs)).used ≡ 10 = rw (← one.is) (one.ten o refl) in
          rw one.is (run_then 1 p.rec (drop p.used bs) ten k left (omega arith))

      pub along_next : (n : Ran Record) → n ≡ behind p.used p.commands p.refreshes o → Along d bs all k n
      along_next n is = rw is (record {
        sound = one.sound;
        within = omega (arith, within_rest, so.within);
        commands = omega (arith, so.commands, counted.commands);
        refreshes = omega (arith, so.refreshes, counted.refreshes);
        same =
            ap (λ (x : List ℕ). behind (p.used + o.used) (p.commands + o.commands) (p.refreshes + o.refreshes) (run_of k o.rec x)) (sym (drop-drop o.used p.used bs))
            ∙ sym (behind_twice p.used p.commands p.refreshes o.used o.commands o.refreshes (run_of k o.rec (drop o.used (drop p.used bs))))
            ∙ ap (behind p.used p.commands p.refreshes) (sym then)
            ∙ so.same;
      })
