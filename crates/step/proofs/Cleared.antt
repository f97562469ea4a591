-- An entry that the quick test clears is taken by the step, at every record that 13 lets pass.
use Prim.Native.Nat.{ℕ, ◌<◌}
use mathlib.Core.Path.{◌≡◌, refl}
use mathlib.Core.Bool.{Bool, true, false, ◌&&◌}
use mathlib.Core.List.{[], ◌∷◌}
use mathlib.Core.Option.{Option, none}
use native.Mathlib.Omega.{arith}
use lib.Dec.{leb}
use lib.ListN.{get_or}
use borrow.Author.Tests.{le-leb, lt-ltb, leb-true, ltb-true}
use Rattle.rules.specs.Commands as rules
use Rattle.rules.specs.Commands.{MRW, code, bare, carries, kind_of, bank_of, is}
use Rattle.rules.specs.Past.{bank_at, is_counted}
use Rattle.rules.specs.States.{goes, state_good}
use Rattle.rules.specs.Pins.{Decoded, good, wrong_bits, reserved, decode}
use Rattle.rules.specs.Levels.{level_after, plain}
use Rattle.rules.specs.Account.{Beat}
use Rattle.rules.specs.Folds.{or_else, first_of}
use Rattle.rules.specs.Entries.{entry, command_of, recorded_as, move_of, mr4_of, judged_as}
use Rattle.rules.specs.Checks.{unless, named, is_wrong, is_clash, is_reserved, is_barred, code_good, value_good, checks}
use Rattle.rules.specs.Lent.{is_there, above_last, effect_of, ledger_to, refreshed_at, sensed_at, at_level, entered, failing_to, failing_of}
use Rattle.rules.proofs.Tests.{both_true}
use Rattle.rules.proofs.Waking.{awake_reads}
use Rattle.card.specs.Values.{card_of}
use Rattle.card.specs.declared.Delays.{Delays}
use Rattle.pins.specs.Places.{bank_on}
use Rattle.ledger.specs.Values.{ledger_of, deadline_of}
use Rattle.ledger.proofs.Deadlines.{none_here}
use Rattle.bank.specs.Values.{last_of, share_of}
use Rattle.step.specs.declared.single.Single.{Single}
use Rattle.step.specs.Single.{read_alone, read_by, effect_by, dues_by, ledger_by, view_by, refusal_by, Ready}
use Rattle.step.specs.Ready.{waits_of, lane_of, hot_of, ready_by, stands_of, ready_of}
use Rattle.step.proofs.Levels.{Names, named_so}
use Rattle.step.proofs.Standing.{not_so, Stands, stands_so}
use Rattle.step.proofs.Within.{quiet}
use Rattle.step.proofs.Quiet.{look, Quiet, nop_quiet, rd_quiet, wr_quiet, pre_quiet, act_quiet}

-- no check fails
all_pass : (a b c d e f g h i : Bool) (x y z : Option (ℕ × ℕ)) → a ≡ true → b ≡ true → x ≡ none → c ≡ true → d ≡ true → e ≡ true → f ≡ true → g ≡ true → h ≡ true → i ≡ true → y ≡ none → z ≡ none
    → first_of (unless a 13 ∷ unless b 5 ∷ named 11 x ∷ unless c 6 ∷ unless d 24 ∷ unless e 7 ∷ unless f 8 ∷ unless g 16 ∷ unless h 9 ∷ unless i 26 ∷ named 10 y ∷ named 11 z ∷ []) ≡ none
unfolding first_of or_else unless named
all_pass a b c d e f g h i x y z pa pb px pc pd pe pf pg ph pi py pz = rw (pa, pb, px, pc, pd, pe, pf, pg, ph, pi, py, pz)

module _ (d : Delays) (rec : Single) (t p : ℕ) where
  -- the stamp is above the last entry's, and before the deadline
  pub record Timely : Type 0 where
    pub above : rec.last.at < t
    pub early : t < deadline_of rec.card rec.pace rec.share.ledger

  abbrev clear : Decoded → Bool
  clear x = ready_by (hot_of x) (lane_of rec (bank_on p)) (waits_of d rec) d rec.share.bus rec.share.banks.act.at (get_or rec.share.four.at 3 0) t

  pub ready_parts : ready_of d rec t p ≡ true → (stands_of rec ≡ true) × Timely × (clear (decode p) ≡ true)
  unfolding ready_of
  ready_parts h =
      let a = both_true _ _ h in
      let b = both_true _ _ a.0 in
      let w = both_true _ _ b.1 in
      (b.0, record { above = ltb-true _ _ w.0; early = ltb-true _ _ w.1 }, a.1)

  -- the entry is taken, and is no counted refresh
  pub record Clears : Type 0 where
    pub taken : refusal_by rec (entry t p) ≡ none
    pub uncounted : (effect_by rec (entry t p)).counted ≡ false

  module _ (s : Ready rec d) (stands : Stands rec) (timely : Timely) where
    later : rec.share.ledger.at < t
    later = omega (arith, stands.there, timely.above)

    abbrev beat : Beat
    beat = dues_by rec

    account : (failing_to beat (ledger_of rec.share.ledger) t ≡ none) × (failing_of beat (ledger_to beat (ledger_of rec.share.ledger) t) ≡ none)
    account = none_here rec.card rec.pace rec.share.ledger t (omega (arith, later)) timely.early later

    rises : (above_last (last_of rec.last) t && leb (ledger_of rec.share.ledger).at t) ≡ true
    unfolding above_last last_of ledger_of
    rises = rw (stands.seen, lt-ltb rec.last.at t timely.above, le-leb rec.share.ledger.at t (omega (arith, later)))

    clears : (c : rules.Command) → decode p ≡ good c → is_counted c rec.share.counter ≡ false
        → state_good (λ b. get_or rec.share.banks.opened b false) rec.share.counter c ≡ true → is MRW c ≡ false → Quiet d rec 0 t c → Clears
    unfolding refusal_by checks is_wrong is_clash is_reserved is_barred code_good command_of recorded_as judged_as move_of mr4_of is_there refreshed_at sensed_at effect_by effect_of level_after at_level ledger_to entered ledger_by ledger_of view_by share_of
    clears c e uncounted state value q = record {
      taken =
          all_pass _ _ _ _ _ _ _ _ _ _ _ _ s.sound rises account.0
          (rw here) (rw here) (rw here) (rw here state) (rw here) (rw here good_value) (rw here) (rw (here, ← s.clocks) (quiet (look d rec 0 t) t _ q)) (rw (here, uncounted) account.1);
      uncounted = rw here uncounted;
    }
      where
        here : read_by rec (entry t p) ≡ plain (good c)
        here = unfold read_by read_alone in rw stands.wakes (awake_reads rec.card.sleeps p c e)

        good_value : value_good (card_of rec.card) c ≡ true
        good_value = unfold value_good in rw value

    go : (x : Decoded) → decode p ≡ x → Names p x → clear x ≡ true → Clears
    unfolding hot_of ready_by is_counted state_good goes is code kind_of carries bare bank_at bank_of Names
    go (good rules.nop) e n h = clears rules.nop e refl refl refl (nop_quiet d rec 0 t)
    go (good (rules.mrw ma op)) e n h = not_so h
    go (good (rules.mrr ma)) e n h = not_so h
    go (good rules.refpb) e n h = not_so h
    go (good rules.refab) e n h = not_so h
    go (good (rules.act b row)) e n h =
        let o = both_true _ _ (rw (← n) at h) in
        clears (rules.act b row) e refl o.0 refl (act_quiet d rec b t row (leb-true _ t o.1))
    go (good (rules.rd b k a)) e n h =
        let o = both_true _ _ (rw (← n.0) at h) in
        clears (rules.rd b k a) e refl o.0 refl (rd_quiet d rec b t k a (leb-true _ t o.1))
    go (good (rules.wr b k a)) e n h =
        let o = both_true _ _ (rw (← n.0) at h) in
        clears (rules.wr b k a) e refl o.0 refl (wr_quiet d rec b t k a (leb-true _ t o.1))
    go (good (rules.pre b)) e n h =
        clears (rules.pre b) e refl refl refl (pre_quiet d rec b t (leb-true _ t (rw (← n) at h)))
    go (good rules.prea) e n h = not_so h
    go wrong_bits e n h = not_so h
    go reserved e n h = not_so h

  pub ready_taken : Ready rec d → ready_of d rec t p ≡ true → Clears
  ready_taken s h =
      let r = ready_parts h in
      go s (stands_so rec r.0) r.1 (decode p) refl (named_so p _ refl) r.2
