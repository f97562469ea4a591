-- Kind by kind, the delay rules that can speak hold where the quick test says so, and the others are silent.
use Prim.Native.Nat.{ℕ, ◌+◌, ◌≤◌}
use mathlib.Core.Bool.{Bool, false}
use mathlib.Core.List.{◌++◌}
use native.Mathlib.Omega.{arith}
use lib.ListN.{get_or}
use Rattle.rules.specs.Lists.{when, Every}
use Rattle.rules.specs.Commands as rules
use Rattle.rules.specs.Commands.{code, bare, carries, kind_of, bank_of, is, banks}
use Rattle.rules.specs.Past.{bank_at}
use Rattle.rules.specs.Levels.{stays, is_fall, is_rise, rises_from}
use Rattle.rules.specs.Folds.{permitted, permitted_by, bound}
use Rattle.rules.specs.Delays.{mine, turned, Lookup, look_both, across, last_refpb_to, last_act_to, means, latest_of, lagging_of, fourth_of, latest_if, latest_move, idle_use, precharged, without, from, lagging, recovering, unnoted, rule, delay_rules}
use Rattle.rules.specs.Lent.{look_in}
use Rattle.rules.proofs.Tests.{◌&◌}
use Rattle.card.specs.Values.{modes_of, clocks_of}
use Rattle.card.specs.declared.Delays.{Delays}
use Rattle.bank.specs.Values.{once, noted, each, no_modes, noted_each, pre_of, prea_of, asked, outweighed, share_of}
use Rattle.bounds.proofs.Spanned.{joined}
use Rattle.step.specs.declared.single.Single.{Single}
use Rattle.step.specs.Single.{view_by}
use Rattle.step.specs.Ready.{top_of, whole_of, waits_of, lane_of, rd_cycle, wr_cycle, pre_cycle, idle_cycle, act_cycle}
use Rattle.step.proofs.Within.{two, four_parts, silent, alone, both, none_within, kept_within, once_within, unless_within, fourth_within, others_within, about, eight_within, after_wr, after_two, after_turn}

module _ (d : Delays) (rec : Single) (b t : ℕ) where
  abbrev pub look : Lookup
  look = (view_by rec).look

  -- no rule is broken
  abbrev pub Quiet : rules.Command → Type 0
  Quiet c = Every (λ q. bound look q ≤ t) (delay_rules (clocks_of d) c stays rec.share.counter)

  -- rules 1, 2, 3, 22 and 24
  whole_parts : whole_of d rec ≤ t →
      (rec.share.latest.mrw.at + d.tmrw ≤ t) ×
      (rec.share.latest.mrr.at + d.tmrr ≤ t) ×
      (rec.share.latest.refab.at + d.trfcab ≤ t) ×
      (rec.share.moves.power_exit.at + d.txp ≤ t) ×
      (rec.share.moves.self_exit.at + d.txsr ≤ t)
  whole_parts h = (omega arith, omega arith, omega arith, omega arith, omega arith)

  pub nop_quiet : Quiet rules.nop
  unfolding Every delay_rules rule bound from lagging recovering across turned when is code kind_of carries bare idle_use precharged is_fall is_rise rises_from permitted_by
  nop_quiet =
      silent & silent & silent & silent & silent & silent & silent & silent & silent & silent & silent &
      silent & silent & silent & silent & silent & silent & silent & silent & silent & silent & silent & silent & silent & silent & tt

  pub rd_quiet : (k : ℕ) (a : Bool) → rd_cycle (lane_of rec b) (waits_of d rec) d rec.share.bus ≤ t → Quiet (rules.rd b k a)
  unfolding Every delay_rules rule bound from lagging recovering across turned when is code kind_of carries bare bank_at bank_of idle_use precharged is_fall is_rise rises_from permitted_by view_by look_both look_in share_of asked once noted each means latest_of latest_move lagging_of clocks_of modes_of
  rd_quiet k a h =
      let p = four_parts _ _ _ _ t h in
      let w = whole_parts p.0 in
      alone (once_within _ t rec.share.latest.mrw w.0) &
      alone (once_within _ t rec.share.latest.mrr w.1) &
      alone (once_within _ t rec.share.latest.refab w.2) &
      silent & silent & silent &
      alone (kept_within _ t (get_or rec.share.banks.act.seen b false) (get_or rec.share.banks.act.at b 0) unnoted p.1) &
      silent & silent & silent & silent &
      alone (once_within _ t rec.share.bus.rd p.2) &
      silent &
      alone (kept_within _ t rec.share.bus.wr.seen rec.share.bus.wr.at (modes_of rec.share.bus.wr.modes) (after_wr _ _ rec.share.bus.wr.modes.mr2 rec.share.modes.mr2 t p.3)) &
      silent & silent & silent & silent &
      silent & alone (once_within _ t rec.share.moves.power_exit w.3) & silent & alone (once_within _ t rec.share.moves.self_exit w.4) &
      alone (none_within _ t) & silent & alone (none_within _ t) & tt

  pub wr_quiet : (k : ℕ) (a : Bool) → wr_cycle (lane_of rec b) (waits_of d rec) d rec.share.bus ≤ t → Quiet (rules.wr b k a)
  unfolding Every delay_rules rule bound from lagging recovering across turned when is code kind_of carries bare bank_at bank_of idle_use precharged is_fall is_rise rises_from permitted_by view_by look_both look_in share_of asked once noted each means latest_of latest_move lagging_of clocks_of modes_of
  wr_quiet k a h =
      let p = four_parts _ _ _ _ t h in
      let w = whole_parts p.0 in
      alone (once_within _ t rec.share.latest.mrw w.0) &
      alone (once_within _ t rec.share.latest.mrr w.1) &
      alone (once_within _ t rec.share.latest.refab w.2) &
      silent & silent & silent &
      alone (kept_within _ t (get_or rec.share.banks.act.seen b false) (get_or rec.share.banks.act.at b 0) unnoted p.1) &
      silent & silent & silent & silent &
      alone (kept_within _ t rec.share.bus.wr.seen rec.share.bus.wr.at (modes_of rec.share.bus.wr.modes) p.2) &
      alone (kept_within _ t rec.share.bus.turn.seen rec.share.bus.turn.at (modes_of rec.share.bus.turn.modes) (after_turn _ _ rec.share.bus.turn.modes.mr2 rec.share.modes.mr2 t p.3)) &
      silent & silent & silent & silent & silent &
      silent & alone (once_within _ t rec.share.moves.power_exit w.3) & silent & alone (once_within _ t rec.share.moves.self_exit w.4) &
      alone (none_within _ t) & alone (none_within _ t) & silent & tt

  pub pre_quiet : pre_cycle (lane_of rec b) (waits_of d rec) d ≤ t → Quiet (rules.pre b)
  unfolding Every delay_rules rule bound from lagging recovering across turned when is code kind_of carries bare bank_at bank_of idle_use precharged is_fall is_rise rises_from permitted_by view_by look_both look_in share_of asked once each noted_each means latest_of latest_move lagging_of clocks_of modes_of
  pre_quiet h =
      let o = two _ _ t h in
      let p = four_parts _ _ _ _ t o.1 in
      let w = whole_parts o.0 in
      alone (once_within _ t rec.share.latest.mrw w.0) &
      alone (once_within _ t rec.share.latest.mrr w.1) &
      alone (once_within _ t rec.share.latest.refab w.2) &
      alone (kept_within _ t (get_or rec.share.banks.refpb.seen b false) (get_or rec.share.banks.refpb.at b 0) unnoted p.0) &
      silent & silent & silent &
      alone (kept_within _ t (get_or rec.share.banks.act.seen b false) (get_or rec.share.banks.act.at b 0) unnoted p.1) &
      silent & silent & silent & silent & silent & silent &
      alone (kept_within _ t (get_or rec.share.banks.rd.seen b false) (get_or rec.share.banks.rd.at b 0) unnoted p.2) &
      silent &
      alone (kept_within _ t (get_or rec.share.banks.wr.seen b false) (get_or rec.share.banks.wr.at b 0) (modes_of (get_or rec.share.banks.wr.modes b no_modes))
      (after_wr _ _ (get_or rec.share.banks.wr.modes b no_modes).mr2 rec.share.modes.mr2 t p.3)) &
      silent &
      silent & alone (once_within _ t rec.share.moves.power_exit w.3) & silent & alone (once_within _ t rec.share.moves.self_exit w.4) &
      silent & silent & silent & tt

  act_parts : (row : ℕ) → (waits_of d rec).idle ≤ t → idle_cycle (lane_of rec b) (waits_of d rec) d ≤ t → top_of rec.share.banks.act.at + d.trrd ≤ t
      → get_or rec.share.four.at 3 0 + d.tfaw ≤ t → Quiet (rules.act b row)
  unfolding Every delay_rules rule bound from lagging recovering across turned when is code kind_of carries bare bank_at bank_of idle_use precharged is_fall is_rise rises_from permitted_by view_by look_both look_in share_of asked once each noted_each pre_of prea_of means latest_of latest_move lagging_of latest_if fourth_of clocks_of modes_of
  act_parts row hi hl ht hf =
      let o = two _ _ t hi in
      let w = whole_parts o.0 in
      let r = two _ _ t o.1 in
      let l = two _ _ t hl in
      let p = four_parts _ _ _ _ t l.0 in
      alone (once_within _ t rec.share.latest.mrw w.0) &
      alone (once_within _ t rec.share.latest.mrr w.1) &
      alone (once_within _ t rec.share.latest.refab w.2) &
      alone (kept_within _ t (get_or rec.share.banks.refpb.seen b false) (get_or rec.share.banks.refpb.at b 0) unnoted p.0) &
      alone (unless_within _ t (outweighed (get_or rec.share.banks.pre.seen b false) rec.share.latest.prea.seen (get_or rec.share.banks.pre.at b 0) rec.share.latest.prea.at)
      (get_or rec.share.banks.pre.seen b false) (get_or rec.share.banks.pre.at b 0) unnoted p.1) &
      alone (unless_within _ t (outweighed rec.share.latest.prea.seen (get_or rec.share.banks.pre.seen b false) rec.share.latest.prea.at (get_or rec.share.banks.pre.at b 0))
      rec.share.latest.prea.seen rec.share.latest.prea.at unnoted r.0) &
      silent & silent &
      alone (kept_within _ t (get_or rec.share.banks.act.seen b false) (get_or rec.share.banks.act.at b 0) unnoted p.2) &
      others r.1 ht &
      alone (fourth_within _ t rec.share.four hf) &
      silent & silent & silent & silent &
      alone (kept_within _ t (get_or rec.share.banks.rda.seen b false) (get_or rec.share.banks.rda.at b 0) unnoted p.3) &
      silent &
      alone (kept_within _ t (get_or rec.share.banks.wra.seen b false) (get_or rec.share.banks.wra.at b 0) (modes_of (get_or rec.share.banks.wra.modes b no_modes))
      (after_two _ _ _ (get_or rec.share.banks.wra.modes b no_modes).mr2 rec.share.modes.mr2 t l.1)) &
      silent & alone (once_within _ t rec.share.moves.power_exit w.3) & silent & alone (once_within _ t rec.share.moves.self_exit w.4) &
      silent & silent & silent & tt
    where
      others : top_of rec.share.banks.refpb.at + d.trrd ≤ t → top_of rec.share.banks.act.at + d.trrd ≤ t
          → permitted_by look (from (without b banks) d.trrd last_act_to ++ from (without b banks) d.trrd last_refpb_to) ≤ t
      others x y =
          rw (joined look (from (without b banks) d.trrd last_act_to) (from (without b banks) d.trrd last_refpb_to))
          (both (others_within look last_act_to d.trrd b t banks (acts y)) (others_within look last_refpb_to d.trrd b t banks (refs x)))
        where
          acts : top_of rec.share.banks.act.at + d.trrd ≤ t → Every (λ k. permitted (about last_act_to d.trrd k) (look (mine (record { ask = last_act_to; bank = k }))) ≤ t) banks
          acts h = unfold view_by look_both look_in share_of asked each means latest_of latest_move in eight_within last_act_to rec.share.banks.act.seen rec.share.banks.act.at d.trrd t h

          refs : top_of rec.share.banks.refpb.at + d.trrd ≤ t → Every (λ k. permitted (about last_refpb_to d.trrd k) (look (mine (record { ask = last_refpb_to; bank = k }))) ≤ t) banks
          refs h = unfold view_by look_both look_in share_of asked each means latest_of latest_move in eight_within last_refpb_to rec.share.banks.refpb.seen rec.share.banks.refpb.at d.trrd t h

  pub act_quiet : (row : ℕ) → act_cycle (lane_of rec b) (waits_of d rec) d rec.share.banks.act.at (get_or rec.share.four.at 3 0) ≤ t → Quiet (rules.act b row)
  act_quiet row h =
      let p = four_parts _ _ _ _ t h in
      act_parts row p.0 p.1 p.2 p.3
