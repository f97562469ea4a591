-- The quick test: true of an entry that is taken (proofs/Cleared), false of some that are taken too. It asks only the rules that can speak for the command, each
-- as if the entry that it counts from had been there.
use Rattle.std.specs.Prelude.{ℕ, ◌+◌, ◌-◌, max, Bool, true, false, cond, not, ◌&&◌, List, leb, ltb, eqb, get_or}
use Rattle.rules.specs.Commands as rules
use Rattle.rules.specs.Pins.{Decoded, good, wrong_bits, reserved, decode}
use Rattle.rules.specs.Registers.{rl_of, wl_of, nwr_of}
use Rattle.rules.specs.Levels.{awake, same_level}
use Rattle.card.specs.Values.{modes_of}
use Rattle.card.specs.declared.Delays.{Delays}
use Rattle.pins.specs.Values.{level_of}
use Rattle.pins.specs.Places.{bank_on}
use Rattle.ledger.specs.Values.{deadline_of}
use Rattle.bank.specs.Values.{no_modes}
use Rattle.bank.specs.declared.Banks.{Banks}
use Rattle.bank.specs.declared.Bus.{Bus}
use Rattle.bank.specs.declared.Latest.{Latest}
use Rattle.bank.specs.declared.Moves.{Moves}
use Rattle.step.specs.declared.single.Single.{Single}
use Rattle.step.specs.declared.kinds.Hot.{Hot}
use Rattle.step.specs.declared.kinds.Hot.TheVariants.{Nop, Act, Rd, Wr, Pre, Cold}
use Rattle.step.specs.declared.cycles.Lane.{Lane}
use Rattle.step.specs.declared.waits.Waits.{Waits}

-- the kind that the quick run takes, or that it takes none
unfoldable pub hot_of : Decoded → Hot
hot_of (good rules.nop) = Nop
hot_of (good (rules.mrw ma op)) = Cold
hot_of (good (rules.mrr ma)) = Cold
hot_of (good rules.refpb) = Cold
hot_of (good rules.refab) = Cold
hot_of (good (rules.act bank row)) = Act
hot_of (good (rules.rd bank column ap)) = Rd
hot_of (good (rules.wr bank column ap)) = Wr
hot_of (good (rules.pre bank)) = Pre
hot_of (good rules.prea) = Cold
hot_of wrong_bits = Cold
hot_of reserved = Cold

-- ---- what a quick run does not change
abbrev pub max4 : ℕ → ℕ → ℕ → ℕ → ℕ
max4 a b c d = max (max (max a b) c) d

-- the greatest of eight stamps
abbrev pub top_of : List ℕ → ℕ
top_of a = max (max4 (get_or a 0 0) (get_or a 1 0) (get_or a 2 0) (get_or a 3 0)) (max4 (get_or a 4 0) (get_or a 5 0) (get_or a 6 0) (get_or a 7 0))

-- rules 1, 2 and 3
abbrev pub rested_of : Delays → Latest → ℕ
rested_of d x = max (max (x.mrw.at + d.tmrw) (x.mrr.at + d.tmrr)) (x.refab.at + d.trfcab)

-- rules 22 and 24
abbrev pub woken_of : Delays → Moves → ℕ
woken_of d x = max (x.power_exit.at + d.txp) (x.self_exit.at + d.txsr)

-- the rules that every command but NOP has
abbrev pub whole_of : Delays → Single → ℕ
whole_of d rec = max (rested_of d rec.share.latest) (woken_of d rec.share.moves)

-- RL and WL by the present MR2; with those rules 6, and 10 after REFpb
abbrev pub waits_of : Delays → Single → Waits
waits_of d rec = record {
  mr2 = rec.share.modes.mr2;
  rl = rl_of rec.share.modes.mr2;
  wl = wl_of rec.share.modes.mr2;
  whole = whole_of d rec;
  idle = max (whole_of d rec) (max (rec.share.latest.prea.at + d.trpab) (top_of rec.share.banks.refpb.at + d.trrd));
  delays = d;
}

-- ---- the delay rules
-- what the record holds for a bank
abbrev pub lane_in : Banks → ℕ → Lane
lane_in x b = record {
  opened = get_or x.opened b false;
  refpb = get_or x.refpb.at b 0;
  pre = get_or x.pre.at b 0;
  act = get_or x.act.at b 0;
  rd = get_or x.rd.at b 0;
  rda = get_or x.rda.at b 0;
  wr = get_or x.wr.at b 0;
  wr_modes = get_or x.wr.modes b no_modes;
  wra = get_or x.wra.at b 0;
  wra_modes = get_or x.wra.modes b no_modes;
}

abbrev pub lane_of : Single → ℕ → Lane
lane_of rec b = lane_in rec.share.banks b

-- enough for every MR2, where another one than the present was noted
abbrev pub slack : Waits → ℕ → ℕ
slack w m = cond (eqb m w.mr2) 0 32

abbrev pub wrote : Waits → ℕ → ℕ
wrote w m = w.wl + 5 + slack w m

-- rules 7, 12, 14
abbrev pub rd_cycle : Lane → Waits → Delays → Bus → ℕ
rd_cycle l w d bus = max4 w.whole (l.act + d.trcd) (bus.rd.at + 4) (bus.wr.at + d.twtr + wrote w bus.wr.modes.mr2)

-- rules 7, 12, 13
abbrev pub wr_cycle : Lane → Waits → Delays → Bus → ℕ
wr_cycle l w d bus = max4 w.whole (l.act + d.trcd) (bus.wr.at + 4) (bus.turn.at + (w.rl + d.tdqsck + 5 - w.wl) + slack w bus.turn.modes.mr2)

-- rules 4, 8, 15, 17
abbrev pub pre_cycle : Lane → Waits → Delays → ℕ
pre_cycle l w d =
    max w.whole
    (max4 (l.refpb + d.trfcpb) (l.act + d.tras) (l.rd + max 4 d.trtp) (l.wr + d.twr + wrote w l.wr_modes.mr2))

-- rules 4, 5, 9, 16, 18, 10, 11
abbrev pub idle_cycle : Lane → Waits → Delays → ℕ
idle_cycle l w d =
    max (max4 (l.refpb + d.trfcpb) (l.pre + d.trppb) (l.act + d.trc) (l.rda + (max 4 d.trtp + d.trppb)))
    (l.wra + (nwr_of d.twr (modes_of l.wra_modes) + d.trppb) + wrote w l.wra_modes.mr2)

abbrev pub act_cycle : Lane → Waits → Delays → (acts : List ℕ) → (fourth : ℕ) → ℕ
act_cycle l w d acts fourth = max4 w.idle (idle_cycle l w d) (top_of acts + d.trrd) (fourth + d.tfaw)

-- with the bank state
unfoldable pub ready_by : Hot → Lane → Waits → Delays → Bus → (acts : List ℕ) → (fourth stamp : ℕ) → Bool
ready_by Nop l w d bus acts fourth t = true
ready_by Act l w d bus acts fourth t = not l.opened && leb (act_cycle l w d acts fourth) t
ready_by Rd l w d bus acts fourth t = l.opened && leb (rd_cycle l w d bus) t
ready_by Wr l w d bus acts fourth t = l.opened && leb (wr_cycle l w d bus) t
ready_by Pre l w d bus acts fourth t = leb (pre_cycle l w d) t
ready_by Cold l w d bus acts fourth t = false

-- ---- all of it
-- the part is awake; the ledger stands at the last entry, and has skipped no more cycles than there were
unfoldable pub stands_of : Single → Bool
stands_of rec =
    let g = rec.share.ledger in
    rec.last.seen && eqb g.at rec.last.at && leb g.skipped g.at && same_level awake (level_of g.level)

unfoldable pub ready_of : Delays → Single → (stamp pins : ℕ) → Bool
ready_of d rec t p =
    stands_of rec &&
    (ltb rec.last.at t && ltb t (deadline_of rec.card rec.pace rec.share.ledger)) &&
    ready_by (hot_of (decode p)) (lane_of rec (bank_on p)) (waits_of d rec) d rec.share.bus rec.share.banks.act.at (get_or rec.share.four.at 3 0) t
