-- What a record answers after an entry is what the rules' record answers after it, question by question.
use Prim.Native.Nat.{ℕ, ◌≤◌}
use mathlib.Core.Path.{◌≡◌, refl}
use mathlib.Core.Bool.{Bool, true, false, cond, ◌&&◌, ◌||◌}
use mathlib.Core.List.{[], ◌∷◌}
use mathlib.Core.Option.{Option}
use lib.Dec.{eqb}
use lib.ListN.{get_or}
use Rattle.rules.specs.Commands.{Command, MRW, MRR, REFPB, REFAB, ACT, RD, WR, PRE, PREA, is, bank_of, ap_of}
use Rattle.rules.specs.Levels.{Move, is_fall, rises_from, power_down, self_refresh}
use Rattle.rules.specs.Past.{bank_at, precharges}
use Rattle.rules.specs.Delays.{
  Ask,
  last_mrw,
  last_mrr,
  last_refab,
  last_refpb,
  last_refpb_to,
  last_pre_to,
  last_prea_to,
  last_act_to,
  fourth_last,
  last_rd,
  last_wr,
  last_rd_or_mrr,
  last_rd_to,
  last_rda_to,
  last_wr_to,
  last_wra_to,
  last_fall,
  last_power_exit,
  last_self_exit,
  means,
  latest_of,
  lagging_of,
  fourth_of,
  latest_if,
  latest_move,
  to,
  unnoted,
  noted_of,
}
use Rattle.rules.specs.Lent.{remembered, history_after}
use Rattle.card.specs.Values.{modes_of}
use Rattle.ledger.specs.declared.Ledger.{Ledger}
use Rattle.bank.specs.Values.{entry, once, each, pre_of, prea_of, asked, share_of}
use Rattle.bank.specs.After.{ShareArgs, once_if, four_after, latest_after, moves_after, bus_after, stamped_after, banks_after, share_after}
use Rattle.bank.specs.declared.Once.{Once}
use Rattle.bank.specs.declared.Share.{Share}
use Rattle.bank.proofs.Sizes.{ShareWhole}
use Rattle.bank.proofs.Places.{four_after_lem}
use Rattle.bank.proofs.Precharged.{both_after, pre_below, prea_below}
use Rattle.bank.proofs.Remembered.{once_after, noted_after, each_seen, each_at, each_after, noted_each_after, one_precharge, bank_low}

once_seen : (now : Bool) (t : ℕ) (x : Once) → (once_if now t x).seen ≡ cond now true x.seen
unfolding once_if
once_seen true t x = refl
once_seen false t x = refl

once_stamp : (now : Bool) (t : ℕ) (x : Once) → (once_if now t x).at ≡ cond now t x.at
unfolding once_if
once_stamp true t x = refl
once_stamp false t x = refl

module _ (last : Option ℕ) (s : Share) (c : Command) (v : Move) (t : ℕ) (g : Ledger) (w : ShareWhole s) (a : ShareArgs last s t c) where
  abbrev k : ℕ
  k = bank_at c s.counter

  low : k ≤ 7
  low = bank_low c s.counter a.counter a.bank

  precharges_are : (b : ℕ)
      → (pre_of (share_after s c v t g) b ≡ cond (precharges b c) (cond (is PRE c) (entry t unnoted ∷ []) []) (pre_of s b))
      × (prea_of (share_after s c v t g) b ≡ cond (precharges b c) (cond (is PREA c) (entry t unnoted ∷ []) []) (prea_of s b))
  unfolding pre_of prea_of each once share_after latest_after banks_after stamped_after precharges
  precharges_are b =
      let p = s.banks.pre in
      let x = s.latest.prea in
      rw (
        each_seen (is PRE c) (bank_of c) t b p a.bank w.pre,
        each_at (is PRE c) (bank_of c) t b p a.bank w.pre,
        once_seen (is PREA c) t x,
        once_stamp (is PREA c) t x,
      )
      (both_after t (get_or p.at b 0) x.at (is PREA c) (is PRE c) (eqb (bank_of c) b) (get_or p.seen b false) x.seen (one_precharge c)
      (pre_below last s t w a.stamps a.rising b)
      (prea_below last s t w a.stamps a.rising))

  pub remembers : (q : Ask) (b : ℕ)
      → asked (share_after s c v t g) q b ≡ history_after c v s.counter t (modes_of s.modes) (share_of s).history (record { ask = q; bank = b })
  unfolding asked share_after latest_after moves_after bus_after four_after banks_after stamped_after history_after remembered means latest_of lagging_of fourth_of latest_if latest_move to noted_of share_of
  remembers last_mrw b = once_after (is MRW c) t s.latest.mrw
  remembers last_mrr b = once_after (is MRR c) t s.latest.mrr
  remembers last_refab b = once_after (is REFAB c) t s.latest.refab
  remembers last_refpb b = once_after (is REFPB c) t s.latest.refpb
  remembers last_refpb_to b = each_after (is REFPB c) k t b s.banks.refpb low w.refpb
  remembers last_pre_to b = (precharges_are b).0
  remembers last_prea_to b = (precharges_are b).1
  remembers last_act_to b = each_after (is ACT c) k t b s.banks.act low w.act
  remembers fourth_last b = four_after_lem (is ACT c || is REFPB c) t _
  remembers last_rd b = once_after (is RD c) t s.bus.rd
  remembers last_wr b = noted_after (is WR c) t s.modes s.bus.wr
  remembers last_rd_or_mrr b = noted_after (is RD c || is MRR c) t s.modes s.bus.turn
  remembers last_rd_to b = each_after (is RD c) k t b s.banks.rd low w.rd
  remembers last_rda_to b = each_after (is RD c && ap_of c) k t b s.banks.rda low w.rda
  remembers last_wr_to b = noted_each_after (is WR c) k t s.modes b s.banks.wr low w.wr
  remembers last_wra_to b = noted_each_after (is WR c && ap_of c) k t s.modes b s.banks.wra low w.wra
  remembers last_fall b = once_after (is_fall v) t s.moves.fall
  remembers last_power_exit b = once_after (rises_from power_down v) t s.moves.power_exit
  remembers last_self_exit b = once_after (rises_from self_refresh v) t s.moves.self_exit
