-- A fresh record is the rules' fresh record.
use Prim.Native.Nat.{ℕ}
use mathlib.Core.Path.{◌≡◌, refl}
use mathlib.Core.Bool.{Bool, true, false, cond}
use mathlib.Core.List.{[]}
use lib.Dec.{ltb, eqb}
use Rattle.rules.specs.Delays.{
  Ask,
  last_mrw,
  last_mrr,
  last_refab,
  last_refpb,
  last_refpb_to,
  last_pre_to,
  last_prea_to,
  last_act_to,
  fourth_last,
  last_rd,
  last_wr,
  last_rd_or_mrr,
  last_rd_to,
  last_rda_to,
  last_wr_to,
  last_wra_to,
  last_fall,
  last_power_exit,
  last_self_exit,
}
use Rattle.rules.specs.Lent as lent
use Rattle.card.specs.Values.{modes_of, card_of}
use Rattle.card.specs.declared.Card.{Card}
use Rattle.card.specs.declared.Modes.{Modes}
use Rattle.pins.specs.Values.{level_of}
use Rattle.ledger.specs.Values.{ledger_of, pace_of, pace_in}
use Rattle.bank.specs.Values.{
  kept,
  once,
  noted,
  each,
  noted_each,
  four,
  outweighed,
  pre_of,
  prea_of,
  asked,
  last_of,
  share_of,
  share_in,
  lent_of,
  never,
  never_noted,
  never_each,
  never_noted_each,
  never_four,
  idle_bus,
  fresh_share,
  start_of,
  fresh_of,
}
use Rattle.bank.proofs.Places.{same_everywhere}

nothing : (m : Modes) (a : Ask) (b : ℕ) → asked (fresh_share m) a b ≡ []
unfolding kept once noted each noted_each four outweighed pre_of prea_of asked never never_noted never_each never_noted_each never_four idle_bus fresh_share
nothing m last_mrw b = refl
nothing m last_mrr b = refl
nothing m last_refab b = refl
nothing m last_refpb b = refl
nothing m last_refpb_to b = rw (same_everywhere 8 b false)
nothing m last_pre_to b = rw (same_everywhere 8 b false)
nothing m last_prea_to b = refl
nothing m last_act_to b = rw (same_everywhere 8 b false)
nothing m fourth_last b = refl
nothing m last_rd b = refl
nothing m last_wr b = refl
nothing m last_rd_or_mrr b = refl
nothing m last_rd_to b = rw (same_everywhere 8 b false)
nothing m last_rda_to b = rw (same_everywhere 8 b false)
nothing m last_wr_to b = rw (same_everywhere 8 b false)
nothing m last_wra_to b = rw (same_everywhere 8 b false)
nothing m last_fall b = refl
nothing m last_power_exit b = refl
nothing m last_self_exit b = refl

pub fresh_share_lem : (card : Card) → share_of (fresh_share (start_of card)) ≡ lent.fresh_share (card_of card)
unfolding share_of lent.fresh_share ledger_of level_of card_of modes_of fresh_share
fresh_share_lem card = λ i. record {
  modes = modes_of (start_of card);
  open? = λ b. same_everywhere 8 b false i;
  counter = 0;
  history = λ q. nothing (start_of card) q.ask q.bank i;
  ledger = ledger_of (fresh_share (start_of card)).ledger;
}

pub fresh_lent : (card : Card) → lent_of (fresh_of card) ≡ lent.fresh (card_of card)
unfolding lent_of lent.fresh last_of pace_of pace_in fresh_of never
fresh_lent card = λ i. record { card = card_of card; last = last_of never; pace = lent.start_pace (card_of card); share = λ p. each_share p i }
  where
    each_share : (p : ℕ) → share_in (fresh_of card) p ≡ lent.fresh_share (card_of card)
    each_share p = unfold share_in fresh_of in go (ltb p 2) (eqb p 0)
      where
        go : (x y : Bool) → cond x (share_of (cond y (fresh_share (start_of card)) (fresh_share (start_of card)))) (lent.fresh_share (card_of card)) ≡ lent.fresh_share (card_of card)
        go true true = fresh_share_lem card
        go true false = fresh_share_lem card
        go false y = refl
