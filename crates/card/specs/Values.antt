-- The card and the delays of the code, read as the rules' own.
use Rattle.std.specs.Prelude.{ℕ, min, Bool, cond, get_or}
use Rattle.std.proofs.Math.Option.{Option, none, some}
use Rattle.rules.specs.Card as paper
use Rattle.rules.specs.Units as units
use Rattle.rules.specs.Registers as registers
use Rattle.card.specs.declared.Card.{Card}
use Rattle.card.specs.declared.Delays.{Delays}
use Rattle.card.specs.declared.Modes.{Modes}

abbrev pub timing : (duration floor : ℕ) → paper.Timing
timing d f = record { duration = d; floor = f }

-- a timing by its place in the two columns
unfoldable pub timing_in : Card → ℕ → paper.Timing
timing_in card k = timing (get_or card.durations k 0) (get_or card.floors k 0)

-- MR1, if there is one
unfoldable pub mr1_if : (programmed : Bool) → (mr1 : ℕ) → Option ℕ
mr1_if p v = cond p (some v) none

unfoldable pub modes_of : Modes → registers.Modes
modes_of m = record { mr2 = m.mr2; mr1 = mr1_if m.programmed m.mr1 }

unfoldable pub card_of : Card → paper.Card
card_of card = record {
  period = card.period.0;
  mr2 = card.mr2;
  groups = card.groups;
  trefi = card.trefi;
  trcd = timing_in card 0;
  trppb = timing_in card 1;
  trpab = timing_in card 2;
  tras = timing_in card 3;
  trrd = timing_in card 4;
  tfaw = timing_in card 5;
  trtp = timing_in card 6;
  twr = timing_in card 7;
  twtr = timing_in card 8;
  tdqsck = timing_in card 9;
  trfcab = timing_in card 10;
  trfcpb = timing_in card 11;
  tmrr = timing_in card 12;
  tmrw = timing_in card 13;
  sleeps = card.sleeps;
  tcke = timing_in card 14;
  txp = timing_in card 15;
  tckesr = timing_in card 16;
  txsr = timing_in card 17;
  mr1 = mr1_if card.programmed card.mr1;
  paired = card.paired;
  gap = card.gap;
  raise = card.raise;
}

unfoldable pub clocks_of : Delays → units.Delays
clocks_of d = record {
  trcd = d.trcd;
  trppb = d.trppb;
  trpab = d.trpab;
  tras = d.tras;
  trc = d.trc;
  trrd = d.trrd;
  tfaw = d.tfaw;
  trtp = d.trtp;
  twr = d.twr;
  twtr = d.twtr;
  tdqsck = d.tdqsck;
  trfcab = d.trfcab;
  trfcpb = d.trfcpb;
  tmrr = d.tmrr;
  tmrw = d.tmrw;
  tcke = d.tcke;
  txp = d.txp;
  tckesr = d.tckesr;
  txsr = d.txsr;
  gap = d.gap;
}

-- in 32 bits: the most that they hold stands for anything beyond, which no card in range comes to (proofs/Fits)
abbrev pub clipped : ℕ → ℕ
clipped k = min k 4_294_967_295

unfoldable pub shortened : units.Delays → units.Delays
shortened d = record {
  trcd = clipped d.trcd;
  trppb = clipped d.trppb;
  trpab = clipped d.trpab;
  tras = clipped d.tras;
  trc = clipped d.trc;
  trrd = clipped d.trrd;
  tfaw = clipped d.tfaw;
  trtp = clipped d.trtp;
  twr = clipped d.twr;
  twtr = clipped d.twtr;
  tdqsck = clipped d.tdqsck;
  trfcab = clipped d.trfcab;
  trfcpb = clipped d.trfcpb;
  tmrr = clipped d.tmrr;
  tmrw = clipped d.tmrw;
  tcke = clipped d.tcke;
  txp = clipped d.txp;
  tckesr = clipped d.tckesr;
  txsr = clipped d.txsr;
  gap = clipped d.gap;
}
