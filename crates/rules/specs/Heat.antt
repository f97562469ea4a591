-- Temperature (document 02, Eleven): what the value of mode register 4, read back, says by OP2-0 of the refresh interval and of the delays.
use Rattle.std.specs.Prelude.{ℕ, ◌+◌, ◌*◌, ◌/◌, max, Bool, cond, ◌&&◌, ◌||◌, leb, eqb}
use Rattle.rules.specs.Bits.{bits}
use Rattle.rules.specs.Card.{Timing, Card}
use Rattle.rules.specs.Units.{femto, Delays, delays_of}

-- OP2-0; OP7-3 are ignored
unfoldable pub heat : ℕ → ℕ
heat mr4 = bits mr4 0 3

-- 000 and 111 are not taken
unfoldable pub mr4_good : ℕ → Bool
mr4_good mr4 = leb 0b001 (heat mr4) && leb (heat mr4) 0b110

-- before the first field tREFI is taken once
unfoldable pub start_mr4 : ℕ
start_mr4 = 0b011

-- the quarters of tREFI: 001 to 011 give it times 4, 2, 1; 100 is half; 101 and 110 are a quarter. No other code is taken; it would be as 011
unfoldable pub quarters : ℕ → ℕ
quarters c = cond (eqb c 0b001) 16 (cond (eqb c 0b010) 8 (cond (eqb c 0b100) 2 (cond (eqb c 0b101 || eqb c 0b110) 1 4)))

-- I: the quarters over the period, rounded down, and never below one cycle
unfoldable pub interval_at : Card → (mr4 : ℕ) → ℕ
interval_at card mr4 = max 1 (femto card.trefi * quarters (heat mr4) / (card.period * 4))

-- ---- code 110 makes tRCD, both tRP, tRAS and tRRD longer; tRC is made of two of them
unfoldable pub is_hot : (mr4 : ℕ) → Bool
is_hot mr4 = eqb (heat mr4) 0b110

unfoldable pub longer : (ps : ℕ) → Timing → Timing
longer ps x = record { duration = x.duration + ps; floor = x.floor }

unfoldable pub hot_card : Card → Card
hot_card card = record {
  period = card.period;
  mr2 = card.mr2;
  groups = card.groups;
  trefi = card.trefi;
  trcd = longer card.raise card.trcd;
  trppb = longer card.raise card.trppb;
  trpab = longer card.raise card.trpab;
  tras = longer card.raise card.tras;
  trrd = longer card.raise card.trrd;
  tfaw = card.tfaw;
  trtp = card.trtp;
  twr = card.twr;
  twtr = card.twtr;
  tdqsck = card.tdqsck;
  trfcab = card.trfcab;
  trfcpb = card.trfcpb;
  tmrr = card.tmrr;
  tmrw = card.tmrw;
  sleeps = card.sleeps;
  tcke = card.tcke;
  txp = card.txp;
  tckesr = card.tckesr;
  txsr = card.txsr;
  mr1 = card.mr1;
  paired = card.paired;
  gap = card.gap;
  raise = card.raise;
}

-- the delays with this value in force: the ordinary ones, or the hot ones
unfoldable pub delays_at : Card → (mr4 : ℕ) → Delays
delays_at card mr4 = cond (is_hot mr4) (delays_of (hot_card card)) (delays_of card)
