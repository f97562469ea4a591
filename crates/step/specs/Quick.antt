-- The quick run: entries that the quick test clears, as far as it goes; and the words of its parts.
use Rattle.std.specs.Prelude.{ℕ, zero, suc, ◌≤◌, ◌<◌, Bool, true, false, cond, List, set, drop, ◌+◌, Option, Some, None}
use Rattle.rules.specs.Commands.{NOP, is}
use Rattle.rules.specs.Entries.{recorded_as}
use Rattle.rules.specs.Lent.{ledger_to}
use Rattle.card.specs.declared.Delays.{Delays}
use Rattle.card.specs.declared.Modes.{Modes}
use Rattle.pins.specs.declared.Front.{Front}
use Rattle.pins.specs.Fronts.{front_of}
use Rattle.pins.specs.Places.{bank_on, ap_on}
use Rattle.ledger.specs.Values.{ledger_of, code_of, deadline_of}
use Rattle.bank.specs.After.{once_at, noted_at, put_each, put_noted, pushed_on}
use Rattle.bank.specs.declared.Banks.{Banks}
use Rattle.bank.specs.declared.Bus.{Bus}
use Rattle.bank.specs.declared.Four.{Four}
use Rattle.step.specs.declared.single.Single.{Single}
use Rattle.step.specs.declared.Ran.{Ran}
use Rattle.step.specs.declared.quick.Quick.{Quick}
use Rattle.step.specs.declared.kinds.Hot.{Hot}
use Rattle.step.specs.declared.kinds.Hot.TheVariants.{Nop, Act, Rd, Wr, Pre, Cold}
use Rattle.step.specs.Ready.{ready_of}
use Rattle.step.specs.Runs.{entry_at, ran, behind}
use Rattle.step.specs.Single.{read_by, dues_by, single_with}

unfoldable pub goes_on : Delays → Single → Option Front → Bool
goes_on d rec None = false
goes_on d rec (Some f) = ready_of d rec f.stamp f.pins

-- at most so many entries, and none from the first on that the quick test does not clear; it clears no refresh
unfoldable pub quick_of : ℕ → Delays → Single → List ℕ → Ran Single
quick_of zero d rec bs = ran rec 0 0 0
quick_of (suc n) d rec bs =
    let e = entry_at bs in
    cond (goes_on d rec (front_of bs)) (behind 10 (cond (is NOP (recorded_as (read_by rec e))) 0 1) 0 (quick_of n d (single_with rec e) (drop 10 bs))) (ran rec 0 0 0)

-- NOP is not counted
unfoldable pub hot_count : Hot → ℕ
hot_count Nop = 0
hot_count Act = 1
hot_count Rd = 1
hot_count Wr = 1
hot_count Pre = 1
hot_count Cold = 1

-- the parts after an entry of this kind to bank b
abbrev pub banks_then : Hot → (b : ℕ) → (ap : Bool) → (t : ℕ) → Modes → Banks → Banks
banks_then Nop b ap t m x = x
banks_then Act b ap t m x = record {
  opened = set x.opened b true;
  refpb = x.refpb;
  pre = x.pre;
  act = put_each b t x.act;
  rd = x.rd;
  rda = x.rda;
  wr = x.wr;
  wra = x.wra;
}
banks_then Rd b true t m x = record {
  opened = set x.opened b false;
  refpb = x.refpb;
  pre = x.pre;
  act = x.act;
  rd = put_each b t x.rd;
  rda = put_each b t x.rda;
  wr = x.wr;
  wra = x.wra;
}
banks_then Rd b false t m x = record {
  opened = x.opened;
  refpb = x.refpb;
  pre = x.pre;
  act = x.act;
  rd = put_each b t x.rd;
  rda = x.rda;
  wr = x.wr;
  wra = x.wra;
}
banks_then Wr b true t m x = record {
  opened = set x.opened b false;
  refpb = x.refpb;
  pre = x.pre;
  act = x.act;
  rd = x.rd;
  rda = x.rda;
  wr = put_noted b t m x.wr;
  wra = put_noted b t m x.wra;
}
banks_then Wr b false t m x = record {
  opened = x.opened;
  refpb = x.refpb;
  pre = x.pre;
  act = x.act;
  rd = x.rd;
  rda = x.rda;
  wr = put_noted b t m x.wr;
  wra = x.wra;
}
banks_then Pre b ap t m x = record {
  opened = set x.opened b false;
  refpb = x.refpb;
  pre = put_each b t x.pre;
  act = x.act;
  rd = x.rd;
  rda = x.rda;
  wr = x.wr;
  wra = x.wra;
}
banks_then Cold b ap t m x = x

abbrev pub bus_then : Hot → (t : ℕ) → Modes → Bus → Bus
bus_then Nop t m x = x
bus_then Act t m x = x
bus_then Rd t m x = record { rd = once_at t; wr = x.wr; turn = noted_at t m }
bus_then Wr t m x = record { rd = x.rd; wr = noted_at t m; turn = x.turn }
bus_then Pre t m x = x
bus_then Cold t m x = x

abbrev pub four_then : Hot → (t : ℕ) → Four → Four
four_then Nop t x = x
four_then Act t x = pushed_on t x
four_then Rd t x = x
four_then Wr t x = x
four_then Pre t x = x
four_then Cold t x = x

-- as far as a quick run has come, at its beginning, and with one more entry
abbrev pub quick_in : Single → Quick
quick_in rec = record { banks = rec.share.banks; bus = rec.share.bus; four = rec.share.four; last = rec.last.at; used = 0; nops = 0 }

-- what an entry of this kind to bank b changes of the record
abbrev pub parts_by : Hot → (b : ℕ) → (ap : Bool) → (t : ℕ) → Modes → Quick → Quick
parts_by h b ap t m q = record {
  banks = banks_then h b ap t m q.banks;
  bus = bus_then h t m q.bus;
  four = four_then h t q.four;
  last = q.last;
  used = q.used;
  nops = q.nops;
}

abbrev pub nops_by : Hot → ℕ
nops_by Nop = 1
nops_by Act = 0
nops_by Rd = 0
nops_by Wr = 0
nops_by Pre = 0
nops_by Cold = 0

abbrev pub taken_by : Hot → Front → Modes → Quick → Quick
taken_by h f m q = record {
  banks = banks_then h (bank_on f.pins) (ap_on f.pins) f.stamp m q.banks;
  bus = bus_then h f.stamp m q.bus;
  four = four_then h f.stamp q.four;
  last = f.stamp;
  used = q.used + 10;
  nops = q.nops + nops_by h;
}

-- the record with these parts, at the last entry that was taken
abbrev pub now_of : Single → Banks → Bus → Four → (last : ℕ) → Single
now_of rec banks bus four t = record {
  card = rec.card;
  last = once_at t;
  pace = rec.pace;
  share = record {
    modes = rec.share.modes;
    counter = rec.share.counter;
    latest = rec.share.latest;
    moves = rec.share.moves;
    bus = bus;
    four = four;
    banks = banks;
    ledger = code_of (ledger_to (dues_by rec) (ledger_of rec.share.ledger) t);
  };
}

-- the last entry is one that the ledger reaches
pub record EndArgs (rec : Single) (t : ℕ) : Type 0 where
  pub later : rec.share.ledger.at ≤ t
  pub early : t < deadline_of rec.card rec.pace rec.share.ledger
