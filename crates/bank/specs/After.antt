-- What an entry that was taken changes: in the record of the rules, and in that of the code.
use Rattle.std.specs.Prelude.{ℕ, ◌+◌, ◌≤◌, ◌≡◌, Bool, true, false, cond, ◌&&◌, ◌||◌, List, [], ◌∷◌, leb, ltb, eqb, get_or, set, replicate}
use Rattle.std.proofs.Math.Option.{Option, some}
use Rattle.rules.specs.Commands as rules
use Rattle.rules.specs.Commands.{MRW, MRR, REFPB, REFAB, ACT, RD, WR, PRE, PREA, is, bank_of, ap_of}
use Rattle.rules.specs.Whose.{Whose, is_of}
use Rattle.rules.specs.Levels.{power_down, self_refresh, Move, is_fall, rises_from}
use Rattle.rules.specs.Past.{writes_ma, register_after, mr2_after, bank_at}
use Rattle.rules.specs.Lent as lent
use Rattle.card.specs.declared.Modes.{Modes}
use Rattle.pins.specs.Counter.{counter_on}
use Rattle.ledger.specs.declared.Ledger.{Ledger}
use Rattle.ledger.specs.declared.Pace.{Pace}
use Rattle.ledger.specs.Values.{ledger_of, pace_of}
use Rattle.bank.specs.Values.{last_of, share_of, share_at, lent_of}
use Rattle.bank.specs.declared.Once.{Once}
use Rattle.bank.specs.declared.Noted.{Noted}
use Rattle.bank.specs.declared.Each.{Each}
use Rattle.bank.specs.declared.NotedEach.{NotedEach}
use Rattle.bank.specs.declared.Four.{Four}
use Rattle.bank.specs.declared.Latest.{Latest}
use Rattle.bank.specs.declared.Moves.{Moves}
use Rattle.bank.specs.declared.Bus.{Bus}
use Rattle.bank.specs.declared.Banks.{Banks}
use Rattle.bank.specs.declared.Share.{Share}
use Rattle.bank.specs.declared.Ledgers.{Ledgers}
use Rattle.bank.specs.declared.Record.{Record}

-- the lent record after an entry of this part that was taken, with this command and move, with these ledgers and this pace
unfoldable pub share_behind : (own : Bool) → rules.Command → Move → (stamp : ℕ) → lent.Ledger → lent.Share → lent.Share
share_behind own c v t g s = cond own (lent.share_after c v t g s) (lent.with_ledger g s)

unfoldable pub after_command : lent.Lent → Whose → rules.Command → Move → (stamp : ℕ) → (ℕ → lent.Ledger) → lent.Pace → lent.Lent
after_command l w c v t g z = record { card = l.card; last = some t; pace = z; share = λ p. cond (ltb p 2) (share_behind (is_of p w) c v t (g p) (l.share p)) (l.share p) }

-- what a sound record and a rising stamp give of a part whose own entry it is; a command that was decoded has no bank above 7
pub record ShareArgs (last : Option ℕ) (s : Share) (stamp : ℕ) (c : rules.Command) : Type 0 where
  pub stamps : lent.stamps_good last (share_of s) ≡ true
  pub rising : lent.above_last last stamp ≡ true
  pub counter : s.counter ≤ 7
  pub bank : bank_of c ≤ 7

abbrev pub AfterArgs : Record → (p stamp : ℕ) → rules.Command → Type 0
AfterArgs r p t c = ShareArgs (last_of r.last) (share_at r p) t c

-- ---- one stamp, a stamp of one bank, and the last four
abbrev pub once_at : ℕ → Once
once_at t = record { seen = true; at = t }

unfoldable pub once_if : Bool → ℕ → Once → Once
once_if now t x = cond now (once_at t) x

abbrev pub noted_at : (t : ℕ) → Modes → Noted
noted_at t m = record { seen = true; at = t; modes = m }

unfoldable pub noted_if : Bool → (t : ℕ) → Modes → Noted → Noted
noted_if now t m x = cond now (noted_at t m) x

-- a place that the list does not have changes nothing
abbrev pub put_each : (bank t : ℕ) → Each → Each
put_each k t x = record { seen = set x.seen k true; at = set x.at k t }

unfoldable pub each_if : Bool → (bank t : ℕ) → Each → Each
each_if now k t x = cond now (put_each k t x) x

abbrev pub put_noted : (bank t : ℕ) → Modes → NotedEach → NotedEach
put_noted k t m x = record { seen = set x.seen k true; at = set x.at k t; modes = set x.modes k m }

unfoldable pub noted_each_if : Bool → (bank t : ℕ) → Modes → NotedEach → NotedEach
noted_each_if now k t m x = cond now (put_noted k t m x) x

abbrev pub shifted : ℕ → List ℕ → List ℕ
shifted t at = t ∷ get_or at 0 0 ∷ get_or at 1 0 ∷ get_or at 2 0 ∷ []

unfoldable pub pushed_on : ℕ → Four → Four
pushed_on t x = record { count = cond (leb 4 x.count) 4 (x.count + 1); at = shifted t x.at }

-- ---- the parts of the record
unfoldable pub modes_after : rules.Command → Modes → Modes
modes_after c m = record { mr2 = mr2_after c m.mr2; programmed = writes_ma 1 c || m.programmed; mr1 = register_after (λ v. v) 1 c m.mr1 }

unfoldable pub four_after : rules.Command → (stamp : ℕ) → Four → Four
four_after c t x = cond (is ACT c || is REFPB c) (pushed_on t x) x

unfoldable pub latest_after : rules.Command → (stamp : ℕ) → Latest → Latest
latest_after c t x = record {
  mrw = once_if (is MRW c) t x.mrw;
  mrr = once_if (is MRR c) t x.mrr;
  refab = once_if (is REFAB c) t x.refab;
  refpb = once_if (is REFPB c) t x.refpb;
  prea = once_if (is PREA c) t x.prea;
}

unfoldable pub moves_after : Move → (stamp : ℕ) → Moves → Moves
moves_after v t x = record {
  fall = once_if (is_fall v) t x.fall;
  power_exit = once_if (rises_from power_down v) t x.power_exit;
  self_exit = once_if (rises_from self_refresh v) t x.self_exit;
}

unfoldable pub bus_after : rules.Command → (stamp : ℕ) → Modes → Bus → Bus
bus_after c t m x = record {
  rd = once_if (is RD c) t x.rd;
  wr = noted_if (is WR c) t m x.wr;
  turn = noted_if (is RD c || is MRR c) t m x.turn;
}

-- PRE of one bank, and AP
unfoldable pub shuts : rules.Command → Bool
shuts c = is PRE c || ((is RD c || is WR c) && ap_of c)

unfoldable pub opened_after : rules.Command → List Bool → List Bool
opened_after c o =
    let cleared = cond (is PREA c) (replicate 8 false) o in
    let shut = cond (shuts c) (set cleared (bank_of c) false) cleared in
    cond (is ACT c) (set shut (bank_of c) true) shut

-- the stamps of each bank alone
unfoldable pub stamped_after : rules.Command → (counter stamp : ℕ) → Modes → Banks → Banks
stamped_after c n t m x =
    let k = bank_at c n in
    record {
      opened = x.opened;
      refpb = each_if (is REFPB c) k t x.refpb;
      pre = each_if (is PRE c) (bank_of c) t x.pre;
      act = each_if (is ACT c) k t x.act;
      rd = each_if (is RD c) k t x.rd;
      rda = each_if (is RD c && ap_of c) k t x.rda;
      wr = noted_each_if (is WR c) k t m x.wr;
      wra = noted_each_if (is WR c && ap_of c) k t m x.wra;
    }

unfoldable pub banks_after : rules.Command → (counter stamp : ℕ) → Modes → Banks → Banks
banks_after c n t m x =
    let y = stamped_after c n t m x in
    record {
      opened = opened_after c x.opened;
      refpb = y.refpb;
      pre = y.pre;
      act = y.act;
      rd = y.rd;
      rda = y.rda;
      wr = y.wr;
      wra = y.wra;
    }

unfoldable pub share_after : Share → rules.Command → Move → (stamp : ℕ) → Ledger → Share
share_after s c v t g = record {
  modes = modes_after c s.modes;
  counter = counter_on c v s.counter;
  latest = latest_after c t s.latest;
  moves = moves_after v t s.moves;
  bus = bus_after c t s.modes s.bus;
  four = four_after c t s.four;
  banks = banks_after c s.counter t s.modes s.banks;
  ledger = g;
}

abbrev pub with_ledger : Share → Ledger → Share
with_ledger s g = record {
  modes = s.modes;
  counter = s.counter;
  latest = s.latest;
  moves = s.moves;
  bus = s.bus;
  four = s.four;
  banks = s.banks;
  ledger = g;
}

-- of a part whose own entry it is, or is not
unfoldable pub share_taken : (own : Bool) → Share → rules.Command → Move → (stamp : ℕ) → Ledger → Share
share_taken own s c v t g = cond own (share_after s c v t g) (with_ledger s g)

-- the share to the bit, and what it then is to the rules
pub record ShareChanged (own : Bool) (s : Share) (stamp : ℕ) (c : rules.Command) (v : Move) (g : Ledger) (r : Share) : Type 0 where
  pub is : r ≡ share_taken own s c v stamp g
  pub lent : (last : Option ℕ) → (own ≡ true → ShareArgs last s stamp c) → share_of r ≡ share_behind own c v stamp (ledger_of g) (share_of s)

unfoldable pub record_after : Record → Whose → rules.Command → Move → (stamp : ℕ) → Ledgers → Pace → Record
record_after r w c v t g z = record {
  card = r.card;
  last = once_at t;
  pace = z;
  first = share_taken (is_of 0 w) r.first c v t g.first;
  second = share_taken (is_of 1 w) r.second c v t g.second;
}

-- part p's
unfoldable pub ledger_in : Ledgers → ℕ → lent.Ledger
ledger_in g p = ledger_of (cond (eqb p 0) g.first g.second)

-- the record to the bit, and what it then is to the rules
pub record Changed (r : Record) (stamp : ℕ) (w : Whose) (c : rules.Command) (v : Move) (g : Ledgers) (z : Pace) (s : Record) : Type 0 where
  pub is : s ≡ record_after r w c v stamp g z
  pub lent : ((p : ℕ) → is_of p w ≡ true → AfterArgs r p stamp c) → lent_of s ≡ after_command (lent_of r) w c v stamp (ledger_in g) (pace_of z)
