-- The record of the code, read as the lent record of the rules.
use Rattle.std.specs.Prelude.{ℕ, Bool, false, cond, ◌&&◌, List, [], ◌∷◌, ltb, eqb, get_or, take, replicate}
use Rattle.std.proofs.Math.Option.{Option, none, some}
use Rattle.rules.specs.Registers as registers
use Rattle.rules.specs.Whose.{other}
use Rattle.rules.specs.Folds.{Found}
use Rattle.rules.specs.Delays.{
  Ask,
  last_mrw,
  last_mrr,
  last_refab,
  last_refpb,
  last_refpb_to,
  last_pre_to,
  last_prea_to,
  last_act_to,
  fourth_last,
  last_rd,
  last_wr,
  last_rd_or_mrr,
  last_rd_to,
  last_rda_to,
  last_wr_to,
  last_wra_to,
  last_fall,
  last_power_exit,
  last_self_exit,
  unnoted,
  Answers,
}
use Rattle.rules.specs.Lent as lent
use Rattle.card.specs.Values.{modes_of, card_of}
use Rattle.card.specs.declared.Card.{Card}
use Rattle.card.specs.declared.Modes.{Modes}
use Rattle.pins.specs.declared.Level.TheVariants.{Awake}
use Rattle.ledger.specs.Values.{ledger_of, pace_of, pace_in}
use Rattle.bank.specs.declared.Once.{Once}
use Rattle.bank.specs.declared.Noted.{Noted}
use Rattle.bank.specs.declared.Each.{Each}
use Rattle.bank.specs.declared.NotedEach.{NotedEach}
use Rattle.bank.specs.declared.Four.{Four}
use Rattle.bank.specs.declared.Bus.{Bus}
use Rattle.bank.specs.declared.Share.{Share}
use Rattle.bank.specs.declared.Record.{Record}

-- an entry that is remembered, if it is there, with what is noted of it
abbrev pub entry : (at : ℕ) → registers.Modes → Found registers.Modes
entry t n = record { stamp = t; noted = n }

unfoldable pub kept : (seen : Bool) → (at : ℕ) → registers.Modes → List (Found registers.Modes)
kept s t n = cond s (entry t n ∷ []) []

unfoldable pub once : Once → List (Found registers.Modes)
once x = kept x.seen x.at unnoted

unfoldable pub noted : Noted → List (Found registers.Modes)
noted x = kept x.seen x.at (modes_of x.modes)

unfoldable pub each : Each → ℕ → List (Found registers.Modes)
each x b = kept (get_or x.seen b false) (get_or x.at b 0) unnoted

-- registers that no one set
abbrev pub no_modes : Modes
no_modes = record { mr2 = 0; programmed = false; mr1 = 0 }

unfoldable pub noted_each : NotedEach → ℕ → List (Found registers.Modes)
noted_each x b = kept (get_or x.seen b false) (get_or x.at b 0) (modes_of (get_or x.modes b no_modes))

abbrev pub place : Four → ℕ → Found registers.Modes
place x k = entry (get_or x.at k 0) unnoted

unfoldable pub four : Four → List (Found registers.Modes)
four x = take x.count (place x 0 ∷ place x 1 ∷ place x 2 ∷ place x 3 ∷ [])

-- both were seen, and the second came later
unfoldable pub outweighed : (seen later : Bool) → (at other : ℕ) → Bool
outweighed s r t u = s && r && ltb t u

unfoldable pub pre_of : Share → ℕ → List (Found registers.Modes)
pre_of s b =
    let p = s.banks.pre in
    let a = s.latest.prea in
    cond (outweighed (get_or p.seen b false) a.seen (get_or p.at b 0) a.at) [] (each p b)

unfoldable pub prea_of : Share → ℕ → List (Found registers.Modes)
prea_of s b =
    let p = s.banks.pre in
    let a = s.latest.prea in
    cond (outweighed a.seen (get_or p.seen b false) a.at (get_or p.at b 0)) [] (once a)

-- what it remembers, by question
unfoldable pub asked : Share → Ask → ℕ → List (Found registers.Modes)
asked s last_mrw b = once s.latest.mrw
asked s last_mrr b = once s.latest.mrr
asked s last_refab b = once s.latest.refab
asked s last_refpb b = once s.latest.refpb
asked s last_refpb_to b = each s.banks.refpb b
asked s last_pre_to b = pre_of s b
asked s last_prea_to b = prea_of s b
asked s last_act_to b = each s.banks.act b
asked s fourth_last b = four s.four
asked s last_rd b = once s.bus.rd
asked s last_wr b = noted s.bus.wr
asked s last_rd_or_mrr b = noted s.bus.turn
asked s last_rd_to b = each s.banks.rd b
asked s last_rda_to b = each s.banks.rda b
asked s last_wr_to b = noted_each s.banks.wr b
asked s last_wra_to b = noted_each s.banks.wra b
asked s last_fall b = once s.moves.fall
asked s last_power_exit b = once s.moves.power_exit
asked s last_self_exit b = once s.moves.self_exit

unfoldable pub last_of : Once → Option ℕ
last_of x = cond x.seen (some x.at) none

unfoldable pub share_of : Share → lent.Share
share_of s = record {
  modes = modes_of s.modes;
  open? = λ b. get_or s.banks.opened b false;
  counter = s.counter;
  history = λ q. asked s q.ask q.bank;
  ledger = ledger_of s.ledger;
}

-- part p's, of a record that has it; a share that is not there is fresh
abbrev pub share_at : Record → ℕ → Share
share_at r p = cond (eqb p 0) r.first r.second

unfoldable pub share_in : Record → ℕ → lent.Share
share_in r p = cond (ltb p 2) (share_of (share_at r p)) (lent.fresh_share (card_of r.card))

unfoldable pub lent_of : Record → lent.Lent
lent_of r = record { card = card_of r.card; last = last_of r.last; pace = pace_of r.pace; share = share_in r }

-- what a part's bus answers: the latest RD, WR, and RD or MRR. It is not asked more
unfoldable pub heard : Bus → Ask → List (Found registers.Modes)
heard x last_mrw = []
heard x last_mrr = []
heard x last_refab = []
heard x last_refpb = []
heard x last_refpb_to = []
heard x last_pre_to = []
heard x last_prea_to = []
heard x last_act_to = []
heard x fourth_last = []
heard x last_rd = once x.rd
heard x last_wr = noted x.wr
heard x last_rd_or_mrr = noted x.turn
heard x last_rd_to = []
heard x last_rda_to = []
heard x last_wr_to = []
heard x last_wra_to = []
heard x last_fall = []
heard x last_power_exit = []
heard x last_self_exit = []

unfoldable pub bus_look : Bus → Answers
bus_look x = lent.look_in (λ q. heard x q.ask)

-- a fresh record
unfoldable pub never : Once
never = record { seen = false; at = 0 }

unfoldable pub never_noted : Noted
never_noted = record { seen = false; at = 0; modes = no_modes }

unfoldable pub never_each : Each
never_each = record { seen = replicate 8 false; at = replicate 8 0 }

unfoldable pub never_noted_each : NotedEach
never_noted_each = record { seen = replicate 8 false; at = replicate 8 0; modes = replicate 8 no_modes }

unfoldable pub never_four : Four
never_four = record { count = 0; at = replicate 4 0 }

unfoldable pub idle_bus : Bus
idle_bus = record { rd = never; wr = never_noted; turn = never_noted }

unfoldable pub fresh_share : Modes → Share
fresh_share m = record {
  modes = m;
  counter = 0;
  latest = record {
    mrw = never;
    mrr = never;
    refab = never;
    refpb = never;
    prea = never;
  };
  moves = record {
    fall = never;
    power_exit = never;
    self_exit = never;
  };
  bus = idle_bus;
  four = never_four;
  banks = record {
    opened = replicate 8 false;
    refpb = never_each;
    pre = never_each;
    act = never_each;
    rd = never_each;
    rda = never_each;
    wr = never_noted_each;
    wra = never_noted_each;
  };
  ledger = record { at = 0; owed = 8; since = 0; skipped = 0; level = Awake };
}

-- what a card starts with
abbrev pub start_of : Card → Modes
start_of card = record { mr2 = card.mr2; programmed = card.programmed; mr1 = card.mr1 }

unfoldable pub fresh_of : Card → Record
fresh_of card = record {
  card = card;
  last = never;
  pace = pace_in (lent.start_pace (card_of card));
  first = fresh_share (start_of card);
  second = fresh_share (start_of card);
}

-- the other part's bus, as part p sees it; nothing was heard of a part that is not there
unfoldable pub theirs_of : Record → ℕ → Bus
theirs_of r p = cond r.card.paired (share_at r (other p)).bus idle_bus
