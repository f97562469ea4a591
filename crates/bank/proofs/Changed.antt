-- The record after an entry is the rules' record after it.
use Prim.Native.Nat.{ℕ, zero, suc, ◌/◌, ◌^◌, ◌≤◌}
use mathlib.Core.Path.{◌≡◌, refl, ap, sym, subst, ◌∙◌}
use mathlib.Core.Bool.{Bool, true, false, cond, ◌&&◌, ◌||◌}
use mathlib.Core.Option.{Option, none, some}
use native.Mathlib.Omega.{arith}
use lib.Dec.{ltb, eqb}
use borrow.Author.Tests.{leb-true, le-ltb}
use Rattle.rules.specs.Bits.{on}
use Rattle.rules.specs.Card.{Card}
use Rattle.rules.specs.Commands.{Command, bank_of, carries, bare}
use Rattle.rules.specs.Whose.{Whose, is_of, whose}
use Rattle.rules.specs.Levels.{Level, Move, Read, plain, moved, asleep, barred, clash, sensed, read_pins, seen, selected, read_pair, read_as}
use Rattle.rules.specs.Past.{writes_ma, register_after, mr2_after, mr1_after, modes_after}
use Rattle.rules.specs.Delays.{
  Ask,
  last_mrw,
  last_mrr,
  last_refab,
  last_refpb,
  last_refpb_to,
  last_pre_to,
  last_prea_to,
  last_act_to,
  fourth_last,
  last_rd,
  last_wr,
  last_rd_or_mrr,
  last_rd_to,
  last_rda_to,
  last_wr_to,
  last_wra_to,
  last_fall,
  last_power_exit,
  last_self_exit,
}
use Rattle.rules.specs.Entries.{Body, pins, mr4, Entry, read_body, read, whose_body, whose_of, command_of, recorded_as}
use Rattle.rules.specs.Lent as lent
use Rattle.rules.specs.Lent.{lent_good, has_part, above_last, command_in, move_in, ledger_with, pace_with, share_after, share_with, lent_after}
use Rattle.rules.specs.Pins.{decode, good, wrong_bits, reserved}
use Rattle.rules.proofs.Filtered.{mr4_nop, own_is_part}
use Rattle.rules.proofs.Sound.{SoundShare, sound}
use Rattle.rules.proofs.Writable.{bounded}
use Rattle.rules.proofs.ReadWrite.{read_fits}
use Rattle.rules.proofs.Waking.{read_decoded}
use Rattle.card.specs.Values.{mr1_if, modes_of, card_of}
use Rattle.card.specs.declared.Modes.{Modes}
use Rattle.pins.proofs.Rounds.{counter_on_lem}
use Rattle.ledger.specs.Values.{ledger_of, pace_of}
use Rattle.ledger.specs.declared.Ledger.{Ledger}
use Rattle.ledger.specs.declared.Pace.{Pace}
use Rattle.bank.specs.Values.{pre_of, prea_of, asked, last_of, share_of, share_at, share_in, lent_of}
use Rattle.bank.specs.After.{ShareArgs, AfterArgs, ShareChanged, Changed, once_at, share_behind, share_taken, after_command, banks_after, record_after, ledger_in}
use Rattle.bank.specs.After as code
use Rattle.bank.specs.declared.Share.{Share}
use Rattle.bank.specs.declared.Ledgers.{Ledgers}
use Rattle.bank.specs.declared.Record.{Record}
use Rattle.bank.proofs.Sizes.{ShareWhole, Whole}
use Rattle.bank.proofs.Places.{opened_after_lem}
use Rattle.bank.proofs.Shares.{share_in_lem, is_low, high_none, first_is, second_is}
use Rattle.bank.proofs.Asked.{remembers}

-- ---- what is read off pins, or of a temperature, is recorded with no bank above 7
decoded_low : (p : ℕ) (c : Command) → decode p ≡ good c → bank_of c ≤ 7
unfolding bank_of
decoded_low p c e = let (w, s) = read_fits p c e in (bounded c w s).0.bank

read_low : (r : Read) → ((c : Command) → r ≡ plain (good c) → bank_of c ≤ 7) → bank_of (recorded_as r) ≤ 7
unfolding recorded_as command_of
read_low (plain (good c)) h = h c refl
read_low (plain wrong_bits) h = unfold bank_of carries bare in omega arith
read_low (plain reserved) h = unfold bank_of carries bare in omega arith
read_low (moved m) h = unfold bank_of carries bare in omega arith
read_low asleep h = unfold bank_of carries bare in omega arith
read_low barred h = unfold bank_of carries bare in omega arith
read_low clash h = unfold bank_of carries bare in omega arith
read_low (sensed v) h = unfold bank_of carries bare in omega arith

seen_low : (p : ℕ) → bank_of (recorded_as (plain (decode p))) ≤ 7
seen_low p = read_low (plain (decode p)) (λ c e. decoded_low p c (let z : decode p ≡ good c = cc in z))

selected_low : (a b : Bool) (p : ℕ) → bank_of (recorded_as (selected a b p)) ≤ 7
unfolding selected
selected_low false true p = seen_low (seen p)
selected_low true false p = seen_low (seen p)
selected_low true true p = unfold recorded_as command_of bank_of carries bare in omega arith
selected_low false false p = unfold recorded_as bank_of carries bare in omega arith

pub recorded_bank : (sleeps paired : Bool) (l : Level) (p : ℕ) → bank_of (recorded_as (read_as sleeps paired l p)) ≤ 7
unfolding read_as
recorded_bank true paired l p = read_low (read_pins true l p) (λ c e. decoded_low p c (read_decoded true l p c e))
recorded_bank false false l p = read_low (read_pins false l p) (λ c e. decoded_low p c (read_decoded false l p c e))
recorded_bank false true l p = unfold read_pair in go (on p 21 && eqb (p / 2 ^ 23) 0)
  where
    go : (x : Bool) → bank_of (recorded_as (cond x (selected (on p 20) (on p 22) p) (plain wrong_bits))) ≤ 7
    go true = selected_low (on p 20) (on p 22) p
    go false = unfold recorded_as command_of bank_of carries bare in omega arith

pub entry_bank : (card : Card) (l : Level) (e : Entry) → bank_of (recorded_as (read card l e)) ≤ 7
unfolding read
entry_bank card l e = go e.body
  where
    go : (b : Body) → bank_of (recorded_as (read_body card l b)) ≤ 7
    go (pins p) = unfold read_body in recorded_bank card.sleeps card.paired l p
    go (mr4 v) = unfold read_body in rw (mr4_nop card.sleeps card.paired l v) (unfold bank_of carries bare in omega arith)

-- ---- of a share
modes_after_lem : (c : Command) (m : Modes) → modes_of (code.modes_after c m) ≡ modes_after c (modes_of m)
unfolding modes_of code.modes_after modes_after mr2_after mr1_after register_after mr1_if
modes_after_lem c m = λ i. record { mr2 = mr2_after c m.mr2; mr1 = go (writes_ma 1 c) i }
  where
    go : (b : Bool) → cond (b || m.programmed) (some (cond b (carries c).op m.mr1)) none ≡ cond b (some (carries c).op) (cond m.programmed (some m.mr1) none)
    go true = refl
    go false = refl

module _ (last : Option ℕ) (s : Share) (c : Command) (v : Move) (t : ℕ) (g : Ledger) (w : ShareWhole s) (a : ShareArgs last s t c) where
  pub share_after_lem : share_of (code.share_after s c v t g) ≡ share_after c v t (ledger_of g) (share_of s)
  unfolding share_of code.share_after banks_after share_after
  share_after_lem = λ i. record {
    modes = modes_after_lem c s.modes i;
    open? = λ b. opened_after_lem c s.banks.opened b w.opened a.bank i;
    counter = counter_on_lem c v s.counter a.counter i;
    history = λ q. remembers last s c v t g w a q.ask q.bank i;
    ledger = ledger_of g;
  }

-- the ledger is not asked
asked_same : (s : Share) (g : Ledger) (q : Ask) (b : ℕ) → asked (code.with_ledger s g) q b ≡ asked s q b
unfolding asked pre_of prea_of
asked_same s g last_mrw b = refl
asked_same s g last_mrr b = refl
asked_same s g last_refab b = refl
asked_same s g last_refpb b = refl
asked_same s g last_refpb_to b = refl
asked_same s g last_pre_to b = refl
asked_same s g last_prea_to b = refl
asked_same s g last_act_to b = refl
asked_same s g fourth_last b = refl
asked_same s g last_rd b = refl
asked_same s g last_wr b = refl
asked_same s g last_rd_or_mrr b = refl
asked_same s g last_rd_to b = refl
asked_same s g last_rda_to b = refl
asked_same s g last_wr_to b = refl
asked_same s g last_wra_to b = refl
asked_same s g last_fall b = refl
asked_same s g last_power_exit b = refl
asked_same s g last_self_exit b = refl

pub share_ledger : (s : Share) (g : Ledger) → share_of (code.with_ledger s g) ≡ lent.with_ledger (ledger_of g) (share_of s)
unfolding share_of lent.with_ledger
share_ledger s g = λ i. record {
  modes = modes_of s.modes;
  open? = (share_of s).open?;
  counter = s.counter;
  history = λ q. asked_same s g q.ask q.bank i;
  ledger = ledger_of g;
}

share_taken_lem : (own : Bool) (s : Share) (c : Command) (v : Move) (t : ℕ) (g : Ledger) → ShareWhole s → (last : Option ℕ) → (own ≡ true → ShareArgs last s t c) →
    share_of (share_taken own s c v t g) ≡ share_behind own c v t (ledger_of g) (share_of s)
unfolding share_taken share_behind
share_taken_lem true s c v t g w last a = share_after_lem last s c v t g w (a refl)
share_taken_lem false s c v t g w last a = share_ledger s g

pub share_changed : (own : Bool) (s : Share) (c : Command) (v : Move) (t : ℕ) (g : Ledger) → ShareWhole s → (r : Share) → r ≡ share_taken own s c v t g → ShareChanged own s t c v g r
share_changed own s c v t g w r e = record { is = e; lent = λ last a. ap share_of e ∙ share_taken_lem own s c v t g w last a }

-- ---- of the record
module _ (r : Record) (w : Whose) (c : Command) (v : Move) (t : ℕ) (g : Ledgers) (z : Pace) (f h : Share)
    (a : ShareChanged (is_of 0 w) r.first t c v g.first f) (b : ShareChanged (is_of 1 w) r.second t c v g.second h) where
  abbrev next : Record
  next = record { card = r.card; last = once_at t; pace = z; first = f; second = h }

  next_is : next ≡ record_after r w c v t g z
  unfolding record_after
  next_is = λ i. record { card = r.card; last = once_at t; pace = z; first = a.is i; second = b.is i }

  next_lent : ((p : ℕ) → is_of p w ≡ true → AfterArgs r p t c) → lent_of next ≡ after_command (lent_of r) w c v t (ledger_in g) (pace_of z)
  unfolding lent_of after_command last_of
  next_lent args = λ i. record { card = card_of r.card; last = some t; pace = pace_of z; share = λ p. each_share p i }
    where
      each_share : (p : ℕ) → share_in next p ≡ cond (ltb p 2) (share_behind (is_of p w) c v t (ledger_in g p) (share_in r p)) (share_in r p)
      each_share zero = unfold share_in ledger_in in a.lent (last_of r.last) (args 0)
      each_share (suc zero) = unfold share_in ledger_in in b.lent (last_of r.last) (args 1)
      each_share (suc (suc p)) = unfold share_in in rw (le-ltb (suc (suc p)) 2 (omega arith))

  pub changed : (s : Record) → s ≡ next → Changed r t w c v g z s
  changed s e = record { is = e ∙ next_is; lent = λ args. ap lent_of e ∙ next_lent args }

-- a share that was taken as its own or not, where that is a fact to be shown
pub share_by : (o own : Bool) (s : Share) (c : Command) (v : Move) (t : ℕ) (g : Ledger) (r : Share) → ShareChanged o s t c v g r → o ≡ own → ShareChanged own s t c v g r
share_by o own s c v t g r h e = rw (← e) h

module _ (r : Record) (w : Whose) (c : Command) (v : Move) (t : ℕ) (g : Ledgers) (z : Pace) (arrays : Whole r) (args : (p : ℕ) → is_of p w ≡ true → AfterArgs r p t c) where
  pub record_after_lem : lent_of (record_after r w c v t g z) ≡ after_command (lent_of r) w c v t (ledger_in g) (pace_of z)
  unfolding record_after
  record_after_lem =
      next_lent r w c v t g z (share_taken (is_of 0 w) r.first c v t g.first) (share_taken (is_of 1 w) r.second c v t g.second)
      (share_changed (is_of 0 w) r.first c v t g.first arrays.first _ refl)
      (share_changed (is_of 1 w) r.second c v t g.second arrays.second _ refl) args

-- what a sound record and a rising stamp give
pub good_args : (r : Record) (e : Entry) (c : Command) → lent_good (lent_of r) ≡ true → above_last (lent_of r).last e.stamp ≡ true → bank_of c ≤ 7 →
    (p : ℕ) → is_of p (whose_of (lent_of r).card e) ≡ true → AfterArgs r p e.stamp c
unfolding lent_of share_of
good_args r e c whole rising bank p own =
    let i = own_is_part (card_of r.card) e p own in
    let s : SoundShare (card_of r.card) (last_of r.last) (share_of (share_at r p)) =
    subst (SoundShare (card_of r.card) (last_of r.last)) (share_in_lem r p (is_low (card_of r.card) p i)) ((sound (lent_of r) whole).part p i) in
    record { stamps = s.stamps; rising = rising; counter = leb-true (share_at r p).counter 7 s.counter; bank = bank }

-- a part that is not there
second_not : (card : Card) (e : Entry) → card.paired ≡ false → is_of 1 (whose_of card e) ≡ false
unfolding whose_of
second_not card e n = rw n (go e.body)
  where
    go : (b : Body) → is_of 1 (whose_body false b) ≡ false
    go (pins p) = unfold whose_body whose is_of in refl
    go (mr4 v) = unfold whose_body is_of in refl

stays_behind : (c : Command) (v : Move) (t : ℕ) (s : lent.Share) (own : Bool) (k : lent.Ledger) → own ≡ false → k ≡ s.ledger → s ≡ share_behind own c v t k s
unfolding share_behind lent.with_ledger
stays_behind c v t s own k o h = rw (o, h)

-- with these ledgers and this pace it is the rules' record after the entry: nothing is read in `after_command`
module _ (r : Record) (e : Entry) (g : Ledgers) (z : Pace) (first : ledger_of g.first ≡ ledger_with (lent_of r) e 0)
    (second : ledger_of g.second ≡ cond r.card.paired (ledger_with (lent_of r) e 1) (ledger_of r.second.ledger)) (spaced : pace_of z ≡ pace_with (lent_of r) e) where
  abbrev w : Whose
  w = whose_of (lent_of r).card e

  abbrev behind : ℕ → lent.Ledger → lent.Share
  behind p k = share_behind (is_of p w) (command_in (lent_of r) e) (move_in (lent_of r) e) e.stamp k ((lent_of r).share p)

  alone_second : (x : Bool) → r.card.paired ≡ x → ledger_of g.second ≡ cond x (ledger_with (lent_of r) e 1) (ledger_of r.second.ledger) →
      cond x (share_with (lent_of r) e 1) ((lent_of r).share 1) ≡ behind 1 (ledger_of g.second)
  alone_second true n h = unfold share_with share_behind in ap (behind 1) (sym h)
  alone_second false n h = stays_behind _ _ e.stamp ((lent_of r).share 1) (is_of 1 w) (ledger_of g.second) (second_not (lent_of r).card e (unfold lent_of card_of in n)) (unfold lent_of share_in share_of in h)

  pub after_is : lent_after (lent_of r) e ≡ after_command (lent_of r) w (command_in (lent_of r) e) (move_in (lent_of r) e) e.stamp (ledger_in g) (pace_of z)
  unfolding lent_after after_command
  after_is = λ i. record { card = (lent_of r).card; last = some e.stamp; pace = sym spaced i; share = λ p. each_share p i }
    where
      each_share : (p : ℕ) → cond (has_part (lent_of r).card p) (share_with (lent_of r) e p) ((lent_of r).share p) ≡ cond (ltb p 2) (behind p (ledger_in g p)) ((lent_of r).share p)
      each_share zero = unfold ledger_in in rw (first_is (lent_of r).card) (unfold share_with share_behind in ap (behind 0) (sym first))
      each_share (suc zero) =
          unfold ledger_in in rw (second_is (lent_of r).card) (unfold lent_of card_of in alone_second r.card.paired refl second)
      each_share (suc (suc p)) = rw (le-ltb (suc (suc p)) 2 (omega arith), high_none (lent_of r).card (suc (suc p)) (omega arith))
