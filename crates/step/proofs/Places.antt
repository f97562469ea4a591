-- What an entry of each kind changes, in place, is what it changes in the record.
use Prim.Native.Nat.{ℕ, ◌≤◌}
use mathlib.Core.Path.{◌≡◌, refl, ap, ◌∙◌}
use mathlib.Core.Bool.{Bool, true, false, cond}
use Rattle.rules.specs.Commands as rules
use Rattle.rules.specs.Commands.{NOP, code, bare, carries, kind_of, bank_of, ap_of, is}
use Rattle.rules.specs.Past.{writes_ma, register_after, mr2_after, bank_at, is_counted}
use Rattle.rules.specs.Levels.{Level, awake, stays, is_fall, rises_from, level_after, plain}
use Rattle.rules.specs.Account.{Beat}
use Rattle.rules.specs.Pins.{Decoded, good, wrong_bits, reserved, decode}
use Rattle.rules.specs.Entries.{entry, command_of, recorded_as, move_of, mr4_of}
use Rattle.rules.specs.Lent as lent
use Rattle.rules.specs.Lent.{is_there, effect_of, ledger_to, refreshed_at, sensed_at, at_level, entered}
use Rattle.rules.proofs.Ledgers.{moved_twice}
use Rattle.card.specs.declared.Modes.{Modes}
use Rattle.pins.specs.Values.{level_of}
use Rattle.pins.specs.Places.{bank_on, ap_on}
use Rattle.ledger.specs.Values.{ledger_of, level_in, code_of}
use Rattle.ledger.specs.declared.Ledger.{Ledger}
use Rattle.pins.specs.Counter.{counter_on}
use Rattle.bank.specs.After.{modes_after, once_at, once_if, noted_if, each_if, noted_each_if, four_after, latest_after, moves_after, bus_after, shuts, opened_after, stamped_after, banks_after, share_after}
use Rattle.bank.specs.declared.Banks.{Banks}
use Rattle.bank.specs.declared.Bus.{Bus}
use Rattle.bank.specs.declared.Four.{Four}
use Rattle.bank.specs.declared.Share.{Share}
use Rattle.step.specs.declared.single.Single.{Single}
use Rattle.step.specs.Single.{read_alone, read_by, effect_by, dues_by, ledger_by, single_with}
use Rattle.step.specs.declared.kinds.Hot.{Hot}
use Rattle.step.specs.declared.kinds.Hot.TheVariants.{Nop, Act, Rd, Wr, Pre, Cold}
use Rattle.step.specs.Ready.{hot_of}
use Rattle.step.specs.Quick.{banks_then, bus_then, four_then, hot_count, now_of, EndArgs}
use Rattle.step.proofs.Paced.{single_pace}
use Rattle.step.proofs.Levels.{Names, named_so, awake_hot}
use Rattle.step.proofs.Standing.{Stands, moved_back}

pub refpb_kept : (h : Hot) (b : ℕ) (ap : Bool) (t : ℕ) (m : Modes) (x : Banks) → (banks_then h b ap t m x).refpb ≡ x.refpb
refpb_kept Nop b ap t m x = refl
refpb_kept Act b ap t m x = refl
refpb_kept Rd b true t m x = refl
refpb_kept Rd b false t m x = refl
refpb_kept Wr b true t m x = refl
refpb_kept Wr b false t m x = refl
refpb_kept Pre b ap t m x = refl
refpb_kept Cold b ap t m x = refl

module _ (rec : Single) (banks : Banks) (bus : Bus) (four : Four) (u t p : ℕ) where
  abbrev beat : Beat
  beat = dues_by rec

  -- the record so far
  abbrev now : Single
  now = now_of rec banks bus four u

  -- with the entry
  abbrev then : Hot → Ledger → Single
  then h g = record {
    card = rec.card;
    last = once_at t;
    pace = rec.pace;
    share = record {
      modes = rec.share.modes;
      counter = rec.share.counter;
      latest = rec.share.latest;
      moves = rec.share.moves;
      bus = bus_then h t rec.share.modes bus;
      four = four_then h t four;
      banks = banks_then h (bank_on p) (ap_on p) t rec.share.modes banks;
      ledger = g;
    };
  }

  abbrev NotCold : Hot → Type 0
  NotCold h = h ≡ Cold → ⊥

  after_so : (x : Decoded) → NotCold (hot_of x) → Names p x → (g : Ledger) → share_after now.share (command_of x) stays t g ≡ (then (hot_of x) g).share
  unfolding hot_of Names command_of share_after modes_after mr2_after register_after writes_ma counter_on rises_from latest_after moves_after is_fall bus_after four_after banks_after stamped_after opened_after shuts once_if noted_if each_if noted_each_if is code kind_of carries bare bank_of ap_of bank_at
  after_so (good rules.nop) h n g = refl
  after_so (good (rules.mrw ma op)) h n g = absurd (h refl)
  after_so (good (rules.mrr ma)) h n g = absurd (h refl)
  after_so (good rules.refpb) h n g = absurd (h refl)
  after_so (good rules.refab) h n g = absurd (h refl)
  after_so (good (rules.act b row)) h n g = rw n
  after_so (good (rules.rd b k true)) h n g = rw (n.0, ← n.1)
  after_so (good (rules.rd b k false)) h n g = rw (n.0, ← n.1)
  after_so (good (rules.wr b k true)) h n g = rw (n.0, ← n.1)
  after_so (good (rules.wr b k false)) h n g = rw (n.0, ← n.1)
  after_so (good (rules.pre b)) h n g = rw n
  after_so (good rules.prea) h n g = absurd (h refl)
  after_so wrong_bits h n g = absurd (h refl)
  after_so reserved h n g = absurd (h refl)

  -- no hot command is a counted refresh, and NOP alone is not counted as a command
  plain_so : (x : Decoded) → NotCold (hot_of x) → (is_counted (command_of x) rec.share.counter ≡ false) × (cond (is NOP (command_of x)) 0 1 ≡ hot_count (hot_of x))
  unfolding hot_of hot_count is_counted command_of is code kind_of carries bare
  plain_so (good rules.nop) h = (refl, refl)
  plain_so (good (rules.mrw ma op)) h = absurd (h refl)
  plain_so (good (rules.mrr ma)) h = absurd (h refl)
  plain_so (good rules.refpb) h = absurd (h refl)
  plain_so (good rules.refab) h = absurd (h refl)
  plain_so (good (rules.act b row)) h = (refl, refl)
  plain_so (good (rules.rd b k a)) h = (refl, refl)
  plain_so (good (rules.wr b k a)) h = (refl, refl)
  plain_so (good (rules.pre b)) h = (refl, refl)
  plain_so (good rules.prea) h = absurd (h refl)
  plain_so wrong_bits h = absurd (h refl)
  plain_so reserved h = absurd (h refl)

  module _ (stands : Stands rec) (ends : EndArgs rec u) (above : u ≤ t) where
    -- moved on twice
    ledger_so : code_of (ledger_to beat (ledger_of (code_of (ledger_to beat (ledger_of rec.share.ledger) u))) t) ≡ code_of (ledger_to beat (ledger_of rec.share.ledger) t)
    ledger_so = ap (λ (g : lent.Ledger). code_of (ledger_to beat g t)) (moved_back rec u ends) ∙ ap code_of (moved_twice beat (ledger_of rec.share.ledger) u t (unfold ledger_of in ends.later) above)

    -- awake, as it began
    wakes_now : level_of now.share.ledger.level ≡ awake
    unfolding code_of ledger_to ledger_of
    wakes_now = ap (λ (l : Level). level_of (level_in l)) stands.wakes ∙ (unfold level_in level_of in refl)

    reads : NotCold (hot_of (decode p)) → read_by now (entry t p) ≡ plain (decode p)
    unfolding read_by read_alone
    reads h = rw wakes_now (awake_hot rec.card.sleeps p h)

    pub taken_so : NotCold (hot_of (decode p)) → (single_with now (entry t p) ≡ now_of rec (banks_then (hot_of (decode p)) (bank_on p) (ap_on p) t rec.share.modes banks)
        (bus_then (hot_of (decode p)) t rec.share.modes bus) (four_then (hot_of (decode p)) t four) t) × (cond (is NOP (recorded_as (read_by now (entry t p)))) 0 1 ≡ hot_count (hot_of (decode p)))
    unfolding single_with effect_by effect_of recorded_as move_of mr4_of is_there level_after ledger_by ledger_of entered refreshed_at sensed_at at_level ledger_to
    taken_so h =
        let q = plain_so (decode p) h in (
          rw (single_pace now t p, reads h, q.0) (ap onward (after_so (decode p) h (named_so p _ refl) _) ∙ ap (then (hot_of (decode p))) ledger_so),
          rw (reads h) q.1,
        )
      where
        onward : Share → Single
        onward x = record { card = rec.card; last = once_at t; pace = rec.pace; share = x }
