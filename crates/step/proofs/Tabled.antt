-- One entry by the table, as the code finds it, is a part of the run, whatever the share that is not looked at holds.
use Prim.Native.Nat.{ℕ}
use mathlib.Core.Path.{◌≡◌, refl, ap, sym, ◌∙◌}
use mathlib.Core.Bool.{true, false, cond}
use mathlib.Core.List.{List}
use mathlib.Core.Option.{Option, none, some}
use Rattle.std.specs.Prelude.{Some, None, is_some}
use Rattle.rules.specs.Heat.{delays_at}
use Rattle.rules.specs.Commands.{Command, NOP, is}
use Rattle.rules.specs.Whose.{sole, is_of, part_of, other}
use Rattle.rules.specs.Past.{is_counted}
use Rattle.rules.specs.Levels.{Level, Move, Read, read_as}
use Rattle.rules.specs.Entries.{Entry, entry, recorded_as, move_of}
use Rattle.rules.specs.Checks as checks
use Rattle.rules.specs.Lent.{Ledger, Effect, effect_of, entered, step_refusal, enter_refusal}
use Rattle.rules.proofs.Decided.{or_else_none}
use Rattle.rules.proofs.Waking.{read_alone_lem}
use Rattle.card.specs.Values.{card_of, clocks_of}
use Rattle.card.specs.declared.Delays.{Delays}
use Rattle.pins.specs.Values.{level_of}
use Rattle.pins.specs.Fronts.{front_of}
use Rattle.pins.specs.declared.Front.{Front}
use Rattle.ledger.specs.Values as paid
use Rattle.ledger.specs.Values.{ledger_of, code_of, pace_of, is_none, unless_refused}
use Rattle.ledger.specs.declared.After.{After}
use Rattle.ledger.proofs.Promises.{code_is}
use Rattle.bank.specs.declared.Once.{Once}
use Rattle.bank.specs.declared.Bus.{Bus}
use Rattle.bank.specs.declared.Share.{Share}
use Rattle.bank.specs.Values.{last_of, share_of, share_in, lent_of, bus_look, idle_bus}
use Rattle.bank.specs.After.{once_at, share_after}
use Rattle.bank.specs.Both.{effect_for}
use Rattle.step.specs.declared.single.Single.{Single}
use Rattle.step.specs.Values.{record_with}
use Rattle.step.specs.Runs.{entry_at, takes, commands_by, refreshes_by, ran, run_of}
use Rattle.step.specs.Parts.{ruled_refusal, ruling_refusal}
use Rattle.step.specs.Single.{whole, ran_with, read_alone, read_by, effect_by, dues_by, ledger_by, refusal_by, single_with, Ready, RunsTo, TakesOne}
use Rattle.step.proofs.Split.{step_is, ruling_is}
use Rattle.step.proofs.Paced.{single_pace}
use Rattle.step.proofs.Farther.{behind_none}
use Rattle.step.proofs.Onward.{takes_if, run_on, run_stops}
use Rattle.step.proofs.Alone.{sole_here, told_alone, reads, commands_by_lem, refreshes_by_lem, good, refusals, idle_heard, record_with_lem}

-- ---- by what refuses it
module _ (s : Single) (bs : List ℕ) where
  takes_none : ((x : Share) → takes (whole x s) bs ≡ false) → TakesOne s bs None
  unfolding ran_with
  takes_none e = record { is = λ x. sym (run_stops (whole x s) bs (e x) 1); ten = λ g h. absurd cc }

  pub table_none : front_of bs ≡ None → TakesOne s bs None
  unfolding takes
  table_none e = takes_none (λ x. rw e)

module _ (d : Delays) (s : Single) (ready : Ready s d) (e : Entry) where
  -- what is ruled of the entry is what refuses it
  table_told : refusal_by s e ≡ ruled_refusal (card_of s.card) (last_of s.last) (delays_at (card_of s.card) s.pace.mr4) (share_of s.share) (bus_look idle_bus)
      (read_by s e) e.stamp (enter_refusal (effect_by s e) (card_of s.card) (pace_of s.pace) (ledger_of s.share.ledger) e.stamp)
  unfolding lent_of pace_of share_in share_of ledger_of part_of other is_of effect_for effect_by
  table_told =
      let x = s.share in
      let l = lent_of (whole x s) in
      let passes = good x s ready.single ∙ ready.sound in
      let delays = delays_at (card_of s.card) s.pace.mr4 in
      let parted : step_refusal l e ≡ ruling_refusal delays l sole (read_by s e) e.stamp =
      step_is l e passes ∙ (λ i. ruling_refusal delays l (sole_here x s ready.single e i) (reads x s ready.single e i) e.stamp) in
      sym (refusals x s ready.single e) ∙ parted ∙ sym (ruling_is delays l sole (read_by s e) e.stamp (bus_look idle_bus) (idle_heard x s ready.single))
      ∙ ap (ruled_refusal (card_of s.card) (last_of s.last) delays (share_of s.share) (bus_look idle_bus) (read_by s e) e.stamp) (told_alone x s ready.single _ _)

  module _ (bs : List ℕ) (there : is_some (front_of bs) ≡ true) (same : entry_at bs ≡ e) where
    table_refused : (z : checks.Refusal) → refusal_by s e ≡ some z → TakesOne s bs None
    unfolding takes is_none
    table_refused z told = takes_none s bs (λ x. rw (there, same, refusals x s ready.single e, told))

    module _ (told : refusal_by s e ≡ none) (next : Single) (m f : ℕ) (ns : next ≡ single_with s e) (ms : m ≡ cond (is NOP (recorded_as (read_by s e))) 0 1)
        (fs : f ≡ cond (effect_by s e).counted 1 0) where
      runs : RunsTo 1 s bs (ran next 10 m f)
      unfolding run_of ran_with
      runs x =
          let rec = whole x s in
          let on = run_on rec bs (takes_if rec bs there (rw same (refusals x s ready.single e ∙ told))) 0 in
          let commands : m ≡ commands_by rec e = ms ∙ sym (commands_by_lem x s ready.single e) in
          let refreshes : f ≡ refreshes_by rec e = fs ∙ sym (refreshes_by_lem x s ready.single e) in
          (λ i. ran (whole x (ns i)) 10 (commands i) (refreshes i))
          ∙ (λ i. ran (sym (record_with_lem x s ready.single e) i) 10 (commands_by rec e) (refreshes_by rec e))
          ∙ (λ i. ran (record_with rec (sym same i)) 10 (commands_by rec (sym same i)) (refreshes_by rec (sym same i)))
          ∙ sym (behind_none (ran (record_with rec (entry_at bs)) 10 (commands_by rec (entry_at bs)) (refreshes_by rec (entry_at bs)))) ∙ sym on

      table_taken : TakesOne s bs (Some (ran next 10 m f))
      table_taken = record { is = runs; ten = λ g h. let t : g ≡ ran next 10 m f = cc in rw t }

-- ---- as the code finds it
pub record Seen (d : Delays) (s : Single) (bs : List ℕ) (f : Front) (x : Read) (y : Effect) (bus : Bus) (a : After) (o : Option checks.Refusal) : Type 0 where
  pub front : front_of bs ≡ Some f
  pub read : x ≡ read_as s.card.sleeps false (level_of s.share.ledger.level) f.pins
  pub effect : y ≡ effect_of x s.share.counter
  pub idle : bus ≡ idle_bus
  pub account : paid.Left (enter_refusal y (card_of s.card) (pace_of s.pace) (ledger_of s.share.ledger) f.stamp) (ledger_of s.share.ledger)
      (entered y (dues_by s) (ledger_of s.share.ledger) f.stamp) a
  pub told : o ≡ ruled_refusal (card_of s.card) (last_of s.last) (clocks_of d) (share_of s.share) (bus_look bus) x f.stamp (paid.refusal_of a.answer)

module _ {d : Delays} {s : Single} {bs : List ℕ} {f : Front} {x : Read} {y : Effect} {bus : Bus} {a : After} {o : Option checks.Refusal}
    (ready : Ready s d) (seen : Seen d s bs f x y bus a o) where
  abbrev level : Level
  level = level_of s.share.ledger.level

  abbrev g : Ledger
  g = ledger_of s.share.ledger

  abbrev e : Entry
  e = entry f.stamp f.pins

  read_so : x ≡ read_by s e
  unfolding read_by read_alone
  read_so = seen.read ∙ read_alone_lem s.card.sleeps level f.pins

  effect_so : y ≡ effect_by s e
  unfolding effect_by
  effect_so = seen.effect ∙ ap (λ (r : Read). effect_of r s.share.counter) read_so

  paid_so : paid.refusal_of a.answer ≡ enter_refusal (effect_by s e) (card_of s.card) (pace_of s.pace) g f.stamp
  paid_so = seen.account.told ∙ (λ i. enter_refusal (effect_so i) (card_of s.card) (pace_of s.pace) g f.stamp)

  told_so : refusal_by s e ≡ o
  told_so =
      table_told d s ready e
      ∙ sym
      (seen.told
      ∙ (λ i. ruled_refusal (card_of s.card) (last_of s.last) (ready.clocks i) (share_of s.share) (bus_look (seen.idle i)) (read_so i) f.stamp (paid_so i)))

  there : is_some (front_of bs) ≡ true
  there = rw seen.front

  same : entry_at bs ≡ e
  same = rw seen.front

  pub seen_refused : (z : checks.Refusal) → o ≡ some z → TakesOne s bs None
  seen_refused z h = table_refused d s ready e bs there same z (told_so ∙ h)

  module _ (n : o ≡ none) where
    -- where none of it is refused the account is not
    ledger_so : a.ledger ≡ code_of (ledger_by s e)
    unfolding ruled_refusal ledger_by
    ledger_so =
        let p = or_else_none _ _ (sym seen.told ∙ n) in
        let q = or_else_none _ _ p.1 in
        let free : enter_refusal y (card_of s.card) (pace_of s.pace) g f.stamp ≡ none = sym seen.account.told ∙ q.1 in
        let here : ledger_of a.ledger ≡ entered y (dues_by s) g f.stamp = seen.account.ledger ∙ rw free (unfold unless_refused in refl) in
        sym (code_is a.ledger) ∙ ap code_of (here ∙ (λ i. entered (effect_so i) (dues_by s) g f.stamp))

    pub seen_taken : (c : Command) (v : Move) → c ≡ recorded_as x → v ≡ move_of x
        → (last : Once) → last ≡ once_at f.stamp → (share : Share) → share ≡ share_after s.share c v f.stamp a.ledger
        → (m k : ℕ) → m ≡ cond (is NOP c) 0 1 → k ≡ cond (is_counted c s.share.counter) 1 0
        → TakesOne s bs (Some (ran (record { card = s.card; last = last; pace = s.pace; share = share }) 10 m k))
    unfolding single_with effect_by effect_of
    seen_taken c v cs vs last ls share ss m k ms ks =
        let command : c ≡ recorded_as (read_by s e) = cs ∙ ap recorded_as read_so in
        let moved : v ≡ move_of (read_by s e) = vs ∙ ap move_of read_so in
        let then : share ≡ (single_with s e).share = ss ∙ (λ i. share_after s.share (command i) (moved i) f.stamp (ledger_so i)) in
        table_taken d s ready e bs there same (told_so ∙ n) (record { card = s.card; last = last; pace = s.pace; share = share }) m k
        (λ i. record { card = s.card; last = ls i; pace = sym (single_pace s f.stamp f.pins) i; share = then i })
        (ms ∙ ap (λ (z : Command). cond (is NOP z) 0 1) command)
        (ks ∙ ap (λ (z : Command). cond (is_counted z s.share.counter) 1 0) command)
