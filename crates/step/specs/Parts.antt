-- The parts of a step, each with its own refusals.
use Rattle.std.specs.Prelude.{ℕ, ◌+◌, ◌-◌, ◌/◌, ◌<◌, ◌^◌, ◌≡◌, Bool, true, cond, not, ◌&&◌, List, [], ◌∷◌, map, leb, eqb, drop, Result, Ok, Err, Some, unwrap_or}
use Rattle.std.specs.Prelude as rust
use Rattle.std.proofs.Math.Option.{Option, none, some}
use Rattle.rules.specs.Lists.{all}
use Rattle.rules.specs.Card.{Card}
use Rattle.rules.specs.Units.{Delays}
use Rattle.rules.specs.Heat.{delays_at}
use Rattle.rules.specs.Commands.{Command}
use Rattle.rules.specs.Whose.{Whose, is_of, part_of, other, parts}
use Rattle.rules.specs.Levels.{Read}
use Rattle.rules.specs.States.{state_good}
use Rattle.rules.specs.Folds.{or_else, first_of, first_broken}
use Rattle.rules.specs.Delays.{Answers, look_both, delay_rules}
use Rattle.rules.specs.Entries.{Body, Entry, read_body, whose_of, move_of, mr4_of, judged_as}
use Rattle.rules.specs.Checks.{Refusal, unless, named, is_wrong, is_clash, is_reserved, is_barred, code_good, value_good}
use Rattle.rules.specs.Lent.{Ledger, Share, Lent, beat_of, number_of, look_in, answers_in, above_last, not_behind, has_part, read_in, Effect, effect_of, entered, failing_of, failings_to, pace_by, ledger_good, lent_good, step_refusal}
use Rattle.card.specs.Values.{card_of, clocks_of}
use Rattle.card.specs.declared.Delays as code
use Rattle.ledger.specs.Values.{ledger_of, pace_of, pace_in}
use Rattle.ledger.specs.declared.Pace.{Pace}
use Rattle.pins.specs.declared.Undecoded.{Undecoded}
use Rattle.pins.specs.declared.Undecoded.TheVariants.{WrongBits, Reserved}
use Rattle.bank.specs.declared.Ledgers.{Ledgers}
use Rattle.bank.specs.declared.Record.{Record}
use Rattle.bank.specs.Values.{lent_of}
use Rattle.bank.specs.Both.{effect_for}
use Rattle.step.specs.declared.Ran.{Ran}
use Rattle.step.specs.declared.Stepped.{Stepped}
use Rattle.step.specs.declared.Refusal as answer
use Rattle.step.specs.declared.Refusal.TheVariants as answers
use Rattle.step.specs.Values.{refusal_of, stepped_as, Left}
use Rattle.step.specs.Runs.{ran, behind, run_of}

-- a record that 13 lets pass, and the delays of its card at its temperature
pub record Prepared (rec : Record) (delays : code.Delays) : Type 0 where
  pub good : lent_good (lent_of rec) ≡ true
  pub clocks : clocks_of delays ≡ delays_at (lent_of rec).card (lent_of rec).pace.mr4

-- ---- the stamp and the account
-- 13 of the ledgers, 5, and 11 below the stamp
unfoldable pub opening_refusal : Lent → ℕ → Option Refusal
opening_refusal l t =
    first_of (
    unless (all (λ p. ledger_good l.card (l.share p).ledger) (parts l.card)) 13 ∷
    unless (above_last l.last t && not_behind l t) 5 ∷
    named 11 (failings_to l t) ∷ []
    )

-- of what the account is refused with: all but an 11 at the stamp, and 5 by the last entry before any 11
unfoldable pub opening_of : (rises : Bool) → (stamp : ℕ) → Option Refusal → Option Refusal
opening_of rises t none = unless rises 5
opening_of rises t (some x) = cond (eqb x.number 11) (or_else (unless rises 5) (cond (leb t x.cycle) none (some x))) (some x)

-- ---- 6 to 10, 16, 24 and 26
-- pins that are no command
unfoldable pub undecoded_as : Undecoded → answer.Refusal
undecoded_as WrongBits = answers.WrongBits
undecoded_as Reserved = answers.Reserved

unfoldable pub command_refusal : Card → (ℕ → Bool) → (counter : ℕ) → Command → Option Refusal
command_refusal card is_open n c = first_of (unless (state_good is_open n c) 8 ∷ unless (value_good card c) 9 ∷ [])

unfoldable pub reading_refusal : Card → (ℕ → Bool) → (counter : ℕ) → Read → Option Refusal
reading_refusal card is_open n r =
    first_of (
    unless (not (is_wrong r)) 6 ∷
    unless (not (is_clash r)) 24 ∷
    unless (not (is_reserved r)) 7 ∷
    unless (state_good is_open n (judged_as r)) 8 ∷
    unless (not (is_barred r)) 16 ∷
    unless (value_good card (judged_as r)) 9 ∷
    unless (code_good r) 26 ∷ []
    )

-- of a part, by its share and what the other one answers
unfoldable pub judged_refusal : Card → Delays → Share → (theirs : Answers) → Read → (stamp : ℕ) → Option Refusal
judged_refusal card delays s theirs r t =
    or_else (reading_refusal card s.open? s.counter r)
    (named 10 (first_broken (look_both (look_in s.history) theirs) (delay_rules delays (judged_as r) (move_of r) s.counter) t))

-- with what the account is refused with
unfoldable pub ruled_refusal : Card → (last : Option ℕ) → Delays → Share → (theirs : Answers) → Read → (stamp : ℕ) → (told : Option Refusal) → Option Refusal
ruled_refusal card last delays s theirs r t told = or_else (opening_of (above_last last t) t told) (or_else (judged_refusal card delays s theirs r t) told)

-- ---- all of them, of an entry that is read so
unfoldable pub read_on : Lent → Whose → Body → Read
read_on l w b = read_body l.card (l.share (part_of w)).ledger.level b

unfoldable pub effect_as : Lent → Whose → Read → ℕ → Effect
effect_as l w r p = effect_for (is_of p w) (effect_of r (l.share (part_of w)).counter)

-- each part's ledger at the stamp
unfoldable pub ledger_as : Lent → Whose → Read → (stamp : ℕ) → ℕ → Ledger
ledger_as l w r t p = entered (effect_as l w r p) (beat_of l.card l.pace) (l.share p).ledger t

unfoldable pub ruling_refusal : Delays → Lent → Whose → Read → (stamp : ℕ) → Option Refusal
ruling_refusal delays l w r t =
    or_else (opening_refusal l t)
    (or_else (judged_refusal l.card delays (l.share (part_of w)) (answers_in l (other (part_of w))) r t)
    (named 11 (first_of (map (λ p. failing_of (beat_of l.card l.pace) (ledger_as l w r t p)) (parts l.card)))))

-- `told` speaks of a part that the trace has; the ledgers of an entry that is taken are each part's at the stamp
pub record Ruled (delays : Delays) (l : Lent) (w : Whose) (x : Read) (t : ℕ) (y : Result Ledgers answer.Refusal) : Type 0 where
  pub told : has_part l.card (part_of w) ≡ true → refusal_of y ≡ ruling_refusal delays l w x t
  pub first : (g : Ledgers) → y ≡ Ok g → ledger_of g.first ≡ ledger_as l w x t 0
  pub second : (g : Ledgers) → y ≡ Ok g → ledger_of g.second ≡ cond l.card.paired (ledger_as l w x t 1) (l.share 1).ledger

-- the pace then, as it is stored, by the ledgers at the stamp
abbrev pub pace_as : Record → Read → Ledgers → Pace
pace_as rec x g = pace_in (pace_by (card_of rec.card) (number_of (ledger_of g.first)) (mr4_of x) (pace_of rec.pace))

-- the record is changed where the entry is taken, and only there
unfoldable pub stepped_in : Record → Result Record answer.Refusal → Stepped
stepped_in rec (Ok next) = stepped_as next (Ok tt)
stepped_in rec (Err e) = stepped_as rec (Err e)

-- of every entry that is of this part and is read so
abbrev pub OfferedTo : Record → (stamp : ℕ) → Whose → Read → Stepped → Type 0
OfferedTo rec t w x r = (e : Entry) → e.stamp ≡ t → whose_of (lent_of rec).card e ≡ w → read_in (lent_of rec) e ≡ x → Left (step_refusal (lent_of rec) e) rec e r

-- ---- a run
-- what was run, and what was run behind it, add up in 64 bits
pub record Fits (u m f u' m' f' : ℕ) : Type 0 where
  pub used : u + u' < 2 ^ 64
  pub commands : m + m' < 2 ^ 64
  pub refreshes : f + f' < 2 ^ 64

abbrev pub Fitting : {R : Type 0} → (first then : Ran R) → Type 0
Fitting a b = Fits a.used a.commands a.refreshes b.used b.commands b.refreshes

-- one entry, if it is there and is taken, and a sound record again; none where a run takes none
pub record OneOn (rec : Record) (delays : code.Delays) (bs : List ℕ) (o : rust.Option (Ran Record)) : Type 0 where
  pub is : unwrap_or o (ran rec 0 0 0) ≡ run_of 1 rec bs
  pub sound : Prepared (unwrap_or o (ran rec 0 0 0)).rec delays
  pub ten : (r : Ran Record) → o ≡ Some r → r.used ≡ 10

-- the whole run, where so much of it was run
unfoldable pub onwards : List ℕ → (most : ℕ) → Ran Record → Ran Record
onwards bs most r = behind r.used r.commands r.refreshes (run_of (most - r.used / 10) r.rec (drop r.used bs))
