-- What is ruled of an entry of either part, by what the code holds of both.
use Prim.Native.Nat.{ℕ}
use mathlib.Core.Path.{◌≡◌, ap, sym, ◌∙◌}
use mathlib.Core.Bool.{true, cond}
use mathlib.Core.Option.{Option, none}
use Rattle.std.specs.Prelude.{Result, Ok, Err}
use Rattle.rules.specs.Units.{Delays}
use Rattle.rules.specs.Whose.{Whose, part_of}
use Rattle.rules.specs.Levels.{Read}
use Rattle.rules.specs.Delays.{Answers}
use Rattle.rules.specs.Entries.{Body, Entry, read_body, read, whose_body, whose_of, part_in}
use Rattle.rules.specs.Checks.{Refusal}
use Rattle.rules.specs.Lent.{Ledger, Share, beat_of, has_part, own_in, read_in, effect_of, entered}
use Rattle.rules.proofs.Decided.{or_else_none}
use Rattle.card.specs.Values.{card_of}
use Rattle.pins.specs.Values as pins
use Rattle.pins.specs.declared.Whose as selects
use Rattle.ledger.specs.Values as paid
use Rattle.ledger.specs.Values.{ledger_of, unless_refused}
use Rattle.bank.specs.declared.Ledgers.{Ledgers}
use Rattle.bank.specs.declared.Paid.{Paid}
use Rattle.bank.specs.declared.Record.{Record}
use Rattle.bank.specs.declared.Share as bank
use Rattle.bank.specs.Values.{last_of, share_of, share_at, share_in, lent_of, bus_look, theirs_of}
use Rattle.bank.specs.Both.{ledgers_in, second_of, EnteredBoth}
use Rattle.bank.proofs.Shares.{part_low, share_in_lem, theirs_heard}
use Rattle.step.specs.declared.Refusal as answer
use Rattle.step.specs.Values.{refusal_of}
use Rattle.step.specs.Parts.{ruled_refusal, read_on, effect_as, ledger_as, ruling_refusal, Ruled}
use Rattle.step.proofs.Answers.{ok_none, ok_same, err_same}
use Rattle.step.proofs.Elevens.{told_by}
use Rattle.step.proofs.Split.{effects_by, ruled_by, ruling_is}

-- an entry, by what its body is read as
pub whose_here : (rec : Record) (e : Entry) (w : Whose) → w ≡ whose_body rec.card.paired e.body → whose_of (lent_of rec).card e ≡ w
unfolding whose_of lent_of card_of
whose_here rec e w h = sym h

pub read_here : (rec : Record) (e : Entry) (w : Whose) (x : Read) → whose_of (lent_of rec).card e ≡ w → x ≡ read_on (lent_of rec) w e.body → read_in (lent_of rec) e ≡ x
unfolding read_in read own_in part_in read_on
read_here rec e w x h k = ap (λ (o : Whose). read_on (lent_of rec) o e.body) h ∙ sym k

-- it is read at the level of the part that judges it
pub read_so : (rec : Record) (w : selects.Whose) (b : Body) →
    read_body (card_of rec.card) (pins.level_of (share_at rec (part_of (pins.whose_of w))).ledger.level) b ≡ read_on (lent_of rec) (pins.whose_of w) b
unfolding read_on lent_of share_of ledger_of
read_so rec w b = ap (λ (o : Share). read_body (card_of rec.card) o.ledger.level b) (sym (unfold lent_of in share_in_lem rec (part_of (pins.whose_of w)) (part_low w)))

pub own_counter : (rec : Record) (w : selects.Whose) → (share_at rec (part_of (pins.whose_of w))).counter ≡ ((lent_of rec).share (part_of (pins.whose_of w))).counter
unfolding share_of
own_counter rec w = ap (λ (o : Share). o.counter) (sym (share_in_lem rec (part_of (pins.whose_of w)) (part_low w)))

left_new : {A : Type 0} (o : Option Refusal) (old new : A) → o ≡ none → unless_refused o old new ≡ new
unfolding unless_refused
left_new o old new n = rw n

module _ (d : Delays) (rec : Record) (w : selects.Whose) (x : Read) (t : ℕ) (p : Paid) (y : Result (Unit {0}) answer.Refusal) where
  abbrev whose : Whose
  whose = pins.whose_of w

  abbrev own : bank.Share
  own = share_at rec (part_of whose)

  abbrev theirs : Answers
  theirs = bus_look (theirs_of rec (part_of whose))

  own_is : (lent_of rec).share (part_of whose) ≡ share_of own
  own_is = share_in_lem rec (part_of whose) (part_low w)

  module _ (entered_so : EnteredBoth (ledgers_in rec) rec.pace rec.card whose t (effect_of x own.counter) p)
      (so : refusal_of y ≡ ruled_refusal (card_of rec.card) (last_of rec.last) d (share_of own) theirs x t (paid.refusal_of p.answer)) where
    paid_told : paid.refusal_of p.answer ≡ told_by (lent_of rec) t (effects_by d (lent_of rec) whose x t (share_of own))
    unfolding lent_of share_in share_of ledger_of card_of ledgers_in
    paid_told = entered_so.told

    told_so : has_part (lent_of rec).card (part_of whose) ≡ true → refusal_of y ≡ ruling_refusal d (lent_of rec) whose x t
    unfolding lent_of
    told_so i =
        so
        ∙ ap (ruled_refusal (card_of rec.card) (last_of rec.last) d (share_of own) theirs x t) paid_told
        ∙ ap (ruled_by d (lent_of rec) whose x t theirs) (sym own_is)
        ∙ ruling_is d (lent_of rec) whose x t theirs (theirs_heard rec (part_of whose) i)

    -- where it is taken the accounts are refused with nothing
    nothing_told : refusal_of y ≡ none → paid.refusal_of p.answer ≡ none
    unfolding ruled_refusal
    nothing_told n = (or_else_none _ _ (or_else_none _ _ (sym so ∙ n)).1).1

    ledger_is : (q : ℕ) → entered (effects_by d (lent_of rec) whose x t (share_of own) q) (beat_of (lent_of rec).card (lent_of rec).pace) ((lent_of rec).share q).ledger t ≡ ledger_as (lent_of rec) whose x t q
    unfolding ledger_as effect_as
    ledger_is q = ap (λ (o : Share). entered (effects_by d (lent_of rec) whose x t o q) (beat_of (lent_of rec).card (lent_of rec).pace) ((lent_of rec).share q).ledger t) (sym own_is)

    first_so : refusal_of y ≡ none → ledger_of p.ledgers.first ≡ ledger_as (lent_of rec) whose x t 0
    unfolding lent_of share_in share_of ledger_of card_of ledgers_in
    first_so n = entered_so.first ∙ left_new _ _ _ (sym entered_so.told ∙ nothing_told n) ∙ ledger_is 0

    second_so : refusal_of y ≡ none → ledger_of p.ledgers.second ≡ cond (lent_of rec).card.paired (ledger_as (lent_of rec) whose x t 1) ((lent_of rec).share 1).ledger
    unfolding lent_of share_in share_of ledger_of card_of ledgers_in second_of
    second_so n =
        entered_so.second
        ∙ left_new _ _ _ (sym entered_so.told ∙ nothing_told n)
        ∙ ap (λ (g : Ledger). cond rec.card.paired g (ledger_of rec.second.ledger)) (ledger_is 1)

    pub ruled_out : (e : answer.Refusal) → y ≡ Err e → Ruled d (lent_of rec) whose x t (Err e)
    ruled_out e h = record { told = λ i. err_same y Ledgers e h ∙ told_so i; first = λ g k. absurd cc; second = λ g k. absurd cc }

    pub ruled_in : (u : Unit {0}) → y ≡ Ok u → Ruled d (lent_of rec) whose x t (Ok p.ledgers)
    ruled_in u h = record {
      told = λ i. ok_same y u p.ledgers h ∙ told_so i;
      first = λ g k. let e : p.ledgers ≡ g = cc in rw (← e) (first_so (ok_none y u h));
      second = λ g k. let e : p.ledgers ≡ g = cc in rw (← e) (second_so (ok_none y u h));
    }
