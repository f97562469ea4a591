-- A temperature, and the pace of a record: stored and read back; pins, which are no temperature, leave it as it is.
use Prim.Native.Nat.{ℕ}
use mathlib.Core.Path.{◌≡◌, refl, ap, sym, ◌∙◌}
use mathlib.Core.Bool.{Bool}
use mathlib.Core.Option.{Option, none}
use Rattle.rules.specs.Card.{Card}
use Rattle.rules.specs.Levels.{Level, read_pins}
use Rattle.rules.specs.Entries.{entry, read_body, read, mr4_of}
use Rattle.rules.specs.Lent as lent
use Rattle.rules.specs.Lent.{read_in, mr4_in, pace_by, pace_with}
use Rattle.rules.proofs.Waking.{read_alone_lem}
use Rattle.rules.proofs.Paces.{pins_senseless}
use Rattle.pins.specs.declared.Read.{Read}
use Rattle.pins.specs.declared.Read.TheVariants.{Sensed}
use Rattle.pins.specs.Values.{read_of}
use Rattle.ledger.specs.declared.Pace.{Pace}
use Rattle.ledger.specs.Values.{pace_of, pace_in}
use Rattle.ledger.proofs.Promises.{pace_is}
use Rattle.bank.specs.declared.Record.{Record}
use Rattle.bank.specs.Values.{lent_of}
use Rattle.step.specs.declared.single.Single.{Single}
use Rattle.step.specs.Single.{read_alone, read_by, spaced_by}

-- no other reading has a value
pub not_sensed : (x : Read) → ((v : ℕ) → x ≡ Sensed v → ⊥) → mr4_of (read_of x) ≡ none
unfolding read_of mr4_of
not_sensed (Sensed v) h = absurd (h v refl)
not_sensed x h = refl

pub pace_back : (p : lent.Pace) → pace_of (pace_in p) ≡ p
unfolding pace_of pace_in
pace_back p = refl

pub pace_stored : (z : Pace) (p : lent.Pace) → pace_of z ≡ p → z ≡ pace_in p
pace_stored z p e = sym (pace_is z) ∙ ap pace_in e

unsensed : (card : Card) (n : ℕ) (o : Option ℕ) (z : Pace) → o ≡ none → pace_in (pace_by card n o (pace_of z)) ≡ z
unfolding pace_by pace_of pace_in
unsensed card n o z e = rw e

pub pins_pace : (rec : Record) (t p : ℕ) → pace_in (pace_with (lent_of rec) (entry t p)) ≡ rec.pace
unfolding pace_with mr4_in read_in read read_body lent_of
pins_pace rec t p = unsensed _ _ _ rec.pace (pins_senseless _ _ _ p)

alone_senseless : (sleeps : Bool) (l : Level) (p : ℕ) → mr4_of (read_pins sleeps l p) ≡ none
alone_senseless sleeps l p = ap mr4_of (sym (read_alone_lem sleeps l p)) ∙ pins_senseless sleeps _ l p

pub single_pace : (s : Single) (t p : ℕ) → pace_in (spaced_by s (entry t p)) ≡ s.pace
unfolding spaced_by read_by read_alone
single_pace s t p = unsensed _ _ _ s.pace (alone_senseless _ _ p)
