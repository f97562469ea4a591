-- A record of one part, as a run goes over it: what an entry is to it and leaves, whatever the share that is not looked at holds.
use Rattle.std.specs.Prelude.{ℕ, ◌+◌, ◌*◌, ◌≤◌, ◌≡◌, Bool, true, false, ◌&&◌, List, ◌∷◌, leb, length, Some, unwrap_or}
use Rattle.std.specs.Prelude as rust
use Rattle.std.proofs.Math.Option.{Option, none}
use Rattle.rules.specs.Heat.{delays_at}
use Rattle.rules.specs.Ranges.{card_good}
use Rattle.rules.specs.Levels.{Level, Read, read_pins, read_mr4}
use Rattle.rules.specs.Folds.{first_of}
use Rattle.rules.specs.Delays.{look_both}
use Rattle.rules.specs.Account.{Beat}
use Rattle.rules.specs.Entries.{Body, pins, mr4, Entry, View, recorded_as, move_of, mr4_of}
use Rattle.rules.specs.Checks.{Refusal, unless, checks}
use Rattle.rules.specs.Lent as lent
use Rattle.rules.specs.Lent.{beat_of, number_of, look_in, share_good, above_last, effect_of, entered, failing_to, failing_of, pace_by}
use Rattle.card.specs.Values.{card_of, clocks_of}
use Rattle.card.specs.declared.Delays.{Delays}
use Rattle.pins.specs.Values.{level_of}
use Rattle.ledger.specs.Values.{ledger_of, code_of, pace_of, pace_in}
use Rattle.bank.specs.declared.Share.{Share}
use Rattle.bank.specs.declared.Record.{Record}
use Rattle.bank.specs.Values.{last_of, share_of}
use Rattle.bank.specs.After.{once_at, share_after}
use Rattle.step.specs.declared.Ran.{Ran}
use Rattle.step.specs.declared.single.Single.{Single}
use Rattle.step.specs.Runs.{ran, run_of}

-- ---- of a record, and back
unfoldable pub single_of : Record → Single
single_of rec = record { card = rec.card; last = rec.last; pace = rec.pace; share = rec.first }

abbrev pub whole : Share → Single → Record
whole x s = record { card = s.card; last = s.last; pace = s.pace; first = s.share; second = x }

unfoldable pub ran_with : Share → Ran Single → Ran Record
ran_with x g = ran (whole x g.rec) g.used g.commands g.refreshes

-- ---- an entry
unfoldable pub read_alone : (sleeps : Bool) → Level → Body → Read
read_alone sleeps l (pins p) = read_pins sleeps l p
read_alone sleeps l (mr4 v) = read_mr4 sleeps false l v

unfoldable pub read_by : Single → Entry → Read
read_by s e = read_alone s.card.sleeps (level_of s.share.ledger.level) e.body

unfoldable pub effect_by : Single → Entry → lent.Effect
effect_by s e = effect_of (read_by s e) s.share.counter

-- when refreshes are due
abbrev pub dues_by : Single → Beat
dues_by s = beat_of (card_of s.card) (pace_of s.pace)

unfoldable pub ledger_by : Single → Entry → lent.Ledger
ledger_by s e = entered (effect_by s e) (dues_by s) (ledger_of s.share.ledger) e.stamp

unfoldable pub spaced_by : Single → Entry → lent.Pace
spaced_by s e = pace_by (card_of s.card) (number_of (ledger_by s e)) (mr4_of (read_by s e)) (pace_of s.pace)

-- 13 lets it pass
unfoldable pub sound_by : Single → Bool
sound_by s = let card = card_of s.card in card_good card && share_good card (last_of s.last) (share_of s.share)

-- it is taken, or refused so
unfoldable pub view_by : Single → View
view_by s = let x = share_of s.share in record { open? = x.open?; counter = x.counter; look = look_both (look_in x.history) (λ q. none) }

unfoldable pub refusal_by : Single → Entry → Option Refusal
refusal_by s e =
    let card = card_of s.card in
    let g = ledger_of s.share.ledger in
    let t = e.stamp in
    first_of (
    unless (sound_by s) 13 ∷
    checks card (delays_at card s.pace.mr4) (view_by s) (above_last (last_of s.last) t && leb g.at t) (failing_to (dues_by s) g t) (failing_of (dues_by s) (ledger_by s e)) (read_by s e) t
    )

-- the record then
unfoldable pub single_with : Single → Entry → Single
single_with s e = record {
  card = s.card;
  last = once_at e.stamp;
  pace = pace_in (spaced_by s e);
  share = share_after s.share (recorded_as (read_by s e)) (move_of (read_by s e)) e.stamp (code_of (ledger_by s e));
}

-- ---- a run
-- a sound record of one part, and the delays of its card at its temperature
pub record Ready (s : Single) (delays : Delays) : Type 0 where
  pub single : s.card.paired ≡ false
  pub sound : sound_by s ≡ true
  pub clocks : clocks_of delays ≡ delays_at (card_of s.card) s.pace.mr4

-- as the run goes of any record that holds this part
abbrev pub RunsTo : (most : ℕ) → Single → List ℕ → Ran Single → Type 0
RunsTo most s bs g = (x : Share) → ran_with x g ≡ run_of most (whole x s) bs

-- one entry, if it is there and is taken; none where a run takes none
pub record TakesOne (s : Single) (bs : List ℕ) (o : rust.Option (Ran Single)) : Type 0 where
  pub is : RunsTo 1 s bs (unwrap_or o (ran s 0 0 0))
  pub ten : (g : Ran Single) → o ≡ Some g → g.used ≡ 10

-- whole entries, at most so many and within the bytes, that left a sound record
pub record SoFar (delays : Delays) (bs : List ℕ) (most : ℕ) (g : Ran Single) : Type 0 where
  pub sound : Ready g.rec delays
  pub entries : ℕ
  pub used : g.used ≡ 10 * entries
  pub few : entries ≤ most
  pub within : g.used ≤ length bs
  pub commands : g.commands ≤ g.used
  pub refreshes : g.refreshes ≤ g.used
