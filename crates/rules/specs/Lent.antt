-- The lent record, apart from any struct of the code: what it holds, refusal 13, and what a step, an end and a moved-on ledger answer on any such record
-- (document 01, "The refresh account", "What comes back"). The rules are those of the list, asked at the record's own answers.
use Rattle.std.specs.Prelude.{ℕ, suc, ◌+◌, ◌-◌, max, ◌≡◌, Bool, true, false, cond, ◌&&◌, List, [], ◌∷◌, map, leb, ltb, eqb, ℤ, pos, neg_ℤ, take}
use Rattle.std.proofs.Math.Option.{Option, none, some}
use Rattle.std.proofs.Math.ListN.{get_elem?}
use Rattle.std.specs.Int.Signed.{le_z}
use Rattle.rules.specs.Lists.{all, is_one_of}
use Rattle.rules.specs.Card.{Card}
use Rattle.rules.specs.Heat.{start_mr4, interval_at, delays_at}
use Rattle.rules.specs.Commands.{Command, banks}
use Rattle.rules.specs.Registers.{mr2_good, Modes}
use Rattle.rules.specs.Ranges.{card_good}
use Rattle.rules.specs.Whose.{is_of, other, parts}
use Rattle.rules.specs.Past.{Past, of_part, last_cycle, modes_after, modes_at, mr4_at, level_at, counter_after, counter_at, open_after, is_open, is_counted}
use Rattle.rules.specs.Folds.{Found, first_of}
use Rattle.rules.specs.Delays.{
  Ask,
  last_mrw,
  last_mrr,
  last_refab,
  last_refpb,
  last_refpb_to,
  last_pre_to,
  last_prea_to,
  last_act_to,
  fourth_last,
  last_rd,
  last_wr,
  last_rd_or_mrr,
  last_rd_to,
  last_rda_to,
  last_wr_to,
  last_wra_to,
  last_fall,
  last_power_exit,
  last_self_exit,
  Question,
  Meaning,
  means,
  noted_of,
  Answers,
  look_both,
}
use Rattle.rules.specs.Account.{lpddr3, Beat, steady, respaced, take_one, failing, ledger_on, since_on, first_on, earliest, idle, first_idle}
use Rattle.rules.specs.Clock.{clock, beat_at, book_of}
use Rattle.rules.specs.Levels.{Level, awake, stopped, Move, stays, level_after, Read}
use Rattle.rules.specs.Entries.{Entry, View, read, whose_of, part_in, recorded_as, move_of, mr4_of, taken_for}
use Rattle.rules.specs.Checks.{Refusal, unless, named, checks, entry_refusal}

-- ---- what it holds
-- the ledger stands as after cycle `at`; a fresh one at cycle 0, where nothing falls due. It knows how many cycles up to there were not counted, and the
-- level, by which those after it are counted or not. `since` is the number, among the counted cycles, since which the gap counts: that of the last counted
-- refresh, or of a later temperature field
pub record Ledger : Type 0 where
  pub at : ℕ
  pub owing : ℤ
  pub since : ℕ
  pub skipped : ℕ
  pub level : Level

-- the number of the cycle where it stands; it can have skipped no more cycles than there were
unfoldable pub number_of : Ledger → ℕ
number_of g = g.at - g.skipped

-- when refreshes are due: `next` is the next due as the latest temperature field left it, or the card, a number among the counted cycles. One is due there,
-- none before, and one every interval after it. `mr4` is the temperature, by which the interval goes
pub record Pace : Type 0 where
  pub next : ℕ
  pub mr4 : ℕ

unfoldable pub beat_of : Card → Pace → Beat
beat_of card p = record { next = p.next; span = interval_at card p.mr4 }

unfoldable pub start_pace : Card → Pace
start_pace card = record { next = interval_at card start_mr4; mr4 = start_mr4 }

-- for each question, the latest entries that it asks about, the newest first and as many as it passes over and one more
abbrev pub History : Type 0
History = Question → List (Found Modes)

-- what is lent of one part; it knows nothing of the other
pub record Share : Type 0 where
  pub modes : Modes
  pub open? : ℕ → Bool
  pub counter : ℕ
  pub history : History
  pub ledger : Ledger

-- the card, the last entry's stamp, of whichever part, if there is one, one pace for all parts, and each part's share. That of a part which the trace does
-- not have is not looked at
pub record Lent : Type 0 where
  pub card : Card
  pub last : Option ℕ
  pub pace : Pace
  pub share : ℕ → Share

unfoldable pub has_part : Card → ℕ → Bool
has_part card p = is_one_of (parts card) p

unfoldable pub look_in : History → Answers
look_in h q = get_elem? (h q) (means q.ask).passed

unfoldable pub answers_in : Lent → ℕ → Answers
answers_in l p q = cond (has_part l.card p) (look_in (l.share p).history q) none

-- the view of part p
unfoldable pub view_in : Lent → ℕ → View
view_in l p =
    let s = l.share p in
    record { open? = s.open?; counter = s.counter; look = look_both (answers_in l p) (answers_in l (other p)) }

-- ---- refusal 13, clause by clause
unfoldable pub asks : List Ask
asks =
    last_mrw ∷
    last_mrr ∷
    last_refab ∷
    last_refpb ∷
    last_refpb_to ∷
    last_pre_to ∷
    last_prea_to ∷
    last_act_to ∷
    fourth_last ∷
    last_rd ∷
    last_wr ∷
    last_rd_or_mrr ∷
    last_rd_to ∷
    last_rda_to ∷
    last_wr_to ∷
    last_wra_to ∷
    last_fall ∷
    last_power_exit ∷
    last_self_exit ∷ []

-- every entry that the record remembers is so
unfoldable pub all_stored : (Ask → Found Modes → Bool) → History → Bool
all_stored p h = all (λ a. all (λ b. all (p a) (h (record { ask = a; bank = b }))) banks) asks

-- an MR2 value that MRW may not write: the present one, or one that stood at an earlier entry
unfoldable pub mr2s_good : Card → Share → Bool
mr2s_good card s = mr2_good card.period s.modes.mr2 && all_stored (λ a f. cond (means a).lags (mr2_good card.period f.noted.mr2) true) s.history

-- a ledger outside -8..8
unfoldable pub owing_good : ℤ → Bool
owing_good z = le_z (neg_ℤ (pos lpddr3.credit)) z && le_z z (pos lpddr3.limit)

-- a stamp above the last entry's; with no entry yet, any stamp
unfoldable pub not_above : Option ℕ → ℕ → Bool
not_above none s = false
not_above (some t) s = leb s t

unfoldable pub stamps_good : Option ℕ → Share → Bool
stamps_good last s = all_stored (λ a f. not_above last f.stamp) s.history

-- a last entry after the ledger's cycle
unfoldable pub last_by : Option ℕ → ℕ → Bool
last_by none c = true
last_by (some t) c = leb t c

-- a last counted refresh after the ledger's cycle
unfoldable pub since_good : Ledger → Bool
since_good g = leb g.since (number_of g)

unfoldable pub share_good : Card → Option ℕ → Share → Bool
share_good card last s =
    mr2s_good card s &&
    owing_good s.ledger.owing &&
    stamps_good last s &&
    last_by last s.ledger.at &&
    since_good s.ledger &&
    leb s.counter 7

-- every part of the trace
unfoldable pub lent_good : Lent → Bool
lent_good l = card_good l.card && all (λ p. share_good l.card l.last (l.share p)) (parts l.card)

-- ---- a step
-- the stamp is above the last entry's
unfoldable pub above_last : Option ℕ → ℕ → Bool
above_last none t = true
above_last (some s) t = ltb s t

-- not below the cycle that any part's ledger stands at
unfoldable pub not_behind : Lent → ℕ → Bool
not_behind l t = all (λ p. leb (l.share p).ledger.at t) (parts l.card)

-- the share of the part that judges the entry
unfoldable pub own_in : Lent → Entry → Share
own_in l e = l.share (part_in l.card e)

unfoldable pub read_in : Lent → Entry → Read
read_in l e = read l.card (own_in l e).ledger.level e

unfoldable pub command_in : Lent → Entry → Command
command_in l e = recorded_as (read_in l e)

unfoldable pub move_in : Lent → Entry → Move
move_in l e = move_of (read_in l e)

unfoldable pub mr4_in : Lent → Entry → Option ℕ
mr4_in l e = mr4_of (read_in l e)

-- what an entry does to a ledger: whether it is a counted refresh, whether it is a temperature, and its move
pub record Effect : Type 0 where
  pub counted : Bool
  pub sensed : Bool
  pub move : Move

unfoldable pub is_there : Option ℕ → Bool
is_there none = false
is_there (some v) = true

unfoldable pub effect_of : Read → (counter : ℕ) → Effect
effect_of r n = record { counted = is_counted (recorded_as r) n; sensed = is_there (mr4_of r); move = move_of r }

unfoldable pub effect_in : Lent → Entry → Effect
effect_in l e = effect_of (read_in l e) (own_in l e).counter

-- on a part whose own entry it is not: nothing
unfoldable pub no_effect : Effect
no_effect = record { counted = false; sensed = false; move = stays }

unfoldable pub effect_on : Lent → Entry → ℕ → Effect
effect_on l e p = cond (is_of p (whose_of l.card e)) (effect_in l e) no_effect

-- The ledger as after cycle t, idle up to it. What fell due at the cycle where it stands is not added again. Where the cycles of its level are not counted
-- its number stays, and it gains nothing
unfoldable pub counted_to : Ledger → ℕ → ℕ
counted_to g t = cond (stopped g.level) 0 (t - g.at)

unfoldable pub ledger_to : Beat → Ledger → ℕ → Ledger
ledger_to b g t = record {
  at = t;
  owing = idle lpddr3.credit (steady b) g.owing (number_of g) (counted_to g t);
  since = g.since;
  skipped = t - (number_of g + counted_to g t);
  level = g.level;
}

-- a counted refresh where it stands
unfoldable pub refreshed_at : Bool → Ledger → Ledger
refreshed_at true g = record { at = g.at; owing = take_one lpddr3.credit g.owing; since = number_of g; skipped = g.skipped; level = g.level }
refreshed_at false g = g

-- a temperature where it stands: the gap counts from there
unfoldable pub sensed_at : Bool → Ledger → Ledger
sensed_at true g = record { at = g.at; owing = g.owing; since = number_of g; skipped = g.skipped; level = g.level }
sensed_at false g = g

unfoldable pub at_level : Level → Ledger → Ledger
at_level v g = record { at = g.at; owing = g.owing; since = g.since; skipped = g.skipped; level = v }

-- an entry's own cycle, and the level from there on. Of a ledger alone it is not known whether an entry came at its cycle: a second counted refresh there
-- takes 1 more (proofs/Ledgers, `entered_again`); that stamps rise is asked of a record
unfoldable pub entered : Effect → Beat → Ledger → ℕ → Ledger
entered x b g t = at_level (level_after x.move g.level) (sensed_at x.sensed (refreshed_at x.counted (ledger_to b g t)))

-- each part's ledger after an entry, whosesoever
unfoldable pub ledger_with : Lent → Entry → ℕ → Ledger
ledger_with l e p = entered (effect_on l e p) (beat_of l.card l.pace) (l.share p).ledger e.stamp

-- 19 and 20 after the cycle where the ledger stands
unfoldable pub failing_of : Beat → Ledger → Option (ℕ × ℕ)
failing_of b g = failing lpddr3 (steady b) g.owing g.since (number_of g) g.at

-- in idle time after the ledger's cycle and below t
unfoldable pub failing_to : Beat → Ledger → ℕ → Option (ℕ × ℕ)
failing_to b g t =
    cond (stopped g.level) none (first_idle lpddr3 (steady b) g.owing g.since (number_of g) g.at (t - suc g.at))

-- of every part: the earliest, and at one cycle the first part's
unfoldable pub failings_to : Lent → ℕ → Option (ℕ × ℕ)
failings_to l t = earliest (map (λ p. failing_to (beat_of l.card l.pace) (l.share p).ledger t) (parts l.card))

unfoldable pub failings_with : Lent → Entry → Option (ℕ × ℕ)
failings_with l e = first_of (map (λ p. failing_of (beat_of l.card l.pace) (ledger_with l e p)) (parts l.card))

-- the pace after an entry: a temperature at number n spaces the dues anew
unfoldable pub pace_by : Card → (n : ℕ) → Option ℕ → Pace → Pace
pace_by card n none p = p
pace_by card n (some v) p = record { next = (respaced (beat_of card p) n (interval_at card v)).next; mr4 = v }

-- by the number at which the first part's ledger then stands; where the ledgers stand for a list, every part's stands there
unfoldable pub pace_with : Lent → Entry → Pace
pace_with l e = pace_by l.card (number_of (ledger_with l e 0)) (mr4_in l e) l.pace

-- 13, then the checks of an entry
unfoldable pub step_refusal : Lent → Entry → Option Refusal
step_refusal l e =
    let t = e.stamp in
    first_of (
    unless (lent_good l) 13 ∷
    checks l.card (delays_at l.card l.pace.mr4) (view_in l (part_in l.card e)) (above_last l.last t && not_behind l t) (failings_to l t) (failings_with l e)
    (read_in l e) t
    )

-- what an entry leaves in a history: it pushes those before it back; one that is not of the kind asked for supersedes them
unfoldable pub remembered : Meaning → Command → Found Modes → List (Found Modes) → List (Found Modes)
remembered m c f h = cond (m.only c) (f ∷ take m.passed h) []

unfoldable pub history_after : Command → Move → (n t : ℕ) → Modes → History → History
history_after c v n t modes h q =
    let m = means q.ask in
    cond (m.among q.bank c v n) (remembered m c (record { stamp = t; noted = noted_of m modes }) (h q)) (h q)

-- a part's share after an entry of its own with this command and move at cycle t, its ledger then being g
unfoldable pub share_after : Command → Move → (t : ℕ) → Ledger → Share → Share
share_after c v t g s = record {
  modes = modes_after c s.modes;
  open? = λ b. open_after b c (s.open? b);
  counter = counter_after c v s.counter;
  history = history_after c v s.counter t s.modes s.history;
  ledger = g;
}

unfoldable pub with_ledger : Ledger → Share → Share
with_ledger g s = record { modes = s.modes; open? = s.open?; counter = s.counter; history = s.history; ledger = g }

-- after an entry of whichever part: what is not its own only moves on
unfoldable pub share_with : Lent → Entry → ℕ → Share
share_with l e p =
    cond (is_of p (whose_of l.card e)) (share_after (command_in l e) (move_in l e) e.stamp (ledger_with l e p) (l.share p))
    (with_ledger (ledger_with l e p) (l.share p))

-- the record after an entry that was taken
unfoldable pub lent_after : Lent → Entry → Lent
lent_after l e = record { card = l.card; last = some e.stamp; pace = pace_with l e; share = λ p. cond (has_part l.card p) (share_with l e p) (l.share p) }

-- ---- the end offered to a record: 13, 5, 11; it answers with each part's ledger moved on to E
unfoldable pub close_refusal : Lent → ℕ → Option Refusal
close_refusal l end =
    first_of (unless (lent_good l) 13 ∷ unless (last_by l.last end && not_behind l end) 5 ∷ named 11 (failings_to l (suc end)) ∷ [])

-- ---- a ledger lent alone, with its card and its pace, and moved on to cycle c: 13, 5, 11
unfoldable pub ledger_good : Card → Ledger → Bool
ledger_good card g = card_good card && owing_good g.owing && since_good g

unfoldable pub move_refusal : Card → Pace → Ledger → ℕ → Option Refusal
move_refusal card p g c =
    first_of (unless (ledger_good card g) 13 ∷ unless (leb g.at c) 5 ∷ named 11 (failing_to (beat_of card p) g (suc c)) ∷ [])

unfoldable pub moved_on : Card → Pace → Ledger → ℕ → Ledger
moved_on card p g c = ledger_to (beat_of card p) g c

-- and taken through an entry's own cycle t: 13, 5, 11 below it, 11 at it
unfoldable pub enter_refusal : Effect → Card → Pace → Ledger → ℕ → Option Refusal
enter_refusal x card p g t =
    first_of (
    unless (ledger_good card g) 13 ∷
    unless (leb g.at t) 5 ∷
    named 11 (failing_to (beat_of card p) g t) ∷
    named 11 (failing_of (beat_of card p) (entered x (beat_of card p) g t)) ∷ []
    )

-- the record with another ledger of part p
unfoldable pub put_ledger : Lent → ℕ → Ledger → Lent
put_ledger l p g = record { card = l.card; last = l.last; pace = l.pace; share = λ q. cond (eqb q p) (with_ledger g (l.share q)) (l.share q) }

-- ---- the record that stands for a past, part p's ledger moved on to cycle c p; a cycle that is not after the last entry moves nothing
unfoldable pub last_of : Past → Option ℕ
last_of [] = none
last_of (e ∷ t) = some e.stamp

unfoldable pub history_of : Card → Past → History
history_of card [] q = []
history_of card (e ∷ t) q = history_after e.cmd e.move (counter_at t) e.stamp (modes_at card t) (history_of card t) q

-- the ledger that stands for a part's own entries as after cycle t
abbrev pub ledger_at : Card → Past → ℕ → Ledger
ledger_at card own t = record {
  at = t;
  owing = ledger_on lpddr3.credit (book_of card own) t;
  since = since_on (book_of card own) t;
  skipped = t - clock own t;
  level = level_at own;
}

-- the pace that stands for a part's own entries; where there are two parts it is one (proofs/Paces)
unfoldable pub pace_of : Card → Past → Pace
pace_of card own = record { next = (beat_at card own).next; mr4 = mr4_at own }

unfoldable pub share_of : Card → Past → ℕ → Share
share_of card own t = record {
  modes = modes_at card own;
  open? = λ b. is_open b own;
  counter = counter_at own;
  history = history_of card own;
  ledger = ledger_at card own t;
}

-- the cycle that part p's ledger stands at
unfoldable pub stands_at : Past → (ℕ → ℕ) → ℕ → ℕ
stands_at past c p = max (last_cycle past) (c p)

unfoldable pub fresh_share : Card → Share
fresh_share card = record {
  modes = record { mr2 = card.mr2; mr1 = card.mr1 };
  open? = λ b. false;
  counter = 0;
  history = λ q. [];
  ledger = record { at = 0; owing = pos 0; since = 0; skipped = 0; level = awake };
}

unfoldable pub standing : Card → Past → (ℕ → ℕ) → Lent
standing card past c = record {
  card = card;
  last = last_of past;
  pace = pace_of card (of_part 0 past);
  share = λ p. cond (has_part card p) (share_of card (of_part p past) (stands_at past c p)) (fresh_share card);
}

unfoldable pub fresh : Card → Lent
fresh card = record { card = card; last = none; pace = start_pace card; share = λ p. fresh_share card }

-- every entry of the past passed all its checks
unfoldable pub AllTaken : Card → Past → Type 0
AllTaken card [] = Unit {0}
AllTaken card (x ∷ t) = ((e : Entry) × (x ≡ taken_for card t e) × (entry_refusal card t e ≡ none)) × AllTaken card t

-- each part's ledger was moved on to cycle c p, or is where the last entry left it, and no cycle up to there fails
unfoldable pub PaidTo : Card → Past → (ℕ → ℕ) → Type 0
PaidTo card past c = (p : ℕ) → has_part card p ≡ true → first_on lpddr3 (book_of card (of_part p past)) (suc (stands_at past c p)) ≡ none
