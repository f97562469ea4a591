-- The judge as it was before femtoseconds: those of its definitions that request Four changed. Its period is in whole ps, which is all that 4 bytes have.
use Prim.Native.Nat.{ℕ, suc, ◌+◌, ◌*◌, ◌/◌, max}
use mathlib.Core.Bool.{Bool, true, false, cond, not, ◌&&◌}
use mathlib.Core.List.{List, [], ◌∷◌, ◌++◌, map}
use mathlib.Core.Option.{Option, none, some}
use lib.Dec.{leb, ltb, eqb}
use Rattle.rules.specs.Bits.{bits, on}
use Rattle.rules.specs.Card.{Timing, Card}
use Rattle.rules.specs.Units.{rounded_up, Delays}
use Rattle.rules.specs.Heat.{heat, start_mr4, quarters, is_hot, hot_card}
use Rattle.rules.specs.Commands.{Command, carries, is, MRW}
use Rattle.rules.specs.Registers.{latencies, at_code, Modes, mr1_good}
use Rattle.rules.specs.Ranges.{within, groups_good, timing_good, start_good, raise_good}
use Rattle.rules.specs.Whose.{parts}
use Rattle.rules.specs.Levels.{Move}
use Rattle.rules.specs.Past.{Past, of_part, mr4_at, counted_stamps, command_count}
use Rattle.rules.specs.States.{state_good}
use Rattle.rules.specs.Folds.{first_of, Rule, first_broken}
use Rattle.rules.specs.Delays.{Asked, delay_rules}
use Rattle.rules.specs.Account.{lpddr3, Beat, Schedule, every, steady, respaced, Book, ledger_on, failing_in, first_in}
use Rattle.rules.specs.Clock.{clock, schedule_by}
use Rattle.rules.specs.Entries.{Entry, own_for, view_for, read_for, move_of, judged_as, taken_for, past_with}
use Rattle.rules.specs.Checks.{Refusal, unless, named, is_wrong, is_reserved, is_barred, is_clash, code_good, above, not_below}
use Rattle.rules.specs.Verdict.{refresh_count}
use Rattle.rules.specs.Form.{Field, may_come, wrong_tag, Listed, ◌of◌, is_listed, number, number_at, timing_of, gap_good}
use Rattle.rules.specs.File.{FileVerdict, accepted}
use Rattle.rules.specs.Lines.{entry_lines, verdict_line}
use Rattle.rules.proofs.Walks.{Judge, two, judged_by}

-- ---- n(x), I and tRC by the period in ps
unfoldable pub ps : Card → ℕ
ps card = card.period / 1000

unfoldable pub coarse_n : Card → Timing → ℕ
coarse_n card x = max x.floor (rounded_up x.duration (ps card))

unfoldable pub coarse_interval : Card → ℕ
coarse_interval card = card.trefi / ps card

unfoldable pub coarse_row_cycle : Card → ℕ
coarse_row_cycle card = max (card.tras.floor + card.trppb.floor) (rounded_up (card.tras.duration + card.trppb.duration) (ps card))

unfoldable pub coarse_delays_of : Card → Delays
coarse_delays_of card = record {
  trcd = coarse_n card card.trcd;
  trppb = coarse_n card card.trppb;
  trpab = coarse_n card card.trpab;
  tras = coarse_n card card.tras;
  trc = coarse_row_cycle card;
  trrd = coarse_n card card.trrd;
  tfaw = coarse_n card card.tfaw;
  trtp = coarse_n card card.trtp;
  twr = coarse_n card card.twr;
  twtr = coarse_n card card.twtr;
  tdqsck = coarse_n card card.tdqsck;
  trfcab = coarse_n card card.trfcab;
  trfcpb = coarse_n card card.trfcpb;
  tmrr = coarse_n card card.tmrr;
  tmrw = coarse_n card card.tmrw;
  tcke = coarse_n card card.tcke;
  txp = coarse_n card card.txp;
  tckesr = coarse_n card card.tckesr;
  txsr = coarse_n card card.txsr;
  gap = card.gap;
}

unfoldable pub coarse_delays_at : Card → (mr4 : ℕ) → Delays
coarse_delays_at card mr4 = cond (is_hot mr4) (coarse_delays_of (hot_card card)) (coarse_delays_of card)

unfoldable pub coarse_interval_at : Card → (mr4 : ℕ) → ℕ
coarse_interval_at card mr4 = max 1 (card.trefi * quarters (heat mr4) / (ps card * 4))

-- ---- the account by that interval
unfoldable pub coarse_beat_by : Card → (n : ℕ) → Option ℕ → Beat → Beat
coarse_beat_by card n none b = b
coarse_beat_by card n (some v) b = respaced b n (coarse_interval_at card v)

unfoldable pub coarse_beat_at : Card → Past → Beat
coarse_beat_at card [] = every (coarse_interval_at card start_mr4)
coarse_beat_at card (e ∷ p) = coarse_beat_by card (clock p e.stamp) e.mr4 (coarse_beat_at card p)

unfoldable pub coarse_schedule_of : Card → Past → Schedule
coarse_schedule_of card [] = steady (coarse_beat_at card [])
coarse_schedule_of card (e ∷ p) = schedule_by (clock p e.stamp) e.mr4 (coarse_beat_at card (e ∷ p)) (coarse_schedule_of card p)

unfoldable pub coarse_book : Card → Past → Book
coarse_book card past = record { schedule = coarse_schedule_of card past; clock = clock past; refreshes = map (clock past) (counted_stamps past) }

unfoldable pub coarse_books : Card → Past → List Book
coarse_books card past = map (λ p. coarse_book card (of_part p past)) (parts card)

-- ---- a least period is held against it in ps
unfoldable pub coarse_mr2_good : (period v : ℕ) → Bool
coarse_mr2_good period v =
    ltb v 256 && not (on v 7) && not (on v 5) && at_code (bits v 0 4) (λ x. leb x.least period) false latencies

unfoldable pub coarse_may_write : (period ma op : ℕ) → Bool
coarse_may_write period ma op = cond (eqb ma 1) (mr1_good op) (cond (eqb ma 2) (coarse_mr2_good period op) true)

unfoldable pub coarse_value_good : Card → Command → Bool
coarse_value_good card c = cond (is MRW c) (coarse_may_write (ps card) (carries c).ma (carries c).op) true

-- ---- an entry, by these delay rules, and the end
unfoldable pub coarse_entry_by : (Delays → Command → Move → ℕ → List (Rule Asked Modes)) → Card → Past → Entry → Option Refusal
coarse_entry_by rules card past e =
    let v = view_for card past e in
    let r = read_for card past e in
    let c = judged_as r in
    let t = e.stamp in
    first_of (
    unless (above past t) 5 ∷
    named 11 (first_in lpddr3 (coarse_books card past) t) ∷
    unless (not (is_wrong r)) 6 ∷
    unless (not (is_clash r)) 24 ∷
    unless (not (is_reserved r)) 7 ∷
    unless (state_good v.open? v.counter c) 8 ∷
    unless (not (is_barred r)) 16 ∷
    unless (coarse_value_good card c) 9 ∷
    unless (code_good r) 26 ∷
    named 10 (first_broken v.look (rules (coarse_delays_at card (mr4_at (own_for card past e))) c (move_of r) v.counter) t) ∷
    named 11 (failing_in lpddr3 (coarse_books card (past_with card past e)) t) ∷ []
    )

unfoldable pub coarse_end : Card → Past → ℕ → Option Refusal
coarse_end card past end = first_of (unless (not_below past end) 5 ∷ named 11 (first_in lpddr3 (coarse_books card past) (suc end)) ∷ [])

unfoldable pub coarse_verdict : Card → Past → ℕ → FileVerdict
coarse_verdict card past end = accepted (command_count past) (refresh_count card past) (map (λ b. ledger_on lpddr3.credit b end) (coarse_books card past))

-- ---- the lengths of the tags, and what their values may be
unfoldable pub coarse_lengths : List Listed
coarse_lengths =
    1 of 4 ∷ 2 of 1 ∷ 3 of 2 ∷ 4 of 4 ∷
    5 of 5 ∷ 6 of 5 ∷ 7 of 5 ∷ 8 of 5 ∷ 9 of 5 ∷ 10 of 5 ∷ 11 of 5 ∷ 12 of 5 ∷ 13 of 5 ∷ 14 of 5 ∷ 15 of 5 ∷ 16 of 5 ∷ 17 of 5 ∷ 18 of 5 ∷
    19 of 5 ∷ 20 of 5 ∷ 21 of 5 ∷ 22 of 5 ∷ 23 of 1 ∷ 25 of 1 ∷ 26 of 4 ∷
    32 of 7 ∷ 33 of 4 ∷ 34 of 5 ∷ []

unfoldable pub coarse_period_good : ℕ → Bool
coarse_period_good = within 938 100_000

unfoldable pub coarse_trefi_good : (period ps : ℕ) → Bool
coarse_trefi_good period = within period 20_000_000

unfoldable pub coarse_good : List Field → Field → Bool
coarse_good fs f =
    let t = f.tag in
    let x = number f.value in
    cond (eqb t 1) (coarse_period_good x)
    (cond (eqb t 2) (coarse_mr2_good (number_at 1 fs) x)
    (cond (eqb t 3) (groups_good x)
    (cond (eqb t 4) (coarse_trefi_good (number_at 1 fs) x)
    (cond (eqb t 23) (start_good x)
    (cond (eqb t 25) (gap_good fs x)
    (cond (eqb t 26) (raise_good x) (timing_good (timing_of f.value))))))))

-- ---- the judge, by what refuses a tag: as the definitions have it, or, before request Three, always by 2
unfoldable pub coarse_by : (wrong : (entries : Bool) → List Field → ℕ → Refusal) → Judge
coarse_by w = record {
  come = may_come;
  wrong = w;
  size = is_listed coarse_lengths;
  good = coarse_good;
  entry = coarse_entry_by delay_rules;
  taken = taken_for;
  end = coarse_end;
  verdict = coarse_verdict;
}

abbrev pub coarse : Judge
coarse = coarse_by wrong_tag

abbrev pub coarse_curt : Judge
coarse_curt = coarse_by two

unfoldable pub judge_coarse : List ℕ → FileVerdict
judge_coarse bs = (judged_by coarse bs).verdict

unfoldable pub lines_coarse : List ℕ → List ℕ
lines_coarse bs = let j = judged_by coarse bs in entry_lines j.past ++ verdict_line j.verdict
