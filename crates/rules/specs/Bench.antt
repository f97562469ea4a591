-- The bench card and its starred cases (document 01, "Bench card and its cases"), as files, and a few more that the starred ones do not show: those of low
-- clock-enable, of nWR, of wrong tags, of periods in fs, of two parts and of temperature (document 02, One to Four, Nine and Eleven) among them.
use Rattle.std.specs.Prelude.{ℕ, suc, ◌-◌, ◌/◌, ◌≡◌, Bool, true, false, List, [], ◌∷◌, ◌++◌, ltb, ℤ, pos, negsuc, length, take, drop}
use Rattle.std.proofs.Math.Option.{Option, none, some}
use Rattle.rules.specs.Card.{Timing, Card}
use Rattle.rules.specs.Units.{femto}
use Rattle.rules.specs.Commands.{Command, nop, mrw, mrr, refpb, refab, act, rd, wr, pre, prea}
use Rattle.rules.specs.Pins.{good, decode, enabled, encode, encode_pair}
use Rattle.rules.specs.Levels.{plain, read_pair}
use Rattle.rules.specs.Entries.{Body, pins, mr4, Entry, entry, sensing}
use Rattle.rules.specs.Lists.{when}
use Rattle.rules.specs.Ranges.{timings, sleep_timings}
use Rattle.rules.specs.Writer.{big_endian, field_bytes, entry_bytes}
use Rattle.rules.specs.File.{FileVerdict, accepted, refused, judge_file}
use Rattle.rules.specs.Lines.{lines_of}

unfoldable pub timing : ℕ → ℕ → Timing
timing d k = record { duration = d; floor = k }

unfoldable pub only_if : Bool → Timing → Timing
only_if true x = x
only_if false x = timing 0 0

-- with another period in ps, starting MR2 and tREFI, with tags 19 to 22 if it sleeps, with tag 23 if there is a starting MR1, with tag 25 and this gap if it is of
-- two parts, and with tag 26 unless that is 0
unfoldable pub bench_with : (period mr2 trefi : ℕ) → (sleeps : Bool) → (mr1 : Option ℕ) → (paired : Bool) → (gap raise : ℕ) → Card
bench_with p v i s m d g r = record {
  period = femto p;
  mr2 = v;
  groups = 8192;
  trefi = i;
  trcd = timing 18000 3;
  trppb = timing 18000 3;
  trpab = timing 21000 3;
  tras = timing 42000 3;
  trrd = timing 10000 2;
  tfaw = timing 50000 8;
  trtp = timing 7500 4;
  twr = timing 15000 4;
  twtr = timing 7500 4;
  tdqsck = timing 5500 0;
  trfcab = timing 130000 0;
  trfcpb = timing 60000 0;
  tmrr = timing 0 4;
  tmrw = timing 0 10;
  sleeps = s;
  tcke = only_if s (timing 7500 3);
  txp = only_if s (timing 10000 3);
  tckesr = only_if s (timing 15000 3);
  txsr = only_if s (timing 140000 2);
  mr1 = m;
  paired = d;
  gap = g;
  raise = r;
}

unfoldable pub bench_at : (period mr2 : ℕ) → Card
bench_at p v = bench_with p v 3_900_000 false none false 0 0

unfoldable pub bench : Card
bench = bench_at 1250 0x1a

-- a part that sleeps: tCKE is 6 cycles, tXP 8, tCKESR 12, tXSR 112
unfoldable pub sleeper : Card
sleeper = bench_with 1250 0x1a 3_900_000 true none false 0 0

-- two parts, with this gap
unfoldable pub pair : ℕ → Card
pair g = bench_with 1250 0x1a 3_900_000 false none true g 0

-- one that says what code 110 adds, of one part and of two
unfoldable pub heater : Card
heater = bench_with 1250 0x1a 3_900_000 false none false 0 1875

unfoldable pub hot_pair : Card
hot_pair = bench_with 1250 0x1a 3_900_000 false none true 2 1875

-- and one whose tREFI is one cycle
unfoldable pub tight : Card
tight = bench_with 100_000 0x1a 100_000 false none false 0 0

-- ---- files
unfoldable pub timing_fields : ℕ → List Timing → List ℕ
timing_fields t [] = []
timing_fields t (x ∷ xs) = field_bytes t (big_endian 4 x.duration ++ big_endian 1 x.floor) ++ timing_fields (suc t) xs

unfoldable pub start_field : Option ℕ → List ℕ
start_field none = []
start_field (some v) = field_bytes 23 (big_endian 1 v)

unfoldable pub card_file : Card → List ℕ
card_file card =
    field_bytes 1 (big_endian 4 (card.period / 1000)) ++
    field_bytes 2 (big_endian 1 card.mr2) ++
    field_bytes 3 (big_endian 2 card.groups) ++
    field_bytes 4 (big_endian 4 card.trefi) ++
    timing_fields 5 (timings card) ++
    when card.sleeps (timing_fields 19 (sleep_timings card)) ++
    start_field card.mr1 ++
    when card.paired (field_bytes 25 (big_endian 1 card.gap)) ++
    when (ltb 0 card.raise) (field_bytes 26 (big_endian 4 card.raise))

unfoldable pub body_bytes : ℕ → Body → List ℕ
body_bytes t (pins p) = entry_bytes t p
body_bytes t (mr4 v) = field_bytes 34 (big_endian 4 t ++ big_endian 1 v)

unfoldable pub entries_file : List Entry → List ℕ
entries_file [] = []
entries_file (e ∷ es) = body_bytes e.stamp e.body ++ entries_file es

unfoldable pub end_file : ℕ → List ℕ
end_file end = field_bytes 33 (big_endian 4 end)

unfoldable pub file : Card → List Entry → ℕ → List ℕ
file card es end = card_file card ++ entries_file es ++ end_file end

-- ---- a case: a file and its verdict, a file and the lines printed, some bytes and their number, or a command with its pins, both ways, also of one of two parts
pub data Case : Type 0 where
  judges : List ℕ → FileVerdict → Case
  prints : List ℕ → List ℕ → Case
  measures : List ℕ → ℕ → Case
  writes : Command → ℕ → Case
  writes_to : (p : ℕ) → Command → ℕ → Case

unfoldable pub Shown : Case → Type 0
Shown (judges bs v) = judge_file bs ≡ v
Shown (prints bs ls) = lines_of bs ≡ ls
Shown (measures bs n) = length bs ≡ n
Shown (writes c p) = (encode c ≡ p) × (decode p ≡ good c)
Shown (writes_to p c x) = (encode_pair p c ≡ x) × (read_pair x ≡ plain (good c))

unfoldable pub accepts : (commands refreshes : ℕ) → ℤ → FileVerdict
accepts m n l = accepted m n (l ∷ [])

-- an entry
infix 90 ◌at◌
unfoldable pub ◌at◌ : Command → ℕ → Entry
c at t = entry t (encode c)

unfoldable pub eight_refreshes : List Entry
eight_refreshes =
    refab at 0 ∷ refab at 104 ∷ refab at 208 ∷ refab at 312 ∷ refab at 416 ∷ refab at 520 ∷ refab at 624 ∷ refab at 728 ∷ []

unfoldable pub four_acts : List Entry
four_acts = act 0 0 at 0 ∷ act 1 0 at 8 ∷ act 2 0 at 16 ∷ act 3 0 at 24 ∷ []

-- a refusal is its number, rule, offset and cycle; the first entry stands at offset 135, and each is 10 bytes
unfoldable pub starred : List Case
starred =
    judges (file bench (act 0 0 at 0 ∷ rd 0 0 false at 14 ∷ []) 20) (refused 10 7 145 15) ∷
    judges (file bench (act 0 0 at 0 ∷ rd 0 0 false at 15 ∷ []) 20) (accepts 2 0 (pos 0)) ∷
    judges (file bench (four_acts ++ (act 4 0 at 32 ∷ [])) 60) (refused 10 11 175 40) ∷
    judges (file bench (four_acts ++ (act 4 0 at 40 ∷ [])) 60) (accepts 5 0 (pos 0)) ∷
    judges (file bench (act 0 0 at 0 ∷ rd 0 0 true at 15 ∷ act 0 0 at 47 ∷ []) 60) (refused 10 9 155 48) ∷
    judges (file bench (act 0 0 at 0 ∷ rd 0 0 true at 15 ∷ act 0 0 at 48 ∷ []) 60) (accepts 3 0 (pos 0)) ∷
    judges (file bench (act 0 0 at 0 ∷ wr 0 0 false at 15 ∷ rd 0 0 false at 31 ∷ []) 60) (refused 10 14 155 32) ∷
    judges (file bench (act 0 0 at 0 ∷ wr 0 0 false at 15 ∷ rd 0 0 false at 32 ∷ []) 60) (accepts 3 0 (pos 0)) ∷
    judges (file bench (act 0 0 at 0 ∷ rd 0 0 false at 15 ∷ wr 0 0 false at 30 ∷ []) 60) (refused 10 13 155 31) ∷
    judges (file bench (act 0 0 at 0 ∷ rd 0 0 false at 15 ∷ wr 0 0 false at 31 ∷ []) 60) (accepts 3 0 (pos 0)) ∷
    judges (file bench (prea at 0 ∷ pre 0 at 1 ∷ act 0 0 at 16 ∷ []) 60) (accepts 3 0 (pos 0)) ∷
    judges (file bench (prea at 0 ∷ pre 0 at 1 ∷ act 1 0 at 16 ∷ []) 60) (refused 10 6 155 17) ∷
    judges (file bench (refab at 0 ∷ act 0 0 at 103 ∷ []) 200) (refused 10 3 145 104) ∷
    judges (file bench (refab at 0 ∷ act 0 0 at 104 ∷ []) 200) (accepts 2 1 (negsuc 0)) ∷
    judges (file bench (act 0 0 at 0 ∷ wr 0 0 true at 15 ∷ act 0 0 at 52 ∷ []) 60) (refused 10 18 155 53) ∷
    judges (file bench (act 0 0 at 0 ∷ wr 0 0 true at 15 ∷ act 0 0 at 53 ∷ []) 60) (accepts 3 0 (pos 0)) ∷
    judges (file bench [] 28_079) (accepts 0 0 (pos 8)) ∷
    judges (file bench [] 28_080) (refused 11 19 135 28_080) ∷
    judges (file bench eight_refreshes 28_808) (accepts 8 8 (pos 1)) ∷
    judges (file bench eight_refreshes 28_809) (refused 11 20 215 28_809) ∷
    writes (act 5 0x1234) 0x20_d2ca ∷ []

-- a period of 1071 ps does not divide tREFI: I is 3641, nine intervals 32,769; a ninth early refresh is counted and not banked; MR2 values; bytes behind
-- the end field, also where E is too late; a card that is cut, and one with a bad MR2; the card's 135 bytes; and the lines of document 01's two examples
unfoldable pub further : List Case
further =
    judges (file (bench_at 1071 0x1c) [] 32_768) (accepts 0 0 (pos 8)) ∷
    judges (file (bench_at 1071 0x1c) [] 32_769) (refused 11 19 135 32_769) ∷
    judges (file bench (eight_refreshes ++ (refab at 832 ∷ [])) 28_808) (accepts 9 9 (pos 1)) ∷
    judges (file bench (mrw 2 0x19 at 0 ∷ []) 20) (refused 9 0 135 0) ∷
    judges (file bench (mrw 2 0x1c at 0 ∷ []) 20) (accepts 1 0 (pos 0)) ∷
    judges (file bench [] 28_079 ++ end_file 28_079) (refused 12 0 142 0) ∷
    judges (file bench [] 28_080 ++ (0 ∷ [])) (refused 11 19 135 28_080) ∷
    judges (take 20 (file bench [] 20)) (refused 1 0 16 0) ∷
    judges (file (bench_at 1250 0x19) [] 20) (refused 4 0 7 0) ∷
    measures (card_file bench) 135 ∷
    prints (file bench (act 0 0 at 0 ∷ rd 0 0 false at 14 ∷ []) 20) (
    48 ∷ 32 ∷ 65 ∷ 67 ∷ 84 ∷ 32 ∷ 48 ∷ 10 ∷ 114 ∷ 101 ∷ 102 ∷ 117 ∷ 115 ∷ 101 ∷ 100 ∷ 32 ∷ 49 ∷ 48 ∷ 32 ∷ 55 ∷ 32 ∷ 49 ∷ 52 ∷ 53 ∷ 32 ∷ 49 ∷ 53 ∷ 10 ∷ []
    ) ∷
    prints (file bench (act 0 0 at 0 ∷ rd 0 0 false at 15 ∷ []) 20) (
    48 ∷ 32 ∷ 65 ∷ 67 ∷ 84 ∷ 32 ∷ 48 ∷ 10 ∷ 49 ∷ 53 ∷ 32 ∷ 82 ∷ 68 ∷ 32 ∷ 48 ∷ 10 ∷ 97 ∷ 99 ∷ 99 ∷ 101 ∷ 112 ∷ 116 ∷ 101 ∷ 100 ∷ 32 ∷ 50 ∷ 32 ∷ 48 ∷ 32 ∷ 48 ∷ 10 ∷ []
    ) ∷ []

-- ---- low clock-enable (document 02, One)
-- pins with clock-enable low: power-down with those of NOP, self-refresh with REFab's, deep power-down with PRE-all's
infix 90 ◌low◌
unfoldable pub ◌low◌ : Command → ℕ → Entry
c low t = entry t (encode c - enabled)

-- seven of the eight REFpb of a round
unfoldable pub seven_refreshes : List Entry
seven_refreshes = refpb at 0 ∷ refpb at 50 ∷ refpb at 100 ∷ refpb at 150 ∷ refpb at 200 ∷ refpb at 250 ∷ refpb at 300 ∷ []

-- the first entry stands at offset 167
unfoldable pub sleeping : List Case
sleeping =
    -- rule 21: a fall to its rise, and a rise to the next fall
    judges (file sleeper (nop low 0 ∷ nop at 5 ∷ []) 20) (refused 10 21 177 6) ∷
    judges (file sleeper (nop low 0 ∷ nop at 6 ∷ []) 20) (accepts 0 0 (pos 0)) ∷
    judges (file sleeper (nop low 0 ∷ nop at 6 ∷ nop low 11 ∷ []) 20) (refused 10 21 187 12) ∷
    judges (file sleeper (nop low 0 ∷ nop at 6 ∷ nop low 12 ∷ []) 20) (accepts 0 0 (pos 0)) ∷
    judges (file sleeper (refab low 0 ∷ nop at 12 ∷ nop low 17 ∷ []) 20) (refused 10 21 187 18) ∷
    -- rule 22
    judges (file sleeper (nop low 0 ∷ nop at 6 ∷ act 0 0 at 13 ∷ []) 20) (refused 10 22 187 14) ∷
    judges (file sleeper (nop low 0 ∷ nop at 6 ∷ act 0 0 at 14 ∷ []) 20) (accepts 1 0 (pos 0)) ∷
    judges (file sleeper (nop low 0 ∷ nop at 6 ∷ nop at 7 ∷ []) 20) (accepts 0 0 (pos 0)) ∷
    judges (file sleeper (nop low 0 ∷ nop at 6 ∷ refab low 11 ∷ []) 20) (refused 10 21 187 12) ∷
    -- rule 23
    judges (file sleeper (refab low 0 ∷ nop at 11 ∷ []) 20) (refused 10 23 177 12) ∷
    judges (file sleeper (refab low 0 ∷ nop at 12 ∷ []) 20) (accepts 0 0 (pos 0)) ∷
    -- rule 24
    judges (file sleeper (refpb low 0 ∷ nop at 12 ∷ act 0 0 at 123 ∷ []) 200) (refused 10 24 187 124) ∷
    judges (file sleeper (refpb low 0 ∷ nop at 12 ∷ act 0 0 at 124 ∷ []) 200) (accepts 1 0 (pos 0)) ∷
    judges (file sleeper (refab low 0 ∷ nop at 12 ∷ prea low 123 ∷ []) 200) (refused 10 24 187 124) ∷
    -- 16: a fall with other pins, a rise with CS_n low, anything after deep power-down
    judges (file sleeper (act 0 0 low 0 ∷ []) 20) (refused 16 0 167 0) ∷
    judges (file sleeper (nop low 0 ∷ refab at 10 ∷ []) 20) (refused 16 0 177 0) ∷
    judges (file sleeper (prea low 0 ∷ nop low 10 ∷ []) 20) (refused 16 0 177 0) ∷
    judges (file sleeper (prea low 0 ∷ nop at 10 ∷ []) 20) (refused 16 0 177 0) ∷
    -- self-refresh with a bank open is 8; power-down goes, and nothing delays it
    judges (file sleeper (act 0 0 at 0 ∷ refab low 60 ∷ []) 80) (refused 8 0 177 0) ∷
    judges (file sleeper (act 0 0 at 0 ∷ rd 0 0 false at 15 ∷ nop low 16 ∷ []) 20) (accepts 2 0 (pos 0)) ∷
    -- delays as for REFab; not counted
    judges (file sleeper (refab at 0 ∷ refab low 103 ∷ []) 200) (refused 10 3 177 104) ∷
    judges (file sleeper (refab at 0 ∷ refab low 104 ∷ []) 200) (accepts 1 1 (negsuc 0)) ∷
    -- bits 22 and 23; and bit 21 where the card has no tags 19 to 22
    judges (file sleeper (entry 0 0x70_0000 ∷ []) 20) (refused 6 0 167 0) ∷
    judges (file bench (nop low 0 ∷ []) 20) (refused 6 0 135 0) ∷
    -- power-down's cycles are counted, also where an entry comes asleep
    judges (file sleeper (nop low 0 ∷ []) 28_079) (accepts 0 0 (pos 8)) ∷
    judges (file sleeper (nop low 0 ∷ []) 28_080) (refused 11 19 177 28_080) ∷
    judges (file sleeper (nop low 0 ∷ nop low 30_000 ∷ []) 30_000) (refused 11 19 177 28_080) ∷
    -- self-refresh's are not: its exit at 100,000 has number 0
    judges (file sleeper (refab low 0 ∷ nop at 100_000 ∷ []) 128_079) (accepts 0 0 (pos 8)) ∷
    judges (file sleeper (refab low 0 ∷ nop at 100_000 ∷ []) 128_080) (refused 11 19 187 128_080) ∷
    -- rule 20 over a sleep
    judges (file sleeper (eight_refreshes ++ (refab low 1000 ∷ nop at 101_000 ∷ [])) 128_808) (accepts 8 8 (pos 1)) ∷
    judges (file sleeper (eight_refreshes ++ (refab low 1000 ∷ nop at 101_000 ∷ [])) 128_809) (refused 11 20 267 128_809) ∷
    -- the entry's own cycle is counted; and after a deep power-down none is
    judges (file sleeper (refab low 3_120 ∷ []) 100_000) (accepts 0 0 (pos 1)) ∷
    judges (file sleeper (refab low 3_119 ∷ []) 100_000) (accepts 0 0 (pos 0)) ∷
    judges (file sleeper (prea low 28_080 ∷ []) 1_000_000) (refused 11 19 167 28_080) ∷
    judges (file sleeper (prea low 28_079 ∷ []) 1_000_000) (accepts 0 0 (pos 8)) ∷
    -- a self-refresh exit begins the round anew, a power-down does not
    judges (file sleeper (seven_refreshes ++ (refab low 400 ∷ nop at 500 ∷ refpb at 700 ∷ [])) 800) (accepts 8 0 (pos 0)) ∷
    judges (file sleeper (seven_refreshes ++ (nop low 400 ∷ nop at 500 ∷ refpb at 700 ∷ [])) 800) (accepts 8 1 (negsuc 0)) ∷
    -- the form: all four tags or none, before the first entry
    judges (take 143 (card_file sleeper) ++ end_file 20) (refused 19 20 143 0) ∷
    judges (card_file bench ++ entries_file (nop at 0 ∷ []) ++ timing_fields 19 (sleep_timings sleeper) ++ end_file 20) (refused 18 19 145 0) ∷
    judges (card_file bench ++ timing_fields 20 (sleep_timings sleeper) ++ end_file 20) (refused 19 19 135 0) ∷
    judges (card_file bench ++ timing_fields 19 (timing 1_000_001 0 ∷ []) ++ end_file 20) (refused 4 0 135 0) ∷
    -- a fall prints as NOP
    prints (file sleeper (nop low 0 ∷ []) 1) (
    48 ∷ 32 ∷ 78 ∷ 79 ∷ 80 ∷ 32 ∷ 45 ∷ 10 ∷
    97 ∷ 99 ∷ 99 ∷ 101 ∷ 112 ∷ 116 ∷ 101 ∷ 100 ∷ 32 ∷ 48 ∷ 32 ∷ 48 ∷ 32 ∷ 48 ∷ 10 ∷ []
    ) ∷ []

-- ---- two parts on one bus (document 02, Nine)
infix 90 ◌at₀◌
unfoldable pub ◌at₀◌ : Command → ℕ → Entry
c at₀ t = entry t (encode_pair 0 c)

infix 90 ◌at₁◌
unfoldable pub ◌at₁◌ : Command → ℕ → Entry
c at₁ t = entry t (encode_pair 1 c)

unfoldable pub both_open : List Entry
both_open = act 0 0 at₀ 0 ∷ act 0 0 at₁ 1 ∷ []

-- the first entry stands at offset 139
unfoldable pub paired : List Case
paired =
    -- rule 25: RD to RD and MRR, WR to WR
    judges (file (pair 2) (both_open ++ (rd 0 0 false at₀ 15 ∷ rd 0 0 false at₁ 20 ∷ [])) 60) (refused 10 25 169 21) ∷
    judges (file (pair 2) (both_open ++ (rd 0 0 false at₀ 15 ∷ rd 0 0 false at₁ 21 ∷ [])) 60) (accepted 4 0 (pos 0 ∷ pos 0 ∷ [])) ∷
    judges (file (pair 2) (both_open ++ (rd 0 0 false at₁ 16 ∷ mrr 8 at₀ 21 ∷ [])) 60) (refused 10 25 169 22) ∷
    judges (file (pair 2) (both_open ++ (rd 0 0 false at₁ 16 ∷ mrr 8 at₀ 22 ∷ [])) 60) (accepted 4 0 (pos 0 ∷ pos 0 ∷ [])) ∷
    judges (file (pair 2) (both_open ++ (wr 0 0 false at₁ 16 ∷ wr 0 0 false at₀ 21 ∷ [])) 60) (refused 10 25 169 22) ∷
    judges (file (pair 2) (both_open ++ (wr 0 0 false at₁ 16 ∷ wr 0 0 false at₀ 22 ∷ [])) 60) (accepted 4 0 (pos 0 ∷ pos 0 ∷ [])) ∷
    judges (file (pair 0) (both_open ++ (rd 0 0 false at₀ 16 ∷ rd 0 0 false at₁ 19 ∷ [])) 60) (refused 10 25 169 20) ∷
    judges (file (pair 0) (both_open ++ (rd 0 0 false at₀ 16 ∷ rd 0 0 false at₁ 20 ∷ [])) 60) (accepted 4 0 (pos 0 ∷ pos 0 ∷ [])) ∷
    -- MRR to MRR and MRR to RD are free
    judges (file (pair 255) (mrr 8 at₀ 0 ∷ mrr 8 at₁ 1 ∷ []) 60) (accepted 2 0 (pos 0 ∷ pos 0 ∷ [])) ∷
    judges (file (pair 255) (both_open ++ (mrr 8 at₀ 15 ∷ rd 0 0 false at₁ 16 ∷ [])) 60) (accepted 4 0 (pos 0 ∷ pos 0 ∷ [])) ∷
    -- rule 26: RD or MRR to WR
    judges (file (pair 2) (both_open ++ (rd 0 0 false at₀ 15 ∷ wr 0 0 false at₁ 32 ∷ [])) 60) (refused 10 26 169 33) ∷
    judges (file (pair 2) (both_open ++ (rd 0 0 false at₀ 15 ∷ wr 0 0 false at₁ 33 ∷ [])) 60) (accepted 4 0 (pos 0 ∷ pos 0 ∷ [])) ∷
    judges (file (pair 2) (both_open ++ (mrr 8 at₁ 15 ∷ wr 0 0 false at₀ 32 ∷ [])) 60) (refused 10 26 169 33) ∷
    judges (file (pair 2) (both_open ++ (mrr 8 at₁ 15 ∷ wr 0 0 false at₀ 33 ∷ [])) 60) (accepted 4 0 (pos 0 ∷ pos 0 ∷ [])) ∷
    -- rule 27: WR to RD or MRR
    judges (file (pair 2) (both_open ++ (wr 0 0 false at₀ 15 ∷ rd 0 0 false at₁ 33 ∷ [])) 60) (refused 10 27 169 34) ∷
    judges (file (pair 2) (both_open ++ (wr 0 0 false at₀ 15 ∷ rd 0 0 false at₁ 34 ∷ [])) 60) (accepted 4 0 (pos 0 ∷ pos 0 ∷ [])) ∷
    judges (file (pair 2) (both_open ++ (wr 0 0 false at₀ 15 ∷ mrr 8 at₁ 33 ∷ [])) 60) (refused 10 27 169 34) ∷
    -- from the other part's latest, whatever the own part did since
    judges (file (pair 2) (both_open ++ (wr 0 0 false at₀ 15 ∷ wr 0 0 false at₁ 21 ∷ rd 0 0 false at₀ 39 ∷ [])) 60) (refused 10 27 179 40) ∷
    judges (file (pair 2) (both_open ++ (wr 0 0 false at₀ 15 ∷ wr 0 0 false at₁ 21 ∷ rd 0 0 false at₀ 40 ∷ [])) 60) (accepted 5 0 (pos 0 ∷ pos 0 ∷ [])) ∷
    -- with WL of the earlier entry's part: 8, where the later one's is 6
    judges (file (pair 2) (mrw 2 0x1c at₁ 0 ∷ act 0 0 at₀ 1 ∷ act 0 0 at₁ 10 ∷ wr 0 0 false at₁ 25 ∷ rd 0 0 false at₀ 45 ∷ []) 60) (refused 10 27 179 46) ∷
    judges (file (pair 2) (mrw 2 0x1c at₁ 0 ∷ act 0 0 at₀ 1 ∷ act 0 0 at₁ 10 ∷ wr 0 0 false at₁ 25 ∷ rd 0 0 false at₀ 46 ∷ []) 60) (accepted 5 0 (pos 0 ∷ pos 0 ∷ [])) ∷
    -- all else is each part's own: banks, tRRD, tRFCab, round counter; but stamps rise over both
    judges (file (pair 2) (act 0 0 at₀ 0 ∷ refab at₁ 1 ∷ act 1 0 at₀ 8 ∷ []) 60) (accepted 3 1 (pos 0 ∷ negsuc 0 ∷ [])) ∷
    judges (file (pair 2) (act 0 0 at₀ 0 ∷ rd 0 0 false at₁ 15 ∷ []) 60) (refused 8 0 149 0) ∷
    judges (file (pair 2) (act 0 0 at₀ 0 ∷ prea at₁ 1 ∷ rd 0 0 false at₀ 15 ∷ []) 60) (accepted 3 0 (pos 0 ∷ pos 0 ∷ [])) ∷
    judges (file (pair 2) (act 0 0 at₀ 5 ∷ act 0 0 at₁ 5 ∷ []) 60) (refused 5 0 149 0) ∷
    -- 24, just after 6; 6 is bits 21 and 23, and bit 22 in a file without tag 25
    judges (file (pair 2) (act 0 0 at 0 ∷ []) 60) (refused 24 0 139 0) ∷
    judges (file (pair 2) (entry 0 0xa0_0000 ∷ []) 60) (refused 6 0 139 0) ∷
    judges (file (pair 2) (entry 0 0x50_0000 ∷ []) 60) (refused 6 0 139 0) ∷
    judges (file (pair 2) (entry 0 0x00_0000 ∷ []) 60) (refused 6 0 139 0) ∷
    judges (file (pair 2) (entry 0 0x60_0003 ∷ []) 60) (refused 7 0 139 0) ∷
    judges (file bench (nop at₀ 0 ∷ []) 60) (refused 6 0 135 0) ∷
    -- both ledgers: the earlier is named, and at one cycle the first part's rule, be it 20 and the second's 19
    judges (file (pair 2) [] 28_079) (accepted 0 0 (pos 8 ∷ pos 8 ∷ [])) ∷
    judges (file (pair 2) [] 28_080) (refused 11 19 139 28_080) ∷
    judges (file (pair 2) (refab at₀ 100 ∷ []) 28_080) (refused 11 19 149 28_080) ∷
    judges (file (pair 2) (refab at₁ 100 ∷ nop at₀ 30_000 ∷ []) 30_000) (refused 11 19 149 28_080) ∷
    -- the second part's, at an entry of the first and at one of neither
    judges (file (pair 2) (refab at₀ 100 ∷ pre 0 at₀ 28_081 ∷ []) 28_081) (refused 11 19 149 28_080) ∷
    judges (file (pair 2) (refab at₀ 100 ∷ nop at₀ 28_081 ∷ []) 28_081) (refused 11 19 149 28_080) ∷
    judges (file (pair 2) (refab at₀ 0 ∷ refab at₀ 3_119 ∷ refab at₁ 5_000 ∷ []) 31_199) (accepted 3 3 (pos 7 ∷ pos 8 ∷ [])) ∷
    judges (file (pair 2) (refab at₀ 0 ∷ refab at₀ 3_119 ∷ refab at₁ 5_000 ∷ []) 31_200) (refused 11 20 169 31_200) ∷
    judges (file (pair 2) (refab at₁ 0 ∷ refab at₁ 3_119 ∷ refab at₀ 5_000 ∷ []) 31_200) (refused 11 19 169 31_200) ∷
    -- a refresh of one part at the cycle at which both would fail saves that part alone
    judges (file (pair 2) (refab at₀ 28_080 ∷ []) 28_080) (refused 11 19 139 28_080) ∷
    -- the form: length, then 4 beside tags 19 to 22; once, and behind tag 18; a gap may be 0
    judges (card_file sleeper ++ field_bytes 25 (0 ∷ 0 ∷ []) ++ end_file 20) (refused 3 0 167 0) ∷
    judges (card_file sleeper ++ field_bytes 25 (0 ∷ []) ++ end_file 20) (refused 4 0 167 0) ∷
    judges (card_file (pair 2) ++ field_bytes 25 (2 ∷ []) ++ end_file 20) (refused 18 33 139 0) ∷
    judges (card_file (pair 2) ++ timing_fields 19 (sleep_timings sleeper) ++ end_file 20) (refused 18 19 139 0) ∷
    judges (card_file bench ++ entries_file (nop at 0 ∷ []) ++ field_bytes 25 (2 ∷ []) ++ end_file 20) (refused 18 33 145 0) ∷
    -- pins and lines
    writes_to 0 (act 5 0x1234) 0x60_d2ca ∷
    writes_to 1 (act 5 0x1234) 0x30_d2ca ∷
    writes_to 0 nop 0x70_0000 ∷
    writes_to 1 nop 0x70_0000 ∷
    prints (file (pair 2) (nop at₀ 0 ∷ entry 1 0x30_0007 ∷ act 5 0 at₁ 2 ∷ refpb at₀ 3 ∷ refpb at₀ 60 ∷ refpb at₁ 61 ∷ []) 61) (
    48 ∷ 32 ∷ 78 ∷ 79 ∷ 80 ∷ 32 ∷ 45 ∷ 32 ∷ 45 ∷ 10 ∷ 49 ∷ 32 ∷ 78 ∷ 79 ∷ 80 ∷ 32 ∷ 45 ∷ 32 ∷ 49 ∷ 10 ∷ 50 ∷ 32 ∷ 65 ∷ 67 ∷ 84 ∷ 32 ∷ 53 ∷ 32 ∷ 49 ∷ 10 ∷ 51 ∷ 32 ∷ 82 ∷ 69 ∷ 70 ∷ 80 ∷ 66 ∷ 32 ∷ 48 ∷ 32 ∷ 48 ∷ 10 ∷ 54 ∷ 48 ∷ 32 ∷ 82 ∷ 69 ∷ 70 ∷ 80 ∷ 66 ∷ 32 ∷ 49 ∷ 32 ∷ 48 ∷ 10 ∷ 54 ∷ 49 ∷ 32 ∷ 82 ∷ 69 ∷ 70 ∷ 80 ∷ 66 ∷ 32 ∷ 48 ∷ 32 ∷ 49 ∷ 10 ∷
    97 ∷ 99 ∷ 99 ∷ 101 ∷ 112 ∷ 116 ∷ 101 ∷ 100 ∷ 32 ∷ 52 ∷ 32 ∷ 48 ∷ 32 ∷ 48 ∷ 32 ∷ 48 ∷ 10 ∷ []
    ) ∷ []

-- ---- nWR (document 02, Two)
-- with these starting MR2 and MR1
unfoldable pub starts : (mr2 mr1 : ℕ) → Card
starts v m = bench_with 1250 v 3_900_000 false (some m) false 0 0

-- a write with AP at 30, and an ACT of its bank: WL + 5 + n(tRPpb) is 26
unfoldable pub again : ℕ → List Entry
again t = act 0 0 at 0 ∷ wr 0 0 true at 30 ∷ act 0 0 at t ∷ []

-- a card on which MRW delays nothing
unfoldable pub unhurried : (mr2 mr1 : ℕ) → List Entry → ℕ → List ℕ
unhurried v m es end = take 127 (card_file (bench_at 1250 v)) ++ timing_fields 18 (timing 0 0 ∷ []) ++ start_field (some m) ++ entries_file es ++ end_file end

-- the first entry stands at offset 139; n(tWR) is 12
unfoldable pub programmed : List Case
programmed =
    -- OP4 = 1: 110 is 16, 000 is 10, and 111 is not listed; OP4 = 0: 111 is 9, 001 is 3, and 000 is not listed
    judges (file (starts 0x1a 0xc3) (again 71) 80) (refused 10 18 159 72) ∷
    judges (file (starts 0x1a 0xc3) (again 72) 80) (accepts 3 0 (pos 0)) ∷
    judges (file (starts 0x1a 0x03) (again 65) 80) (refused 10 18 159 66) ∷
    judges (file (starts 0x1a 0x03) (again 66) 80) (accepts 3 0 (pos 0)) ∷
    judges (file (starts 0x1a 0xe3) (again 67) 80) (refused 10 18 159 68) ∷
    judges (file (starts 0x1a 0xe3) (again 68) 80) (accepts 3 0 (pos 0)) ∷
    judges (file (starts 0x0a 0xe3) (again 64) 80) (refused 10 18 159 65) ∷
    judges (file (starts 0x0a 0xe3) (again 65) 80) (accepts 3 0 (pos 0)) ∷
    judges (file (starts 0x0a 0x23) (again 58) 80) (refused 10 18 159 59) ∷
    judges (file (starts 0x0a 0x23) (again 59) 80) (accepts 3 0 (pos 0)) ∷
    judges (file (starts 0x0a 0x03) (again 67) 80) (refused 10 18 159 68) ∷
    -- the other bits of MR1 say nothing
    judges (file (starts 0x1a 0xdb) (again 71) 80) (refused 10 18 159 72) ∷
    -- none at first, and then by MA 1; from the next entry on
    judges (file bench (mrw 1 0xc3 at 0 ∷ act 0 0 at 10 ∷ wr 0 0 true at 40 ∷ act 0 0 at 81 ∷ []) 90) (refused 10 18 165 82) ∷
    judges (file bench (mrw 1 0xc3 at 0 ∷ act 0 0 at 10 ∷ wr 0 0 true at 40 ∷ act 0 0 at 82 ∷ []) 90) (accepts 4 0 (pos 0)) ∷
    judges (file bench (mrw 2 0x0a at 0 ∷ act 0 0 at 10 ∷ wr 0 0 true at 40 ∷ act 0 0 at 77 ∷ []) 90) (refused 10 18 165 78) ∷
    -- as both stood at the write: neither MA 1 nor OP4, written later, moves it
    judges (unhurried 0x1a 0x23 (take 2 (again 0) ++ (mrw 1 0xc3 at 66 ∷ [])) 80) (refused 10 18 159 67) ∷
    judges (unhurried 0x1a 0x23 (take 2 (again 0) ++ (mrw 1 0xc3 at 67 ∷ act 0 0 at 68 ∷ [])) 80) (accepts 4 0 (pos 0)) ∷
    judges (unhurried 0x0a 0xc3 (take 2 (again 0) ++ (mrw 2 0x1a at 64 ∷ act 0 0 at 65 ∷ [])) 80) (accepts 4 0 (pos 0)) ∷
    judges (unhurried 0x1a 0x23 (mrw 1 0xc3 at 0 ∷ act 0 0 at 1 ∷ wr 0 0 true at 31 ∷ refab at 72 ∷ []) 80) (refused 10 18 169 73) ∷
    -- REFpb waits for it too
    judges (file (starts 0x1a 0xc3) (take 2 (again 0) ++ (refpb at 71 ∷ [])) 80) (refused 10 18 159 72) ∷
    -- rule 17 goes by n(tWR): PRE may have to wait longer than an ACT would, and less
    judges (file (starts 0x1a 0xc3) (take 2 (again 0) ++ (pre 0 at 52 ∷ [])) 80) (refused 10 17 159 53) ∷
    judges (file (starts 0x1a 0xc3) (take 2 (again 0) ++ (pre 0 at 53 ∷ [])) 80) (accepts 3 0 (pos 0)) ∷
    judges (file (starts 0x0a 0x23) (take 2 (again 0) ++ (pre 0 at 52 ∷ [])) 80) (refused 10 17 159 53) ∷
    -- each of two parts has its own
    judges (file (pair 2) (mrw 1 0xc3 at₁ 0 ∷ act 0 0 at₀ 1 ∷ act 0 0 at₁ 10 ∷ wr 0 0 true at₀ 40 ∷ wr 0 0 true at₁ 46 ∷ act 0 0 at₀ 77 ∷ []) 90) (refused 10 18 189 78) ∷
    judges (file (pair 2) (mrw 1 0xc3 at₁ 0 ∷ act 0 0 at₀ 1 ∷ act 0 0 at₁ 10 ∷ wr 0 0 true at₀ 40 ∷ wr 0 0 true at₁ 46 ∷ act 0 0 at₁ 87 ∷ []) 90) (refused 10 18 189 88) ∷
    judges (file (pair 2) (mrw 1 0xc3 at₁ 0 ∷ act 0 0 at₀ 1 ∷ act 0 0 at₁ 10 ∷ wr 0 0 true at₀ 40 ∷ wr 0 0 true at₁ 46 ∷ act 0 0 at₁ 88 ∷ []) 90) (accepted 6 0 (pos 0 ∷ pos 0 ∷ [])) ∷
    -- the form: one byte, OP2-0 011; at most once, behind 18 or 22, before 25 and 26 and before the first entry
    judges (card_file bench ++ field_bytes 23 (3 ∷ 3 ∷ []) ++ end_file 20) (refused 3 0 135 0) ∷
    judges (card_file bench ++ field_bytes 23 (0xc2 ∷ []) ++ end_file 20) (refused 4 0 135 0) ∷
    judges (card_file bench ++ field_bytes 23 (0xfb ∷ []) ++ end_file 20) (accepts 0 0 (pos 0)) ∷
    judges (card_file (starts 0x1a 3) ++ field_bytes 23 (3 ∷ []) ++ end_file 20) (refused 18 33 139 0) ∷
    judges (card_file (pair 2) ++ field_bytes 23 (3 ∷ []) ++ end_file 20) (refused 18 33 139 0) ∷
    judges (card_file heater ++ field_bytes 23 (3 ∷ []) ++ end_file 20) (refused 18 33 142 0) ∷
    judges (card_file bench ++ entries_file (nop at 0 ∷ []) ++ field_bytes 23 (3 ∷ []) ++ end_file 20) (refused 18 33 145 0) ∷
    judges (take 143 (card_file sleeper) ++ field_bytes 23 (3 ∷ []) ++ end_file 20) (refused 19 20 143 0) ∷
    judges (card_file sleeper ++ field_bytes 23 (3 ∷ []) ++ end_file 20) (accepts 0 0 (pos 0)) ∷
    judges (card_file (starts 0x1a 3) ++ field_bytes 25 (2 ∷ []) ++ end_file 20) (accepted 0 0 (pos 0 ∷ pos 0 ∷ [])) ∷ []

-- ---- temperature (document 02, Eleven)
infix 90 ◌sets◌
unfoldable pub ◌sets◌ : (mr4 stamp : ℕ) → Entry
v sets t = sensing t v

-- a field is 8 bytes; the interval is 12,480, 6,240, 3,120, 1,560, 780, 780 by code
unfoldable pub warming : List Case
warming =
    -- each code at cycle 0, where the next due, 3,120, stays unless one new interval comes before it; and the ninth due after that
    judges (file bench (0b001 sets 0 ∷ []) 102_959) (accepts 0 0 (pos 8)) ∷
    judges (file bench (0b001 sets 0 ∷ []) 102_960) (refused 11 19 143 102_960) ∷
    judges (file bench (0b010 sets 0 ∷ []) 53_039) (accepts 0 0 (pos 8)) ∷
    judges (file bench (0b010 sets 0 ∷ []) 53_040) (refused 11 19 143 53_040) ∷
    judges (file bench (0b011 sets 0 ∷ []) 28_079) (accepts 0 0 (pos 8)) ∷
    judges (file bench (0b011 sets 0 ∷ []) 28_080) (refused 11 19 143 28_080) ∷
    judges (file bench (0b100 sets 0 ∷ []) 14_039) (accepts 0 0 (pos 8)) ∷
    judges (file bench (0b100 sets 0 ∷ []) 14_040) (refused 11 19 143 14_040) ∷
    judges (file bench (0b101 sets 0 ∷ []) 7_019) (accepts 0 0 (pos 8)) ∷
    judges (file bench (0b101 sets 0 ∷ []) 7_020) (refused 11 19 143 7_020) ∷
    judges (file bench (0b110 sets 0 ∷ []) 7_020) (refused 11 19 143 7_020) ∷
    -- OP7-3 are ignored; 000 and 111 are 26
    judges (file bench (0xfc sets 0 ∷ []) 14_040) (refused 11 19 143 14_040) ∷
    judges (file bench (0b000 sets 0 ∷ []) 20) (refused 26 0 135 0) ∷
    judges (file bench (0xff sets 0 ∷ []) 20) (refused 26 0 135 0) ∷
    -- before rounding down: 15,600,000 over 1,071 is 14,565; and never below one cycle
    judges (file (bench_at 1071 0x1c) (0b001 sets 0 ∷ []) 18_205) (accepts 0 0 (pos 1)) ∷
    judges (file (bench_at 1071 0x1c) (0b001 sets 0 ∷ []) 18_206) (accepts 0 0 (pos 2)) ∷
    judges (file tight (0b110 sets 0 ∷ []) 8) (accepts 0 0 (pos 8)) ∷
    judges (file tight (0b110 sets 0 ∷ []) 9) (refused 11 19 143 9) ∷
    -- its own cycle falls due by the old interval
    judges (file bench (0b100 sets 3_120 ∷ []) 4_679) (accepts 0 0 (pos 1)) ∷
    judges (file bench (0b100 sets 3_120 ∷ []) 4_680) (accepts 0 0 (pos 2)) ∷
    -- the old next due is kept where it is the earlier, and then the new interval runs from it
    judges (file bench (0b100 sets 3_000 ∷ []) 3_120) (accepts 0 0 (pos 1)) ∷
    judges (file bench (0b100 sets 3_000 ∷ []) 4_679) (accepts 0 0 (pos 1)) ∷
    judges (file bench (0b100 sets 3_000 ∷ []) 4_680) (accepts 0 0 (pos 2)) ∷
    judges (file bench (0b100 sets 100 ∷ []) 1_659) (accepts 0 0 (pos 0)) ∷
    judges (file bench (0b100 sets 100 ∷ []) 1_660) (accepts 0 0 (pos 1)) ∷
    -- lengthening moves no due
    judges (file bench (0b001 sets 1_000 ∷ []) 3_119) (accepts 0 0 (pos 0)) ∷
    judges (file bench (0b001 sets 1_000 ∷ []) 3_120) (accepts 0 0 (pos 1)) ∷
    judges (file bench (0b001 sets 1_000 ∷ []) 15_599) (accepts 0 0 (pos 1)) ∷
    judges (file bench (0b001 sets 1_000 ∷ []) 15_600) (accepts 0 0 (pos 2)) ∷
    -- two fields: 1,560 after the first is kept by the second
    judges (file bench (0b100 sets 0 ∷ 0b001 sets 1_000 ∷ []) 1_560) (accepts 0 0 (pos 1)) ∷
    judges (file bench (0b100 sets 0 ∷ 0b001 sets 1_000 ∷ []) 14_039) (accepts 0 0 (pos 1)) ∷
    judges (file bench (0b100 sets 0 ∷ 0b001 sets 1_000 ∷ []) 14_040) (accepts 0 0 (pos 2)) ∷
    -- rule 20: the gap counts from the field, whatever its code, and nine new intervals are the most
    judges (file bench (eight_refreshes ++ (0b011 sets 20_000 ∷ [])) 48_080) (accepts 8 8 (pos 7)) ∷
    judges (file bench (eight_refreshes ++ (0b011 sets 20_000 ∷ [])) 48_081) (refused 11 20 223 48_081) ∷
    judges (file bench (eight_refreshes ++ (0b101 sets 1_000 ∷ [])) 8_020) (accepts 8 8 (pos 1)) ∷
    judges (file bench (eight_refreshes ++ (0b101 sets 1_000 ∷ [])) 8_021) (refused 11 20 223 8_021) ∷
    judges (file bench (0b101 sets 0 ∷ refab at 100 ∷ refab at 204 ∷ refab at 308 ∷ []) 7_328) (accepts 3 3 (pos 6)) ∷
    judges (file bench (0b101 sets 0 ∷ refab at 100 ∷ refab at 204 ∷ refab at 308 ∷ []) 7_329) (refused 11 20 173 7_329) ∷
    -- a field at the failing cycle saves the trace from rule 20, and not from rule 19; the cycle after it is too late
    judges (file bench (eight_refreshes ++ (0b011 sets 28_809 ∷ [])) 28_809) (accepts 8 8 (pos 1)) ∷
    judges (file bench (eight_refreshes ++ (0b011 sets 28_810 ∷ [])) 28_810) (refused 11 20 215 28_809) ∷
    judges (file bench (0b011 sets 28_080 ∷ []) 28_080) (refused 11 19 135 28_080) ∷
    -- 5; 11 below the stamp before 26, and 26 before 11 at it
    judges (file bench (act 0 0 at 5 ∷ 0b000 sets 5 ∷ []) 20) (refused 5 0 145 0) ∷
    judges (file bench (0b011 sets 5 ∷ act 0 0 at 5 ∷ []) 20) (refused 5 0 143 0) ∷
    judges (file bench (0b011 sets 5 ∷ 0b011 sets 5 ∷ []) 20) (refused 5 0 143 0) ∷
    judges (file bench (0b011 sets 5 ∷ []) 4) (refused 5 0 143 0) ∷
    judges (file bench (0b011 sets 5 ∷ []) 5) (accepts 0 0 (pos 0)) ∷
    judges (file bench (0b000 sets 28_081 ∷ []) 28_081) (refused 11 19 135 28_080) ∷
    judges (file bench (0b000 sets 28_080 ∷ []) 28_080) (refused 26 0 135 0) ∷
    -- code 110 at the later entry: tRCD 16, tRRD 10, tRPab 19, tRC 51
    judges (file heater (act 0 0 at 0 ∷ 0b110 sets 10 ∷ rd 0 0 false at 15 ∷ []) 20) (refused 10 7 160 16) ∷
    judges (file heater (act 0 0 at 0 ∷ 0b110 sets 10 ∷ rd 0 0 false at 16 ∷ []) 20) (accepts 2 0 (pos 0)) ∷
    judges (file heater (act 0 0 at 0 ∷ 0b101 sets 10 ∷ rd 0 0 false at 15 ∷ []) 20) (accepts 2 0 (pos 0)) ∷
    judges (file heater (0b110 sets 0 ∷ act 0 0 at 1 ∷ 0b011 sets 10 ∷ rd 0 0 false at 16 ∷ []) 20) (accepts 2 0 (pos 0)) ∷
    judges (file heater (0b110 sets 0 ∷ act 0 0 at 1 ∷ act 1 0 at 10 ∷ []) 20) (refused 10 10 160 11) ∷
    judges (file heater (0b110 sets 0 ∷ act 0 0 at 1 ∷ act 1 0 at 11 ∷ []) 20) (accepts 2 0 (pos 0)) ∷
    judges (file heater (prea at 0 ∷ 0b110 sets 1 ∷ act 0 0 at 18 ∷ []) 20) (refused 10 6 160 19) ∷
    judges (file heater (act 0 0 at 0 ∷ 0b110 sets 1 ∷ rd 0 0 true at 16 ∷ act 0 0 at 50 ∷ []) 60) (refused 10 9 170 51) ∷
    judges (file heater (act 0 0 at 0 ∷ 0b110 sets 1 ∷ rd 0 0 true at 16 ∷ act 0 0 at 51 ∷ []) 60) (accepts 3 0 (pos 0)) ∷
    -- without tag 26 it adds nothing
    judges (file bench (act 0 0 at 0 ∷ 0b110 sets 10 ∷ rd 0 0 false at 15 ∷ []) 20) (accepts 2 0 (pos 0)) ∷
    -- asleep in self-refresh, in counted cycles: its number is that of the entry, and the exit at 100,000 has it too
    judges (file sleeper (refab low 0 ∷ 0b100 sets 50_000 ∷ nop at 100_000 ∷ []) 101_559) (accepts 0 0 (pos 0)) ∷
    judges (file sleeper (refab low 0 ∷ 0b100 sets 50_000 ∷ nop at 100_000 ∷ []) 101_560) (accepts 0 0 (pos 1)) ∷
    judges (file sleeper (refab low 0 ∷ 0b100 sets 50_000 ∷ nop at 100_000 ∷ []) 114_039) (accepts 0 0 (pos 8)) ∷
    judges (file sleeper (refab low 0 ∷ 0b100 sets 50_000 ∷ nop at 100_000 ∷ []) 114_040) (refused 11 19 195 114_040) ∷
    judges (file sleeper (eight_refreshes ++ (refab low 1000 ∷ 0b011 sets 50_000 ∷ nop at 101_000 ∷ [])) 129_080) (accepts 8 8 (pos 1)) ∷
    judges (file sleeper (eight_refreshes ++ (refab low 1000 ∷ 0b011 sets 50_000 ∷ nop at 101_000 ∷ [])) 129_081) (refused 11 20 275 129_081) ∷
    -- in power-down; and 16 after deep power-down, before 26
    judges (file sleeper (nop low 0 ∷ 0b100 sets 100 ∷ []) 1_660) (accepts 0 0 (pos 1)) ∷
    judges (file sleeper (prea low 0 ∷ 0b000 sets 10 ∷ []) 20) (refused 16 0 177 0) ∷
    -- the form: tag 26 at most once, in range, before the first entry and behind 19 to 22; tag 34 behind a whole card
    judges (card_file bench ++ field_bytes 26 (big_endian 4 1_000_001) ++ end_file 20) (refused 4 0 135 0) ∷
    judges (card_file bench ++ field_bytes 26 (big_endian 4 1_000_000) ++ end_file 20) (accepts 0 0 (pos 0)) ∷
    judges (card_file heater ++ field_bytes 26 (big_endian 4 0) ++ end_file 20) (refused 18 33 142 0) ∷
    judges (card_file heater ++ timing_fields 19 (sleep_timings sleeper) ++ end_file 20) (refused 18 19 142 0) ∷
    judges (card_file bench ++ entries_file (0b011 sets 0 ∷ []) ++ field_bytes 26 (big_endian 4 0) ++ end_file 20) (refused 18 33 143 0) ∷
    judges (take 127 (card_file bench) ++ entries_file (0b011 sets 0 ∷ []) ++ end_file 20) (refused 19 18 127 0) ∷
    judges (card_file bench ++ field_bytes 34 (big_endian 4 0) ++ end_file 20) (refused 3 0 135 0) ∷
    -- two parts: the field is of both, and names none; each ledger's gap counts from it, and both go by one schedule; the first entry stands at offset 139
    judges (file (pair 2) (0b100 sets 0 ∷ []) 14_039) (accepted 0 0 (pos 8 ∷ pos 8 ∷ [])) ∷
    judges (file (pair 2) (0b100 sets 0 ∷ []) 14_040) (refused 11 19 147 14_040) ∷
    judges (file (pair 2) (refab at₁ 100 ∷ 0b100 sets 1_000 ∷ []) 14_999) (accepted 1 1 (pos 8 ∷ pos 7 ∷ [])) ∷
    judges (file (pair 2) (refab at₁ 100 ∷ 0b100 sets 1_000 ∷ []) 15_040) (refused 11 19 157 15_040) ∷
    judges (file (pair 2) (refab at₀ 0 ∷ refab at₀ 3_119 ∷ refab at₁ 3_223 ∷ 0b101 sets 5_000 ∷ refab at₁ 5_001 ∷ []) 12_020) (accepted 4 4 (pos 8 ∷ pos 8 ∷ [])) ∷
    judges (file (pair 2) (refab at₀ 0 ∷ refab at₀ 3_119 ∷ refab at₁ 3_223 ∷ 0b101 sets 5_000 ∷ refab at₁ 5_001 ∷ []) 12_021) (refused 11 20 187 12_021) ∷
    -- the hot delays of both parts
    judges (file hot_pair (act 0 0 at₀ 0 ∷ act 0 0 at₁ 1 ∷ 0b110 sets 10 ∷ rd 0 0 false at₁ 16 ∷ []) 20) (refused 10 7 174 17) ∷
    judges (file hot_pair (act 0 0 at₀ 0 ∷ act 0 0 at₁ 1 ∷ 0b110 sets 10 ∷ rd 0 0 false at₀ 15 ∷ []) 20) (refused 10 7 174 16) ∷
    judges (file hot_pair (act 0 0 at₀ 0 ∷ act 0 0 at₁ 1 ∷ 0b110 sets 10 ∷ rd 0 0 false at₀ 16 ∷ []) 20) (accepted 3 0 (pos 0 ∷ pos 0 ∷ [])) ∷
    judges (card_file hot_pair ++ field_bytes 25 (2 ∷ []) ++ end_file 20) (refused 18 33 146 0) ∷
    -- it is neither counted nor printed
    prints (file bench (nop at 0 ∷ 0b011 sets 5 ∷ []) 6) (
    48 ∷ 32 ∷ 78 ∷ 79 ∷ 80 ∷ 32 ∷ 45 ∷ 10 ∷
    97 ∷ 99 ∷ 99 ∷ 101 ∷ 112 ∷ 116 ∷ 101 ∷ 100 ∷ 32 ∷ 48 ∷ 32 ∷ 48 ∷ 32 ∷ 48 ∷ 10 ∷ []
    ) ∷ []

-- ---- wrong tags: tags 1 to 7 of bench take 47 bytes, 1 to 18 take 135, 19 and 20 of sleeper 16 more
unfoldable pub ordering : List Case
ordering =
    -- at the start; a wrong tag may be the last byte
    judges (0 ∷ []) (refused 17 1 0 0) ∷
    judges (2 ∷ []) (refused 19 1 0 0) ∷
    judges (end_file 20) (refused 19 1 0 0) ∷
    -- in 1 to 18: unknown, before its turn, behind its turn, once more; an entry and a temperature; and tags 19 to 22, which then are required too
    judges (take 47 (card_file bench) ++ (24 ∷ [])) (refused 17 8 47 0) ∷
    judges (take 47 (card_file bench) ++ (9 ∷ [])) (refused 19 8 47 0) ∷
    judges (take 47 (card_file bench) ++ (3 ∷ [])) (refused 18 8 47 0) ∷
    judges (take 47 (card_file bench) ++ (7 ∷ [])) (refused 18 8 47 0) ∷
    judges (take 47 (card_file bench) ++ (32 ∷ [])) (refused 19 8 47 0) ∷
    judges (take 47 (card_file bench) ++ (34 ∷ [])) (refused 19 8 47 0) ∷
    judges (take 47 (card_file bench) ++ (20 ∷ [])) (refused 19 8 47 0) ∷
    -- before the length and the value
    judges (take 7 (card_file bench) ++ (3 ∷ 0 ∷ 9 ∷ [])) (refused 19 2 7 0) ∷
    -- behind 18
    judges (card_file bench ++ (24 ∷ [])) (refused 17 33 135 0) ∷
    judges (card_file bench ++ (18 ∷ [])) (refused 18 33 135 0) ∷
    judges (card_file bench ++ (20 ∷ [])) (refused 19 19 135 0) ∷
    judges (card_file bench ++ (22 ∷ [])) (refused 19 19 135 0) ∷
    -- inside the four
    judges (take 151 (card_file sleeper) ++ (35 ∷ [])) (refused 17 21 151 0) ∷
    judges (take 151 (card_file sleeper) ++ (20 ∷ [])) (refused 18 21 151 0) ∷
    judges (take 151 (card_file sleeper) ++ (3 ∷ [])) (refused 18 21 151 0) ∷
    judges (take 151 (card_file sleeper) ++ (22 ∷ [])) (refused 19 21 151 0) ∷
    judges (take 151 (card_file sleeper) ++ (23 ∷ [])) (refused 19 21 151 0) ∷
    judges (take 151 (card_file sleeper) ++ (33 ∷ [])) (refused 19 21 151 0) ∷
    -- behind them, and behind a higher tag, with them and without
    judges (card_file sleeper ++ (21 ∷ [])) (refused 18 33 167 0) ∷
    judges (card_file (starts 0x1a 3) ++ (19 ∷ [])) (refused 18 19 139 0) ∷
    judges (card_file (starts 0x1a 3) ++ (22 ∷ [])) (refused 18 19 139 0) ∷
    judges (card_file sleeper ++ field_bytes 23 (3 ∷ []) ++ (22 ∷ [])) (refused 18 33 171 0) ∷
    -- behind an entry
    judges (card_file bench ++ entries_file (nop at 0 ∷ []) ++ (26 ∷ [])) (refused 18 33 145 0) ∷
    judges (card_file bench ++ entries_file (nop at 0 ∷ []) ++ (21 ∷ [])) (refused 18 19 145 0) ∷
    judges (card_file bench ++ entries_file (nop at 0 ∷ []) ++ (31 ∷ [])) (refused 17 33 145 0) ∷
    -- behind the end no tag is looked at
    judges (card_file bench ++ end_file 20 ++ (0 ∷ [])) (refused 12 0 142 0) ∷ []

-- ---- periods in fs: the bench card with an 8-byte period, by which the first entry stands at offset 139
unfoldable pub fine : (period : ℕ) → Card → List Entry → ℕ → List ℕ
fine p card es end = field_bytes 1 (big_endian 8 p) ++ drop 7 (file card es end)

-- 933 MHz: tWTR is 7 cycles, not 8 as with 1071 ps, tRC 56, not 57, and I is 3638
unfoldable pub at933 : List Entry → ℕ → List ℕ
at933 = fine 1_071_811 (bench_at 1071 0x1c)

unfoldable pub refined : List Case
refined =
    judges (at933 (act 0 0 at 0 ∷ wr 0 0 false at 17 ∷ rd 0 0 false at 36 ∷ []) 60) (refused 10 14 159 37) ∷
    judges (at933 (act 0 0 at 0 ∷ wr 0 0 false at 17 ∷ rd 0 0 false at 37 ∷ []) 60) (accepts 3 0 (pos 0)) ∷
    judges (file (bench_at 1071 0x1c) (act 0 0 at 0 ∷ wr 0 0 false at 17 ∷ rd 0 0 false at 37 ∷ []) 60) (refused 10 14 155 38) ∷
    judges (at933 (act 0 0 at 0 ∷ rd 0 0 true at 17 ∷ act 0 0 at 55 ∷ []) 60) (refused 10 9 159 56) ∷
    judges (at933 (act 0 0 at 0 ∷ rd 0 0 true at 17 ∷ act 0 0 at 56 ∷ []) 60) (accepts 3 0 (pos 0)) ∷
    judges (at933 [] 32_741) (accepts 0 0 (pos 8)) ∷
    judges (at933 [] 32_742) (refused 11 19 139 32_742) ∷
    -- four times tREFI is 14,554 cycles behind the due at 3638, a quarter 909
    judges (at933 (0b001 sets 0 ∷ []) 18_191) (accepts 0 0 (pos 1)) ∷
    judges (at933 (0b001 sets 0 ∷ []) 18_192) (accepts 0 0 (pos 2)) ∷
    judges (at933 (0b101 sets 0 ∷ []) 8_180) (accepts 0 0 (pos 8)) ∷
    judges (at933 (0b101 sets 0 ∷ []) 8_181) (refused 11 19 147 8_181) ∷
    -- 19,875 ps are 18 of these periods, and 19 of 1104 ps
    judges (fine 1_104_167 (bench_with 1104 0x1c 3_900_000 false none false 0 1875) (0b110 sets 0 ∷ act 0 0 at 1 ∷ rd 0 0 false at 18 ∷ []) 60) (refused 10 7 164 19) ∷
    judges (fine 1_104_167 (bench_with 1104 0x1c 3_900_000 false none false 0 1875) (0b110 sets 0 ∷ act 0 0 at 1 ∷ rd 0 0 false at 19 ∷ []) 60) (accepts 2 0 (pos 0)) ∷
    -- whole ps in 8 bytes
    judges (fine 1_250_000 bench (act 0 0 at 0 ∷ rd 0 0 false at 14 ∷ []) 20) (refused 10 7 149 15) ∷
    -- lengths
    judges (field_bytes 1 (big_endian 3 1250)) (refused 3 0 0 0) ∷
    judges (field_bytes 1 (big_endian 5 1250)) (refused 3 0 0 0) ∷
    judges (field_bytes 1 (big_endian 7 1_250_000)) (refused 3 0 0 0) ∷
    judges (field_bytes 1 (big_endian 9 1_250_000)) (refused 3 0 0 0) ∷
    judges (field_bytes 1 (take 7 (big_endian 8 1_250_000))) (refused 3 0 0 0) ∷
    judges (1 ∷ 0 ∷ 8 ∷ take 7 (big_endian 8 1_250_000)) (refused 1 0 0 0) ∷
    judges (card_file bench ++ field_bytes 33 (big_endian 8 20)) (refused 3 0 135 0) ∷
    -- ranges
    judges (field_bytes 1 (big_endian 8 937_999)) (refused 4 0 0 0) ∷
    judges (field_bytes 1 (big_endian 8 938_000)) (refused 1 0 11 0) ∷
    judges (field_bytes 1 (big_endian 8 100_000_000)) (refused 1 0 11 0) ∷
    judges (field_bytes 1 (big_endian 8 100_000_001)) (refused 4 0 0 0) ∷
    judges (field_bytes 1 (1 ∷ big_endian 7 1_250_000)) (refused 4 0 0 0) ∷
    judges (field_bytes 1 (0 ∷ 0 ∷ 0 ∷ 1 ∷ big_endian 4 1_250_000)) (refused 4 0 0 0) ∷
    judges (field_bytes 1 (255 ∷ 255 ∷ 255 ∷ 255 ∷ 255 ∷ 255 ∷ 255 ∷ 255 ∷ [])) (refused 4 0 0 0) ∷
    -- one fs below a row's least period, and at it: the starting MR2, and MRW
    judges (fine 1_070_999 (bench_at 1071 0x1c) [] 20) (refused 4 0 11 0) ∷
    judges (fine 1_071_000 (bench_at 1071 0x1c) [] 20) (accepts 0 0 (pos 0)) ∷
    judges (fine 1_249_999 (bench_at 1250 0x1c) (mrw 2 0x1a at 0 ∷ []) 20) (refused 9 0 139 0) ∷
    judges (fine 1_250_000 (bench_at 1250 0x1c) (mrw 2 0x1a at 0 ∷ []) 20) (accepts 1 0 (pos 0)) ∷
    -- tREFI below the period by one fs, and not below it: then I is 1
    judges (fine 1_250_001 (bench_with 1250 0x1a 1250 false none false 0 0) [] 8) (refused 4 0 20 0) ∷
    judges (fine 1_250_000 (bench_with 1250 0x1a 1250 false none false 0 0) [] 8) (accepts 0 0 (pos 8)) ∷
    judges (fine 1_250_001 (bench_with 1250 0x1a 1251 false none false 0 0) [] 9) (refused 11 19 139 9) ∷ []
