-- The promise of each public function determines its answer.
use mathlib.Core.Path.{◌≡◌, refl, ap, sym, ◌∙◌}
use Rattle.rules.specs.Units as paper
use Rattle.rules.proofs.Determined.{Promise, Determined, determined, fact_of}
use Rattle.card.specs.Values.{clocks_of}
use Rattle.rules.specs.Checks.{Refusal, refusal}
use Rattle.card.specs.Tags.{number_of, wrong_of}
use Rattle.card.specs.declared.Delays.{Delays}
use Rattle.card.specs.declared.Misplaced.{Misplaced}
use Rattle.card.specs.declared.Misplaced.TheVariants.{Unknown, Passed, Early}
use Rattle.card.specs.declared.Wrong.{Wrong}
use native.Mathlib.Omega.{arith}
use Rattle.card.proofs.Told.{read_is}
use Rattle.card.specs.contracts.ranges.in_range as in_range
use Rattle.card.specs.contracts.registers.latency_of as latency_of
use Rattle.card.specs.contracts.registers.mrw_value_good as mrw_value_good
use Rattle.card.specs.contracts.registers.mr2_good as mr2_good
use Rattle.card.specs.contracts.registers.nwr_of as nwr_of
use Rattle.card.specs.contracts.timings.delays_at as delays_at
use Rattle.card.specs.contracts.timings.interval_at as interval_at
use Rattle.card.specs.contracts.units.greater as greater
use Rattle.card.specs.contracts.heat.mr4_good as mr4_good
use Rattle.card.specs.contracts.tags.may_come as may_come
use Rattle.card.specs.contracts.tags.wrong_tag as wrong_tag
use Rattle.card.specs.contracts.benched.bench as bench
use Rattle.card.specs.contracts.values.blank as blank
use Rattle.card.specs.contracts.values.length_good as length_good
use Rattle.card.specs.contracts.values.read_value as read_value
use Rattle.card.specs.contracts.units.PicosecondsFromU32.from as picoseconds
use Rattle.card.specs.contracts.units.ClocksFromU8.from as clocks
use Rattle.card.specs.contracts.CardDefault.default as default
use Rattle.card.specs.contracts.FemtosecondsDefault.default as femtoseconds
use Rattle.card.proofs.Defaults.{default_is}

abbrev in_range_says : Promise in_range.ended
in_range_says w = in_range.clauses w.𝓛 w.𝓜.mem w.𝓡.run

pub in_range_determined : Determined in_range.ended in_range_says
in_range_determined = determined in_range.ended in_range_says (λ κs a r e. fact_of _) (λ κs a r r' ws ws' p p'. (p ∙ sym p', refl))

abbrev mr2_good_says : Promise mr2_good.ended
mr2_good_says w = mr2_good.clauses w.𝓛 w.𝓜.mem w.𝓡.run

pub mr2_good_determined : Determined mr2_good.ended mr2_good_says
mr2_good_determined = determined mr2_good.ended mr2_good_says (λ κs a r e. fact_of _) (λ κs a r r' ws ws' p p'. (p ∙ sym p', refl))

abbrev mrw_value_good_says : Promise mrw_value_good.ended
mrw_value_good_says w = mrw_value_good.clauses w.𝓛 w.𝓜.mem w.𝓡.run

pub mrw_value_good_determined : Determined mrw_value_good.ended mrw_value_good_says
mrw_value_good_determined = determined mrw_value_good.ended mrw_value_good_says (λ κs a r e. fact_of _) (λ κs a r r' ws ws' p p'. (p ∙ sym p', refl))

abbrev mr4_good_says : Promise mr4_good.ended
mr4_good_says w = mr4_good.clauses w.𝓛 w.𝓜.mem w.𝓡.run

pub mr4_good_determined : Determined mr4_good.ended mr4_good_says
mr4_good_determined = determined mr4_good.ended mr4_good_says (λ κs a r e. fact_of _) (λ κs a r r' ws ws' p p'. (p ∙ sym p', refl))

abbrev latency_of_says : Promise latency_of.ended
latency_of_says w = latency_of.clauses w.𝓛 w.𝓜.mem w.𝓡.run

pub latency_of_determined : Determined latency_of.ended latency_of_says
latency_of_determined =
    determined latency_of.ended latency_of_says (λ κs a r e. fact_of _)
    (λ κs a r r' ws ws' p p'. (λ i. record { rl = (p.0 ∙ sym p'.0) i; wl = (p.1 ∙ sym p'.1) i }, refl))

abbrev nwr_of_says : Promise nwr_of.ended
nwr_of_says w = nwr_of.clauses w.𝓛 w.𝓜.mem w.𝓡.run

pub nwr_of_determined : Determined nwr_of.ended nwr_of_says
nwr_of_determined = determined nwr_of.ended nwr_of_says (λ κs a r e. fact_of _) (λ κs a r r' ws ws' p p'. (p ∙ sym p', refl))

abbrev interval_at_says : Promise interval_at.ended
interval_at_says w = interval_at.clauses w.𝓛 w.𝓜.mem w.𝓡.run

pub interval_at_determined : Determined interval_at.ended interval_at_says
interval_at_determined = determined interval_at.ended interval_at_says (λ κs a r e. fact_of _) (λ κs a r r' ws ws' p p'. (p ∙ sym p', refl))

abbrev greater_says : Promise greater.ended
greater_says w = greater.clauses w.𝓛 w.𝓜.mem w.𝓡.run

pub greater_determined : Determined greater.ended greater_says
greater_determined = determined greater.ended greater_says (λ κs a r e. fact_of _) (λ κs a r r' ws ws' p p'. (p ∙ sym p', refl))

-- the delays with these numbers
delays_in : paper.Delays → Delays
delays_in d = record {
  trcd = d.trcd;
  trppb = d.trppb;
  trpab = d.trpab;
  tras = d.tras;
  trc = d.trc;
  trrd = d.trrd;
  tfaw = d.tfaw;
  trtp = d.trtp;
  twr = d.twr;
  twtr = d.twtr;
  tdqsck = d.tdqsck;
  trfcab = d.trfcab;
  trfcpb = d.trfcpb;
  tmrr = d.tmrr;
  tmrw = d.tmrw;
  tcke = d.tcke;
  txp = d.txp;
  tckesr = d.tckesr;
  txsr = d.txsr;
  gap = d.gap;
}

-- delays with the same numbers are one
pub clocks_tell : (d e : Delays) → clocks_of d ≡ clocks_of e → d ≡ e
unfolding clocks_of delays_in
clocks_tell d e q = ap delays_in q

abbrev delays_at_says : Promise delays_at.ended
delays_at_says w = delays_at.clauses w.𝓛 w.𝓜.mem w.𝓡.run

pub delays_at_determined : Determined delays_at.ended delays_at_says
delays_at_determined =
    determined delays_at.ended delays_at_says (λ κs a r e. fact_of _) (λ κs a r r' ws ws' p p'. (clocks_tell r r' (p ∙ sym p'), refl))

abbrev bench_says : Promise bench.ended
bench_says w = bench.clauses w.𝓛 w.𝓜.mem w.𝓡.run

pub bench_determined : Determined bench.ended bench_says
bench_determined = determined bench.ended bench_says (λ κs a r e. fact_of _) (λ κs a r r' ws ws' p p'. (p ∙ sym p', refl))

abbrev blank_says : Promise blank.ended
blank_says w = blank.clauses w.𝓛 w.𝓜.mem w.𝓡.run

pub blank_determined : Determined blank.ended blank_says
blank_determined = determined blank.ended blank_says (λ κs a r e. fact_of _) (λ κs a r r' ws ws' p p'. (p ∙ sym p', refl))

abbrev length_good_says : Promise length_good.ended
length_good_says w = length_good.clauses w.𝓛 w.𝓜.mem w.𝓡.run

pub length_good_determined : Determined length_good.ended length_good_says
length_good_determined =
    determined length_good.ended length_good_says (λ κs a r e. fact_of _) (λ κs a r r' ws ws' p p'. (p ∙ sym p', refl))

abbrev read_value_says : Promise read_value.ended
read_value_says w = read_value.clauses w.𝓛 w.𝓜.mem w.𝓡.run

pub read_value_determined : Determined read_value.ended read_value_says
read_value_determined =
    determined read_value.ended read_value_says (λ κs a r e. fact_of _) (λ κs a r r' ws ws' p p'. (read_is _ _ _ _ _ r p ∙ sym (read_is _ _ _ _ _ r' p'), refl))

abbrev may_come_says : Promise may_come.ended
may_come_says w = may_come.clauses w.𝓛 w.𝓜.mem w.𝓡.run

pub may_come_determined : Determined may_come.ended may_come_says
may_come_determined = determined may_come.ended may_come_says (λ κs a r e. fact_of _) (λ κs a r r' ws ws' p p'. (p ∙ sym p', refl))

-- what is wrong with a tag, with the same two numbers, is one
number_tells : (x y : Misplaced) → number_of x ≡ number_of y → x ≡ y
unfolding number_of
number_tells Unknown Unknown q = refl
number_tells Unknown Passed q = absurd (omega (arith, q))
number_tells Unknown Early q = absurd (omega (arith, q))
number_tells Passed Unknown q = absurd (omega (arith, q))
number_tells Passed Passed q = refl
number_tells Passed Early q = absurd (omega (arith, q))
number_tells Early Unknown q = absurd (omega (arith, q))
number_tells Early Passed q = absurd (omega (arith, q))
number_tells Early Early q = refl

wrong_tells : (v w : Wrong) → wrong_of v ≡ wrong_of w → v ≡ w
unfolding wrong_of refusal
wrong_tells v w q = λ i. record { why = number_tells v.why w.why (ap (λ (x : Refusal). x.number) q) i; expected = ap (λ (x : Refusal). x.rule) q i }

abbrev wrong_tag_says : Promise wrong_tag.ended
wrong_tag_says w = wrong_tag.clauses w.𝓛 w.𝓜.mem w.𝓡.run

pub wrong_tag_determined : Determined wrong_tag.ended wrong_tag_says
wrong_tag_determined = determined wrong_tag.ended wrong_tag_says (λ κs a r e. fact_of _) (λ κs a r r' ws ws' p p'. (wrong_tells r r' (p ∙ sym p'), refl))

abbrev picoseconds_says : Promise picoseconds.ended
picoseconds_says w = picoseconds.clauses w.𝓛 w.𝓜.mem w.𝓡.run

pub picoseconds_determined : Determined picoseconds.ended picoseconds_says
picoseconds_determined =
    determined picoseconds.ended picoseconds_says (λ κs a r e. fact_of _) (λ κs a r r' ws ws' p p'. (λ i. record { 0 = (p.0 ∙ sym p'.0) i }, refl))

abbrev clocks_says : Promise clocks.ended
clocks_says w = clocks.clauses w.𝓛 w.𝓜.mem w.𝓡.run

pub clocks_determined : Determined clocks.ended clocks_says
clocks_determined =
    determined clocks.ended clocks_says (λ κs a r e. fact_of _) (λ κs a r r' ws ws' p p'. (λ i. record { 0 = (p ∙ sym p') i }, refl))

abbrev default_says : Promise default.ended
default_says w = default.clauses w.𝓛 w.𝓜.mem w.𝓡.run

pub default_determined : Determined default.ended default_says
default_determined =
    determined default.ended default_says (λ κs a r e. fact_of _) (λ κs a r r' ws ws' p p'. (default_is r p ∙ sym (default_is r' p'), refl))

abbrev femtoseconds_says : Promise femtoseconds.ended
femtoseconds_says w = femtoseconds.clauses w.𝓛 w.𝓜.mem w.𝓡.run

pub femtoseconds_determined : Determined femtoseconds.ended femtoseconds_says
femtoseconds_determined =
    determined femtoseconds.ended femtoseconds_says (λ κs a r e. fact_of _) (λ κs a r r' ws ws' p p'. (λ i. record { 0 = (p ∙ sym p') i }, refl))
