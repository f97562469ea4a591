-- The bench card of the code is the rules' own.
use mathlib.Core.Path.{◌≡◌, refl}
use Rattle.rules.specs.Units.{femto}
use Rattle.rules.specs.Bench as paper
use Rattle.card.specs.Values.{mr1_if, card_of, timing_in}
use Rattle.card.specs.Bench.{bench_card}

pub bench_is : card_of bench_card ≡ paper.bench
unfolding card_of mr1_if timing_in bench_card femto paper.bench paper.bench_at paper.bench_with paper.only_if paper.timing
bench_is = refl
