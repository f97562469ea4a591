use mathlib.Core.Path.{◌≡◌}
use native.Mathlib.Omega.{arith}
use Rattle.rules.specs.Units.{n, delays_of}
use Rattle.rules.specs.Heat.{hot_card}
use Rattle.card.specs.Values.{timing_in, card_of, clocks_of, clipped, shortened}
use Rattle.card.specs.Parts.{raised_by, raised_in}
use Rattle.card.proofs.timings.Raised.delays.Goals as goal

pub returns : goal.returns
unfolding clocks_of shortened delays_of n hot_card timing_in card_of raised_by raised_in
returns c =
    let gap : c.from.result ≡ clipped c.args.self.card.gap = omega arith in
    λ i. record {
      trcd = c.clocks.ensures i;
      trppb = c.clocks-2.ensures i;
      trpab = c.clocks-3.ensures i;
      tras = c.clocks-4.ensures i;
      trc = c.row_cycle.ensures i;
      trrd = c.clocks-5.ensures i;
      tfaw = c.clocks-6.ensures i;
      trtp = c.clocks-7.ensures i;
      twr = c.clocks-8.ensures i;
      twtr = c.clocks-9.ensures i;
      tdqsck = c.clocks-10.ensures i;
      trfcab = c.clocks-11.ensures i;
      trfcpb = c.clocks-12.ensures i;
      tmrr = c.clocks-13.ensures i;
      tmrw = c.clocks-14.ensures i;
      tcke = c.clocks-15.ensures i;
      txp = c.clocks-16.ensures i;
      tckesr = c.clocks-17.ensures i;
      txsr = c.clocks-18.ensures i;
      gap = gap i;
    }
