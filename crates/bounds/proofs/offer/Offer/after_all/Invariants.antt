use Rattle.std.proofs.Common.{◌≡◌, ◌-◌}
use Rattle.std.specs.Prelude.{max}
use Rattle.std.specs.List.{range_with_len}
use Rattle.rules.specs.Commands.{banks}
use Rattle.rules.specs.Folds.{permitted_by}
use Rattle.rules.specs.Lent.{look_in}
use Rattle.bank.specs.Values.{share_of}
use Rattle.bounds.specs.Parts.{sources_of, banks_but}
use Rattle.bounds.proofs.offer.Offer.after_all.Given as goal

-- the banks from `bank` on are still to be asked for
abbrev pub invariant-loop-bank : goal.invariant-loop-bank
invariant-loop-bank l =
    permitted_by (look_in (share_of l.self.share.now).history) (sources_of (banks_but l.but banks) l.ask l.delay.lag l.delay.clocks)
    ≡ max l.cycle (permitted_by (look_in (share_of l.self.share.now).history) (sources_of (banks_but l.but (range_with_len l.bank (8 - l.bank))) l.ask l.delay.lag l.delay.clocks))
