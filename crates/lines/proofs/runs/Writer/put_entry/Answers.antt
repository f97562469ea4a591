-- By its command, or by its parts.
use Rattle.std.proofs.Common.{arith}
use Rattle.lines.proofs.Puts.{lined_as}
use Rattle.lines.proofs.LinesIn.{stamp_is, high_awake, quick_line, quick_after}
use Rattle.lines.proofs.runs.Writer.put_entry.Goals as goal

pub put_quick-requires : goal.put_quick-requires
put_quick-requires c =
    let tail = c.in-Some.ensures in
    let told = high_awake _ _ c.requires.1 tail.1 in
    (c.requires.0, rw c.last_four.ensures, (tail.2 told.2).good.fits)

pub returns-in-Some : goal.returns-in-Some
returns-in-Some c =
    let a = c.args in
    let x = a.next.now in
    let tail = c.in-Some.ensures in
    let told = high_awake _ _ c.requires.1 tail.1 in
    let on = tail.2 told.2 in
    let h = c.if-rest-lt10000.true in
    let parts = rw (c.last_four.ensures, c.bank_digit.ensures) at c.put_quick.ensures.memory in
    record {
      line = rw (stamp_is a.front.stamp x.lead.good (omega arith) h) (lined_as parts (quick_line a.self.now.sleeps _ _ a.front.pins x.counters.first x.counters.second told.0 told.1 on _ x.lead.good h));
      stands = quick_after a.self.now.sleeps _ _ a.front.pins x.counters.first x.counters.second told.0 told.1 on;
      high = c.requires.1;
      small = c.put_quick.ensures.small;
    }
