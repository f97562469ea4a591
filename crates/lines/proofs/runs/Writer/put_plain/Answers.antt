use Rattle.std.proofs.Common.{ap, ◌∙◌}
use Rattle.rules.specs.Levels.{Level, level_after, read_as}
use Rattle.rules.specs.Entries.{recorded_as, move_of}
use Rattle.pins.specs.Values.{moved_of}
use Rattle.lines.proofs.LinesIn.{level_kept, after_any}
use Rattle.lines.proofs.runs.Writer.put_plain.Goals as goal

pub returns : goal.returns
returns c =
    let a = c.args in
    let told = c.whose_pins-whose.ensures in
    let level = c.level_with-level.ensures in
    let r = c.read_pins-read.ensures.is ∙ ap (λ (x : Level). read_as a.self.now.sleeps a.self.now.paired x a.front.pins) level in
    let command = c.recorded-command.ensures ∙ ap recorded_as r in
    let moved = c.move_of-moved.ensures ∙ ap move_of r in
    let kept = level_kept a.self.now.paired _ _ c.high_of-next.ensures in
    record {
      line = rw (command, c.of.ensures, told) at c.put_line-size.ensures.memory;
      stands = after_any _ _ _ command moved
          (kept.0 ∙ c.level_after.ensures ∙ ap (λ (x : Level). level_after (moved_of c.move_of-moved.result) x) level)
          (rw told at c.after-next.ensures.first)
          (rw told at c.after-next.ensures.second);
      high = kept.1;
      small = c.put_line-size.ensures.small;
    }
