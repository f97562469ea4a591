-- Each outcome by its law, from what `takes` and the test of the room told.
use mathlib.Core.Path.{sym, ◌∙◌}
use native.Mathlib.Omega.{arith}
use Rattle.pins.proofs.Written.{unfit, no_room, done}
use Rattle.pins.proofs.writer.write_entry.Goals as goal

pub returns-then-not-takes : goal.returns-then-not-takes
returns-then-not-takes c =
    let w = unfit _ _ _ c.args.stamp c.args.buffer.now (sym c.takes.ensures ∙ c.if-not-takes.true) in
    record { answer = w.0; memory = w.1 }

pub returns-then-buffer-lt10 : goal.returns-then-buffer-lt10
returns-then-buffer-lt10 c =
    let w = no_room _ _ _ c.args.stamp c.args.buffer.now (sym c.takes.ensures ∙ c.if-not-takes.false) (omega arith) in
    record { answer = w.0; memory = w.1 }

pub returns : goal.returns
returns c =
    let w =
    done _ _ _ c.args.stamp c.args.buffer.now _ (sym c.takes.ensures ∙ c.if-not-takes.false) (omega arith)
    (c.put_entry.ensures ∙ rw c.pins_for.ensures) in
    record { answer = w.0; memory = w.1 }
