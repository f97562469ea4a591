-- As it is ruled, of the entry as it is read.
use mathlib.Core.Path.{refl, sym}
use Rattle.pins.specs.Values.{read_of}
use Rattle.ledger.specs.Values.{effect_of}
use Rattle.step.specs.Values.{refusal_of}
use Rattle.step.proofs.Answers.{ok_none, err_some, ok_there, err_there}
use Rattle.step.proofs.Tabled.{table_none, Seen, seen_refused, seen_taken}
use Rattle.step.proofs.turns.by_table.Goals as goal
use Rattle.step.proofs.turns.by_table.Goals.{After-ruled}

seen : (c : After-ruled) →
    let a = c.args in
    Seen a.delays a.rec a.bytes.now c.in_ok-front.front (read_of c.read_pins-read.result) (effect_of c.effect_of-effect.result)
    c.idle_bus-theirs.result c.entered-paid.result (refusal_of c.ruled.result)
seen c = record {
  front = sym c.in_ok-front.ensures;
  read = c.read_pins-read.ensures.is;
  effect = c.effect_of-effect.ensures;
  idle = c.idle_bus-theirs.ensures;
  account = c.entered-paid.ensures;
  told = c.ruled.ensures;
}

pub returns-in_err-front : goal.returns-in_err-front
returns-in_err-front c = rw c.from_residual.ensures (table_none _ _ (sym c.in_err-front.ensures))

pub returns-in_err-ok : goal.returns-in_err-ok
returns-in_err-ok c =
    let e = err_there _ c.in_err-ok.ensures.value in
    rw c.from_residual-in_err-ok.ensures (seen_refused c.requires (seen (goal.at.returns-in_err-ok c).After-ruled) _ (err_some _ e.0 e.1))

pub returns : goal.returns
returns c =
    rw c.entry.ensures
    (seen_taken c.requires (seen (goal.at.returns c).After-ruled) (ok_none _ _ (ok_there _ _ c.in_ok-ok.ensures.value))
    _ _ c.recorded-command.ensures c.move_of-moved.ensures
    _ c.once_at.ensures _ c.share_after.ensures
    _ _ refl refl)
