-- As it is ruled, of the entry as it is read.
use mathlib.Core.Path.{sym}
use Rattle.rules.specs.Entries.{read_body, read, whose_body, whose_of, part_in}
use Rattle.rules.specs.Lent.{own_in, read_in, command_in, move_in, effect_of, effect_in}
use Rattle.card.specs.Values.{card_of}
use Rattle.bank.specs.Values.{lent_of}
use Rattle.step.specs.Runs.{commands_by, refreshes_by}
use Rattle.step.specs.Parts.{read_on}
use Rattle.step.proofs.Answers.{ok_there, err_there}
use Rattle.step.proofs.Offered.{own_counter}
use Rattle.step.proofs.ByEntry.{none_there, refused_there, taken_there}
use Rattle.step.proofs.pairs.one_entry.Goals as goal

pub returns-in_err-front : goal.returns-in_err-front
returns-in_err-front c = rw c.from_residual.ensures (none_there _ _ _ c.requires (sym c.in_err-front.ensures))

pub returns-in_err-ledgers : goal.returns-in_err-ledgers
unfolding read_in read read_body own_in part_in whose_of whose_body read_on lent_of card_of
returns-in_err-ledgers c =
    let s = c.requires in
    let w = c.whose_pins-whose.ensures in
    let r = rw w at c.read_for-read.ensures in
    let e = err_there _ c.in_err-ledgers.ensures.value in
    rw c.from_residual-in_err-ledgers.ensures
    (refused_there _ _ _ s _ (sym c.in_ok-front.ensures) _ (rw (s.clocks, r, w) at c.rule_on.ensures) e.0 e.1)

pub returns : goal.returns
unfolding read_in read read_body own_in part_in whose_of whose_body read_on command_in move_in effect_in effect_of commands_by refreshes_by lent_of card_of
returns c =
    let s = c.requires in
    let w = c.whose_pins-whose.ensures in
    let r = rw w at c.read_for-read.ensures in
    rw c.entry.ensures
    (taken_there _ _ _ s _ (sym c.in_ok-front.ensures) _
    (rw (s.clocks, r, w) at c.rule_on.ensures)
    _ (ok_there _ _ c.in_ok-ledgers.ensures.value)
    _ (rw (c.move_of.ensures, c.recorded-command.ensures, r, w) at c.after-next.ensures)
    _ _
    (rw (c.recorded-command.ensures, r))
    (rw (c.own.ensures, own_counter _ _, c.recorded-command.ensures, r, w)))
