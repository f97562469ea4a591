-- As its own, or with the ledger alone.
use mathlib.Core.Path.{refl}
use borrow.Author.Rules.{rules}
use Rattle.bank.specs.After.{share_taken}
use Rattle.bank.proofs.Sizes.{ShareWhole}
use Rattle.bank.proofs.Changed.{share_changed}
use Rattle.bank.proofs.taking.share_taken.Goals as goal

pub returns-then-own : goal.returns-then-own
returns-then-own c =
    let whole : ShareWhole c.args.x = search rules in
    share_changed _ _ _ _ _ _ whole _ (unfold share_taken in rw c.if-own.true c.share_after.ensures)

pub returns-else-own : goal.returns-else-own
returns-else-own c =
    let whole : ShareWhole c.args.x = search rules in
    share_changed _ _ _ _ _ _ whole _ (unfold share_taken in rw c.if-own.false refl)
