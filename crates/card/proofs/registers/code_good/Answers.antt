use Rattle.std.proofs.Common.{◌≡◌, refl, sym, ◌∙◌, rules}
use Rattle.std.specs.Prelude.{Option, Some, None}
use Rattle.card.specs.Rows.{row_of, code_good}
use Rattle.card.specs.declared.registers.Row.{Row}
use Rattle.card.proofs.Found.{least_in, told}
use Rattle.card.proofs.registers.code_good.Goals as goal

pub returns : goal.returns
unfolding code_good least_in row_of
returns c = by_row c.row_at.result refl ∙ told (least_in c.args.period.0) _ _ (sym c.row_at.ensures)
  where
    by_row : (o : Option Row) → c.row_at.result ≡ o → c.is_some_and.result ≡ least_in c.args.period.0 o
    by_row None e = rw e at c.is_some_and.ensures
    by_row (Some r) e = let h = rw e at c.is_some_and.ensures in search rules
