-- Each bank by its own test.
use mathlib.Core.Path.{refl, ◌∙◌}
use Rattle.std.proofs.Common.{rules, tests}
use Rattle.std.proofs.lemmas.Iterator.{YieldsList-from_range}
use Rattle.std.proofs.lemmas.Iterator.Search.{all_from_yields_List}
use Rattle.bank.specs.Clauses.{note_at, mr2_at}
use Rattle.bank.proofs.Kept.{notes_are}
use Rattle.bank.proofs.present.Present.fits_each.Goals as goal

pub returns : goal.returns
returns c =
    all_from_yields_List (λ b. note_at c.args.self.period.0 (mr2_at c.args.x b)) _ _ _ c.all.ensures.ran (YieldsList-from_range 0 8 8 (cc) refl)
    (λ x b q k. search (rules, tests))
    ∙ notes_are c.args.self.period.0 c.args.x
