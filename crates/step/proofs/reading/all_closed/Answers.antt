-- Bank by bank.
use mathlib.Core.Path.{◌∙◌}
use Rattle.step.proofs.Closed.{closed_so}
use native.Mathlib.Omega.{arith}
use mathlib.Core.Path.{ap}
use mathlib.Core.Bool.{not}
use Rattle.step.proofs.reading.all_closed.Goals as goal

pub returns : goal.returns
returns c = ap not c.contains.ensures.value ∙ closed_so _ (omega arith)
