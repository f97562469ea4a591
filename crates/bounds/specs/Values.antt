-- The answer of the code, read as a refusal of the rules; what the rules are asked of.
use Rattle.std.specs.Prelude as rust
use Rattle.std.specs.Prelude.{None, Some}
use Rattle.std.proofs.Math.Option.{Option, none, some}
use Rattle.rules.specs.Delays.{Lookup, look_both}
use Rattle.rules.specs.Lent.{look_in}
use Rattle.rules.specs.Checks.{Refusal, refusal}
use Rattle.bank.specs.Values.{share_of, bus_look}
use Rattle.bank.specs.declared.Bus.{Bus}
use Rattle.bank.specs.declared.Share.{Share}
use Rattle.bounds.specs.declared.Broken.{Broken}

-- the rule and its first permitted cycle
unfoldable pub refusal_of : rust.Option Broken → Option Refusal
refusal_of None = none
refusal_of (Some b) = some (refusal 10 b.rule b.cycle)

-- a part's own answers, and those of the other one's bus
unfoldable pub look_with : Share → Bus → Lookup
look_with s x = look_both (look_in (share_of s).history) (bus_look x)
