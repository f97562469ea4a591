use Rattle.std.proofs.Common.{◌≡◌, ◌*◌, ◌^◌, ◌<◌, drop}
use Rattle.rules.specs.Form.{number, number_from}
use Rattle.card.proofs.values.number.Given as goal

abbrev pub invariant-loop-byte : goal.invariant-loop-byte
invariant-loop-byte l = record { fits : l.x < 2 ^ (8 * l.byte-index); to_come : number l.bytes ≡ number_from l.x (drop l.byte-index l.bytes) }
