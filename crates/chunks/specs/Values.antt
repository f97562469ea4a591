-- The verdict of the code, read as the rules' own.
use Rattle.rules.specs.File.{FileVerdict, accepted, refused}
use Rattle.lines.specs.Values.{ledgers_of}
use Rattle.chunks.specs.declared.Verdict.{Verdict}
use Rattle.chunks.specs.declared.Verdict.TheVariants.{Accepted, Refused}

unfoldable pub verdict_of : Verdict → FileVerdict
verdict_of (Accepted m n o) = accepted m n (ledgers_of o)
verdict_of (Refused k q at t) = refused k q at t
