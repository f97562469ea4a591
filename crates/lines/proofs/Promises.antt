-- The promise of each public function determines its answer and what it leaves in the slice.
use Rattle.rules.proofs.Determined.{Promise, Determined, determined, fact_of}
use Rattle.lines.proofs.Puts.{one_written, one_lined}
use Rattle.lines.specs.contracts.runs.entry_lines as entry_lines
use Rattle.lines.specs.contracts.verdicts.accepted_line as accepted_line
use Rattle.lines.specs.contracts.verdicts.refused_line as refused_line

abbrev entry_lines_says : Promise entry_lines.ended
entry_lines_says w = entry_lines.clauses w.𝓛 w.𝓜.mem w.𝓡.run

pub entry_lines_determined : Determined entry_lines.ended entry_lines_says
entry_lines_determined =
    determined entry_lines.ended entry_lines_says (λ κs a r e. fact_of _)
    (λ κs a r r' ws ws' p p'. let one = one_lined p p' in (one.0, λ i. (one.1 i, (tt, (tt, (tt, (tt, (tt, (tt, (tt, tt))))))))))

abbrev accepted_line_says : Promise accepted_line.ended
accepted_line_says w = accepted_line.clauses w.𝓛 w.𝓜.mem w.𝓡.run

pub accepted_line_determined : Determined accepted_line.ended accepted_line_says
accepted_line_determined =
    determined accepted_line.ended accepted_line_says (λ κs a r e. fact_of _)
    (λ κs a r r' ws ws' p p'. let one = one_written p p' in (one.0, λ i. (one.1 i, (tt, (tt, (tt, tt))))))

abbrev refused_line_says : Promise refused_line.ended
refused_line_says w = refused_line.clauses w.𝓛 w.𝓜.mem w.𝓡.run

pub refused_line_determined : Determined refused_line.ended refused_line_says
refused_line_determined =
    determined refused_line.ended refused_line_says (λ κs a r e. fact_of _)
    (λ κs a r r' ws ws' p p'. let one = one_written p p' in (one.0, λ i. (one.1 i, (tt, (tt, (tt, (tt, tt)))))))
