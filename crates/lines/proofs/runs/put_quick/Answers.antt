use Rattle.lines.proofs.Overlaid.{quick_lined}
use Rattle.lines.proofs.runs.put_quick.Goals as goal

pub returns-clause-memory : goal.returns-clause-memory
returns-clause-memory c =
    let a = c.args in
    let p = c.requires in
    rw (c.copy_from_slice.ensures.after, c.copy_from_slice-2.ensures.after, c.copy_from_slice-3.ensures.after)
    (quick_lined a.four a.tail a.digit a.out.now p.0 a.lead.good p.1 p.2)
