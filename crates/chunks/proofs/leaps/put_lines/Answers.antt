-- All of them: there is room.
use Rattle.chunks.proofs.Lining.{lines_all}
use Rattle.chunks.proofs.leaps.put_lines.Goals as goal

pub returns : goal.returns
returns c = lines_all _ _ _ _ _ _ c.requires.0 c.requires.1 c.entry_lines.ensures
