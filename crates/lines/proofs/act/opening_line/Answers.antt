-- `opening_line` meets its contract: its text is written.
use Rattle.lines.proofs.act.opening_line.Goals as goal

pub returns : goal.returns
returns c = rw c.opening_text.ensures at c.write.ensures
