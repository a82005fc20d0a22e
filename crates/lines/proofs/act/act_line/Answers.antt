-- `act_line` meets its contract: its text is written.
use Rattle.lines.proofs.act.act_line.Goals as goal

pub returns : goal.returns
returns c = rw c.act_text.ensures at c.write.ensures
