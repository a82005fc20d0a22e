-- `answer` meets its contract: there is room for the line, so it is not refused, and all of it is handed over.
use Rattle.lines.proofs.LineLaws.{answers_printed}
use Rattle.lines.proofs.printing.answer.Goals as goal

pub returns : goal.returns
returns g c = answers_printed c.question_line-lined.ensures c.print.ensures
