-- `put_asked` meets its contract: what was asked is judged, and the text of its line is put.
use Rattle.lines.proofs.question.put_asked.Goals as goal

pub returns : goal.returns
returns c = record {
  verdict = c.ask-verdict.result;
  minutes = c.ask-verdict.new.minutes;
  steps = c.ask-verdict.new.steps;
  chain = c.ask-verdict.new.chain;
  judged = c.ask-verdict.ensures;
  put = rw c.verdict_line.ensures at c.put.ensures;
}
