-- `question_line` meets its contract: a question that is cut short, or the one that was asked.
use Rattle.std.proofs.Common.{◌-◌, length, drop, refl, arith, take_all, length-drop}
use Rattle.lines.specs.Question.{short, asked}
use Rattle.lines.proofs.question.question_line.Goals as goal

pub returns-in_default : goal.returns-in_default
returns-in_default c = short (omega arith) (omega arith) _ (rw c.line.ensures at c.put.ensures) refl

pub returns : goal.returns
returns c =
    let question = c.args.question.now in
    let all = take_all (length question - 7) (drop 7 question) (omega (arith, length-drop 7 question)) in
    asked (omega arith) (omega arith) _ (rw (all, c.word_of.ensures) at c.put_asked.ensures) refl
