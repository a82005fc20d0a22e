-- `stock` meets its contract: the read screen for each key, or the refusal of the first.
use Rattle.decision.proofs.AskLaws.{Stocking}
use Rattle.decision.proofs.question.stock.Given as goal

abbrev pub invariant-loop-key : goal.invariant-loop-key
invariant-loop-key l = Stocking l.file l.owner l.at l.key l.keys
