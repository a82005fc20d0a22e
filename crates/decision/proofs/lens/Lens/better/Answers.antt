-- `better` meets its contract: the fewer steps. That the later minute is the better the check finds by `later_better`.
use Rattle.rewriting.specs.Weighing.{steps}
use Rattle.decision.proofs.lens.Lens.better.Goals as goal

pub returns-in-Steps : goal.returns-in-Steps
unfolding steps
returns-in-Steps c = rw c.in-Steps.is c.min.ensures
