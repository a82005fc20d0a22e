-- `joined` meets its contract: the earlier minute.
use Rattle.rewriting.specs.Weighing.{minutes}
use Rattle.decision.proofs.lens.Lens.joined.Goals as goal

pub returns-in-Minutes : goal.returns-in-Minutes
unfolding minutes
returns-in-Minutes c = rw c.in-Minutes.is c.min.ensures
