-- `settle_by` meets its contract. The loop's invariant: the table is that of as many passes as were counted, each of which changed something. The measure is what is left of the first table's ranks.
use Prim.Native.Nat.{◌-◌}
use Rattle.decision.specs.Engine.{held}
use Rattle.decision.specs.Lens.{question_by}
use Rattle.decision.proofs.SettlingLaws.{Going}
use Rattle.rewriting.proofs.Settling.{ranks}
use Rattle.decision.proofs.inquiry.Inquiry.settle_by.Given as goal

abbrev pub invariant-loop-lens : goal.invariant-loop-lens
invariant-loop-lens l = Going l.lens l.self.file.now l.self.request l.initial.table l.table l.passes

abbrev pub decreases-loop-lens : goal.decreases-loop-lens
decreases-loop-lens l = ranks (question_by l.lens l.self.request.asker) (held l.lens l.initial.table) - l.passes
