-- `pass_over` meets its contract. The loop's invariant: the certificates below `i` are tried over the old table. The measure is what is left of the count.
use Rattle.decision.proofs.PassingLaws.{Passing}
use Rattle.decision.proofs.inquiry.Inquiry.pass_over.Given as goal

abbrev pub invariant-loop-i : goal.invariant-loop-i
invariant-loop-i l = Passing l.old.lens l.self.file.now l.self.request l.old.table.now l.initial.new l.new l.i
