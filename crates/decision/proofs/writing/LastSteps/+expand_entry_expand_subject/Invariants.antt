-- `expand_entry` and `expand_subject` meet their contracts. The measure is twice the steps to be written, and one more for a subject.
-- The invariant of the loop: the symbols passed are read by what is written, and the steps of the others are left.
use Prim.Native.Nat.{◌+◌, ◌*◌}
use Rattle.decision.specs.Writing.{steps_at, steps_read}
use Rattle.decision.proofs.WritingLaws.{Part}
use Rattle.decision.proofs.writing.LastSteps.+expand_entry_expand_subject.Given as goal

abbrev pub decreases-expand_entry : goal.decreases-expand_entry
decreases-expand_entry l = 2 * steps_at l.self.now.floor l.self.now.table.now l.entry.key l.entry.symbol l.entry.place

abbrev pub decreases-expand_subject : goal.decreases-expand_subject
decreases-expand_subject l = 2 * steps_read l.self.now.floor l.self.now.table.now l.side.now.cert 0 l.side.now.cert.subject l.to + 1

abbrev pub invariant-expand_subject-loop-j : goal.invariant-expand_subject-loop-j
invariant-expand_subject-loop-j l =
    Part l.self.inquiry.file.now l.self.inquiry.request l.self.floor l.self.table.now l.side.cert l.to l.at l.initial.chain l.chain l.next l.from l.j
