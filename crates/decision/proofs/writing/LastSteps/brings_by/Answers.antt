-- `brings_by` meets its contract: the tests are the definition's.
use Rattle.std.proofs.Common.{arith}
use Rattle.std.proofs.lemmas.Grind.{common_steps}
use Rattle.decision.proofs.WritingLaws.{read_fits, brings_tests}
use Rattle.decision.proofs.writing.LastSteps.brings_by.Goals as goal

pub overflow_add-result : goal.overflow_add-result
overflow_add-result c =
    let a = c.args in
    let cert = c.cert-cert.result in
    omega (arith, c.steps_read.ensures, read_fits a.self.now.floor a.self.now.table.now cert 0 c.from-subject.result a.entry.place)

pub returns-then-from-entry-2 : goal.returns-then-from-entry-2
returns-then-from-entry-2 c =
    let a = c.args in
    let tests = brings_tests a.self.now a.i a.entry c.cert-cert.result c.cert-cert.ensures.same in
    grind (arith, common_steps, tests)

pub returns-else-from-entry-2 : goal.returns-else-from-entry-2
returns-else-from-entry-2 c =
    let a = c.args in
    let tests = brings_tests a.self.now a.i a.entry c.cert-cert.result c.cert-cert.ensures.same in
    grind (arith, common_steps, tests)
