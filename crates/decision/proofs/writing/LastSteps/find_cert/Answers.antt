use Rattle.std.proofs.Common.{arith}
use Rattle.decision.proofs.WritingLaws.{brings_fact, bringing_some}
use Rattle.decision.proofs.writing.LastSteps.find_cert.Goals as goal

pub returns-then-brings_by : goal.returns-then-brings_by
returns-then-brings_by c = brings_fact _ _ _ _ _ _ _ _ (omega (arith, c.args.self.now.inquiry.ready.counted)) c.brings_by.ensures c.if-brings_by.true

pub unreachable-requires : goal.unreachable-requires
unreachable-requires c =
    let a = c.args in
    bringing_some a.self.now a.entry c.requires.0 c.requires.1 (λ i h. c.loop-i.invariant i (omega (arith, a.self.now.inquiry.ready.counted)))
