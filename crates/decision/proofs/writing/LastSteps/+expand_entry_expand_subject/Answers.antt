-- `expand_entry` and `expand_subject` meet their contracts: a certificate brings the entry about, and its subject's symbols are written in turn.
use native.Mathlib.Omega.{arith}
use Rattle.decision.proofs.WritingLaws.{bringing_below, bringing_small, entry_none, entry_own, written_after, part_none, part_more, part_all}
use Rattle.decision.proofs.writing.LastSteps.+expand_entry_expand_subject.Goals as goal

pub expand_entry-returns-then-steps_at-eq0 : goal.expand_entry-returns-then-steps_at-eq0
expand_entry-returns-then-steps_at-eq0 t c = entry_none c.args.self.now c.args.entry c.steps_at.ensures c.if-steps_at-eq0.true

pub expand_entry-cert-cert-requires : goal.expand_entry-cert-cert-requires
expand_entry-cert-cert-requires t c = bringing_below c.find_cert-i.ensures

pub expand_entry-overflow_cast-chain : goal.expand_entry-overflow_cast-chain
expand_entry-overflow_cast-chain t c = omega (arith, bringing_small c.find_cert-i.ensures c.args.self.now.inquiry.ready.accepted)

pub expand_entry-returns : goal.expand_entry-returns
expand_entry-returns t c =
    let low = bringing_small c.find_cert-i.ensures c.args.self.now.inquiry.ready.accepted in
    entry_own c.find_cert-i.ensures c.cert-cert.ensures.same (written_after _ _ (omega (arith, low)) c.expand_subject.ensures)

pub expand_subject-loop-j-init : goal.expand_subject-loop-j-init
expand_subject-loop-j-init t c = rw c.from-from.ensures part_none

pub expand_subject-loop-j-preserved : goal.expand_subject-loop-j-preserved
expand_subject-loop-j-preserved t c =
    part_more c.loop-j.invariant (omega arith) c.symbol_at-symbol.ensures c.find_place-place.ensures.1 c.expand_entry-next.ensures

pub expand_subject-returns : goal.expand_subject-returns
expand_subject-returns t c = part_all c.loop-j.invariant (omega arith) c.requires.0
