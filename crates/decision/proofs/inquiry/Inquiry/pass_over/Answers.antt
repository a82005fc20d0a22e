use Rattle.std.proofs.Common.{◌∙◌, sym, subst, ◌+◌, ℕ, List, arith}
use Rattle.decision.proofs.PassingLaws.{Passing, passing_none, passing_live, passing_dead, passed}
use Rattle.decision.proofs.inquiry.Inquiry.pass_over.Goals as goal
use Rattle.decision.proofs.inquiry.Inquiry.pass_over.Goals.{then-is_live, else-is_live}

pub loop-i-init : goal.loop-i-init
loop-i-init c = let p = c.requires in passing_none _ _ _ _ _ p.1 p.2

pub loop-i-preserved : goal.loop-i-preserved
loop-i-preserved c =
    let a = c.args in
    let h = c.loop-i in
    let cert = c.cert-cert.ensures in
    let Next = λ (l : List ℕ). Passing a.old.now.lens a.self.now.file.now a.self.now.request a.old.now.table.now a.new.now l (h.i + 1) in
    elim c.if-is_live.branch [
      | then-is_live w ↦
          subst Next (sym w.new-is)
          (passing_live h.invariant cert.same (sym c.is_live.ensures ∙ w.if-is_live.true) a.old.now.within cert.lawful w.try_cert.ensures)
      | else-is_live w ↦
          subst Next (sym w.new-is) (passing_dead h.invariant cert.same (sym c.is_live.ensures ∙ w.if-is_live.false))
    ]

pub returns : goal.returns
returns c = passed c.loop-i.invariant (omega (arith, c.args.self.now.ready.counted))
