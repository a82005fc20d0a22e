use mathlib.Core.Path.{refl}
use native.Mathlib.Omega.{arith}
use Rattle.sites.proofs.SendingLaws.{sent_above}
use Rattle.exchange.proofs.Halves.{turning_begins, turning_next, turning_last, turning_done}
use Rattle.exchange.proofs.desk.Desk.half.Goals as goal

pub loop-sent-init : goal.loop-sent-init
loop-sent-init c = turning_begins c.works.result.desk

pub loop-sent-smaller : goal.loop-sent-smaller
loop-sent-smaller c =
    let (e, bytes, sends, ex, next) = c.in-Some.ensures in omega (arith, sent_above sends refl, next)

pub loop-sent-preserved : goal.loop-sent-preserved
loop-sent-preserved c = turning_next c.works.result.desk c.loop-sent.after c.loop-sent.invariant c.in-Some.ensures

pub returns : goal.returns
returns c =
    turning_done c.args.self c.loop-sent.after (omega arith) c.works.ensures
    (turning_last c.works.result.desk c.loop-sent.after c.loop-sent.invariant c.in_default.ensures)
