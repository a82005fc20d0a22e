-- `may` meets its contract: the verdict on the short form, shown.
use mathlib.Core.Path.{ap, ◌∙◌}
use native.Mathlib.Omega.{arith}
use Rattle.std.specs.Prelude.{Ok}
use Rattle.decision.proofs.AskLaws.{verdict_screen}
use Rattle.decision.proofs.question.may.Goals as goal

pub returns-in-Ok-Granted : goal.returns-in-Ok-Granted
returns-in-Ok-Granted c =
    verdict_screen _ _ _ _ _ _ _ _ (omega arith) (omega arith) (omega arith) c.ask_short.ensures (c.in-Ok-Granted.is ∙ ap Ok c.in-Ok-Granted.field-0-is)

pub returns-in-Ok-NoChain : goal.returns-in-Ok-NoChain
returns-in-Ok-NoChain c =
    verdict_screen _ _ _ _ _ _ _ _ (omega arith) (omega arith) (omega arith) c.ask_short.ensures (c.in-Ok-NoChain.is ∙ ap Ok c.in-Ok-NoChain.field-0-is)

pub returns-in-Ok-GrantedLong : goal.returns-in-Ok-GrantedLong
returns-in-Ok-GrantedLong c =
    verdict_screen _ _ _ _ _ _ _ _ (omega arith) (omega arith) (omega arith) c.ask_short.ensures (c.in-Ok-GrantedLong.is ∙ ap Ok c.in-Ok-GrantedLong.field-0-is)

pub returns-in-Err : goal.returns-in-Err
returns-in-Err c =
    rw c.refusal_number.ensures (verdict_screen _ _ _ _ _ _ _ _ (omega arith) (omega arith) (omega arith) c.ask_short.ensures c.in-Err.is)
