-- `sends_next` meets its contract: the entry after one that is sent is at most 2,592.
use mathlib.Core.Path.{refl}
use native.Mathlib.Omega.{arith}
use Rattle.sites.proofs.SendingLaws.{sent_above}
use Rattle.exchange.proofs.desk.Desk.sends_next.Goals as goal

pub overflow_add-result : goal.overflow_add-result
overflow_add-result c = omega (arith, sent_above c.in_ok-written.ensures refl)
