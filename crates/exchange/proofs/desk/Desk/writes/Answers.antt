-- `writes` meets its contract: it is what the site sends.
use mathlib.Core.Path.{refl}
use Rattle.exchange.specs.Acts.{Wrote}
use Rattle.exchange.proofs.desk.Desk.writes.Goals as goal

pub returns : goal.returns
returns c = Wrote.note _ _ _ c.in-Some.ensures c.keep-first_count.ensures refl refl

pub returns-in_default : goal.returns-in_default
returns-in_default c = let sent = c.in_default.ensures in Wrote.nothing sent.0 sent.1 refl refl refl
