-- `try_at` meets its contract: one store at the entry's number.
use Rattle.rewriting.proofs.Held.{reading_fits}
use Rattle.decision.proofs.PassingLaws.{weight_fits}
use Rattle.decision.proofs.ReadingLaws.{fine}
use Rattle.decision.proofs.row.Row.try_at.Goals as goal

pub joined-offer-requires : goal.joined-offer-requires
joined-offer-requires c =
    let a = c.args in (
      rw c.weight.ensures (weight_fits a.self.now.lens a.side.now.cert c.requires.1),
      rw c.read_side-read.ensures (reading_fits _ _ (fine a.self.now) _ _ _),
    )
