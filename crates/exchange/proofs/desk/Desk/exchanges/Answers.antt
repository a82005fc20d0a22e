-- `exchanges` meets its contract: two halves, the second the other way round.
use mathlib.Core.Path.{refl}
use Rattle.exchange.proofs.Halves.{halves_full}
use Rattle.exchange.proofs.desk.Desk.exchanges.Goals as goal

pub returns : goal.returns
returns c =
    let there = c.half-there in
    let back = c.half-back in
    let desk = c.args.self in (
      rw c.swapped-2.ensures (halves_full desk there.result back.result there.ensures (rw c.swapped.ensures at back.ensures)),
      refl,
    )
