use mathlib.Core.Path.{◌≡◌}
use Prim.Native.Nat.{◌+◌}
use native.Mathlib.Omega.{arith}
use Rattle.decision.proofs.ReadingLaws.{symbols_few}
use Rattle.decision.proofs.WritingLaws.{at_fits, read_fits, place_last}
use Rattle.decision.proofs.writing.LastSteps.find_place.Goals as goal

pub overflow_add-j : goal.overflow_add-j
overflow_add-j c = omega (arith, symbols_few c.args.side.now.cert)

pub overflow_add-first : goal.overflow_add-first
overflow_add-first c =
    let a = c.args in
    omega (
      arith,
      c.steps_at-first.ensures,
      at_fits a.self.now.floor a.self.now.table.now a.from c.symbol_at-symbol.result c.loop-place.place a.self.now.within,
      c.steps_read-rest.ensures,
      read_fits a.self.now.floor a.self.now.table.now a.side.now.cert (a.j + 1) c.loop-place.place a.to,
    )

pub returns : goal.returns
returns c =
    let pre = c.requires in
    let end : c.loop-place.place ≡ 16 = omega arith in
    (omega arith, place_last c.args.self.now.floor _ _ _ _ _ 16 pre.0 pre.1 (omega arith) (omega arith) (rw end at c.loop-place.invariant))
