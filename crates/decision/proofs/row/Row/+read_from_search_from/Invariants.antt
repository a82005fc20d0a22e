-- `read_from` and `search_from` meet their contracts. The measure is twice the symbols left, and one more where they are not searched yet.
-- The invariant of the loop: `best` is the best of what the places passed give.
use mathlib.Core.Path.{◌≡◌}
use Prim.Native.Nat.{◌+◌, ◌-◌, ◌*◌}
use lib.ListN.{length}
use Rattle.decision.specs.Usable.{symbols_of}
use Rattle.decision.specs.Lens.{weighing_of, question_by}
use Rattle.decision.specs.Engine.{held}
use Rattle.decision.proofs.ReadingLaws.{up_to, through}
use Rattle.decision.proofs.row.Row.+read_from_search_from.Given as goal

abbrev pub decreases-read_from : goal.decreases-read_from
decreases-read_from l = 2 * (length (symbols_of l.side.now.cert) - l.j) + 1

abbrev pub decreases-search_from : goal.decreases-search_from
decreases-search_from l = 2 * (length (symbols_of l.side.now.cert) - l.j)

abbrev pub invariant-search_from-loop-place : goal.invariant-search_from-loop-place
invariant-search_from-loop-place l =
    l.best ≡ up_to (weighing_of l.self.lens) l.place (through (question_by l.self.lens 0) (held l.self.lens l.self.table.now) (symbols_of l.side.cert) l.j l.from l.to)
