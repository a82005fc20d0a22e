-- `find_place` meets its contract. The invariant: to no place passed does the symbol go in a best reading; so, after the keys, it goes to the end.
-- The measure is what is left of the places.
use Prim.Native.Nat.{ℕ, ◌<◌}
use Rattle.decision.proofs.WritingLaws.{Goes}
use Rattle.decision.proofs.writing.LastSteps.find_place.Given as goal

abbrev pub invariant-loop-place : goal.invariant-loop-place
invariant-loop-place l = (p : ℕ) → p < l.place → Goes l.self.floor l.self.table.now l.side.cert l.j l.from l.to p → ⊥
