-- `half` meets its contract. The loop's invariant: the entries below the next have had their turns. The measure is the entries that are left.
use Prim.Native.Nat.{◌-◌}
use Rattle.exchange.proofs.Halves.{Turning}
use Rattle.exchange.proofs.desk.Desk.half.Given as goal

abbrev pub invariant-loop-sent : goal.invariant-loop-sent
invariant-loop-sent l = Turning l.initial.after l.after l.from

abbrev pub decreases-loop-sent : goal.decreases-loop-sent
decreases-loop-sent l = 2592 - l.from
