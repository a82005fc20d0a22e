-- `try_cert` meets its contract. The loop's invariant: the certificate is tried at its entries that arrive below what is left of the range.
use Prim.Native.Nat.{◌≤◌}
use mathlib.Core.Path.{◌≡◌}
use Rattle.decision.specs.Table.{arrivals_of}
use Rattle.decision.proofs.PassingLaws.{Trying}
use Rattle.decision.proofs.row.Row.try_cert.Given as goal

abbrev pub invariant-loop-place : goal.invariant-loop-place
invariant-loop-place l = record {
  ends : l.place-iterator.end ≡ (arrivals_of l.fn.cert.left).end;
  begins : (arrivals_of l.fn.cert.left).start ≤ l.place-iterator.start;
  tried : Trying l.self.lens l.self.table.now l.fn.cert l.initial.new l.new l.place-iterator.start;
}
