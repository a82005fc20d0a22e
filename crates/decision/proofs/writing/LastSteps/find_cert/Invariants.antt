-- `find_cert` meets its contract. The invariant: no certificate passed brings the entry about. The measure is what is left of the file.
use mathlib.Core.Bool.{false}
use mathlib.Core.Path.{◌≡◌}
use Prim.Native.Nat.{ℕ, ◌<◌}
use Rattle.decision.specs.Writing.{brings}
use Rattle.decision.proofs.writing.LastSteps.find_cert.Given as goal

abbrev pub invariant-loop-i : goal.invariant-loop-i
invariant-loop-i l = (k : ℕ) → k < l.i → brings l.self.inquiry.file.now l.self.inquiry.request l.self.floor l.self.table.now k l.entry.key l.entry.symbol l.entry.place ≡ false
