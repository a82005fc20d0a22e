-- `record_ok` meets its contract. The invariant: every byte passed is as the table says.
use Rattle.std.proofs.Common.{◌≡◌, ℕ, ◌<◌, true}
use Rattle.wac.specs.Ranges.{byte_ok}
use Rattle.wac.proofs.record.record_ok.Given as goal

abbrev pub invariant-loop-i : goal.invariant-loop-i
invariant-loop-i l = (k : ℕ) → k < l.i → byte_ok l.bytes k ≡ true
