-- `lowest_bad` meets its contract. The invariant: every record passed keeps to the table.
use Rattle.std.proofs.Common.{◌≡◌, ℕ, ◌<◌, false, not}
use Rattle.wac.specs.File.{record_at}
use Rattle.wac.specs.Ranges.{record_ok}
use Rattle.wac.proofs.file.lowest_bad.Given as goal

abbrev pub invariant-loop-n : goal.invariant-loop-n
invariant-loop-n l = (k : ℕ) → k < l.n → not (record_ok (record_at l.file k)) ≡ false
