-- `bits_of` meets its contract: the sum so far is that of the keys from `key` on.
use Rattle.std.proofs.Common.{◌≡◌, ◌-◌}
use Rattle.boundary.specs.Questions.{bits}
use Rattle.boundary.proofs.questions.bits_of.Given as goal

abbrev pub invariant-loop-key : goal.invariant-loop-key
invariant-loop-key l = l.sum ≡ bits l.list l.key (16 - l.key)
