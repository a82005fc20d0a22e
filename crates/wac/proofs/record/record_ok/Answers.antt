use mathlib.Core.Path.{sym, ◌∙◌}
use native.Mathlib.Omega.{arith}
use Rattle.wac.specs.Ranges.{record_ok}
use Rattle.wac.proofs.Tests.{all_below_false}
use Rattle.wac.proofs.record.record_ok.Goals as goal

pub returns-then-not-byte_ok : goal.returns-then-not-byte_ok
unfolding record_ok
returns-then-not-byte_ok c =
    sym
    (all_below_false 10 _ c.loop-i.i (omega arith)
    (sym c.byte_ok.ensures ∙ c.if-not-byte_ok.true))
