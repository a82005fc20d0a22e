use mathlib.Core.Bool.{not}
use mathlib.Core.Path.{sym, ap, ◌∙◌}
use native.Mathlib.Omega.{arith}
use Rattle.wac.specs.File.{lowest_bad}
use Rattle.wac.specs.Ranges.{record_ok}
use Rattle.wac.proofs.Tests.{lowest_found}
use Rattle.wac.proofs.RecordLaws.{first_kept}
use Rattle.wac.proofs.file.lowest_bad.Goals as goal

pub returns-then-not-record_ok-clause-lowest : goal.returns-then-not-record_ok-clause-lowest
unfolding lowest_bad
returns-then-not-record_ok-clause-lowest c =
    sym
    (lowest_found _ _ c.loop-n.n (omega arith)
    (ap not (sym (c.record_ok.ensures ∙ ap record_ok c.record_at.ensures ∙ first_kept _) ∙ c.if-not-record_ok.true))
    c.loop-n.invariant)
