-- `start_minutes` meets its contract: the asker's two marks are without end.
use mathlib.Core.Logic.{inl, inr}
use mathlib.Core.Path.{refl, ◌∙◌}
use Rattle.decision.proofs.PassingLaws.{asker_entry}
use Rattle.sites.proofs.SiteLaws.{number_test, start_set}
use Rattle.sites.proofs.site.start_minutes.Goals as goal

pub unwrap-requires : goal.unwrap-requires
unwrap-requires c = number_test _ _ _ _ c.entry_number.ensures ∙ asker_entry _ 10 c.requires (inl refl)

pub unwrap-requires-2 : goal.unwrap-requires-2
unwrap-requires-2 c = number_test _ _ _ _ c.entry_number-2.ensures ∙ asker_entry _ 11 c.requires (inr refl)

pub returns : goal.returns
returns c =
    let delegate = rw c.unwrap.ensures at c.entry_number.ensures in
    let access = rw c.unwrap-2.ensures at c.entry_number-2.ensures in
    start_set _ c.requires _ _ _ refl delegate.1 access.1
