-- `entry` meets its contract: a note in order names an entry.
use mathlib.Core.Path.{◌∙◌}
use Rattle.sites.proofs.NoteLaws.{formed_fields}
use Rattle.sites.proofs.SiteLaws.{number_test}
use Rattle.sites.proofs.note.Note.entry.Goals as goal

pub unwrap-requires : goal.unwrap-requires
unwrap-requires c = number_test _ _ _ _ (rw c.from.ensures at c.entry_number.ensures) ∙ (formed_fields _ c.requires).entry
