-- `kind` meets its contract: a note in order has the code of a kind.
use Rattle.sites.proofs.SiteLaws.{other_kind}
use Rattle.sites.proofs.note.Note.kind.Goals as goal

pub unreachable-requires : goal.unreachable-requires
unreachable-requires c = let none = c.in-Err.ensures in none.1 (other_kind _ c.requires none.0)
