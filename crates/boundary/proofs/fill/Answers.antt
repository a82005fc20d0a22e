-- `fill` meets its contract: there is room for the fields.
use mathlib.Core.Path.{sym, ap, ◌∙◌}
use lib.ListN.{length}
use lib.Seq.{length-take-le}
use Rattle.boundary.proofs.fill.Goals as goal

pub copy_from_slice-requires : goal.copy_from_slice-requires
copy_from_slice-requires c = length-take-le _ _ c.requires ∙ sym (ap length c.fields_of.ensures)
