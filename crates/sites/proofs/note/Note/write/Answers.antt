-- `write` meets its contract: the note's bytes take the first places.
use mathlib.Core.Path.{sym, ap, ◌∙◌}
use mathlib.Core.List.{◌++◌}
use lib.ListN.{length, drop}
use lib.Seq.{length-take-le, sets-eq}
use Rattle.sites.specs.Notes.{note_length, note_bytes}
use Rattle.sites.proofs.note.Note.write.Goals as goal

pub copy_from_slice-requires : goal.copy_from_slice-requires
copy_from_slice-requires c = length-take-le note_length c.args.to.now c.requires ∙ sym (ap length c.from.ensures)

pub returns : goal.returns
returns c =
    ap (λ l. l ++ drop note_length c.args.to.now) (c.copy_from_slice.ensures.after ∙ c.from.ensures)
    ∙ sym (sets-eq (note_bytes c.args.self) c.args.to.now 0 c.requires)
