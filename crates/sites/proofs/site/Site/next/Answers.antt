-- `next` meets its contract: the note of the lowest entry that is due.
use mathlib.Core.Path.{refl, sym, ap, ◌∙◌}
use lib.Seq.{sets}
use Rattle.std.specs.Prelude.{Some}
use Rattle.std.proofs.lemmas.Result.{err_from_is_err_and}
use Rattle.sites.specs.Notes.{note_bytes}
use Rattle.sites.proofs.SiteLaws.{next_known, send_given, send_short}
use Rattle.sites.proofs.site.Site.next.Goals as goal

pub returns-in_err-room_for_note : goal.returns-in_err-room_for_note
returns-in_err-room_for_note c =
    let p = err_from_is_err_and c.from_residual.result c.from_residual.ensures.1 in
    let short = c.in_err-room_for_note.ensures in
    rw (p.1, p.2, short.0) (send_short _ short.1)

pub raise_of-requires : goal.raise_of-requires
raise_of-requires c = (next_known _ _ (Some c.in-Some.entry) (sym c.in-Some.ensures)).0

pub returns-in-Some : goal.returns-in-Some
returns-in-Some c =
    record {
      answer = send_given _ _ c.args.bytes.now c.in_ok-room_for_note.ensures (sym c.in-Some.ensures);
      bytes = c.write.ensures ∙ ap (λ n. sets c.args.bytes.now 0 (note_bytes n)) c.raise_of.ensures;
    }

pub returns-in_default : goal.returns-in_default
returns-in_default c =
    rw c.in_default.is (record { answer = send_given _ _ c.args.bytes.now c.in_ok-room_for_note.ensures (sym c.in_default.ensures); bytes = refl })
