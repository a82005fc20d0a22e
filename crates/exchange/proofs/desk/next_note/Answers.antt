-- `next_note` meets its contract: with room for a note the site does not refuse.
use Rattle.std.proofs.Common.{◌≡◌, List, ℕ, ◌∙◌, sym, arith}
use Rattle.std.specs.Prelude.{Option, Some, None, Result, Ok, Err}
use Rattle.std.specs.Option.{option_flatten}
use Rattle.std.specs.Result.{result_ok}
use Rattle.sites.specs.Site.{Sends}
use Rattle.sites.specs.declared.site.Site.{Site}
use Rattle.sites.specs.declared.site.NoteRefused.{NoteRefused}
use Rattle.sites.proofs.SendingLaws.{never_short}
use Rattle.exchange.specs.Mail.{blank}
use Rattle.exchange.proofs.desk.next_note.Goals as goal

-- Where no note is sent, nothing is.
nothing_sent : {x : Site} {from : ℕ} {l : List ℕ} (r : Result (Option ℕ) NoteRefused) → Sends x from blank r l → option_flatten (result_ok r) ≡ None → Sends x from blank (Ok None) l
nothing_sent (Ok None) sends none = sends
nothing_sent (Ok (Some e)) sends none = absurd (cc)
nothing_sent (Err why) sends none = absurd (never_short (omega arith) sends)

pub returns-in_err-entry : goal.returns-in_err-entry
returns-in_err-entry c =
    rw c.from_residual.ensures (_, nothing_sent c.next.result c.next.ensures (sym (rw c.ok.ensures.value at c.flatten.ensures) ∙ c.in_err-entry.was))
