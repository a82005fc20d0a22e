-- `open` meets its contract: refused with a blank site, or the site.
use mathlib.Core.Path.{sym, ap, ◌∙◌}
use Rattle.wac.specs.Answers.{gives}
use Rattle.decision.specs.Question.{answered_as}
use Rattle.decision.proofs.AskLaws.{admitted_ready}
use Rattle.sites.specs.Site.{Opens.refused, Opens.opened}
use Rattle.sites.proofs.SiteLaws.{file_low}
use Rattle.sites.proofs.site.Site.open.Goals as goal

pub on-requires : goal.on-requires
on-requires c =
    let ready = admitted_ready _ _ (sym c.admit.ensures ∙ ap answered_as c.in-Ok.is) in
    (file_low _ ready.accepted, ready.asker)

pub returns-in-Err : goal.returns-in-Err
returns-in-Err c = refused c.in-Err.why (sym c.admit.ensures ∙ ap answered_as c.in-Err.is) (rw c.blank.ensures)

pub returns-in-Ok : goal.returns-in-Ok
returns-in-Ok c =
    let given = sym c.admit.ensures ∙ ap answered_as c.in-Ok.is in
    let ready = admitted_ready _ _ given in
    opened (given ∙ ap gives ready.counted) (rw c.on.ensures)
