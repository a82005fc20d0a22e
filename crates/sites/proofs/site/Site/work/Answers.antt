-- `work` meets its contract: the site's own file settles a copy of its minutes.
use mathlib.Core.Path.{◌≡◌, refl, subst}
use mathlib.Core.List.{List}
use Prim.Native.Nat.{ℕ, min}
use lib.ListN.{take}
use Rattle.wac.specs.Limits.{largest_file}
use Rattle.decision.specs.Question.{Settles}
use Rattle.std.specs.Prelude.{Result}
use Rattle.decision.specs.declared.question.Refused.{Refused}
use Rattle.sites.specs.declared.site.Site.{Site}
use Rattle.sites.specs.Site.{file_of, Works.worked, Works.refused}
use Rattle.sites.proofs.SiteLaws.{settle_stays}
use Rattle.sites.proofs.site.Site.work.Goals as goal

-- the site's own file settles the table
settles : (x : Site) {used : ℕ} (r : Result ℕ Refused) {table : List ℕ} → used ≡ min x.used largest_file →
    Settles (take used x.file) x.request r x.minutes table → Settles (file_of x) x.request r x.minutes table
settles x r {table} e by = subst (λ n. Settles (take n x.file) x.request r x.minutes table) e by

pub returns-in-Err : goal.returns-in-Err
returns-in-Err c =
    refused _ (settle_stays _ (settles c.args.self _ c.min-used.ensures c.settle.ensures) c.in-Err.is) refl

pub returns-in-Ok : goal.returns-in-Ok
returns-in-Ok c =
    let x = c.args.self in
    worked _ _ (subst (λ r. Settles (file_of x) x.request r x.minutes c.settle.new.table) c.in-Ok.is (settles c.args.self _ c.min-used.ensures c.settle.ensures)) refl
