-- The site of a refused opening never rests and shows nothing granted, and neither work nor notes change it.
use mathlib.Core.Path.{◌≡◌, refl, sym, ◌∙◌}
use mathlib.Core.Bool.{false, not}
use mathlib.Core.List.{List, [], ◌++◌}
use Prim.Native.Nat.{ℕ, zero, suc}
use lib.Dec.{eqb}
use lib.ListN.{get_or, replicate}
use Rattle.wac.specs.Limits.{entries, delegate, end_place}
use Rattle.wac.specs.Answers.{refuses, first_of}
use Rattle.wac.specs.File.{count_of, frame_cases, file_cases}
use Rattle.wac.proofs.Cases.{first_holds, first_refused, gives_not_refuses}
use Rattle.rewriting.proofs.Tests.{by_test}
use Rattle.decision.specs.Table.{is_entry, table_of}
use Rattle.decision.specs.declared.request.Request.{Request}
use Rattle.decision.specs.Question.{request_cases, settle_cases, Settles}
use Rattle.sites.specs.Notes.{note_from}
use Rattle.sites.specs.Site.{blank_site, Works, Takes, restful, showing}
use Rattle.sites.specs.declared.site.Site.{Site}
use Rattle.sites.specs.declared.site.Taking.{Taking}
use Rattle.sites.proofs.Following.{refused_stays, foreign_refused}

pub blank_busy : restful blank_site ≡ false
unfolding restful blank_site
blank_busy = refl

-- a list of nothing but 0
zeros : (n e : ℕ) → ◌≡◌ {A = ℕ} (get_or (replicate n 0) e 0) 0
zeros zero e = refl
zeros (suc n) zero = refl
zeros (suc n) (suc e) = zeros n e

-- a site with nothing but 0 shows nothing
shows_nothing : (x : Site) → ((e : ℕ) → get_or x.minutes e 0 ≡ 0) → showing x ≡ record { minute = 0; granted = false }
unfolding showing table_of
shows_nothing x none =
    let at : table_of 0 x.minutes x.request.owner delegate end_place ≡ 0 = by_test (λ m. m ≡ 0) (is_entry x.request.owner delegate end_place) (λ e. none _) (λ e. refl) in
    λ i. record { minute = at i; granted = not (eqb (at i) 0) }

pub blank_shows : showing blank_site ≡ record { minute = 0; granted = false }
unfolding blank_site
blank_shows = shows_nothing blank_site (zeros entries)

-- it has no file
short : first_of (file_cases []) (count_of []) ≡ refuses 10 []
unfolding file_cases frame_cases
short = first_holds _ _ _ refl

no_file : (q : Request) (n : ℕ) → first_of (settle_cases [] q n) (count_of []) ≡ refuses 10 []
unfolding settle_cases
no_file q n = first_refused (file_cases [] ++ request_cases q) _ (count_of []) (count_of []) (first_refused (file_cases []) (request_cases q) (count_of []) (count_of []) short)

pub blank_works : {x : Site} → Works blank_site x → x ≡ blank_site
unfolding blank_site
blank_works (Works.worked N ms (Settles.refused n vs case e same) at) = absurd (gives_not_refuses e)
blank_works (Works.worked N ms (Settles.settled case M from e) at) = absurd (gives_not_refuses (sym case ∙ no_file _ _))
blank_works (Works.refused why settles at) = at

pub blank_takes : {b l l' : List ℕ} {r : Taking} → Takes blank_site b l r l' → (r.site ≡ blank_site) × (l' ≡ l)
unfolding blank_site
blank_takes {b} {l} {l'} {r} takes =
    let stays = refused_stays blank_site (note_from b) l [] r.answer (takes.answer ∙ (foreign_refused blank_site b l (λ ok. refl)).1) in
    (takes.site ∙ stays.0, takes.bytes ∙ stays.2)
