-- Two results that meet a contract are the same. Where a contract is an equation for the result there is nothing to show; these are the others.
use mathlib.Core.Path.{◌≡◌, refl, sym, ap, ◌∙◌}
use mathlib.Core.Bool.{cond}
use mathlib.Core.List.{List}
use Prim.Native.Nat.{ℕ}
use native.Mathlib.Omega.{arith}
use lib.Dec.{eqb}
use Rattle.std.specs.Prelude.{Option, Result, Ok, Err}
use Rattle.wac.specs.Answers.{Answer, gives, refuses}
use Rattle.wac.proofs.Cases.{gives_not_refuses}
use Rattle.wac.proofs.Unique.{told_apart}
use Rattle.decision.specs.declared.request.Request.{Request}
use Rattle.decision.proofs.Unique.{admit_unique, settles_unique}
use Rattle.sites.specs.Notes.{raise_kind, note_from}
use Rattle.sites.specs.Site.{blank_site, Opens, worked_site, Works, taken_as, site_after, bytes_after, Takes, sending_as, bytes_sent, Sends}
use Rattle.sites.specs.declared.site.Site.{Site}
use Rattle.sites.specs.declared.site.Opening.{Opening}
use Rattle.sites.specs.declared.site.NoteRefused.{NoteRefused}
use Rattle.sites.specs.declared.site.NoteRefused.TheVariants.{Room, Form, Session, Later}
use Rattle.sites.specs.declared.note.NoteKind.{NoteKind}
use Rattle.sites.specs.declared.note.NoteKind.TheVariants.{Raise, Receipt}
use Rattle.sites.specs.declared.site.Taking.{Taking}

-- `open`: one opening
module _ {s : List ℕ} {q : Request} {session : ℕ} where
  pub opens_unique : {r r' : Opening} → Opens s q session r → Opens s q session r' → r ≡ r'
  opens_unique (Opens.refused why case e) (Opens.refused why' case' e') =
      let reason : why ≡ why' = cc (admit_unique s q (Err why) (Err why') (sym case) (sym case')) in
      e ∙ ap (λ w. record { answer = Err w; site = blank_site }) reason ∙ sym e'
  opens_unique (Opens.refused why case e) (Opens.opened case' e') = absurd (gives_not_refuses (sym case' ∙ case))
  opens_unique (Opens.opened case e) (Opens.refused why case' e') = absurd (gives_not_refuses (sym case ∙ case'))
  opens_unique (Opens.opened case e) (Opens.opened case' e') = e ∙ sym e'

module _ {x : Site} where
  -- `work`: one site
  pub works_unique : {x₁ x₂ : Site} → Works x x₁ → Works x x₂ → x₁ ≡ x₂
  works_unique (Works.worked N m settles e) (Works.worked N' m' settles' e') = e ∙ ap (worked_site x) (settles_unique settles settles').1 ∙ sym e'
  works_unique (Works.worked N m settles e) (Works.refused why settles' e') = absurd (let e = (settles_unique settles settles').0 in grind arith)
  works_unique (Works.refused why settles e) (Works.worked N m settles' e') = absurd (let e = (settles_unique settles settles').0 in grind arith)
  works_unique (Works.refused why settles e) (Works.refused why' settles' e') = e ∙ sym e'

-- the refusal of a number
note_refused_of : ℕ → NoteRefused
note_refused_of n = cond (eqb n 23) Room (cond (eqb n 27) Form (cond (eqb n 26) Session Later))

taken_of : Answer ℕ → Result NoteKind NoteRefused
taken_of (gives n) = cond (eqb n raise_kind) (Ok Raise) (Ok Receipt)
taken_of (refuses n vs) = Err (note_refused_of n)

taken_back : (r : Result NoteKind NoteRefused) → taken_of (taken_as r) ≡ r
unfolding note_refused_of taken_of
taken_back (Ok Raise) = refl
taken_back (Ok Receipt) = refl
taken_back (Err Room) = refl
taken_back (Err Form) = refl
taken_back (Err Session) = refl
taken_back (Err Later) = refl

pub taken_apart : (r r' : Result NoteKind NoteRefused) → taken_as r ≡ taken_as r' → r ≡ r'
taken_apart = told_apart taken_as taken_of taken_back

-- `take`: one answer, one site, and one receipt
pub takes_unique : {x : Site} {b l : List ℕ} (r r' : Taking) {l₁ l₂ : List ℕ} → Takes x b l r l₁ → Takes x b l r' l₂ → (r ≡ r') × (l₁ ≡ l₂)
takes_unique {x} {b} {l} r r' t t' =
    let same = taken_apart r.answer r'.answer (t.answer ∙ sym t'.answer) in
    let site : r.site ≡ r'.site = t.site ∙ ap (λ a. site_after a x (note_from b)) same ∙ sym t'.site in
    (both same site, t.bytes ∙ ap (λ a. bytes_after a l (note_from b)) same ∙ sym t'.bytes)
  where
    both : {a a' : Result NoteKind NoteRefused} {s s' : Site} → a ≡ a' → s ≡ s' → ◌≡◌ {A = Taking} (record { answer = a; site = s }) (record { answer = a'; site = s' })
    both e f = rw (e, f)

sending_of : Answer (Option ℕ) → Result (Option ℕ) NoteRefused
sending_of (gives next) = Ok next
sending_of (refuses n vs) = Err (note_refused_of n)

sending_back : (r : Result (Option ℕ) NoteRefused) → sending_of (sending_as r) ≡ r
unfolding note_refused_of sending_of
sending_back (Ok next) = refl
sending_back (Err Room) = refl
sending_back (Err Form) = refl
sending_back (Err Session) = refl
sending_back (Err Later) = refl

pub sending_apart : (r r' : Result (Option ℕ) NoteRefused) → sending_as r ≡ sending_as r' → r ≡ r'
sending_apart = told_apart sending_as sending_of sending_back

-- `next`: one answer, and one note
pub sends_unique : {x : Site} {from : ℕ} {l : List ℕ} {r r' : Result (Option ℕ) NoteRefused} {l₁ l₂ : List ℕ} → Sends x from l r l₁ → Sends x from l r' l₂ →
    (r ≡ r') × (l₁ ≡ l₂)
sends_unique {x} {from} {l} {r} {r'} s s' =
    let same = sending_apart r r' (s.answer ∙ sym s'.answer) in
    (same, s.bytes ∙ ap (λ r. bytes_sent r x l) same ∙ sym s'.bytes)
