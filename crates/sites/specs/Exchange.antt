-- Full exchanges: one site works and sends all its notes; the other takes them all and the receipts are all taken;
-- then the same the other way round (document 01, "Two sites"). Nothing that is sent is lost. But notes may come late,
-- in any order and repeatedly, and before, between and within these acts anything else may happen on the line: notes of
-- before, further work, further notes, strays.
use Rattle.std.specs.Prelude.{◌≡◌, ℕ, zero, suc, ◌<◌, Result, Ok, Err}
use mathlib.Core.List.{List, [], ◌∷◌, Memᴰ}
use Rattle.wac.specs.Limits.{entries}
use Rattle.sites.specs.Notes.{note_bytes}
use Rattle.sites.specs.Site.{Works, DueAt, raise_of, receipt_of}
use Rattle.sites.specs.Line.{Party, Act, System, swapped, Step, Steps, joined}
use Rattle.sites.specs.declared.note.NoteKind.{NoteKind}
use Rattle.sites.specs.declared.note.NoteKind.TheVariants.{Raise, Receipt}
use Rattle.sites.specs.declared.site.Site.{Site}
use Rattle.sites.specs.declared.site.NoteRefused.{NoteRefused}

-- the notes with the one that was brought, unless it was refused
abbrev pub accepted : Result NoteKind NoteRefused → List ℕ → List (List ℕ) → List (List ℕ)
accepted (Ok Raise) b ns = b ∷ ns
accepted (Ok Receipt) b ns = b ∷ ns
accepted (Err why) b ns = ns

-- the notes with the one that an act takes
abbrev pub took : {session : ℕ} {theirs : List (List ℕ)} {p q : Party} → Act session theirs p q →
    List (List ℕ) → List (List ℕ)
took (Act.act_work x works) ns = ns
took (Act.act_write from e l l' sends) ns = ns
took (Act.act_take b l l' r m takes) ns = accepted r.answer b ns
took (Act.act_stray b l l' r stray takes) ns = ns

-- the notes that a took in a run
unfoldable pub taken_a : {session : ℕ} {x y : System} → Steps session x y → List (List ℕ)
taken_a Steps.none = []
taken_a (Steps.more on (Step.step_a act)) = took act (taken_a on)
taken_a (Steps.more on (Step.step_b act)) = taken_a on

-- and those that b took
unfoldable pub taken_b : {session : ℕ} {x y : System} → Steps session x y → List (List ℕ)
taken_b Steps.none = []
taken_b (Steps.more on (Step.step_a act)) = taken_b on
taken_b (Steps.more on (Step.step_b act)) = took act (taken_b on)

-- entry e of a has its turn on a run: there is a point of the run such that, if the entry waits to be sent there, then
-- in the rest of the run b takes its note and a takes the receipt
pub record Turn {session : ℕ} {x y : System} (run : Steps session x y) (e : ℕ) : Type 0 where
  pub point : System
  pub before : Steps session x point
  pub after : Steps session point y
  pub parts : run ≡ joined before after
  pub told : DueAt point.a.site e →
      Memᴰ (note_bytes (raise_of point.a.site e)) (taken_b after)
      × Memᴰ (note_bytes (receipt_of (raise_of point.a.site e))) (taken_a after)

-- both sites after a has worked
abbrev pub a_works : Site → System → System
a_works w x = record { a = record { site = w; wrote = x.a.wrote }; b = x.b }

-- one half: a works, and on one run after it every entry of a has its turn
pub record Half (session : ℕ) (x y : System) : Type 0 where
  pub from : System
  pub before : Steps session x from
  pub worked : Site
  pub work : Works from.a.site worked
  pub after : Steps session (a_works worked from) y
  pub turns : (e : ℕ) → e < entries → Turn after e

-- a full exchange that a begins: one half, and the same the other way round
pub record Full (session : ℕ) (x y : System) : Type 0 where
  pub middle : System
  pub there : Half session x middle
  pub back : Half session (swapped middle) (swapped y)

-- n full exchanges in a row, each begun by either site
pub data Exchanges (session : ℕ) (x : System) : ℕ → System → Type 0 where
  begin : Exchanges session x zero x
  from_a : {n : ℕ} {y z : System} → Exchanges session x n y → Full session y z → Exchanges session x (suc n) z
  from_b : {n : ℕ} {y z : System} → Exchanges session x n y → Full session (swapped y) (swapped z) →
      Exchanges session x (suc n) z
