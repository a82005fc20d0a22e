-- Two sites on a line that may lose, repeat, delay and reorder notes, and bring bytes that are no note of this session, but forges none:
-- document 01, "Two sites". Everything is said of the sites and of the bytes that the functions take and give.
use Rattle.std.specs.Prelude.{◌≡◌, ◌↔◌, true, ℕ, ◌≤◌, take, Result, Ok, Err, Some}
use mathlib.Core.List.{List, [], ◌∷◌, Memᴰ}
use Rattle.wac.specs.Bytes.{AreBytes}
use Rattle.wac.specs.Limits.{without_end}
use Rattle.rewriting.specs.Rewriting.{Rules, Chain, Decides}
use Rattle.rewriting.specs.Together.{together}
use Rattle.decision.specs.Usable.{rules_of}
use Rattle.decision.specs.Question.{asked}
use Rattle.decision.specs.declared.request.Request.{Request}
use Rattle.sites.specs.Notes.{note_length, note_from, note_ok}
use Rattle.sites.specs.Site.{Opens, Works, Takes, Sends, restful, showing}
use Rattle.sites.specs.declared.note.NoteKind.{NoteKind}
use Rattle.sites.specs.declared.note.NoteKind.TheVariants.{Raise, Receipt}
use Rattle.sites.specs.declared.site.Site.{Site}
use Rattle.sites.specs.declared.site.NoteRefused.{NoteRefused}
use Rattle.sites.specs.declared.site.Taking.{Taking}

-- a site and all the notes that it ever wrote, by their bytes
pub record Party : Type 0 where
  pub site : Site
  pub wrote : List (List ℕ)

-- the notes with the receipt that stands in the lent bytes, if one was written
abbrev pub receipt_in : Result NoteKind NoteRefused → List ℕ → List (List ℕ) → List (List ℕ)
receipt_in (Ok Raise) l w = take note_length l ∷ w
receipt_in (Ok Receipt) l w = w
receipt_in (Err why) l w = w

-- bytes that are no note of this session
abbrev pub Stray : ℕ → List ℕ → Type 0
Stray session b = note_ok b ≡ true → (note_from b).session ≡ session → ⊥

-- what a site may do next, while the other side wrote the notes `theirs`: it works; it writes a note; any note that the other side ever wrote is brought to it; bytes that are no note of this session are brought to it
pub data Act (session : ℕ) (theirs : List (List ℕ)) : Party → Party → Type 0 where
  act_work : {p : Party} (x : Site) → Works p.site x → Act session theirs p (record { site = x; wrote = p.wrote })
  act_write : {p : Party} (from e : ℕ) (l l' : List ℕ) → Sends p.site from l (Ok (Some e)) l' → Act session theirs p (record { site = p.site; wrote = take note_length l' ∷ p.wrote })
  act_take : {p : Party} (b l l' : List ℕ) (r : Taking) → Memᴰ b theirs → Takes p.site b l r l' →
      Act session theirs p (record { site = r.site; wrote = receipt_in r.answer l' p.wrote })
  act_stray : {p : Party} (b l l' : List ℕ) (r : Taking) → Stray session b → Takes p.site b l r l' →
      Act session theirs p (record { site = r.site; wrote = receipt_in r.answer l' p.wrote })

-- both sites
pub record System : Type 0 where
  pub a : Party
  pub b : Party

-- the two sites in each other's places
abbrev pub swapped : System → System
swapped x = record { a = x.b; b = x.a }

-- one of them acts
pub data Step (session : ℕ) : System → System → Type 0 where
  step_a : {x : System} {p : Party} → Act session x.b.wrote x.a p → Step session x (record { a = p; b = x.b })
  step_b : {x : System} {p : Party} → Act session x.a.wrote x.b p → Step session x (record { a = x.a; b = p })

-- any number of acts
pub data Steps (session : ℕ) : System → System → Type 0 where
  none : {x : System} → Steps session x x
  more : {x y z : System} → Steps session x y → Step session y z → Steps session x z

-- one run after another
unfoldable pub joined : {session : ℕ} {x y z : System} → Steps session x y → Steps session y z → Steps session x z
joined run Steps.none = run
joined run (Steps.more on step) = Steps.more (joined run on) step

-- a file of bytes with which a site was opened and is ready, before it wrote anything
pub record Begun (s : List ℕ) (q : Request) (session : ℕ) (p : Party) : Type 0 where
  pub bytes : AreBytes s
  pub opening : Opens s q session (record { answer = Ok tt; site = p.site })
  pub silent : p.wrote ≡ []

-- the states that two sites come to which were opened with one request and one session number of 4 bytes
pub record Reached (f g : List ℕ) (q : Request) (session : ℕ) (x : System) : Type 0 where
  pub word : session ≤ without_end
  pub from : System
  pub begun_a : Begun f q session from.a
  pub begun_b : Begun g q session from.b
  pub steps : Steps session from x

-- the certificates of both files together
abbrev pub both_files : List ℕ → List ℕ → Request → Rules
both_files f g q = together (rules_of f q) (rules_of g q)

-- what demand 2 gives over both files together: m is 0 and there is no chain, or m is the latest minute of a chain
abbrev pub JointMinute : List ℕ → List ℕ → Request → ℕ → Type 0
JointMinute f g q m = Decides (asked q) (both_files f g q) q.owner m

-- there is a chain over both files together
abbrev pub JointChain : List ℕ → List ℕ → Request → Type 0
JointChain f g q = (ch : List ℕ) × Chain (both_files f g q) q.owner q.asker ch

-- a site rests, shows the joint minute, and shows "granted" exactly if there is a chain
pub record Settled (f g : List ℕ) (q : Request) (x : Site) : Type 0 where
  pub rests : restful x ≡ true
  pub shows : JointMinute f g q (showing x).minute
  pub grants : ((showing x).granted ≡ true) ↔ JointChain f g q

-- both do
pub record Agreed (f g : List ℕ) (q : Request) (x : System) : Type 0 where
  pub a : Settled f g q x.a.site
  pub b : Settled f g q x.b.site
