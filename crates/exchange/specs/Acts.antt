-- What each act makes of two sites: document 01, "Two sites", by what the sites' own functions promise.
use Rattle.std.specs.Prelude.{◌≡◌, ◌<◌, MatchResult, Bool, true, false, List, ℕ, ◌+◌, ◌%◌, Option, Some, None, Result, Ok, Err}
use Rattle.decision.specs.declared.request.Request.{Request}
use Rattle.sites.specs.Site.{Works, Takes, Sends}
use Rattle.sites.specs.Line.{System, Reached}
use Rattle.sites.specs.Exchange.{Half, Full}
use Rattle.sites.specs.declared.note.NoteKind.{NoteKind}
use Rattle.sites.specs.declared.note.NoteKind.TheVariants.{Raise, Receipt}
use Rattle.sites.specs.declared.site.Site.{Site}
use Rattle.sites.specs.declared.site.NoteRefused.{NoteRefused}
use Rattle.sites.specs.declared.site.Taking.{Taking}
use Rattle.lines.specs.declared.act.Outcome.TheVariants as outcomes
use Rattle.exchange.specs.Mail.{blank, kept_as, Keeps}
use Rattle.exchange.specs.declared.Act.{Act}
use Rattle.exchange.specs.declared.Act.TheVariants as acts
use Rattle.exchange.specs.declared.UnknownAct.{UnknownAct}
use Rattle.exchange.specs.declared.desk.Desk.{Desk}
use Rattle.exchange.specs.declared.desk.Done.{Done}
use Rattle.exchange.specs.declared.desk.Delivery.{Delivery}
use Rattle.exchange.specs.declared.desk.Sent.{Sent}
use Rattle.exchange.specs.declared.desk.Written.{Written}

-- the number of each act
abbrev pub act_number : Act → ℕ
act_number acts.Works = 0
act_number acts.Writes = 1
act_number acts.PassesOn = 2
act_number acts.Exchanges = 3
act_number acts.Brings = 4

-- the result is the act with this number, or there is none
abbrev pub NumbersAct : ℕ → Result Act UnknownAct → Type 0
NumbersAct number r = MatchResult r (λ act. act_number act ≡ number) (λ _. 4 < number)

-- the two sites in each other's places
abbrev pub swapped_desk : Desk → Desk
swapped_desk d = record { first = d.second; second = d.first; first_count = d.second_count; second_count = d.first_count }

-- is there a receipt?
abbrev pub is_raise : Result NoteKind NoteRefused → Bool
is_raise (Ok Raise) = true
is_raise (Ok Receipt) = false
is_raise (Err why) = false

-- the desk with another first site, and so many notes of it kept
abbrev pub with_first : Site → ℕ → Desk → Desk
with_first x count d = record { first = x; second = d.second; first_count = count; second_count = d.second_count }

-- the first site works
pub record Worked (d : Desk) (r : Done) : Type 0 where
  pub site : Site
  pub works : Works d.first site
  pub desk : r.desk ≡ with_first site d.first_count d
  pub outcome : r.outcome ≡ outcomes.Quiet

-- the next note that a site has to send from an entry on, with its entry; or there is none
abbrev pub NextNote : Site → ℕ → Option Written → Type 0
NextNote x from (Some w) = Sends x from blank (Ok (Some w.entry)) w.note
NextNote x from None = (bytes : List ℕ) × Sends x from blank (Ok None) bytes

-- the first site writes its next note from an entry on, which is kept; or has none
pub data Wrote (d : Desk) (from : ℕ) (notes : List ℕ) (r : Done) (notes' : List ℕ) : Type 0 where
  note : (e count : ℕ) (bytes : List ℕ) → Sends d.first from blank (Ok (Some e)) bytes → Keeps notes d.first_count bytes count notes' →
      r.desk ≡ with_first d.first count d → r.outcome ≡ outcomes.Note e → Wrote d from notes r notes'
  nothing : (bytes : List ℕ) → Sends d.first from blank (Ok None) bytes → notes' ≡ notes → r.desk ≡ d → r.outcome ≡ outcomes.Nothing →
      Wrote d from notes r notes'

-- a note is brought to a site
pub record Delivers (x : Site) (note : List ℕ) (r : Delivery) : Type 0 where
  pub takes : Takes x note blank (record { answer = r.answer; site = r.site }) r.receipt

-- the receipt of a raise is kept; without one nothing is
abbrev pub KeepsReceipt : Result NoteKind NoteRefused → List ℕ → ℕ → List ℕ → ℕ → List ℕ → Type 0
KeepsReceipt (Ok Raise) notes count receipt count' notes' = Keeps notes count receipt count' notes'
KeepsReceipt (Ok Receipt) notes count receipt count' notes' = (count' ≡ count) × (notes' ≡ notes)
KeepsReceipt (Err why) notes count receipt count' notes' = (count' ≡ count) × (notes' ≡ notes)

-- a note is brought to the first site, and the receipt that it writes is kept
pub record Brought (d : Desk) (note notes : List ℕ) (r : Done) (notes' : List ℕ) : Type 0 where
  pub taking : Taking
  pub receipt : List ℕ
  pub count : ℕ
  pub takes : Takes d.first note blank taking receipt
  pub keeps : KeepsReceipt taking.answer notes d.first_count receipt count notes'
  pub desk : r.desk ≡ with_first taking.site count d
  pub outcome : r.outcome ≡ outcomes.Brought taking.answer

-- a note that the first site wrote, by its number among those kept, is brought to the second; or there is none
pub data PassedOn (d : Desk) (n : ℕ) (firsts seconds : List ℕ) (r : Done) (seconds' : List ℕ) : Type 0 where
  nothing : d.first_count ≡ 0 → seconds' ≡ seconds → r.desk ≡ d → r.outcome ≡ outcomes.Nothing → PassedOn d n firsts seconds r seconds'
  brought : (d.first_count ≡ 0 → ⊥) → Brought (swapped_desk d) (kept_as firsts (n % d.first_count)) seconds (record { desk = swapped_desk r.desk; outcome = r.outcome }) seconds' →
      PassedOn d n firsts seconds r seconds'

-- a raise's receipt is brought back to the site; without a receipt it does not change
abbrev pub Returned : Result NoteKind NoteRefused → List ℕ → Site → Site → Type 0
Returned (Ok Raise) receipt x x' = (answer : Result NoteKind NoteRefused) × (bytes : List ℕ) × Takes x receipt blank (record { answer = answer; site = x' }) bytes
Returned (Ok Receipt) receipt x x' = x' ≡ x
Returned (Err why) receipt x x' = x' ≡ x

-- a note of the first site is brought to the second, and the receipt comes back
pub record Exchanged (d : Desk) (note : List ℕ) (d' : Desk) : Type 0 where
  pub answer : Result NoteKind NoteRefused
  pub receipt : List ℕ
  pub there : Takes d.second note blank (record { answer = answer; site = d'.second }) receipt
  pub back : Returned answer receipt d.first d'.first

-- the first site's next note from an entry on goes to the second and its receipt comes back, and the next is looked for from the entry after it on; or there is none
abbrev pub SentNext : Desk → ℕ → Option Sent → Type 0
SentNext d from (Some s) = (e : ℕ) × (bytes : List ℕ) × Sends d.first from blank (Ok (Some e)) bytes × Exchanged d bytes s.desk × (s.next ≡ e + 1)
SentNext d from None = NextNote d.first from None

-- the sites of a state are those on the desk
pub record At (x : System) (d : Desk) : Type 0 where
  pub a : x.a.site ≡ d.first
  pub b : x.b.site ≡ d.second

-- one half of a full exchange, from every state reached that has these sites
abbrev pub HalfDone : Desk → Desk → Type 0
HalfDone d d' = (f g : List ℕ) (q : Request) (session : ℕ) (x : System) → Reached f g q session x → At x d → (y : System) × At y d' × Half session x y

-- a full exchange, from every state reached that has these sites
abbrev pub FullDone : Desk → Desk → Type 0
FullDone d d' = (f g : List ℕ) (q : Request) (session : ℕ) (x : System) → Reached f g q session x → At x d → (y : System) × At y d' × Full session x y
