-- What each function makes of a site: document 01, "Two sites" and the rows 20 to 28 of "What comes back".
use Rattle.std.specs.Prelude.{◌≡◌, Bool, true, false, cond, not, ◌&&◌, List, [], ◌∷◌, ◌++◌, ℕ, zero, suc, ◌+◌, ◌-◌, ◌≤◌, ◌<◌, min, max, leb, ltb, eqb, length, get_or, take, drop, set, replicate, Option, Some, None, Result, Ok, Err}
use Rattle.std.proofs.lemmas.List.Edits.{sets}
use Rattle.wac.specs.Limits.{entries, delegate, end_place, largest_file}
use Rattle.wac.specs.Answers.{Answer, gives, refuses, Case, ◌if◌, first_of}
use Rattle.wac.specs.Ranges.{all_below}
use Rattle.wac.specs.File.{count_of, file_cases}
use Rattle.rewriting.specs.Passes.{start}
use Rattle.decision.specs.Lens.{question_by}
use Rattle.decision.specs.Table.{entry_number, key_of, symbol_of, arrival_of, table_of, row_of}
use Rattle.decision.specs.Question.{request_of, request_cases, refused_as, Settles}
use Rattle.decision.specs.declared.request.Request.{Request}
use Rattle.decision.specs.declared.lens.Lens.TheVariants.{Minutes}
use Rattle.decision.specs.declared.question.Refused.{Refused}
use Rattle.sites.specs.Notes.{note_length, raise_kind, receipt_kind, kind_code, note_from, note_bytes, note_ok}
use Rattle.sites.specs.declared.note.Note.{Note}
use Rattle.sites.specs.declared.note.NoteKind.{NoteKind}
use Rattle.sites.specs.declared.note.NoteKind.TheVariants.{Raise, Receipt}
use Rattle.sites.specs.declared.site.Site.{Site}
use Rattle.sites.specs.declared.site.Opening.{Opening}
use Rattle.sites.specs.declared.site.NoteRefused.{NoteRefused}
use Rattle.sites.specs.declared.site.NoteRefused.TheVariants.{Room, Form, Session, Later}
use Rattle.sites.specs.declared.site.Taking.{Taking}
use Rattle.sites.specs.declared.site.Showing.{Showing}

-- a list with its first places taken by others
abbrev pub copied : List ℕ → List ℕ → List ℕ
copied from to = from ++ drop (length from) to

-- the minutes at the start: the asker's two mark entries are without end, the others 0
abbrev pub start_of : ℕ → List ℕ
start_of asker = row_of (start (question_by Minutes asker))

-- a site that was just opened: its own copy of all three, and what stands at the start is receipted
unfoldable pub opened_site : List ℕ → Request → ℕ → Site
opened_site s q session = record {
  file = copied s (replicate largest_file 0);
  used = length s;
  request = q;
  session = session;
  live = true;
  minutes = start_of q.asker;
  receipted = start_of q.asker;
  idle = false;
}

-- the site of a refused opening: no file, and nothing but 0
unfoldable pub blank_site : Site
blank_site = record {
  file = replicate largest_file 0;
  used = 0;
  request = request_of 0 0 0 0;
  session = 0;
  live = false;
  minutes = replicate entries 0;
  receipted = replicate entries 0;
  idle = false;
}

-- opening: refused by the first case that holds, with a blank site; or the site
pub data Opens (s : List ℕ) (q : Request) (session : ℕ) (r : Opening) : Type 0 where
  refused : (why : Refused) → first_of (file_cases s ++ request_cases q) (count_of s) ≡ refused_as why → r ≡ record { answer = Err why; site = blank_site } → Opens s q session r
  opened : first_of (file_cases s ++ request_cases q) (count_of s) ≡ gives (count_of s) → r ≡ record { answer = Ok tt; site = opened_site s q session } → Opens s q session r

-- the site's own file
abbrev pub file_of : Site → List ℕ
file_of x = take (min x.used largest_file) x.file

-- the site with other minutes, after it worked
abbrev pub worked_site : Site → List ℕ → Site
worked_site x minutes = record {
  file = x.file;
  used = x.used;
  request = x.request;
  session = x.session;
  live = x.live;
  minutes = minutes;
  receipted = x.receipted;
  idle = true;
}

-- working: passes over its own file until nothing changes; a site whose file or request is not in order stays as it is
pub data Works (x x' : Site) : Type 0 where
  worked : (N : ℕ) (minutes : List ℕ) → Settles (file_of x) x.request (Ok N) x.minutes minutes → x' ≡ worked_site x minutes → Works x x'
  refused : (why : Refused) → Settles (file_of x) x.request (Err why) x.minutes x.minutes → x' ≡ x → Works x x'

-- the minute that a site holds for the entry with this number
abbrev pub minute_at : Site → ℕ → ℕ
minute_at x e = get_or x.minutes e 0

-- its receipted minute
abbrev pub receipted_at : Site → ℕ → ℕ
receipted_at x e = get_or x.receipted e 0

-- a raise: the entry's minute and receipted minute become the greater; if its minute rose, the site must work again
abbrev pub raised_site : Site → ℕ → ℕ → Site
raised_site x e m = record {
  file = x.file;
  used = x.used;
  request = x.request;
  session = x.session;
  live = x.live;
  minutes = set x.minutes e (max (minute_at x e) m);
  receipted = set x.receipted e (max (receipted_at x e) m);
  idle = leb m (minute_at x e) && x.idle;
}

-- a receipt: the receipted minute becomes the greater
abbrev pub receipted_site : Site → ℕ → ℕ → Site
receipted_site x e m = record {
  file = x.file;
  used = x.used;
  request = x.request;
  session = x.session;
  live = x.live;
  minutes = x.minutes;
  receipted = set x.receipted e (max (receipted_at x e) m);
  idle = x.idle;
}

-- the entry that a note names
abbrev pub entry_of : Note → ℕ
entry_of n = entry_number n.key n.symbol n.arrival

-- the receipt of a raise has the same entry and minute
abbrev pub receipt_of : Note → Note
receipt_of n = record { session = n.session; kind = receipt_kind; key = n.key; symbol = n.symbol; arrival = n.arrival; minute = n.minute }

-- the number of each refusal of a note
abbrev pub note_number : NoteRefused → ℕ
note_number Room = 23
note_number Form = 27
note_number Session = 26
note_number Later = 28

-- what becomes of a note comes back as its kind, or as the refusal's number
abbrev pub taken_as : Result NoteKind NoteRefused → Answer ℕ
taken_as (Ok kind) = gives (kind_code kind)
taken_as (Err why) = refuses (note_number why) []

-- the refusals of a note, in document 01's order: the lent receipt's room, the note's form, its session, a receipt for a later minute than the entry holds
unfoldable pub note_cases : Site → List ℕ → ℕ → List Case
note_cases x b room =
    (23 if ltb room note_length)
    ∷ (27 if not (note_ok b))
    ∷ (26 if not (x.live && eqb (note_from b).session x.session))
    ∷ (28 if eqb (note_from b).kind receipt_kind && ltb (minute_at x (entry_of (note_from b))) (note_from b).minute)
    ∷ []

-- the site after a note
abbrev pub site_after : Result NoteKind NoteRefused → Site → Note → Site
site_after (Ok Raise) x n = raised_site x (entry_of n) n.minute
site_after (Ok Receipt) x n = receipted_site x (entry_of n) n.minute
site_after (Err why) x n = x

-- the lent bytes after a note: a raise's receipt in the first 12
abbrev pub bytes_after : Result NoteKind NoteRefused → List ℕ → Note → List ℕ
bytes_after (Ok Raise) l n = sets l 0 (note_bytes (receipt_of n))
bytes_after (Ok Receipt) l n = l
bytes_after (Err why) l n = l

-- taking a note: the first refusal that holds or its kind, and what the site and the lent bytes then are
pub record Takes (x : Site) (b l : List ℕ) (r : Taking) (l' : List ℕ) : Type 0 where
  pub answer : taken_as r.answer ≡ first_of (note_cases x b (length l)) (note_from b).kind
  pub site : r.site ≡ site_after r.answer x (note_from b)
  pub bytes : l' ≡ bytes_after r.answer l (note_from b)

-- an entry waits to be sent: its minute is above its receipted minute
abbrev pub DueAt : Site → ℕ → Type 0
DueAt x e = receipted_at x e < minute_at x e

-- e is the lowest entry from `from` on that waits to be sent; 2,592 or more stands for none
pub record NextDue (x : Site) (from e : ℕ) : Type 0 where
  pub before : (d : ℕ) → from ≤ d → d < e → d < entries → DueAt x d → ⊥
  pub due : e < entries → (from ≤ e) × DueAt x e

-- the note of an entry
abbrev pub raise_of : Site → ℕ → Note
raise_of x e = record { session = x.session; kind = raise_kind; key = key_of e; symbol = symbol_of e; arrival = arrival_of e; minute = minute_at x e }

-- the lowest of n entries from `from` on that waits to be sent, if one does
unfoldable pub waiting : Site → ℕ → ℕ → Option ℕ
waiting x from zero = None
waiting x from (suc n) = cond (ltb (receipted_at x from) (minute_at x from)) (Some from) (waiting x (from + 1) n)

-- the entry whose note is next, from an entry number on: none if there is none, or the number is above 2,591
abbrev pub next_of : Site → ℕ → Option ℕ
next_of x from = waiting x from (entries - from)

-- what is sent comes back as the entry whose note is written, or as none, or as the refusal's number
abbrev pub sending_as : Result (Option ℕ) NoteRefused → Answer (Option ℕ)
sending_as (Ok next) = gives next
sending_as (Err why) = refuses (note_number why) []

-- the refusals of sending: the lent note's room
abbrev pub send_cases : ℕ → List Case
send_cases room = (23 if ltb room note_length) ∷ []

-- the lent bytes after sending: the entry's note in the first 12
abbrev pub bytes_sent : Result (Option ℕ) NoteRefused → Site → List ℕ → List ℕ
bytes_sent (Ok (Some e)) x l = sets l 0 (note_bytes (raise_of x e))
bytes_sent (Ok None) x l = l
bytes_sent (Err why) x l = l

-- the next note from an entry number on: the first refusal that holds or the entry, and what the lent bytes then are
pub record Sends (x : Site) (from : ℕ) (l : List ℕ) (r : Result (Option ℕ) NoteRefused) (l' : List ℕ) : Type 0 where
  pub answer : sending_as r ≡ first_of (send_cases (length l)) (next_of x from)
  pub bytes : l' ≡ bytes_sent r x l

-- rest: it has worked since it was opened and since the last rise, and no entry's minute is above its receipted minute
unfoldable pub restful : Site → Bool
restful x = x.idle && all_below entries (λ e. leb (minute_at x e) (receipted_at x e))

-- a site shows the owner's mark 10 minute, and granted if it is not 0
unfoldable pub showing : Site → Showing
showing x =
    let minute = table_of 0 x.minutes x.request.owner delegate end_place in
    record { minute = minute; granted = not (eqb minute 0) }
