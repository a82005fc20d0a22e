-- The lines of two sites over a scripted line.
use Rattle.std.specs.Prelude.{◌≡◌, cond, List, [], ◌∷◌, ◌++◌, ℕ, ◌<◌, ◌≤◌, length, Result, Ok, Err}
use Rattle.wac.specs.Answers.{gives, refuses}
use Rattle.decision.specs.Question.{refusal_number, refusal_record}
use Rattle.decision.specs.declared.question.Refused.{Refused}
use Rattle.sites.specs.Site.{showing, restful, note_number}
use Rattle.sites.specs.declared.site.Site.{Site}
use Rattle.sites.specs.declared.note.NoteKind.{NoteKind}
use Rattle.sites.specs.declared.note.NoteKind.TheVariants.{Raise, Receipt}
use Rattle.sites.specs.declared.site.NoteRefused.{NoteRefused}
use Rattle.lines.specs.Text.{space, newline, field, Put}
use Rattle.lines.specs.Question.{line_room, refused, line, lined_as}
use Rattle.lines.specs.declared.question.NoRoom.{NoRoom}
use Rattle.lines.specs.declared.act.Outcome.{Outcome}
use Rattle.lines.specs.declared.act.Outcome.TheVariants.{Quiet, Note, Nothing, Brought}
use Rattle.lines.specs.declared.act.Unopened.{Unopened}
use Rattle.lines.specs.declared.act.Unopened.TheVariants.{CutShort, First, Second}

-- the bytes of A
abbrev pub site_a : List ℕ
site_a = 65 ∷ []

-- the bytes of B, after a space
abbrev pub site_b : List ℕ
site_b = 32 ∷ 66 ∷ []

-- the bytes of rest, after a space
abbrev pub rest : List ℕ
rest = 32 ∷ 114 ∷ 101 ∷ 115 ∷ 116 ∷ []

-- the bytes of busy, after a space
abbrev pub busy : List ℕ
busy = 32 ∷ 98 ∷ 117 ∷ 115 ∷ 121 ∷ []

-- the bytes of RECEIPT, after a space
abbrev pub receipt : List ℕ
receipt = 32 ∷ 82 ∷ 69 ∷ 67 ∷ 69 ∷ 73 ∷ 80 ∷ 84 ∷ []

-- the bytes of TAKEN, after a space
abbrev pub taken : List ℕ
taken = 32 ∷ 84 ∷ 65 ∷ 75 ∷ 69 ∷ 78 ∷ []

-- the bytes of NOTE, after a space
abbrev pub note : List ℕ
note = 32 ∷ 78 ∷ 79 ∷ 84 ∷ 69 ∷ []

-- the bytes of NONE, after a space
abbrev pub none : List ℕ
none = 32 ∷ 78 ∷ 79 ∷ 78 ∷ 69 ∷ []

-- a site: the minute that it shows, and whether it rests
abbrev pub site_text : Site → List ℕ
site_text x = field (showing x).minute ++ cond (restful x) rest busy

-- what became of a note: its receipt was written, it was taken as a receipt, or the refusal's number
abbrev pub taken_text : Result NoteKind NoteRefused → List ℕ
taken_text (Ok Raise) = receipt
taken_text (Ok Receipt) = taken
taken_text (Err why) = space ∷ refused ++ field (note_number why)

-- what became of an act: nothing more to say, the entry whose note was written, no note, or what became of a note
abbrev pub outcome_text : Outcome → List ℕ
outcome_text Quiet = []
outcome_text (Note e) = note ++ field e
outcome_text Nothing = none
outcome_text (Brought answer) = taken_text answer

-- the line after an act: what both sites show, and what became of it
abbrev pub act_line : Site → Site → Outcome → List ℕ
act_line a b outcome = site_a ++ site_text a ++ site_b ++ site_text b ++ outcome_text outcome ++ newline ∷ []

-- a line of a refused opening: its words, the number and the record
abbrev pub refused_text : List ℕ → Refused → List ℕ
refused_text word why = line word (refusal_number why ∷ refusal_record why ∷ [])

-- the line of two sites that were not opened: 9, or the site that is refused, the number and the record
abbrev pub opening_line : Unopened → List ℕ
opening_line CutShort = line refused (9 ∷ [])
opening_line (First why) = refused_text (refused ++ space ∷ site_a) why
opening_line (Second why) = refused_text (refused ++ site_b) why

-- a line is put to the front of lent bytes: 23 if these are too few, and then they are as they were
pub data Writes (text out : List ℕ) (r : Result ℕ NoRoom) (out' : List ℕ) : Type 0 where
  cramped : length out < line_room → lined_as r ≡ refuses 23 [] → out' ≡ out → Writes text out r out'
  written : line_room ≤ length out → (end : ℕ) → Put out 0 text end out' → lined_as r ≡ gives end → Writes text out r out'

-- the line after an act
abbrev pub Tells : Site → Site → Outcome → List ℕ → Result ℕ NoRoom → List ℕ → Type 0
Tells a b outcome = Writes (act_line a b outcome)

-- the line of two sites that were not opened
abbrev pub Declines : Unopened → List ℕ → Result ℕ NoRoom → List ℕ → Type 0
Declines why = Writes (opening_line why)
