-- The notes and receipts that a side wrote, as the program keeps them: 12 bytes each, one after another.
use Rattle.std.specs.Prelude.{◌≡◌, Bool, cond, ◌&&◌, List, ◌++◌, ℕ, ◌+◌, ◌*◌, leb, ltb, length, take, drop, replicate, Option, Some, None}
use Rattle.std.specs.Option.{unwrap_or}
use Rattle.sites.specs.Notes.{note_length}

-- how many notes of a side are kept
abbrev pub kept_notes : ℕ
kept_notes = 4096

-- 12 zeros
abbrev pub blank : List ℕ
blank = replicate note_length 0

-- there is room for a note with this number
abbrev pub has_room : List ℕ → ℕ → Bool
has_room notes n = ltb n kept_notes && leb (n * note_length + note_length) (length notes)

-- the note with this number, if there is one
abbrev pub kept_at : List ℕ → ℕ → Option (List ℕ)
kept_at notes n = cond (has_room notes n) (Some (take note_length (drop (n * note_length) notes))) None

-- the note with this number, and 12 zeros where there is none
abbrev pub kept_as : List ℕ → ℕ → List ℕ
kept_as notes n = unwrap_or (kept_at notes n) blank

-- the notes with one more after the first n
abbrev pub with_note : List ℕ → ℕ → List ℕ → List ℕ
with_note notes n note = take (n * note_length) notes ++ note ++ drop (n * note_length + note_length) notes

-- a note is kept after the first ones where there is room; otherwise it is lost
pub record Keeps (notes : List ℕ) (count : ℕ) (note : List ℕ) (r : ℕ) (notes' : List ℕ) : Type 0 where
  pub counted : r ≡ cond (has_room notes count) (count + 1) count
  pub bytes : notes' ≡ cond (has_room notes count) (with_note notes count note) notes
