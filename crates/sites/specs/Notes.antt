-- What a note's 12 bytes say: document 01, "Two sites".
use Rattle.std.specs.Prelude.{◌≡◌, ◌≢◌, Result, MatchResult, Bool, not, ◌&&◌, ◌||◌, List, ◌∷◌, ◌++◌, ℕ, ltb, eqb, length, get_or}
use Rattle.wac.specs.Limits.{access}
use Rattle.wac.specs.Bytes.{word_bytes}
use Rattle.wac.specs.Record.{word_at}
use Rattle.decision.specs.Table.{is_entry}
use Rattle.sites.specs.declared.note.Note.{Note}
use Rattle.sites.specs.declared.note.NoKind.{NoKind}
use Rattle.sites.specs.declared.note.NoteKind.{NoteKind}
use Rattle.sites.specs.declared.note.NoteKind.TheVariants.{Raise, Receipt}

-- the bytes of a note
abbrev pub note_length : ℕ
note_length = 12

-- the kind of a raise
abbrev pub raise_kind : ℕ
raise_kind = 1

-- the kind of a receipt
abbrev pub receipt_kind : ℕ
receipt_kind = 2

-- the code of each kind
abbrev pub kind_code : NoteKind → ℕ
kind_code Raise = raise_kind
kind_code Receipt = receipt_kind

-- the result is the kind with this code, or there is none
abbrev pub CodesKind : ℕ → Result NoteKind NoKind → Type 0
CodesKind code r = MatchResult r (λ kind. kind_code kind ≡ code) (λ _. (code ≢ raise_kind) × (code ≢ receipt_kind))

-- the note that bytes say: session (4, high first), kind, key, symbol, arrival, minute (4, high first)
abbrev pub note_from : List ℕ → Note
note_from b = record {
  session = word_at b 0;
  kind = get_or b 4 0;
  key = get_or b 5 0;
  symbol = get_or b 6 0;
  arrival = get_or b 7 0;
  minute = word_at b 8;
}

-- the bytes that say a note
abbrev pub note_bytes : Note → List ℕ
note_bytes n = word_bytes n.session ++ n.kind ∷ n.key ∷ n.symbol ∷ n.arrival ∷ word_bytes n.minute

-- every field is in range: raise or receipt; minute not 0; an entry, and not of mark 11
unfoldable pub formed : Note → Bool
formed n =
    (eqb n.kind raise_kind || eqb n.kind receipt_kind)
    && (not (eqb n.minute 0) && (ltb n.symbol access && is_entry n.key n.symbol n.arrival))

-- 12 bytes with every field in range
unfoldable pub note_ok : List ℕ → Bool
note_ok b = eqb (length b) note_length && formed (note_from b)
