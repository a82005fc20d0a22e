-- A note's bytes say the note, and lent bytes have it in the first 12 places.
use mathlib.Core.Path.{◌≡◌, refl, sym, ap, ◌∙◌}
use mathlib.Core.Bool.{true, not, ◌||◌, true≢false}
use mathlib.Core.List.{List}
use Prim.Native.Nat.{ℕ, ◌≤◌, ◌<◌}
use native.Mathlib.Omega.{arith}
use borrow.Author.Tests.{eq-eqb, ne_eqb, lt-ltb, ltb-true}
use lib.Dec.{eqb}
use lib.ListN.{length, take, drop}
use lib.Seq.{sets, sets-eq, take_at, take_all}
use Rattle.wac.specs.Limits.{access, without_end}
use Rattle.wac.specs.Bytes.{AreBytes}
use Rattle.wac.specs.File.{listed}
use Rattle.wac.proofs.RecordLaws.{word_read, word_written}
use Rattle.wac.proofs.RoundTrip.{take_listed}
use Rattle.std.proofs.lemmas.Bool.{and_parts}
use Rattle.decision.specs.Table.{is_entry}
use Rattle.sites.specs.Notes.{note_length, raise_kind, receipt_kind, note_from, note_bytes, formed}
use Rattle.sites.specs.declared.note.Note.{Note}

-- a note that is written and read is itself
pub note_read_back : (n : Note) → n.session ≤ without_end → n.minute ≤ without_end → note_from (note_bytes n) ≡ n
note_read_back n session minute = rw (word_read n.session session, word_read n.minute minute)

-- and 12 bytes that are read and written are those bytes
pub note_written_back : (b : List ℕ) → AreBytes b → length b ≡ note_length → note_bytes (note_from b) ≡ b
unfolding listed
note_written_back b bytes long =
    let session = word_written _ _ _ _ (bytes 0) (bytes 1) (bytes 2) (bytes 3) in
    let minute = word_written _ _ _ _ (bytes 8) (bytes 9) (bytes 10) (bytes 11) in
    rw (session.0, session.1, session.2, session.3, minute.0, minute.1, minute.2, minute.3)
    (sym (take_listed note_length b (omega arith)) ∙ take_all note_length b (omega arith))

-- lent bytes in which a note was written have it in the first 12 places
pub note_taken : (l : List ℕ) (n : Note) → note_length ≤ length l → take note_length (sets l 0 (note_bytes n)) ≡ note_bytes n
note_taken l n room = ap (take note_length) (sets-eq (note_bytes n) l 0 room) ∙ take_at (note_bytes n) (drop note_length l) note_length refl

-- what a formed note says
pub record Fields (n : Note) : Type 0 where
  pub kind : (eqb n.kind raise_kind || eqb n.kind receipt_kind) ≡ true
  pub some : n.minute ≡ 0 → ⊥
  pub symbol : n.symbol < access
  pub entry : is_entry n.key n.symbol n.arrival ≡ true

pub formed_fields : (n : Note) → formed n ≡ true → Fields n
unfolding formed
formed_fields n ok =
    let a = and_parts _ _ ok in
    let b = and_parts _ _ a.1 in
    let c = and_parts _ _ b.1 in
    record { kind = a.0; some = λ z. nonzero z b.0; symbol = ltb-true _ _ c.0; entry = c.1 }
  where
    nonzero : n.minute ≡ 0 → not (eqb n.minute 0) ≡ true → ⊥
    nonzero z h = true≢false (sym h ∙ ap not (eq-eqb _ _ z))

pub fields_formed : (n : Note) → Fields n → formed n ≡ true
unfolding formed
fields_formed n f = rw (f.kind, ne_eqb n.minute 0 f.some, lt-ltb n.symbol access f.symbol, f.entry)
