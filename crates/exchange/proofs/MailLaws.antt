-- Laws about the notes that the program keeps.
use mathlib.Core.Path.{◌≡◌, refl, ◌∙◌}
use mathlib.Core.Bool.{true, false, ◌&&◌, Bool}
use mathlib.Core.List.{List, ◌++◌, append-nil}
use Prim.Native.Nat.{ℕ, ◌+◌, ◌*◌, ◌-◌, ◌<◌, ◌≤◌}
use native.Mathlib.Omega.{arith}
use borrow.Author.Tests.{lt-ltb, le-ltb, le-leb, lt-leb}
use borrow.Rule.Slice.PartMut.{mid_of, put_mid}
use lib.Dec.{ltb}
use lib.ListN.{length, take, drop, length-drop}
use lib.Seq.{take-length, length-take-le}
use Rattle.lines.proofs.TextLaws.{put_part}
use Rattle.exchange.specs.Mail.{kept_notes, blank, has_room, kept_as, Keeps}

module _ (notes : List ℕ) (n : ℕ) where
  -- there are as many notes as are kept,
  pub none_left : kept_notes ≤ n → has_room notes n ≡ false
  none_left h = rw (le-ltb n kept_notes h)

  -- or the bytes are too few,
  pub too_short : length notes < n * 12 + 12 → has_room notes n ≡ false
  too_short h = rw (lt-leb (n * 12 + 12) (length notes) h) (never (ltb n kept_notes))
    where
      never : (b : Bool) → (b && false) ≡ false
      never true = refl
      never false = refl

  -- or there is room.
  pub room_left : n < kept_notes → n * 12 + 12 ≤ length notes → has_room notes n ≡ true
  room_left h l = rw (lt-ltb n kept_notes h, le-leb (n * 12 + 12) (length notes) l)

  -- Without room a note is lost,
  pub keeps_none : (note : List ℕ) → has_room notes n ≡ false → Keeps notes n note n notes
  keeps_none note e = record { counted = rw e; bytes = rw e }

  -- and no note is kept there.
  pub kept_none : has_room notes n ≡ false → blank ≡ kept_as notes n
  kept_none e = rw e

  -- With room it stands after the others,
  pub keeps_one : (note part : List ℕ) → length note ≡ 12 → n < kept_notes → n * 12 + 12 ≤ length notes →
      part ≡ take (length note) note ++ drop (length note) (mid_of (n * 12) (length notes - n * 12) notes) →
      Keeps notes n note (n + 1) (put_mid (n * 12) (length notes - n * 12) notes part)
  keeps_one note part twelve few fits copied = record {
    counted = rw (room_left few fits);
    bytes = rw (room_left few fits) (put_part (n * 12) notes note part (omega arith) copied ∙ rw twelve);
  }

  -- the note with this number, as a part of the bytes
  abbrev note_of : List ℕ
  note_of = take (n * 12 + 12 - n * 12) (drop (n * 12) notes)

  -- and is found there.
  pub kept_one : (copy : List ℕ) → n < kept_notes → n * 12 + 12 ≤ length notes → copy ≡ take (length note_of) note_of ++ drop (length note_of) blank →
      copy ≡ kept_as notes n
  kept_one copy few fits e =
      let twelve : n * 12 + 12 - n * 12 ≡ 12 = omega arith in
      let long : length (take 12 (drop (n * 12) notes)) ≡ 12 = length-take-le 12 (drop (n * 12) notes) (omega (arith, length-drop (n * 12) notes)) in
      rw (room_left few fits) (e ∙ rw (twelve, take-length, long, append-nil))
