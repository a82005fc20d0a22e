-- Two sites on a line that may lose, repeat, delay and reorder notes: a note once written may be brought to the other side at any later
-- time, any number of times, in any order, or never.
use mathlib.Core.List.{List, [], ◌∷◌, Memᴰ}
use Rattle.std.specs.Prelude.{ℕ}
use Rattle.rewriting.specs.Rewriting.{Rules, Question}
use Rattle.rewriting.specs.Entries.{Entry}
use Rattle.notes.specs.Notes.{Note, raise, Ledger, Answer, replied, noted, late, opened, Works, take, Due}

-- The note is one of these.
abbrev pub In : Note → List Note → Type 0
In n l = Memᴰ n l

-- A site and all the notes that it ever wrote.
pub record Party : Type 0 where
  pub ledger : Ledger
  pub wrote : List Note

-- The notes with the receipt that an answer gives.
abbrev pub written : Answer → List Note → List Note
written (replied n) l = n ∷ l
written noted l = l
written late l = l

-- A site works, writes the note of an entry, takes a note.
abbrev pub works : Ledger → Party → Party
works l p = record { ledger = l; wrote = p.wrote }

abbrev pub sends : ℕ → ℕ → ℕ → Party → Party
sends k s a p = record { ledger = p.ledger; wrote = raise k s a (p.ledger.minute k s a) ∷ p.wrote }

abbrev pub receives : Note → Party → Party
receives n p = record { ledger = (take n p.ledger).ledger; wrote = written (take n p.ledger).answer p.wrote }

-- What a site with the certificates R may do next, while the other side wrote the notes `theirs`.
pub data Act (Q : Question) (R : Rules) (theirs : List Note) : Party → Party → Type 0 where
  act_work : {p : Party} (l : Ledger) → Works Q R p.ledger l → Act Q R theirs p (works l p)
  act_send : {p : Party} (k s a : ℕ) → Entry Q.keys k s a → Due p.ledger k s a → Act Q R theirs p (sends k s a p)
  act_take : {p : Party} (n : Note) → In n theirs → Act Q R theirs p (receives n p)

-- Both sites.
pub record System : Type 0 where
  pub a : Party
  pub b : Party

-- The two sites in each other's places.
abbrev pub swap : System → System
swap x = record { a = x.b; b = x.a }

-- One of them acts.
pub data Step (Q : Question) (R T : Rules) : System → System → Type 0 where
  step_a : {x : System} {p : Party} → Act Q R x.b.wrote x.a p → Step Q R T x (record { a = p; b = x.b })
  step_b : {x : System} {p : Party} → Act Q T x.a.wrote x.b p → Step Q R T x (record { a = x.a; b = p })

-- Any number of acts.
pub data Steps (Q : Question) (R T : Rules) : System → System → Type 0 where
  none : {x : System} → Steps Q R T x x
  more : {x y z : System} → Steps Q R T x y → Step Q R T y z → Steps Q R T x z

-- A site that was just opened.
abbrev pub fresh : Question → Party
fresh Q = record { ledger = opened Q; wrote = [] }

-- The states that two sites opened with one question can come to.
abbrev pub Reached : Question → Rules → Rules → System → Type 0
Reached Q R T x = Steps Q R T (record { a = fresh Q; b = fresh Q }) x
