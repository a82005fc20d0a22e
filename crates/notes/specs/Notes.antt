-- The note rules on tables: what a site keeps, and what opening, working and taking a note make of it (document 01, "Two sites").
use Rattle.std.specs.Prelude.{◌≡◌, Bool, true, false, cond, ◌&&◌, ℕ, ◌≤◌, ◌<◌, max, leb, eqb}
use Rattle.rewriting.specs.Weighing.{minutes}
use Rattle.rewriting.specs.Rewriting.{Rules, Question}
use Rattle.rewriting.specs.Entries.{Entry}
use Rattle.rewriting.specs.Passes.{Table, start, repeated, CountFrom}

-- The question by minutes over K keys.
abbrev pub by_minutes : ℕ → ℕ → Question
by_minutes K asker = record { weighing = minutes; keys = K; asker = asker }

-- A note names an entry, by its key, symbol and arrival, and a minute.
pub data Note : Type 0 where
  raise : ℕ → ℕ → ℕ → ℕ → Note
  receipt : ℕ → ℕ → ℕ → ℕ → Note

-- What a site keeps: for each entry its minute and its receipted minute, and whether it has worked since it was opened and since the
-- last rise.
pub record Ledger : Type 0 where
  pub minute : Table
  pub receipted : Table
  pub idle : Bool

-- The table with one entry at least at minute m.
unfoldable pub put : Table → ℕ → ℕ → ℕ → ℕ → Table
put t k s a m x y z = cond (eqb x k && (eqb y s && eqb z a)) (max (t x y z) m) (t x y z)

-- A site is opened on the start, and what stands there is receipted.
abbrev pub opened : Question → Ledger
opened Q = record { minute = start Q; receipted = start Q; idle = false }

-- Working: passes over the site's own certificates until nothing changes.
pub record Works (Q : Question) (R : Rules) (l l' : Ledger) : Type 0 where
  pub passes : ℕ
  pub count : CountFrom Q R l.minute passes
  pub minute : l'.minute ≡ repeated Q R l.minute passes
  pub receipted : l'.receipted ≡ l.receipted
  pub idle : l'.idle ≡ true

-- A raise: the entry's minute and receipted minute become the greater; if its minute rose, the site must work again.
abbrev pub raised : ℕ → ℕ → ℕ → ℕ → Ledger → Ledger
raised k s a m l = record {
  minute = put l.minute k s a m;
  receipted = put l.receipted k s a m;
  idle = leb m (l.minute k s a) && l.idle;
}

-- A receipt: the receipted minute becomes the greater.
abbrev pub acknowledged : ℕ → ℕ → ℕ → ℕ → Ledger → Ledger
acknowledged k s a m l = record { minute = l.minute; receipted = put l.receipted k s a m; idle = l.idle }

-- What a site answers: this receipt; a receipt was taken; a receipt for a later minute than the entry holds was refused (28).
pub data Answer : Type 0 where
  replied : Note → Answer
  noted : Answer
  late : Answer

-- The site after a note, and its answer.
pub record Taken : Type 0 where
  pub ledger : Ledger
  pub answer : Answer

-- A receipt, and whether the entry holds its minute.
abbrev pub checked : Bool → ℕ → ℕ → ℕ → ℕ → Ledger → Taken
checked true k s a m l = record { ledger = acknowledged k s a m l; answer = noted }
checked false k s a m l = record { ledger = l; answer = late }

-- Taking a note.
unfoldable pub take : Note → Ledger → Taken
take (raise k s a m) l = record { ledger = raised k s a m l; answer = replied (receipt k s a m) }
take (receipt k s a m) l = checked (leb m (l.minute k s a)) k s a m l

-- An entry waits to be sent: its minute is above its receipted minute.
abbrev pub Due : Ledger → ℕ → ℕ → ℕ → Type 0
Due l k s a = l.receipted k s a < l.minute k s a

-- Rest: it has worked since it was opened and since the last rise, and over K keys no entry's minute is above its receipted minute.
pub record Rest (K : ℕ) (l : Ledger) : Type 0 where
  pub quiet : l.idle ≡ true
  pub all : (k s a : ℕ) → Entry K k s a → l.minute k s a ≤ l.receipted k s a
