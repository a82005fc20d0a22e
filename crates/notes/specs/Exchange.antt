-- Full exchanges: one site works and sends all its notes; the other takes them all and the receipts are all taken;
-- then the same the other way round (document 01, "Two sites"). On tables all of this comes to one thing: what the one
-- held when it had worked is receipted in the end. How the notes came there is left open: in any order, repeatedly,
-- late, among any other steps of the line. (That all notes sent, taken and receipted come to this is shown of the sites.)
use Rattle.std.specs.Prelude.{ℕ, zero, suc, ◌≤◌}
use Rattle.rewriting.specs.Rewriting.{Rules, Question}
use Rattle.rewriting.specs.Entries.{Entry}
use Rattle.notes.specs.Notes.{Ledger, Works}
use Rattle.notes.specs.Line.{works, System, swap, Steps}

-- Both sites after a has worked.
abbrev pub a_works : Ledger → System → System
a_works l x = record { a = works l x.a; b = x.b }

-- One half: a works, and at the end of a run after it all that it held then is receipted.
pub record Half (Q : Question) (R T : Rules) (x y : System) : Type 0 where
  pub from : System
  pub before : Steps Q R T x from
  pub worked : Ledger
  pub work : Works Q R from.a.ledger worked
  pub after : Steps Q R T (a_works worked from) y
  pub all : (k s p : ℕ) → Entry Q.keys k s p → worked.minute k s p ≤ y.a.ledger.receipted k s p

-- A full exchange that a begins: one half, and the same the other way round.
pub record Full (Q : Question) (R T : Rules) (x y : System) : Type 0 where
  pub middle : System
  pub there : Half Q R T x middle
  pub back : Half Q T R (swap middle) (swap y)

-- n full exchanges in a row, each begun by either site.
pub data Exchanges (Q : Question) (R T : Rules) (x : System) : ℕ → System → Type 0 where
  begin : Exchanges Q R T x zero x
  from_a : {n : ℕ} {y z : System} → Exchanges Q R T x n y → Full Q R T y z → Exchanges Q R T x (suc n) z
  from_b : {n : ℕ} {y z : System} → Exchanges Q R T x n y → Full Q T R (swap y) (swap z) →
      Exchanges Q R T x (suc n) z
