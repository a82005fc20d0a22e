-- What can be said of a table: how it stands to another, to the start, to a pass and to the chains that bring its entries about. The
-- words in which the laws of "Entries and passes" and of "Two sites" (document 01) are stated.
use Rattle.std.specs.Prelude.{◌≡◌, ◌⊎◌, List, ℕ, suc, ◌≤◌}
use Rattle.rewriting.specs.Weighing.{Weighing, AtMost}
use Rattle.rewriting.specs.Rewriting.{Rules, Question, weighed}
use Rattle.rewriting.specs.Entries.{Mark, Entry, Fires, Brings}
use Rattle.rewriting.specs.Passes.{Table, start, brought, pass}

-- At every entry t and u are the same.
abbrev pub Same : Question → Table → Table → Type 0
Same Q t u = (k s a : ℕ) → Entry Q.keys k s a → t k s a ≡ u k s a

-- At every entry u is at least as good as t.
abbrev pub Below : Question → Table → Table → Type 0
Below Q t u = (k s a : ℕ) → Entry Q.keys k s a → AtMost Q.weighing (t k s a) (u k s a)

-- A table as lent places hold it: every number fits the weighing, and off the entries there is none.
pub record Held (Q : Question) (t : Table) : Type 0 where
  pub fits : (k s a : ℕ) → t k s a ≤ Q.weighing.cap
  pub elsewhere : (k s a : ℕ) → Entry Q.keys k s a ⊎ (t k s a ≡ Q.weighing.none)

-- x is none, or is the weight of a chain of the kind P.
abbrev pub Found : Weighing → Rules → (List ℕ → Type 0) → ℕ → Type 0
Found W R P x = (x ≡ W.none) ⊎ ((ch : List ℕ) × P ch × (weighed W R ch ≡ x))

-- Whatever the table says, some chain brings about.
abbrev pub Sound : Question → Rules → Table → Type 0
Sound Q R t = (k s a : ℕ) → Found Q.weighing R (Brings Q R k s a) (t k s a)

-- The table has at least the start.
abbrev pub Started : Question → Table → Type 0
Started Q t = Below Q (start Q) t

-- A pass brings nothing better.
abbrev pub Closed : Question → Rules → Table → Type 0
Closed Q R t = Below Q (pass Q R t) t

-- The last table: all that can be found, and nothing else.
pub record Last (Q : Question) (R : Rules) (t : Table) : Type 0 where
  pub sound : Sound Q R t
  pub started : Started Q t
  pub closed : Closed Q R t

-- A sequence of tables that climbs: each is sound, the first has at least the start, and each next one at least what a pass over the
-- one before gives.
pub record Climbs (Q : Question) (R : Rules) (X : ℕ → Table) : Type 0 where
  pub sound : (n : ℕ) → Sound Q R (X n)
  pub started : Started Q (X 0)
  pub passed : (n : ℕ) → Below Q (pass Q R (X n)) (X (suc n))

-- Where an entry's weight comes from: it is one of the asker's marks, or a certificate brings it by what its subject reads.
pub data Origin (Q : Question) (R : Rules) (t : Table) (k s a : ℕ) : Type 0 where
  own : k ≡ Q.asker → Mark s → a ≡ Q.keys → Origin Q R t k s a
  brings : (i : ℕ) → Fires R i k s → brought Q R t a i ≡ t k s a → Origin Q R t k s a
