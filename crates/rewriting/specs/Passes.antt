-- Tables of entries, and passes over them (document 01, "Entries and passes").
use Rattle.std.specs.Prelude.{◌≡◌, Bool, cond, ◌&&◌, ◌||◌, List, [], ◌∷◌, ℕ, zero, suc, ◌+◌, ◌*◌, ◌≤◌, eqb}
use Rattle.rewriting.specs.Weighing.{Weighing}
use Rattle.rewriting.specs.Rewriting.{Rules, Question, identifiers, delegate, access}
use Rattle.rewriting.specs.Entries.{Entry}

-- An entry's weight: by the key that reads, the symbol that it reads, and the place where it arrives.
abbrev pub Table : Type 0
Table = ℕ → ℕ → ℕ → ℕ

-- At the start the asker's two mark entries have the whole, and the others none.
unfoldable pub start : Question → Table
start Q k s a =
    cond (eqb k Q.asker && (eqb s delegate || eqb s access) && eqb a Q.keys) Q.weighing.whole Q.weighing.none

-- The best of f 0, f 1, .. f n.
unfoldable pub over : Weighing → ℕ → (ℕ → ℕ) → ℕ
over W zero f = f zero
over W (suc n) f = W.best (over W n f) (f (suc n))

-- The best reading of a list of symbols through the entries of t, from the place q to the place a. Reading nothing stays at q and
-- has the whole; a symbol goes to any of the keys or the end, and the rest is read from there.
unfoldable pub reading : Question → Table → ℕ → List ℕ → ℕ → ℕ
reading Q t q [] a = cond (eqb q a) Q.weighing.whole Q.weighing.none
reading Q t q (s ∷ w) a = over Q.weighing Q.keys (λ p. Q.weighing.along (t q s p) (reading Q t p w a))

-- What certificate number i brings to an entry that arrives at a: its weight along with the best reading of its right side.
unfoldable pub brought : Question → Rules → Table → ℕ → ℕ → ℕ
brought Q R t a i = Q.weighing.along (R.weight i) (reading Q t (R.rule i).to (R.rule i).writes a)

-- Certificate number i is usable and has that key and symbol on its left.
unfoldable pub fires : Rules → ℕ → ℕ → ℕ → Bool
fires R i k s = R.live i && eqb (R.rule i).from k && eqb (R.rule i).reads s

-- The best of an entry's old weight and of what the certificates numbered below n bring, all through the old entries.
unfoldable pub tried : Question → Rules → Table → ℕ → ℕ → ℕ → ℕ → ℕ
tried Q R t k s a zero = t k s a
tried Q R t k s a (suc n) =
    let old = tried Q R t k s a n in
    let new = Q.weighing.best old (brought Q R t a n) in
    cond (fires R n k s) new old

-- One pass: every entry tries every certificate.
unfoldable pub pass : Question → Rules → Table → Table
pass Q R t k s a = tried Q R t k s a R.count

-- The table after n passes over t.
unfoldable pub repeated : Question → Rules → Table → ℕ → Table
repeated Q R t zero = t
repeated Q R t (suc n) = pass Q R (repeated Q R t n)

-- The table after n passes over the start.
abbrev pub passes : Question → Rules → ℕ → Table
passes Q R n = repeated Q R (start Q) n

-- A pass over t changes nothing.
abbrev pub Still : Question → Rules → Table → Type 0
Still Q R t = (k s a : ℕ) → Entry Q.keys k s a → pass Q R t k s a ≡ t k s a

-- The pass after the first n changes nothing.
abbrev pub Settled : Question → Rules → ℕ → Type 0
Settled Q R n = Still Q R (passes Q R n)

-- N is the number of passes over t: all up to and including the first that changes nothing, so at least 1.
pub record CountFrom (Q : Question) (R : Rules) (t : Table) (N : ℕ) : Type 0 where
  pub before : ℕ
  pub one_more : N ≡ suc before
  pub still : Still Q R (repeated Q R t before)
  pub first : (n : ℕ) → Still Q R (repeated Q R t n) → before ≤ n

-- N is the number of passes of the question.
abbrev pub PassCount : Question → Rules → ℕ → Type 0
PassCount Q R N = CountFrom Q R (start Q) N

-- The bound on passes and on exchanges over K keys: one more than the entries that can change, which are those of the identifiers and
-- of mark 10 but for the asker's own. It is 2,576 for 16 keys.
abbrev pub bound : ℕ → ℕ
bound K = K * (identifiers * K + 1)
