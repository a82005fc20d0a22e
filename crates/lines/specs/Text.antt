-- Text as bytes: numbers in decimal, fields, and what lent bytes hold after a piece was written.
use Rattle.std.specs.Prelude.{◌≡◌, cond, List, ◌∷◌, ◌++◌, ℕ, zero, suc, ◌+◌, ◌/◌, ltb, length, take, drop}
use Rattle.std.specs.List.{flat_map}
use Rattle.io.specs.Digits.{last_digits}

-- the byte of a space
abbrev pub space : ℕ
space = 32

-- the byte that ends a line
abbrev pub newline : ℕ
newline = 10

-- how many decimal digits a number has, of which there are at most k + 1
unfoldable pub places : ℕ → ℕ → ℕ
places zero n = 1
places (suc k) n = cond (ltb n 10) 1 (suc (places k (n / 10)))

-- a number of 64 bits in decimal, with no leading zero
unfoldable pub decimal : ℕ → List ℕ
decimal n = last_digits 10 (places 19 n) n

-- a number as a field, after a space
abbrev pub field : ℕ → List ℕ
field n = space ∷ decimal n

-- numbers as fields
abbrev pub fields : List ℕ → List ℕ
fields = flat_map field

-- the piece stands from a place on, at whose end r is; all other bytes are as they were
pub record Put (out : List ℕ) (at : ℕ) (piece : List ℕ) (r : ℕ) (out' : List ℕ) : Type 0 where
  pub end : r ≡ at + length piece
  pub bytes : out' ≡ take at out ++ piece ++ drop (at + length piece) out
