-- The cases P1 to P10: document 01, "A file to judge by", its second table.
use Rattle.std.specs.Prelude.{List, [], ◌∷◌, ℕ}
use Rattle.judged.specs.File.{certificates, file, empty_file}
use Rattle.judged.specs.Right.{Line, GRANTED, NO-CHAIN, Case}

-- a case over the file to judge by: asker, rights, T, line
abbrev pub asks : ℕ → ℕ → ℕ → Line → Case
asks asker rights at line = record { file = file; certificates = certificates; asker = asker; rights = rights; at = at; line = line }

-- a case over the file with count 0
abbrev pub asks_empty : ℕ → ℕ → ℕ → Line → Case
asks_empty asker rights at line = record { file = empty_file; certificates = []; asker = asker; rights = rights; at = at; line = line }

-- P1: the subject 1, identifiers 1 0, is read through certificates 1 and 2, and certificate 3 closes
abbrev pub p1 : Case
p1 = asks 4 4 100 (GRANTED 5000 4 3 (0 ∷ 1 ∷ 2 ∷ 3 ∷ []))

-- P2: certificate 4 alone lasts longer than the chain of P1
abbrev pub p2 : Case
p2 = asks 4 2 100 (GRANTED 6000 1 2 (4 ∷ []))

-- P3: both rights asked: certificate 4 has not both
abbrev pub p3 : Case
p3 = asks 4 6 100 (GRANTED 5000 4 3 (0 ∷ 1 ∷ 2 ∷ 3 ∷ []))

-- P4: a right that neither certificate 3 nor 4 has
abbrev pub p4 : Case
p4 = asks 4 8 100 (NO-CHAIN 2)

-- P5: the same right, asked by the issuer of certificate 3
abbrev pub p5 : Case
p5 = asks 3 8 100 (GRANTED 5000 3 3 (0 ∷ 1 ∷ 2 ∷ []))

-- P6: mark 11 does not delegate, so certificate 6 is not reached
abbrev pub p6 : Case
p6 = asks 6 2 100 (NO-CHAIN 2)

-- P7: the owner asks: the empty chain, without end
abbrev pub p7 : Case
p7 = asks 0 4 100 (GRANTED 4294967295 0 2 [])

-- P8: the last minute of P1's chain
abbrev pub p8 : Case
p8 = asks 4 4 5000 (GRANTED 5000 4 3 (0 ∷ 1 ∷ 2 ∷ 3 ∷ []))

-- P9: the minute after it
abbrev pub p9 : Case
p9 = asks 4 4 5001 (NO-CHAIN 2)

-- P10: no certificate at all
abbrev pub p10 : Case
p10 = asks_empty 4 4 100 (NO-CHAIN 1)

-- P1 to P10
unfoldable pub cases : List Case
cases = p1 ∷ p2 ∷ p3 ∷ p4 ∷ p5 ∷ p6 ∷ p7 ∷ p8 ∷ p9 ∷ p10 ∷ []
