-- The permitted numbers of each byte of a record, and what it is for a record to keep to them: document 01, "The certificate file", the table and its exception.
use Rattle.std.specs.Prelude.{Bool, true, cond, ◌&&◌, List, [], ◌∷◌, ℕ, zero, suc, ◌+◌, ◌-◌, leb, ltb, eqb, get_or}
use Rattle.wac.specs.Limits.{keys, identifiers, delegate, access, subject_ids, all_rights, unused, name_kind, authorization_kind}
use Rattle.wac.specs.declared.record.Range.{Range}

-- from the least number to the greatest
abbrev pub ◌to◌ : ℕ → ℕ → Range
a to b = record { least = a; greatest = b }

infix 30 ◌to◌
-- the range of a key
abbrev pub a_key : Range
a_key = 0 to (keys - 1)

-- the range of an identifier
abbrev pub an_identifier : Range
an_identifier = 0 to (identifiers - 1)

-- bytes 0 to 9 of a name certificate: kind, issuer key, left symbol, subject key, subject identifiers, three identifiers, closing mark, rights
unfoldable pub names : List Range
names =
    (name_kind to name_kind) ∷ a_key ∷ an_identifier ∷ a_key ∷ (0 to subject_ids)
    ∷ an_identifier ∷ an_identifier ∷ an_identifier ∷ (unused to unused) ∷ (0 to 0) ∷ []

-- bytes 0 to 9 of an authorization
unfoldable pub authorizations : List Range
authorizations =
    (authorization_kind to authorization_kind) ∷ a_key ∷ (delegate to delegate) ∷ a_key ∷ (0 to subject_ids)
    ∷ an_identifier ∷ an_identifier ∷ an_identifier ∷ (delegate to access) ∷ (0 to all_rights) ∷ []

-- so many bytes have a range; those after them, the dates, are any numbers
abbrev pub ranged : ℕ
ranged = 10

-- the row of the table for a kind: 0 for names, 1 for authorizations
abbrev pub row_of : ℕ → ℕ
row_of kind = cond (eqb kind authorization_kind) 1 0

-- the range of byte i in a row of the table
unfoldable pub range_at : ℕ → ℕ → Range
range_at row i = get_or (get_or (names ∷ authorizations ∷ []) row []) i (0 to 0)

-- the number lies in the range
abbrev pub in_range : Range → ℕ → Bool
in_range r b = leb r.least b && leb b r.greatest

-- byte i is one of the three for identifiers, bytes 5 to 7, and past the subject's number of them
unfoldable pub spare : ℕ → ℕ → Bool
spare number i = ltb i 8 && leb (5 + number) i

-- byte i of the record s is as the table says; exception: identifier bytes past the number in byte 4 are 255
unfoldable pub byte_ok : List ℕ → ℕ → Bool
byte_ok s i =
    cond (spare (get_or s 4 0) i) (eqb (get_or s i 0) unused)
    (in_range (range_at (row_of (get_or s 0 0)) i) (get_or s i 0))

-- the test holds of every number below n
unfoldable pub all_below : ℕ → (ℕ → Bool) → Bool
all_below zero p = true
all_below (suc n) p = all_below n p && p n

-- the record s keeps to the table
unfoldable pub record_ok : List ℕ → Bool
record_ok s = all_below ranged (byte_ok s)
