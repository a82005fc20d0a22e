-- The numbers that are fixed: document 01, "Numbers that are fixed", and what follows from them. They stand here once; the code's are the associated constants of `Table`.
use Rattle.std.specs.Prelude.{List, [], ◌∷◌, ℕ, ◌+◌, ◌*◌}

-- keys are 0 to 15
abbrev pub keys : ℕ
keys = 16

-- identifiers are 0 to 9
abbrev pub identifiers : ℕ
identifiers = 10

-- the mark "may delegate", the open box of source 000
abbrev pub delegate : ℕ
delegate = 10

-- the mark "access only", the filled box of source 000
abbrev pub access : ℕ
access = 11

-- a subject has 0 to 3 identifiers
abbrev pub subject_ids : ℕ
subject_ids = 3

-- a file has at most 128 certificates
abbrev pub certificates : ℕ
certificates = 128

-- the chain has 200 places
abbrev pub chain_places : ℕ
chain_places = 200

-- all rights: read 1, open 2, sign 4, close 8
abbrev pub all_rights : ℕ
all_rights = 15

-- the minute that means without end
abbrev pub without_end : ℕ
without_end = 4294967295

-- a byte that holds no symbol
abbrev pub unused : ℕ
unused = 255

-- the version of the file
abbrev pub version : ℕ
version = 1

-- the kind of a name certificate
abbrev pub name_kind : ℕ
name_kind = 1

-- the kind of an authorization
abbrev pub authorization_kind : ℕ
authorization_kind = 2

-- the end place, at which the entries of the marks arrive
abbrev pub end_place : ℕ
end_place = keys

-- the entries of identifiers: a key reads an identifier and arrives at a key
abbrev pub named_entries : ℕ
named_entries = keys * identifiers * keys

-- all entries: those of identifiers, and one a key for each of the two marks
abbrev pub entries : ℕ
entries = named_entries + 2 * keys

-- the bytes before the first certificate
abbrev pub header_bytes : ℕ
header_bytes = 6

-- the bytes of a certificate
abbrev pub record_bytes : ℕ
record_bytes = 18

-- the bytes of the largest file
abbrev pub largest_file : ℕ
largest_file = header_bytes + record_bytes * certificates

-- the numbers, in the order in which they stand above
abbrev pub limits : List ℕ
limits =
    keys ∷ identifiers ∷ delegate ∷ access ∷ subject_ids ∷ certificates ∷ chain_places ∷ all_rights ∷ without_end ∷ unused
    ∷ version ∷ name_kind ∷ authorization_kind ∷ end_place ∷ named_entries ∷ entries ∷ header_bytes ∷ record_bytes ∷ largest_file ∷ []
