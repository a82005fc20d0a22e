-- The file to judge by: document 01, "A file to judge by".
use Rattle.std.specs.Prelude.{List, [], ◌∷◌, ℕ, length, get_or}
use Rattle.wac.specs.Limits.{delegate, access, unused, name_kind, authorization_kind}
use Rattle.wac.specs.declared.cert.Cert.{Cert}

-- a certificate with dates 1 to `end`: its kind, the left side, the subject's key and identifiers, the closing mark, the rights
unfoldable pub dated : ℕ → ℕ → ℕ → ℕ → List ℕ → ℕ → ℕ → ℕ → Cert
dated kind issuer left subject ids mark rights end = record {
  kind = kind;
  issuer = issuer;
  left = left;
  subject = subject;
  count = length ids;
  ids = record { 0 = get_or ids 0 unused; 1 = get_or ids 1 unused; 2 = get_or ids 2 unused };
  mark = mark;
  rights = rights;
  not_before = 1;
  not_after = end;
}

-- a name certificate for a key: issuer, identifier, subject, end
abbrev pub name : ℕ → ℕ → ℕ → ℕ → Cert
name issuer identifier subject end = dated name_kind issuer identifier subject [] unused 0 end

-- an authorization: issuer, subject, its identifiers, closing mark, rights, end
abbrev pub authorization : ℕ → ℕ → List ℕ → ℕ → ℕ → ℕ → Cert
authorization issuer subject ids mark rights end = dated authorization_kind issuer delegate subject ids mark rights end

-- the table of the seven certificates, in file order
unfoldable pub certificates : List Cert
certificates =
    authorization 0 1 (1 ∷ 0 ∷ []) delegate 15 9000
    ∷ name 1 1 2 5000
    ∷ name 2 0 3 7000
    ∷ authorization 3 4 [] access 6 8000
    ∷ authorization 0 4 [] access 2 6000
    ∷ name 1 1 5 9000
    ∷ authorization 4 6 [] delegate 15 9000
    ∷ []

-- the bytes of the file: the mark WAC, the version, the count, and 18 bytes for each certificate
unfoldable pub file : List ℕ
file =
    87 ∷ 65 ∷ 67 ∷ 0 ∷ 1 ∷ 7
    ∷ 2 ∷ 0 ∷ 10 ∷ 1 ∷ 2 ∷ 1 ∷ 0 ∷ 255 ∷ 10 ∷ 15 ∷ 0 ∷ 0 ∷ 0 ∷ 1 ∷ 0 ∷ 0 ∷ 35 ∷ 40
    ∷ 1 ∷ 1 ∷ 1 ∷ 2 ∷ 0 ∷ 255 ∷ 255 ∷ 255 ∷ 255 ∷ 0 ∷ 0 ∷ 0 ∷ 0 ∷ 1 ∷ 0 ∷ 0 ∷ 19 ∷ 136
    ∷ 1 ∷ 2 ∷ 0 ∷ 3 ∷ 0 ∷ 255 ∷ 255 ∷ 255 ∷ 255 ∷ 0 ∷ 0 ∷ 0 ∷ 0 ∷ 1 ∷ 0 ∷ 0 ∷ 27 ∷ 88
    ∷ 2 ∷ 3 ∷ 10 ∷ 4 ∷ 0 ∷ 255 ∷ 255 ∷ 255 ∷ 11 ∷ 6 ∷ 0 ∷ 0 ∷ 0 ∷ 1 ∷ 0 ∷ 0 ∷ 31 ∷ 64
    ∷ 2 ∷ 0 ∷ 10 ∷ 4 ∷ 0 ∷ 255 ∷ 255 ∷ 255 ∷ 11 ∷ 2 ∷ 0 ∷ 0 ∷ 0 ∷ 1 ∷ 0 ∷ 0 ∷ 23 ∷ 112
    ∷ 1 ∷ 1 ∷ 1 ∷ 5 ∷ 0 ∷ 255 ∷ 255 ∷ 255 ∷ 255 ∷ 0 ∷ 0 ∷ 0 ∷ 0 ∷ 1 ∷ 0 ∷ 0 ∷ 35 ∷ 40
    ∷ 2 ∷ 4 ∷ 10 ∷ 6 ∷ 0 ∷ 255 ∷ 255 ∷ 255 ∷ 10 ∷ 15 ∷ 0 ∷ 0 ∷ 0 ∷ 1 ∷ 0 ∷ 0 ∷ 35 ∷ 40
    ∷ []

-- the bytes of the file with count 0
unfoldable pub empty_file : List ℕ
empty_file = 87 ∷ 65 ∷ 67 ∷ 0 ∷ 1 ∷ 0 ∷ []
