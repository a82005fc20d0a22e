-- The certificate file: document 01, "The certificate file", with the rows 10 to 15 and 24 of "What comes back".
use Rattle.std.specs.Prelude.{◌≡◌, Bool, true, cond, ◌&&◌, not, List, [], ◌∷◌, ◌++◌, ℕ, zero, suc, ◌+◌, ◌*◌, ◌<◌, ◌≤◌, ltb, eqb, length, get_or, drop}
use Rattle.wac.specs.Bytes.{half}
use Rattle.wac.specs.Limits.{certificates, header_bytes, record_bytes, version}
use Rattle.wac.specs.Answers.{Case, ◌if◌, ◌of◌if◌}
use Rattle.wac.specs.Ranges.{record_ok}
use Rattle.wac.specs.Record.{cert_from, bytes_of, Lawful}
use Rattle.wac.specs.declared.cert.Cert.{Cert}

-- bytes 0 to 2 are 87, 65, 67 (WAC)
unfoldable pub is_wac : List ℕ → Bool
is_wac s = eqb (get_or s 0 0) 87 && (eqb (get_or s 1 0) 65 && eqb (get_or s 2 0) 67)

-- bytes 3 and 4 are the version
abbrev pub version_of : List ℕ → ℕ
version_of s = half (get_or s 3 0) (get_or s 4 0)

-- byte 5 is the count
abbrev pub count_of : List ℕ → ℕ
count_of s = get_or s 5 0

-- where record n begins
abbrev pub place_of : ℕ → ℕ
place_of n = header_bytes + record_bytes * n

-- the file from record n on
abbrev pub record_at : List ℕ → ℕ → List ℕ
record_at s n = drop (place_of n) s

-- certificates are numbered from 0 in file order
unfoldable pub cert_at : List ℕ → ℕ → Cert
cert_at s n = cert_from (record_at s n)

-- the lowest number below n at which the test holds, and n where there is none
unfoldable pub lowest : ℕ → (ℕ → Bool) → ℕ
lowest zero p = zero
lowest (suc n) p = cond (p zero) zero (suc (lowest n (λ k. p (suc k))))

-- the lowest of the first n records that is against the table, and n where there is none
unfoldable pub lowest_bad : List ℕ → ℕ → ℕ
lowest_bad s n = lowest n (λ i. not (record_ok (record_at s i)))

-- the refusals by the file's header and length
unfoldable pub frame_cases : List ℕ → List Case
frame_cases s =
    (10 if ltb (length s) header_bytes)
    ∷ (11 if not (is_wac s))
    ∷ (12 if not (eqb (version_of s) version))
    ∷ (13 if ltb certificates (count_of s))
    ∷ (14 if not (eqb (length s) (place_of (count_of s))))
    ∷ []

-- the refusals of a whole file
unfoldable pub file_cases : List ℕ → List Case
file_cases s = frame_cases s ++ (15 of lowest_bad s (count_of s) if ltb (lowest_bad s (count_of s)) (count_of s)) ∷ []

-- f 0, f 1, .. f (n - 1)
unfoldable pub listed : {A : Type 0} → ℕ → (ℕ → A) → List A
listed zero f = []
listed (suc n) f = f zero ∷ listed n (λ k. f (suc k))

-- the certificates of a file, in file order
unfoldable pub certs_of : List ℕ → List Cert
certs_of s = listed (count_of s) (cert_at s)

-- certificates one after another, 18 bytes each
unfoldable pub records_of : List Cert → List ℕ
records_of [] = []
records_of (c ∷ cs) = bytes_of c ++ records_of cs

-- the file of a list of certificates: the mark, the version, the count, the certificates, nothing after
unfoldable pub file_of : List Cert → List ℕ
file_of cs = 87 ∷ 65 ∷ 67 ∷ 0 ∷ version ∷ length cs ∷ records_of cs

-- every certificate of a list is lawful
abbrev pub AllLawful : List Cert → Type 0
AllLawful [] = Unit {0}
AllLawful (c ∷ cs) = Lawful c × AllLawful cs

-- the frame of a file: its mark, its version, its count, and as many bytes as the count says
pub record Framed (s : List ℕ) : Type 0 where
  pub mark : is_wac s ≡ true
  pub versioned : version_of s ≡ version
  pub few : count_of s ≤ certificates
  pub sized : length s ≡ place_of (count_of s)

-- a lawful file: framed, and every certificate is lawful
pub record LawfulFile (s : List ℕ) : Type 0 where
  pub framed : Framed s
  pub lawful : (n : ℕ) → n < count_of s → Lawful (cert_at s n)
