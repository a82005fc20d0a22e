-- Answers and certificates as numbers, for programs in C and in Rust.
use Rattle.std.specs.Prelude.{◌≡◌, List, [], ◌∷◌, ◌++◌, ℕ, ◌+◌, ◌*◌, ◌%◌, leb, ltb, length, get_or, drop}
use Rattle.wac.specs.Limits.{record_bytes}
use Rattle.wac.specs.Answers.{Answer, gives, refuses, Case, ◌if◌, first_of}
use Rattle.wac.specs.File.{count_of, cert_at, file_cases}
use Rattle.wac.specs.Writer.{append_cases, left}
use Rattle.wac.specs.declared.cert.Cert.{Cert}

-- a number and the value that comes with it, as one number
abbrev pub code : ℕ → ℕ → ℕ
code number value = number * 65536 + value % 65536

-- an answer that gives a number: 0 and that number, or the refusal's number and its record
abbrev pub coded : Answer ℕ → ℕ
coded (gives n) = code 0 n
coded (refuses n vs) = code n (get_or vs 0 0)

-- the certificate with these fields
abbrev pub cert_of : ℕ → ℕ → ℕ → ℕ → ℕ → ℕ → ℕ → ℕ → ℕ → ℕ → ℕ → ℕ → Cert
cert_of kind issuer left subject count first second third mark rights begins ends = record {
  kind = kind;
  issuer = issuer;
  left = left;
  subject = subject;
  count = count;
  ids = record { 0 = first; 1 = second; 2 = third };
  mark = mark;
  rights = rights;
  not_before = begins;
  not_after = ends;
}

-- how many fields a certificate has
abbrev pub fields : ℕ
fields = 12

-- the fields of a certificate, in order
abbrev pub fields_of : Cert → List ℕ
fields_of c =
    c.kind ∷ c.issuer ∷ c.left ∷ c.subject ∷ c.count ∷ c.ids.0 ∷ c.ids.1 ∷ c.ids.2 ∷ c.mark ∷ c.rights
    ∷ c.not_before ∷ c.not_after ∷ []

-- the refusals of fetching certificate n into so many lent places: the whole file's, too few places, no such number
unfoldable pub lent_cases : List ℕ → ℕ → ℕ → List Case
lent_cases s n places = file_cases s ++ (23 if ltb places fields) ∷ (24 if leb (count_of s) n) ∷ []

-- an answer that gives a certificate: 0, or the refusal's number and its record
abbrev pub cert_coded : Answer Cert → ℕ
cert_coded (gives c) = code 0 0
cert_coded (refuses n vs) = code n (get_or vs 0 0)

-- the lent places after an answer: the certificate's fields first, or as they were
abbrev pub filled : Answer Cert → List ℕ → List ℕ
filled (gives c) lent = fields_of c ++ drop fields lent
filled (refuses n vs) lent = lent

-- r is the answer to fetching certificate n of s into the lent places, and lent' is what they then hold
pub record FetchCoded (s : List ℕ) (n : ℕ) (lent : List ℕ) (r : ℕ) (lent' : List ℕ) : Type 0 where
  pub answer : r ≡ cert_coded (first_of (lent_cases s n (length lent)) (cert_at s n))
  pub places : lent' ≡ filled (first_of (lent_cases s n (length lent)) (cert_at s n)) lent

-- r is the answer to appending to b, and b' is what the buffer then holds
pub record AppendCoded (b : List ℕ) (used : ℕ) (c : Cert) (r : ℕ) (b' : List ℕ) : Type 0 where
  pub answer : r ≡ coded (first_of (append_cases b used c) (used + record_bytes))
  pub buffer : b' ≡ left (first_of (append_cases b used c) (used + record_bytes)) b used c
