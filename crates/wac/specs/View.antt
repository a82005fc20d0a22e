-- Certificates read by a view of the file and a number: document 01, "The certificate file", with the rows 10 to 15 and
-- 24 of "What comes back"; and, below the view, one record read alone.
use Rattle.std.specs.Prelude.{◌≡◌, not, List, [], ◌∷◌, ◌++◌, ℕ, leb, Result}
use Rattle.std.specs.Borrow.{Bor}
use Rattle.wac.specs.Answers.{Answer, gives, refuses, Case, ◌if◌, ◌of◌if◌, first_of, comes_back}
use Rattle.wac.specs.Ranges.{record_ok}
use Rattle.wac.specs.Record.{Lawful}
use Rattle.wac.specs.File.{count_of, record_at, cert_at, frame_cases, file_cases}
use Rattle.wac.specs.declared.cert.Cert.{Cert}
use Rattle.wac.specs.declared.refusal.Refusal.{Refusal}
use Rattle.wac.specs.declared.view.View.{View}

-- the refusals of certificate n of a file: the whole file's, then 24 where the number is not below the count
unfoldable pub fetch_cases : List ℕ → ℕ → List Case
fetch_cases s n = file_cases s ++ (24 if leb (count_of s) n) ∷ []

-- the refusals of record n alone by its number, in a file that has this count: there is no such record, or this one is
-- against the table
unfoldable pub number_cases : List ℕ → ℕ → ℕ → List Case
number_cases s count n =
    (24 if leb count n)
    ∷ (15 of n if not (record_ok (record_at s n)))
    ∷ []

-- the refusals of record n read alone, the others not looked at: the frame's, then the number's
unfoldable pub alone_cases : List ℕ → ℕ → List Case
alone_cases s n = frame_cases s ++ number_cases s (count_of s) n

-- a certificate that comes back has its numbers in their ranges
abbrev pub InRanges : Answer Cert → Type 0
InRanges (gives c) = Lawful c
InRanges (refuses n vs) = Unit {0}

-- r is what reading record n of s alone finds
pub record ReadAlone (s : List ℕ) (n : ℕ) (r : Result Cert Refusal) : Type 0 where
  pub answer : comes_back r ≡ first_of (alone_cases s n) (cert_at s n)
  pub ranges : InRanges (comes_back r)

-- v is the view of the lent file: it holds the file, and keeps what the check of the whole file finds
pub record ViewOf (lent : Bor (List ℕ)) (v : View) : Type 0 where
  pub file : v.file ≡ lent
  pub kept : comes_back v.kept ≡ first_of (file_cases lent.now) (count_of lent.now)

-- after a check that refuses comes its refusal, else what is next
abbrev pub after : Answer ℕ → Answer Cert → Answer Cert
after (gives k) next = next
after (refuses n vs) next = refuses n vs

-- r is what a view fetches that holds s and keeps this answer of a check, be it that of s or not: the refusal kept, or
-- what record n alone gives
pub record FetchedBy (kept : Result ℕ Refusal) (s : List ℕ) (n : ℕ) (r : Result Cert Refusal) : Type 0 where
  pub answer : comes_back r ≡ after (comes_back kept) (first_of (alone_cases s n) (cert_at s n))
  pub ranges : InRanges (comes_back r)

-- r is what fetching certificate n of the file s finds
pub record FetchedFrom (s : List ℕ) (n : ℕ) (r : Result Cert Refusal) : Type 0 where
  pub answer : comes_back r ≡ first_of (fetch_cases s n) (cert_at s n)
  pub ranges : InRanges (comes_back r)
