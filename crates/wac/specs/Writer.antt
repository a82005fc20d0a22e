-- The appending writer: document 01, "The certificate file", with the writer's order of refusals under "What comes back".
use Rattle.std.specs.Prelude.{◌≡◌, not, List, [], ◌∷◌, ◌++◌, ℕ, ◌+◌, ◌-◌, ltb, eqb, length, take, set, Result, Ok, Err}
use Rattle.std.proofs.Math.Seq.{paste}
use Rattle.wac.specs.Limits.{certificates, record_bytes}
use Rattle.wac.specs.Answers.{Answer, gives, refuses, Case, ◌if◌, ◌of◌if◌, first_of, comes_back}
use Rattle.wac.specs.Ranges.{record_ok}
use Rattle.wac.specs.Record.{bytes_of}
use Rattle.wac.specs.File.{count_of, file_cases}
use Rattle.wac.specs.declared.cert.Cert.{Cert}
use Rattle.wac.specs.declared.refusal.Refusal.{Refusal}

-- the refusals of a new certificate after a file with this count: full, against the table, no room in the buffer's length
unfoldable pub cert_cases : ℕ → ℕ → ℕ → Cert → List Case
cert_cases size used count c =
    (13 if eqb count certificates)
    ∷ (15 of count if not (record_ok (bytes_of c)))
    ∷ (16 if ltb (size - used) record_bytes)
    ∷ []

-- the writer's refusals: the used length, the used part, then the new certificate
unfoldable pub append_cases : List ℕ → ℕ → Cert → List Case
append_cases b used c =
    (16 if ltb (length b) used)
    ∷ file_cases (take used b) ++ cert_cases (length b) used (count_of (take used b)) c

-- the buffer with byte 5 raised by 1 and the certificate's 18 bytes after the used ones
unfoldable pub written : List ℕ → ℕ → Cert → List ℕ
written b used c = paste (set b 5 (count_of b + 1)) used (bytes_of c) record_bytes

-- what an answer leaves in the buffer: a refused call leaves every byte
unfoldable pub left : {A : Type 0} → Answer A → List ℕ → ℕ → Cert → List ℕ
left (gives n) b used c = written b used c
left (refuses n vs) b used c = b

-- r is the answer to appending to b, and b' is what the buffer then holds
pub record AppendedTo (b : List ℕ) (used : ℕ) (c : Cert) (r : Result ℕ Refusal) (b' : List ℕ) : Type 0 where
  pub answer : comes_back r ≡ first_of (append_cases b used c) (used + record_bytes)
  pub buffer : b' ≡ left (first_of (append_cases b used c) (used + record_bytes)) b used c

-- the used length after an answer: the new one; where the call is refused the old one
abbrev pub used_after : ℕ → Result ℕ Refusal → ℕ
used_after used (Ok n) = n
used_after used (Err why) = used

-- appending certificates in turn, each to what the call before it left: from b with so many bytes used to b' with used'
abbrev pub InTurn : List Cert → List ℕ → ℕ → List ℕ → ℕ → Type 0
InTurn [] b used b' used' = (b' ≡ b) × (used' ≡ used)
InTurn (c ∷ cs) b used b' used' =
    (r : Result ℕ Refusal) × (next : List ℕ) × AppendedTo b used c r next × InTurn cs next (used_after used r) b' used'
