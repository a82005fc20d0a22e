-- What it is for the line of a case to be right: in terms of the file's bytes, of passes and of chains, and not of an engine.
use Rattle.std.specs.Prelude.{◌≡◌, List, [], ◌∷◌, ◌++◌, ℕ, ◌≤◌, length, take, Result}
use Rattle.wac.specs.Limits.{entries, chain_places}
use Rattle.wac.specs.Answers.{gives, first_of}
use Rattle.wac.specs.File.{count_of, file_cases, certs_of}
use Rattle.wac.specs.declared.cert.Cert.{Cert}
use Rattle.rewriting.specs.Rewriting.{Chain}
use Rattle.rewriting.specs.Passes.{PassCount}
use Rattle.decision.specs.Usable.{rules_of}
use Rattle.decision.specs.Question.{Reply, reply, reply_of, asked, request_of, request_cases, ShortestBest, Judged}
use Rattle.decision.specs.declared.request.Request.{Request}
use Rattle.decision.specs.declared.question.Refused.{Refused}
use Rattle.decision.specs.declared.question.Verdict.{Verdict}

-- a line: GRANTED with minute, steps, passes and chain; NO-CHAIN with passes
pub data Line : Type 0 where
  GRANTED : ℕ → ℕ → ℕ → List ℕ → Line
  NO-CHAIN : ℕ → Line

-- the number and the values of the answer that a line shows: document 01, "What comes back", the rows 0 and 1
abbrev pub reply_in : Line → Reply
reply_in (GRANTED minute steps passes chain) = reply 0 (minute ∷ steps ∷ passes ∷ [])
reply_in (NO-CHAIN passes) = reply 1 (passes ∷ [])

-- a case: the file in bytes, the certificates that it holds, the asker, the rights, T, and the line
pub record Case : Type 0 where
  pub file : List ℕ
  pub certificates : List Cert
  pub asker : ℕ
  pub rights : ℕ
  pub at : ℕ
  pub line : Line

-- the request of a case; the owner is 0
abbrev pub request_in : Case → Request
request_in c = request_of 0 c.asker c.rights c.at

-- the file s answers the request q so: the passes are as many, and the chain given is a shortest best chain with that
-- minute and those steps
pub record Granted (s : List ℕ) (q : Request) (minute steps passes : ℕ) (chain : List ℕ) : Type 0 where
  pub count : PassCount (asked q) (rules_of s q) passes
  pub short : steps ≤ chain_places
  pub shortest : ShortestBest s q minute steps chain

-- the file s answers the request q so: the passes are as many, and there is no chain
pub record NoChain (s : List ℕ) (q : Request) (passes : ℕ) : Type 0 where
  pub count : PassCount (asked q) (rules_of s q) passes
  pub none : (ch : List ℕ) → Chain (rules_of s q) q.owner q.asker ch → ⊥

-- a line says so
abbrev pub Says : List ℕ → Request → Line → Type 0
Says s q (GRANTED minute steps passes chain) = Granted s q minute steps passes chain
Says s q (NO-CHAIN passes) = NoChain s q passes

-- a case is right: its file is accepted, with as many certificates; they are those given; neither the file nor the request is refused; and what the line says is so
pub record Right (c : Case) : Type 0 where
  pub accepted : first_of (file_cases c.file) (count_of c.file) ≡ gives (length c.certificates)
  pub read : certs_of c.file ≡ c.certificates
  pub admitted : first_of (file_cases c.file ++ request_cases (request_in c)) (count_of c.file) ≡ gives (length c.certificates)
  pub says : Says c.file (request_in c) c.line

-- the chain that is written is as a line says: like the line's own, a shortest best chain with the line's minute and
-- steps
abbrev pub Written : List ℕ → Request → Line → List ℕ → Type 0
Written s q (GRANTED minute steps passes chain) written = ShortestBest s q minute steps (take steps written)
Written s q (NO-CHAIN passes) written = Unit {0}

-- a case's line is what comes back: every verdict on its file and request that meets the question's statement, with
-- places enough lent, has the line's number and values, and the chain written is as the line says
pub record ComesBack (c : Case) : Type 0 where
  pub every : {r : Result Verdict Refused} {m m' t t' ch ch' : List ℕ} →
      entries ≤ length m → entries ≤ length t → chain_places ≤ length ch →
      Judged c.file (request_in c) r m m' t t' ch ch' →
      (reply_of r ≡ reply_in c.line) × Written c.file (request_in c) c.line ch'

-- something holds of every case of a list
abbrev pub All : (Case → Type 0) → List Case → Type 0
All P [] = Unit {0}
All P (c ∷ cs) = P c × All P cs
