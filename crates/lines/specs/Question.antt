-- The line of a question: document 01, "A file to judge by".
use Rattle.std.specs.Prelude.{◌≡◌, List, [], ◌∷◌, ◌++◌, ℕ, zero, suc, ◌<◌, ◌≤◌, length, get_or, take, drop, replicate, Result, Ok, Err}
use Rattle.wac.specs.Limits.{entries, chain_places}
use Rattle.wac.specs.Answers.{Answer, gives, refuses}
use Rattle.wac.specs.Record.{word_at}
use Rattle.decision.specs.Question.{Reply, reply_of, request_of, Judged}
use Rattle.decision.specs.declared.request.Request.{Request}
use Rattle.decision.specs.declared.question.Refused.{Refused}
use Rattle.decision.specs.declared.question.Verdict.{Verdict}
use Rattle.lines.specs.Text.{newline, fields, Put}
use Rattle.lines.specs.Stream.{counted}
use Rattle.lines.specs.declared.question.NoRoom.{NoRoom}
use Rattle.lines.specs.declared.stream.Failed.{Failed}

-- the bytes of a question before its file
abbrev pub request_bytes : ℕ
request_bytes = 7

-- as many lent bytes as any line fits
abbrev pub line_room : ℕ
line_room = 1024

-- the request that stands before the file: owner, asker and rights, a byte each, and T in 4 bytes, high byte first
abbrev pub request_in : List ℕ → Request
request_in s = request_of (get_or s 0 0) (get_or s 1 0) (get_or s 2 0) (word_at s 3)

-- the bytes of GRANTED
abbrev pub granted : List ℕ
granted = 71 ∷ 82 ∷ 65 ∷ 78 ∷ 84 ∷ 69 ∷ 68 ∷ []

-- the bytes of NO-CHAIN
abbrev pub no_chain : List ℕ
no_chain = 78 ∷ 79 ∷ 45 ∷ 67 ∷ 72 ∷ 65 ∷ 73 ∷ 78 ∷ []

-- the bytes of GRANTED-LONG
abbrev pub granted_long : List ℕ
granted_long = 71 ∷ 82 ∷ 65 ∷ 78 ∷ 84 ∷ 69 ∷ 68 ∷ 45 ∷ 76 ∷ 79 ∷ 78 ∷ 71 ∷ []

-- the bytes of REFUSED
abbrev pub refused : List ℕ
refused = 82 ∷ 69 ∷ 70 ∷ 85 ∷ 83 ∷ 69 ∷ 68 ∷ []

-- a word, its fields, and the line's end
abbrev pub line : List ℕ → List ℕ → List ℕ
line word ns = word ++ fields ns ++ newline ∷ []

-- the line by a reply's number and values: GRANTED, minute, steps, passes, chain; NO-CHAIN, passes; GRANTED-LONG, minute, passes; REFUSED, number, record (0 unless 15)
abbrev pub line_by : ℕ → List ℕ → List ℕ → List ℕ
line_by zero values chain = line granted (values ++ take (get_or values 1 0) chain)
line_by (suc zero) values chain = line no_chain values
line_by (suc (suc zero)) values chain = line granted_long values
line_by (suc (suc (suc n))) values chain = line refused (suc (suc (suc n)) ∷ get_or values 0 0 ∷ [])

-- the line of a reply, with the places of its chain
abbrev pub line_of : Reply → List ℕ → List ℕ
line_of reply chain = line_by reply.number reply.values chain

-- what comes back for fewer than 7 bytes: 9
abbrev pub cut_short : Reply
cut_short = record { number = 9; values = [] }

-- what a line comes back as: its length, or 23
abbrev pub lined_as : Result ℕ NoRoom → Answer ℕ
lined_as (Ok n) = gives n
lined_as (Err e) = refuses 23 []

-- the length of a line that was written, 0 where none was
abbrev pub length_of : Result ℕ NoRoom → ℕ
length_of (Ok n) = n
length_of (Err e) = 0

-- the line of the verdict on a question is put to the front of lent bytes
pub record Asks (s : List ℕ) (q : Request) (out : List ℕ) (end : ℕ) (out' : List ℕ) : Type 0 where
  pub verdict : Result Verdict Refused
  pub minutes : List ℕ
  pub steps : List ℕ
  pub chain : List ℕ
  pub judged : Judged s q verdict (replicate entries 0) minutes (replicate entries 0) steps (replicate chain_places 0) chain
  pub put : Put out 0 (line_of (reply_of verdict) chain) end out'

-- the line of a question's bytes is put to the front of lent bytes: 23 if these are too few, and then they are as they were; 9; or that of the verdict
pub data Answers (s out : List ℕ) (r : Result ℕ NoRoom) (out' : List ℕ) : Type 0 where
  cramped : length out < line_room → lined_as r ≡ refuses 23 [] → out' ≡ out → Answers s out r out'
  short : line_room ≤ length out → length s < request_bytes → (end : ℕ) → Put out 0 (line_of cut_short []) end out' → lined_as r ≡ gives end → Answers s out r out'
  asked : line_room ≤ length out → request_bytes ≤ length s → (end : ℕ) → Asks (drop request_bytes s) (request_in s) out end out' → lined_as r ≡ gives end →
      Answers s out r out'

-- the line of a question's bytes stands in 1,024 bytes, and the length printed is its length
pub record Prints (s : List ℕ) (r : Result ℕ Failed) : Type 0 where
  pub bytes : List ℕ
  pub line : Answers s (replicate line_room 0) (Ok (counted r)) bytes
