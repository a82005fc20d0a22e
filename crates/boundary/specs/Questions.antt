-- The decision's answers as numbers, for programs in C and in Rust.
use Rattle.std.specs.Prelude.{◌≡◌, Bool, false, cond, List, ℕ, zero, suc, ◌+◌, ◌*◌, ◌%◌, eqb, get_or, Result}
use Rattle.wac.specs.Limits.{keys}
use Rattle.wac.specs.Answers.{Answer, gives, refuses}
use Rattle.boundary.specs.Coded.{code}
use Rattle.decision.specs.Question.{Reply, reply_of, shown_as, answered_as, Judged, Shows, Stocks, Settles}
use Rattle.decision.specs.declared.request.Request.{Request}
use Rattle.decision.specs.declared.question.Verdict.{Verdict}
use Rattle.decision.specs.declared.question.Refused.{Refused}

-- a number and up to three values as one number: number × 2^56 + steps × 2^48 + passes × 2^32 + minute
abbrev pub wide_code : ℕ → ℕ → ℕ → ℕ → ℕ
wide_code number steps passes minute =
    number * 72057594037927936 + (steps % 256) * 281474976710656 + (passes % 65536) * 4294967296 + minute % 4294967296

-- a reply as one number: of 0 minute, steps, passes; of 1 passes; of 2 minute, passes; a refusal's record stands in the
-- minute's place
abbrev pub reply_code : Reply → ℕ
reply_code x =
    let first = get_or x.values 0 0 in
    let second = get_or x.values 1 0 in
    cond (eqb x.number 1) (wide_code 1 0 first 0)
    (cond (eqb x.number 2) (wide_code 2 0 second first) (wide_code x.number second (get_or x.values 2 0) first))

-- a verdict as one number
abbrev pub verdict_code : Result Verdict Refused → ℕ
verdict_code r = reply_code (reply_of r)

-- an answer as one number: 0 and the number of what is given, or the refusal's number with its record
abbrev pub answer_code : {A : Type 0} → (A → ℕ) → Answer A → ℕ
answer_code value (gives a) = code 0 (value a)
answer_code value (refuses n vs) = code n (get_or vs 0 0)

-- what the read screen comes back as: yes is 1, no is 0
abbrev pub shown_code : Answer Bool → ℕ
shown_code = answer_code (λ shown. cond shown 1 0)

-- of n places from k on, the sum of 2^i over the places k + i that hold true
unfoldable pub bits : List Bool → ℕ → ℕ → ℕ
bits places k zero = 0
bits places k (suc n) = cond (get_or places k false) 1 0 + 2 * bits places (suc k) n

-- what the stock list comes back as: the sum of 2^k over the keys k that get yes
abbrev pub stocked_code : Answer (List Bool) → ℕ
stocked_code = answer_code (λ shown. bits shown 0 keys)

-- a number and one long value as one number
abbrev pub long_code : ℕ → ℕ → ℕ
long_code number value = number * 72057594037927936 + value % 72057594037927936

-- what settling comes back as, as one number: the passes, or number × 2^56 + record
abbrev pub settling_code : Answer ℕ → ℕ
settling_code (gives passes) = long_code 0 passes
settling_code (refuses n vs) = long_code n (get_or vs 0 0)

-- r is the code of the verdict on a question, and the lent places are left as that verdict says
pub record AskCoded (s : List ℕ) (q : Request) (r : ℕ) (minutes minutes' steps steps' chain chain' : List ℕ) : Type 0 where
  pub verdict : Result Verdict Refused
  pub judged : Judged s q verdict minutes minutes' steps steps' chain chain'
  pub answer : r ≡ verdict_code verdict

-- r is the code of what the read screen shows
pub record MayCoded (s : List ℕ) (q : Request) (r : ℕ) : Type 0 where
  pub shown : Result Bool ℕ
  pub judged : Shows s q (shown_as shown)
  pub answer : r ≡ shown_code (shown_as shown)

-- r is the code of the stock list
pub record StockCoded (s : List ℕ) (owner at : ℕ) (r : ℕ) : Type 0 where
  pub list : Result (List Bool) ℕ
  pub judged : Stocks s owner at list
  pub answer : r ≡ stocked_code (shown_as list)

-- r is the code of what settling answers, and the lent table is left as that answer says
pub record SettleCoded (s : List ℕ) (q : Request) (r : ℕ) (table table' : List ℕ) : Type 0 where
  pub settling : Result ℕ Refused
  pub settled : Settles s q settling table table'
  pub answer : r ≡ settling_code (answered_as settling)
