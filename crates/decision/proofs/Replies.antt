-- What comes back determines the answer: a number with its values is that of one verdict, of one result, of one showing.
use mathlib.Core.Path.{◌≡◌, refl, ap}
use mathlib.Core.Bool.{cond}
use mathlib.Core.List.{List}
use Prim.Native.Nat.{ℕ, ◌≤◌}
use native.Mathlib.Omega.{arith}
use lib.Dec.{eqb, ltb}
use lib.ListN.{get_or}
use borrow.Author.Tests.{le-ltb}
use Rattle.std.specs.Prelude.{Result, Ok, Err}
use Rattle.wac.specs.Answers.{Answer, gives, refuses}
use Rattle.wac.specs.declared.refusal.Refusal.TheVariants.{Short, NotWac, Version, TooMany, Length, Against, Room, NoSuch}
use Rattle.wac.proofs.Unique.{told_apart, refusal_of, refusal_back}
use Rattle.decision.specs.Question.{Reply, reply_of, refusal_number, refusal_values, answered_as, shown_as}
use Rattle.decision.specs.declared.question.Refused.{Refused}
use Rattle.decision.specs.declared.question.Refused.TheVariants.{File, Keys, Rights, Minute, Places}
use Rattle.decision.specs.declared.question.Verdict.{Verdict}
use Rattle.decision.specs.declared.question.Verdict.TheVariants as verdicts

-- a refusal's number is 10 or more
pub number_from : (why : Refused) → 10 ≤ refusal_number why
number_from (File Short) = omega arith
number_from (File NotWac) = omega arith
number_from (File Version) = omega arith
number_from (File TooMany) = omega arith
number_from (File Length) = omega arith
number_from (File (Against i)) = omega arith
number_from (File Room) = omega arith
number_from (File NoSuch) = omega arith
number_from Keys = omega arith
number_from Rights = omega arith
number_from Minute = omega arith
number_from Places = omega arith

-- the refusal of a number, with the record's number where it has one
refused_of : ℕ → List ℕ → Refused
refused_of n vs = cond (eqb n 20) Keys (cond (eqb n 21) Rights (cond (eqb n 22) Minute (cond (eqb n 23) Places (File (refusal_of n vs)))))

refused_back : (why : Refused) → refused_of (refusal_number why) (refusal_values why) ≡ why
unfolding refused_of
refused_back (File Short) = ap File (refusal_back Short)
refused_back (File NotWac) = ap File (refusal_back NotWac)
refused_back (File Version) = ap File (refusal_back Version)
refused_back (File TooMany) = ap File (refusal_back TooMany)
refused_back (File Length) = ap File (refusal_back Length)
refused_back (File (Against i)) = ap File (refusal_back (Against i))
refused_back (File Room) = ap File (refusal_back Room)
refused_back (File NoSuch) = ap File (refusal_back NoSuch)
refused_back Keys = refl
refused_back Rights = refl
refused_back Minute = refl
refused_back Places = refl

-- the verdict of a reply, or its refusal
verdict_of : Reply → Result Verdict Refused
verdict_of r =
    let first = get_or r.values 0 0 in
    let second = get_or r.values 1 0 in
    cond (ltb r.number 10)
    (cond (eqb r.number 0) (Ok (verdicts.Granted first second (get_or r.values 2 0)))
    (cond (eqb r.number 1) (Ok (verdicts.NoChain first)) (Ok (verdicts.GrantedLong first second))))
    (Err (refused_of r.number r.values))

verdict_back : (r : Result Verdict Refused) → verdict_of (reply_of r) ≡ r
unfolding verdict_of
verdict_back (Ok (verdicts.Granted minute steps passes)) = refl
verdict_back (Ok (verdicts.NoChain passes)) = refl
verdict_back (Ok (verdicts.GrantedLong minute passes)) = refl
verdict_back (Err why) = rw (le-ltb _ _ (number_from why)) (ap Err (refused_back why))

-- a reply is that of one verdict
pub reply_unique : (r r' : Result Verdict Refused) → reply_of r ≡ reply_of r' → r ≡ r'
reply_unique r r' e = told_apart reply_of verdict_of verdict_back r r' e

result_of : {A : Type 0} → Answer A → Result A Refused
result_of (gives a) = Ok a
result_of (refuses n vs) = Err (refused_of n vs)

answered_back : {A : Type 0} (r : Result A Refused) → result_of (answered_as r) ≡ r
unfolding result_of
answered_back (Ok a) = refl
answered_back (Err why) = ap Err (refused_back why)

-- what comes back is so of one result
pub answered_as_unique : {A : Type 0} (r r' : Result A Refused) → answered_as r ≡ answered_as r' → r ≡ r'
answered_as_unique r r' e = told_apart answered_as result_of answered_back r r' e

numbered_of : {A : Type 0} → Answer A → Result A ℕ
numbered_of (gives a) = Ok a
numbered_of (refuses n vs) = Err n

shown_back : {A : Type 0} (r : Result A ℕ) → numbered_of (shown_as r) ≡ r
unfolding numbered_of
shown_back (Ok a) = refl
shown_back (Err n) = refl

-- what the read screen and the stock list come back as is so of one showing
pub shown_unique : {A : Type 0} (r r' : Result A ℕ) → shown_as r ≡ shown_as r' → r ≡ r'
shown_unique r r' e = told_apart shown_as numbered_of shown_back r r' e
