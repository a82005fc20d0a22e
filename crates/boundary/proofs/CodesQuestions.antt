-- The parts of a verdict's code and of a settling's: where number and values are small enough, the code determines them.
use mathlib.Core.Path.{◌≡◌, refl, sym, ap, ◌∙◌}
use mathlib.Core.Bool.{cond}
use mathlib.Core.List.{[], ◌∷◌}
use Prim.Native.Nat.{ℕ, ◌<◌, ◌≤◌}
use native.Mathlib.Omega.{arith}
use lib.Dec.{eqb}
use Rattle.std.specs.Prelude.{Result, Ok, Err}
use Rattle.wac.specs.Limits.{without_end}
use Rattle.wac.specs.declared.refusal.Refusal.TheVariants.{Short, NotWac, Version, TooMany, Length, Against, Room, NoSuch}
use Rattle.decision.specs.Question.{Reply, reply, reply_of, refusal_number, refusal_values, refusal_record}
use Rattle.decision.specs.declared.question.Refused.{Refused}
use Rattle.decision.specs.declared.question.Refused.TheVariants.{File, Keys, Rights, Minute, Places}
use Rattle.decision.specs.declared.question.Verdict.{Verdict}
use Rattle.decision.specs.declared.question.Verdict.TheVariants as verdicts
use Rattle.decision.proofs.Bounds.{Bounded}
use Rattle.boundary.specs.Questions.{wide_code, verdict_code, long_code}

-- a number, steps, passes and a minute
pub wide_apart : {a a' n n' p p' m m' : ℕ} → n < 256 → n' < 256 → p < 65536 → p' < 65536 → m ≤ without_end → m' ≤ without_end →
    wide_code a n p m ≡ wide_code a' n' p' m' → (a ≡ a') × (n ≡ n') × (p ≡ p') × (m ≡ m')
wide_apart ln ln' lp lp' lm lm' e = (omega arith, omega arith, omega arith, omega arith)

-- a number and one long value
pub long_apart : {a a' v v' : ℕ} → v < 72057594037927936 → v' < 72057594037927936 → long_code a v ≡ long_code a' v' → (a ≡ a') × (v ≡ v')
long_apart low low' e = (omega arith, omega arith)

-- the reply whose code has these parts
pub built : ℕ → ℕ → ℕ → ℕ → Reply
built number steps passes minute =
    cond (eqb number 0) (reply 0 (minute ∷ steps ∷ passes ∷ []))
    (cond (eqb number 1) (reply 1 (passes ∷ []))
    (cond (eqb number 2) (reply 2 (minute ∷ passes ∷ [])) (cond (eqb number 15) (reply 15 (minute ∷ [])) (reply number []))))

-- a refusal's code, and the reply that is built of its parts
pub record Told (why : Refused) : Type 0 where
  pub coded : verdict_code (Err why) ≡ wide_code (refusal_number why) 0 0 (refusal_record why)
  pub back : built (refusal_number why) 0 0 (refusal_record why) ≡ reply (refusal_number why) (refusal_values why)

pub refused_told : (why : Refused) → Told why
unfolding built
refused_told (File Short) = record { coded = refl; back = refl }
refused_told (File NotWac) = record { coded = refl; back = refl }
refused_told (File Version) = record { coded = refl; back = refl }
refused_told (File TooMany) = record { coded = refl; back = refl }
refused_told (File Length) = record { coded = refl; back = refl }
refused_told (File (Against i)) = record { coded = refl; back = refl }
refused_told (File Room) = record { coded = refl; back = refl }
refused_told (File NoSuch) = record { coded = refl; back = refl }
refused_told Keys = record { coded = refl; back = refl }
refused_told Rights = record { coded = refl; back = refl }
refused_told Minute = record { coded = refl; back = refl }
refused_told Places = record { coded = refl; back = refl }

-- the parts of a verdict's code, each with room enough: number, steps, passes, minute
data Parts (r : Result Verdict Refused) : Type 0 where
  laid : (a n p m : ℕ) → n < 256 → p < 65536 → m ≤ without_end → verdict_code r ≡ wide_code a n p m → built a n p m ≡ reply_of r → Parts r

parts : (r : Result Verdict Refused) → Bounded r → Parts r
unfolding built
parts (Ok (verdicts.Granted minute steps passes)) (low, short, few) = laid 0 steps passes minute (omega arith) (omega arith) low refl refl
parts (Ok (verdicts.NoChain passes)) few = laid 1 0 passes 0 (omega arith) (omega arith) (omega arith) refl refl
parts (Ok (verdicts.GrantedLong minute passes)) (low, few) = laid 2 0 passes minute (omega arith) (omega arith) low refl refl
parts (Err why) low =
    laid (refusal_number why) 0 0 (refusal_record why) (omega arith) (omega arith) (omega arith) (refused_told why).coded (refused_told why).back

-- verdicts within their bounds with one code have one reply
pub verdict_apart : (r r' : Result Verdict Refused) → Bounded r → Bounded r' → verdict_code r ≡ verdict_code r' → reply_of r ≡ reply_of r'
verdict_apart r r' low low' e = turn (parts r low) (parts r' low')
  where
    turn : Parts r → Parts r' → reply_of r ≡ reply_of r'
    turn (laid a n p m ln lp lm coded back) (laid a' n' p' m' ln' lp' lm' coded' back') =
        let same = wide_apart ln ln' lp lp' lm lm' (sym coded ∙ e ∙ coded') in
        sym back
        ∙ ap (λ a. built a n p m) same.0
        ∙ ap (λ n. built a' n p m) same.1
        ∙ ap (λ p. built a' n' p m) same.2
        ∙ ap (built a' n' p') same.3
        ∙ back'
