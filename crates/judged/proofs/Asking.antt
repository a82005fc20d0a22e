-- The lines of P1 to P10 are what the question answers: a verdict that meets its statement on a case's file has the line's reply.
use mathlib.Core.Path.{◌≡◌, sym, ap, ◌∙◌, subst}
use mathlib.Core.Logic.{inl}
use mathlib.Core.List.{List, [], ◌∷◌}
use Prim.Native.Nat.{ℕ, ◌≤◌}
use native.Mathlib.Omega.{arith}
use lib.ListN.{length, get_or, take}
use Rattle.std.specs.Prelude.{Result}
use Rattle.wac.specs.Limits.{entries, chain_places}
use Rattle.wac.proofs.Cases.{gives_not_refuses}
use Rattle.rewriting.specs.Weighing.{uncounted}
use Rattle.rewriting.specs.Rewriting.{Best}
use Rattle.rewriting.specs.Steps.{Fewest, Weighs}
use Rattle.rewriting.proofs.Answers.{answer_unique}
use Rattle.rewriting.proofs.Steps.{fewest_unique}
use Rattle.decision.specs.Usable.{rules_of}
use Rattle.decision.specs.Question.{asked, reply_of, ShortestBest, Counted.counted, Counted.uncountable, Answered.granted, Answered.denied, Judged, Judged.refused, Judged.answered}
use Rattle.decision.specs.declared.request.Request.{Request}
use Rattle.decision.specs.declared.question.Refused.{Refused}
use Rattle.decision.specs.declared.question.Verdict.{Verdict}
use Rattle.decision.proofs.AskLaws.{no_places}
use Rattle.decision.proofs.Unique.{chain_written}
use Rattle.judged.specs.Right.{Line, GRANTED, NO-CHAIN, Case, reply_in, request_in, Says, Written, Right, ComesBack, All}
use Rattle.judged.specs.Cases.{cases}
use Rattle.judged.proofs.Judging.{judged}
use Rattle.judged.proofs.Unique.{line_unique}

-- what a verdict and the chain written say, as a line
record Spoken (s : List ℕ) (q : Request) (r : Result Verdict Refused) (written : List ℕ) : Type 0 where
  line : Line
  says : Says s q line
  replied : reply_of r ≡ reply_in line
  wrote : Written s q line written

-- two lines with one reply say the same of the chain written
same_written : (s : List ℕ) (q : Request) (l m : Line) (written : List ℕ) → reply_in l ≡ reply_in m → Written s q l written → Written s q m written
same_written s q (GRANTED w n N c) (GRANTED w' n' N' c') written e h =
    let minute : w ≡ w' = ap (λ x. get_or x.values 0 0) e in
    let steps : n ≡ n' = ap (λ x. get_or x.values 1 0) e in
    subst (λ x. ShortestBest s q w' x (take x written)) steps (subst (λ x. ShortestBest s q x n (take n written)) minute h)
same_written s q (GRANTED w n N c) (NO-CHAIN N') written e h = tt
same_written s q (NO-CHAIN N) (GRANTED w n N' c) written e h = absurd (let z = ap (λ x. x.number) e in omega arith)
same_written s q (NO-CHAIN N) (NO-CHAIN N') written e h = tt

-- a line has at most 200 steps, so it is not the line of an answer 2
not_long : (s : List ℕ) (q : Request) (l : Line) {W : ℕ} → Says s q l → Best (asked q) (rules_of s q) q.owner W → Fewest (Weighs (asked q) (rules_of s q) q.owner W) uncounted → ⊥
not_long s q (GRANTED w n N c) {W} h best few =
    let minute : W ≡ w = answer_unique (inl best) (inl h.shortest.best) in
    let steps = fewest_unique (subst (λ x. Fewest (Weighs (asked q) (rules_of s q) q.owner x) uncounted) minute few) h.shortest.fewest in
    let short = h.short in
    omega arith
not_long s q (NO-CHAIN N) h best few = h.none best.chain best.leads

module _ (c : Case) (right : Right c) where
  -- what a verdict on the case says
  spoken : {r : Result Verdict Refused} {m m' t t' ch ch' : List ℕ} → entries ≤ length m → entries ≤ length t → chain_places ≤ length ch →
      Judged c.file (request_in c) r m m' t t' ch ch' → Spoken c.file (request_in c) r ch'
  spoken {m = m} {m'} {t} {t'} {ch} {ch'} m-long t-long ch-long (refused n vs case e at-m at-t at_c) =
      absurd (gives_not_refuses (sym right.admitted ∙ sym (no_places c.file (request_in c) m m' t t' ch ch' m-long t-long ch-long) ∙ case))
  spoken {ch = ch} m-long t-long ch-long (answered case (granted W N some best held (counted n chain low shortest same steps e))) =
      let wrote = (chain_written ch ch-long low shortest same).0 in
      record { line = GRANTED W n N (take n _); says = record { count = held.count; short = low; shortest = wrote }; replied = e; wrote = wrote }
  spoken m-long t-long ch-long (answered case (granted W N some best held (uncountable few same steps e))) =
      absurd (not_long c.file (request_in c) c.line right.says best few)
  spoken m-long t-long ch-long (answered case (denied N none held all beyond same e)) =
      record { line = NO-CHAIN N; says = record { count = held.count; none = none }; replied = e; wrote = tt }

  right_back : ComesBack c
  right_back = record {
    every = λ m-long t-long ch-long j.
        let x = spoken m-long t-long ch-long j in
        let same = line_unique c.file (request_in c) x.line c.line x.says right.says in
        (x.replied ∙ same, same_written c.file (request_in c) x.line c.line _ same x.wrote);
  }

all_back : (cs : List Case) → All Right cs → All ComesBack cs
all_back [] h = tt
all_back (c ∷ cs) h = (right_back c h.0, all_back cs h.1)

-- P1 to P10 are what the question answers
pub judged_back : All ComesBack cases
judged_back = all_back cases judged
