-- A line that is right is the only one: of a file and a request no other number and no other values are right. Which of several equally
-- short best chains a line shows is left open.
use mathlib.Core.Path.{◌≡◌, ap, ◌∙◌, subst}
use mathlib.Core.Logic.{inl}
use mathlib.Core.List.{List, [], ◌∷◌}
use Prim.Native.Nat.{ℕ}
use Rattle.rewriting.specs.Steps.{Fewest, Weighs}
use Rattle.rewriting.proofs.Answers.{answer_unique}
use Rattle.rewriting.proofs.Settling.{count_unique}
use Rattle.rewriting.proofs.Steps.{fewest_unique}
use Rattle.decision.specs.Usable.{rules_of}
use Rattle.decision.specs.Question.{Reply, reply, asked}
use Rattle.decision.specs.declared.request.Request.{Request}
use Rattle.judged.specs.Right.{Line, GRANTED, NO-CHAIN, reply_in, Says}

module _ (s : List ℕ) (q : Request) where
  abbrev granted : ℕ → ℕ → ℕ → Reply
  granted minute steps passes = reply 0 (minute ∷ steps ∷ passes ∷ [])

  pub line_unique : (l m : Line) → Says s q l → Says s q m → reply_in l ≡ reply_in m
  line_unique (GRANTED w n N c) (GRANTED w' n' N' c') a b =
      let minute = answer_unique (inl a.shortest.best) (inl b.shortest.best) in
      let steps = fewest_unique (subst (λ x. Fewest (Weighs (asked q) (rules_of s q) q.owner x) n) minute a.shortest.fewest) b.shortest.fewest in
      let passes = count_unique a.count b.count in
      ap (λ x. granted x n N) minute ∙ ap (λ x. granted w' x N) steps ∙ ap (λ x. granted w' n' x) passes
  line_unique (GRANTED w n N c) (NO-CHAIN N') a b = absurd (b.none a.shortest.best.chain a.shortest.best.leads)
  line_unique (NO-CHAIN N) (GRANTED w n N' c) a b = absurd (a.none b.shortest.best.chain b.shortest.best.leads)
  line_unique (NO-CHAIN N) (NO-CHAIN N') a b = ap (λ x. reply 1 (x ∷ [])) (count_unique a.count b.count)
