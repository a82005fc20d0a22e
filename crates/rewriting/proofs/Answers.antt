-- Answers: there is only one for the chains of a kind; and, where a chain weighs what its weakest certificate weighs, it decides: it is
-- none exactly where there is no chain.
use mathlib.Core.Path.{◌≡◌, sym, ◌∙◌, subst}
use mathlib.Core.Logic.{◌↔◌, inl, inr, ⊎_elim}
use mathlib.Core.List.{List, [], ◌∷◌, ◌++◌}
use mathlib.Core.Option.{some}
use Prim.Native.Nat.{ℕ}
use Rattle.rewriting.specs.Weighing.{Weighing, AtMost, ByWeakest}
use Rattle.rewriting.specs.Rewriting.{Rules, Config, Question, run, Chain, weighed, Weighty, Answer, Decides}
use Rattle.rewriting.specs.Tables.{Found}
use Rattle.rewriting.proofs.Order.{at_most_antisym, along_some}
use Rattle.rewriting.proofs.Runs.{run_onward}

module _ {W : Weighing} {R : Rules} {P : List ℕ → Type 0} {m : ℕ} where
  -- The answer is none or some chain's weight.
  pub answer_found : Answer W R P m → Found W R P m
  answer_found (inl b) = inr (b.chain, b.leads, b.weighs)
  answer_found (inr h) = inl h.0

  -- There is one answer only, and so one best weight only.
  pub answer_unique : {n : ℕ} → Answer W R P m → Answer W R P n → m ≡ n
  answer_unique {n} (inl b) (inl c) = at_most_antisym W
      (subst (λ x. AtMost W x n) b.weighs (c.none_better b.chain b.leads))
      (subst (λ x. AtMost W x m) c.weighs (b.none_better c.chain c.leads))
  answer_unique (inl b) (inr h) = sym b.weighs ∙ h.1 b.chain b.leads ∙ sym h.0
  answer_unique (inr h) (inl c) = h.0 ∙ sym (h.1 c.chain c.leads) ∙ c.weighs
  answer_unique (inr h) (inr g) = h.0 ∙ sym g.0

  -- What answers for the chains of one kind answers for those of another that are the same.
  pub answer_moves : {P' : List ℕ → Type 0} → ((ch : List ℕ) → P ch ↔ P' ch) → Answer W R P m → Answer W R P' m
  answer_moves same (inl b) = inl (record {
    chain = b.chain;
    leads = (same b.chain).0 b.leads;
    weighs = b.weighs;
    none_better = λ ch p. b.none_better ch ((same ch).1 p);
  })
  answer_moves same (inr h) = inr (h.0, λ ch p. h.1 ch ((same ch).1 p))

module _ (Q : Question) (R : Rules) where
  -- Where a chain weighs what its weakest certificate weighs, and each of these something, every run weighs something,
  module _ (weakest : ByWeakest Q.weighing) (weighty : Weighty Q.weighing R) where
    abbrev W : Weighing
    W = Q.weighing

    run_some : (ch : List ℕ) (k : ℕ) (u : List ℕ) (y : Config) → run R ch (record { key = k; word = u }) ≡ some y →
        weighed W R ch ≡ W.none → ⊥
    unfolding weighed
    run_some [] k u y e = weakest.whole_some
    run_some (i ∷ ch) k u y e =
        let o = run_onward R i k u ch y e in
        along_some W weakest (R.weight i) (weighed W R ch) (weighty i o.fires.there o.fires.usable)
        (run_some ch (R.rule i).to ((R.rule i).writes ++ o.rest) y o.goes_on)

    -- so the answer for the chains from the owner decides.
    pub answer_decides : (owner : ℕ) {m : ℕ} → Answer W R (Chain R owner Q.asker) m → Decides Q R owner m
    answer_decides owner answer = ⊎_elim
        (λ b. inr (λ z. chain_some b.chain b.leads (b.weighs ∙ z), b))
        (λ h. inl (h.0, λ ch c. chain_some ch c (h.1 ch c)))
        answer
      where
        chain_some : (ch : List ℕ) → Chain R owner Q.asker ch → weighed W R ch ≡ W.none → ⊥
        chain_some ch = ⊎_elim (λ e. run_some ch _ _ _ e) (λ e. run_some ch _ _ _ e)

  -- One number only decides.
  pub decides_unique : (owner : ℕ) {m n : ℕ} → Decides Q R owner m → Decides Q R owner n → m ≡ n
  decides_unique owner p q = answer_unique (answer p) (answer q)
    where
      answer : {m : ℕ} → Decides Q R owner m → Answer Q.weighing R (Chain R owner Q.asker) m
      answer (inl h) = inr (h.0, λ ch c. absurd (h.1 ch c))
      answer (inr h) = inl h.1
