-- Steps: the table of steps says, for every entry, the fewest certificates that bring it about; over the certificates that reach the
-- best weight, it says for the owner's mark 10 the fewest certificates of a best chain.
use mathlib.Core.Path.{◌≡◌, refl}
use mathlib.Core.Logic.{◌↔◌, inl, inr, ⊎_elim, by_cases}
use mathlib.Core.List.{List, [], ◌∷◌, ◌++◌}
use mathlib.Core.Option.{some}
use Prim.Native.Nat.{ℕ, ◌≤◌, min}
use native.Mathlib.Omega.{arith}
use native.Mathlib.Decide.{dec_lt}
use borrow.Author.Tests.{eqb-true, eq-eqb}
use lib.ListN.{length}
use Rattle.rewriting.specs.Weighing.{Weighing, AtMost, ByWeakest, steps, uncounted}
use Rattle.rewriting.specs.Rewriting.{Rules, Config, Question, run, Chain, weighed, Answer, Best}
use Rattle.rewriting.specs.Entries.{Lawful, Fires}
use Rattle.rewriting.specs.Steps.{Fewest, Weighs, by_steps, kept}
use Rattle.rewriting.proofs.Tests.{both_true}
use Rattle.rewriting.proofs.Order.{at_most_refl, at_most_trans, at_most_antisym, along_grows, along_left, along_right, along_same}
use Rattle.rewriting.proofs.Runs.{run_onward, run_by}
use Rattle.rewriting.proofs.Sound.{weighed_fits}
use Rattle.rewriting.proofs.Answers.{answer_moves}

-- The certificates kept are lawful for the question by steps.
pub kept_lawful : {Q : Question} {R : Rules} → Lawful Q R → (W : Weighing) (m : ℕ) → Lawful (by_steps Q) (kept W m R)
unfolding kept steps
kept_lawful ok W m = record { certificates = ok.certificates; weights_fit = λ i. omega arith; asker_is_key = ok.asker_is_key }

module _ (W : Weighing) (m : ℕ) (R : Rules) where
  -- The certificates kept are those that weigh at least m.
  pub kept_fires : {i k s : ℕ} → Fires (kept W m R) i k s ↔ (Fires R i k s × AtMost W m (R.weight i))
  unfolding kept
  kept_fires = (
    λ f.
        let both = both_true f.usable in
        (record { there = f.there; usable = both.0; issuer = f.issuer; symbol = f.symbol }, eqb-true _ _ both.1),
    λ h. record { there = h.0.there; usable = rw h.0.usable (eq-eqb _ _ h.1); issuer = h.0.issuer; symbol = h.0.symbol },
  )

  -- A chain's steps are its length, up to 201.
  pub weighed_steps : (ch : List ℕ) → weighed steps (kept W m R) ch ≡ min uncounted (length ch)
  unfolding weighed steps kept
  weighed_steps [] = refl
  weighed_steps (i ∷ ch) = omega (arith, weighed_steps ch)

  -- The answer by steps is the fewest certificates.
  pub answer_fewest : {P : List ℕ → Type 0} {n : ℕ} → Answer steps (kept W m R) P n → Fewest P n
  unfolding steps
  answer_fewest {n = n} (inl b) = record {
    counted = by_cases (dec_lt n uncounted)
        (λ h. inr (h, b.chain, b.leads, omega (arith, b.weighs, weighed_steps b.chain)))
        (λ h. inl (omega (arith, b.weighs, weighed_steps b.chain)));
    none_shorter = λ ch p. omega (arith, b.none_better ch p, weighed_steps ch);
  }
  answer_fewest (inr h) = record { counted = inl h.0; none_shorter = λ ch p. omega (arith, h.0, h.1 ch p, weighed_steps ch) }

-- There is only one such number.
pub fewest_unique : {P : List ℕ → Type 0} {n n' : ℕ} → Fewest P n → Fewest P n' → n ≡ n'
fewest_unique {P} a b = omega (arith, under a b, under b a)
  where
    under : {n n' : ℕ} → Fewest P n → Fewest P n' → n ≤ n'
    under a b = ⊎_elim
        (λ e. ⊎_elim (λ f. omega arith) (λ c. omega (arith, c.0)) a.counted)
        (λ c. omega (arith, c.3, a.none_shorter c.1 c.2))
        b.counted

module _ {Q : Question} {R : Rules} (ok : Lawful Q R) (weakest : ByWeakest Q.weighing) (m : ℕ) (m-fits : m ≤ Q.weighing.cap) where
  abbrev W : Weighing
  W = Q.weighing

  -- So their runs are the runs that weigh at least m,
  run_kept : (ch : List ℕ) (k : ℕ) (u : List ℕ) (y : Config) → (run (kept W m R) ch (record { key = k; word = u }) ≡ some y)
      ↔ ((run R ch (record { key = k; word = u }) ≡ some y) × AtMost W m (weighed W R ch))
  unfolding run weighed kept
  run_kept [] k u y = (λ e. (e, W.laws.best_whole m m-fits), λ h. h.0)
  run_kept (i ∷ ch) k u y = (
    λ e.
        let o = run_onward (kept W m R) i k u ch y e in
        let f = (kept_fires W m R).0 o.fires in
        let r = (run_kept ch (R.rule i).to ((R.rule i).writes ++ o.rest) y).0 o.goes_on in
        (run_by R i ch o.word f.0 r.0, rw (along_same W weakest m) at (along_grows W f.1 r.1)),
    λ h.
        let o = run_onward R i k u ch y h.0 in
        let first = at_most_trans W h.1 (along_left W _ _ (ok.weights_fit i) (weighed_fits ok ch)) in
        let rest = at_most_trans W h.1 (along_right W _ _ (ok.weights_fit i) (weighed_fits ok ch)) in
        let r = (run_kept ch (R.rule i).to ((R.rule i).writes ++ o.rest) y).1 (o.goes_on, rest) in
        run_by (kept W m R) i ch o.word ((kept_fires W m R).1 (o.fires, first)) r,
  )

  -- and their chains the chains that weigh at least m.
  pub kept_chain : (owner asker : ℕ) (ch : List ℕ) → Chain (kept W m R) owner asker ch ↔ (Chain R owner asker ch × AtMost W m (weighed W R ch))
  kept_chain owner asker ch = (
    ⊎_elim (λ e. let r = (run_kept ch _ _ _).0 e in (inl r.0, r.1)) (λ e. let r = (run_kept ch _ _ _).0 e in (inr r.0, r.1)),
    λ h. ⊎_elim (λ e. inl ((run_kept ch _ _ _).1 (e, h.1))) (λ e. inr ((run_kept ch _ _ _).1 (e, h.1))) h.0,
  )

module _ {Q : Question} {R : Rules} (ok : Lawful Q R) (weakest : ByWeakest Q.weighing) (owner : ℕ) {m : ℕ} (best : Best Q R owner m) where
  abbrev reaching : Rules
  reaching = kept Q.weighing m R

  -- Where m is the best weight, these are the best chains,
  pub kept_best : (ch : List ℕ) → Chain reaching owner Q.asker ch ↔ Weighs Q R owner m ch
  kept_best ch =
      let same = kept_chain ok weakest m (rw best.weighs at (weighed_fits ok best.chain)) owner Q.asker ch in (
        λ c. let r = same.0 c in (r.0, at_most_antisym Q.weighing (best.none_better ch r.0) r.1),
        λ h. same.1 (h.0, rw h.1 (at_most_refl Q.weighing m)),
      )

  -- and the answer by steps is the fewest certificates of a best chain.
  pub fewest_best : {n : ℕ} → Answer steps reaching (Chain reaching owner Q.asker) n → Fewest (Weighs Q R owner m) n
  fewest_best answer = answer_fewest Q.weighing m R (answer_moves kept_best answer)
