-- Tables as lent places hold them: a pass keeps them so, they are determined by their entries, and once a pass changes nothing, no
-- later one does.
use mathlib.Core.Path.{◌≡◌, refl, sym, ap, ◌∙◌, fun_ext}
use mathlib.Core.Logic.{inl, inr, ⊎_elim, by_cases}
use mathlib.Core.List.{List, [], ◌∷◌}
use Prim.Native.Nat.{ℕ, zero, suc, ◌≤◌, ◌<◌}
use native.Mathlib.Omega.{arith}
use native.Mathlib.Decide.{ℕ_discrete, le_ind}
use lib.Dec.{eqb}
use borrow.Author.Tests.{eqb-true}
use Rattle.rewriting.specs.Weighing.{Weighing}
use Rattle.rewriting.specs.Rewriting.{Rules, Question}
use Rattle.rewriting.specs.Entries.{Entry, Lawful, Fires}
use Rattle.rewriting.specs.Passes.{Table, reading, brought, pass, repeated, Still}
use Rattle.rewriting.specs.Tables.{Same, Below, Held}
use Rattle.rewriting.proofs.Tests.{by_test}
use Rattle.rewriting.proofs.Order.{along_lost}
use Rattle.rewriting.proofs.Words.{Leads, leads_on, leads_entry}
use Rattle.rewriting.proofs.Passing.{over_from, pass_from, pass_grows}

module _ (Q : Question) where
  abbrev W : Weighing
  W = Q.weighing

  abbrev K : ℕ
  K = Q.keys

  module _ (t : Table) (held : Held Q t) where
    pub reading_fits : (q : ℕ) (w : List ℕ) (a : ℕ) → reading Q t q w a ≤ W.cap
    unfolding reading
    reading_fits q [] a = by_test (λ x. x ≤ W.cap) (eqb q a) (λ e. W.laws.whole_fits) (λ e. W.laws.none_fits)
    reading_fits q (s ∷ w) a =
        let o = over_from W K (λ p. W.along (t q s p) (reading Q t p w a)) in
        rw o.2 (W.laws.along_fits _ _ (held.fits q s o.0) (reading_fits o.0 w a))

    -- Reading nothing stays, and a reading that weighs something goes where its word leads.
    reading_stays : {w : List ℕ} → w ≡ [] → (q a : ℕ) → (reading Q t q w a ≡ W.none → ⊥) → q ≡ a
    unfolding reading
    reading_stays empty q a =
        rw empty (by_test (λ x. (x ≡ W.none → ⊥) → q ≡ a) (eqb q a) (λ e some. eqb-true q a e) (λ e some. absurd (some refl)))

    reading_leads : (w : List ℕ) (q a : ℕ) → (reading Q t q w a ≡ W.none → ⊥) → q < K → Leads K w a
    unfolding reading
    reading_leads [] q a some h = (λ n. omega (arith, reading_stays refl q a some), λ c. absurd c)
    reading_leads (s ∷ w) q a some h =
        let o = over_from W K (λ p. W.along (t q s p) (reading Q t p w a)) in
        let first : t q s o.0 ≡ W.none → ⊥ = λ z. some (o.2 ∙ (rw z (W.laws.along_none _ (reading_fits o.0 w a)))) in
        let rest : reading Q t o.0 w a ≡ W.none → ⊥ = λ z. some (o.2 ∙ along_lost W (held.fits q s o.0) z) in
        ⊎_elim
        (λ e. leads_on e.1 (reading_leads w o.0 a rest) (λ empty end. sym (reading_stays empty o.0 a rest) ∙ end))
        (λ z. absurd (first z))
        (held.elsewhere q s o.0)

    -- A pass gives a table as lent places hold it.
    module _ {R : Rules} (ok : Lawful Q R) where
      brought_entry : {k s a i : ℕ} → Fires R i k s → (brought Q R t a i ≡ W.none → ⊥) → Entry K k s a
      unfolding brought
      brought_entry {a = a} {i = i} f some =
          let c = ok.certificates i f.there in
          let reads : reading Q t (R.rule i).to (R.rule i).writes a ≡ W.none → ⊥ = λ z. some (along_lost W (ok.weights_fit i) z) in
          leads_entry f c (reading_leads (R.rule i).writes (R.rule i).to a reads c.subject)

      brought_fits : (a i : ℕ) → brought Q R t a i ≤ W.cap
      unfolding brought
      brought_fits a i = W.laws.along_fits _ _ (ok.weights_fit i) (reading_fits _ _ a)

      pub pass_held : Held Q (pass Q R t)
      pass_held = record {
        fits = λ k s a. ⊎_elim (λ e. rw e (held.fits k s a)) (λ o. rw o.2 (brought_fits a o.0)) (pass_from Q R t k s a);
        elsewhere = λ k s a. ⊎_elim
            (λ e. rw e (held.elsewhere k s a))
            (λ o. by_cases (ℕ_discrete (pass Q R t k s a) W.none) inr (λ some. inl (brought_entry o.1 (λ z. some (o.2 ∙ z)))))
            (pass_from Q R t k s a);
      }

  module _ {t u : Table} (t-held : Held Q t) (u-held : Held Q u) where
    -- Such tables are the same if their entries are,
    pub held_same : Same Q t u → t ≡ u
    held_same same = fun_ext (λ k. fun_ext (λ s. fun_ext (λ a. ⊎_elim
        (same k s a)
        (λ z. ⊎_elim (same k s a) (λ y. z ∙ sym y) (u-held.elsewhere k s a))
        (t-held.elsewhere k s a))))

    -- and a better one gives a better pass.
    pub pass_below : (R : Rules) → Below Q t u → Below Q (pass Q R t) (pass Q R u)
    pass_below R below k s a e = pass_grows Q R t u (λ k s a. ⊎_elim
        (below k s a)
        (λ z. rw z (W.laws.best_none (u k s a) (u-held.fits k s a)))
        (t-held.elsewhere k s a)) k s a

  module _ {R : Rules} (ok : Lawful Q R) (t : Table) (held : Held Q t) where
    -- So do any number of passes.
    pub repeated_held : (n : ℕ) → Held Q (repeated Q R t n)
    unfolding repeated
    repeated_held zero = held
    repeated_held (suc n) = pass_held (repeated Q R t n) (repeated_held n) ok

    -- Once a pass changes nothing, no later one does.
    pub stays_still : (n : ℕ) → Still Q R (repeated Q R t n) → (m : ℕ) → n ≤ m → repeated Q R t m ≡ repeated Q R t n
    unfolding repeated
    stays_still n still m = le_ind (λ m. repeated Q R t m ≡ repeated Q R t n) refl
        (λ m h e. ap (pass Q R) e ∙ held_same (repeated_held (suc n)) (repeated_held n) still) m
