-- One pass: where its weights come from, that it never worsens an entry, takes the best of what certificates bring, gives more from
-- more, and keeps a table as lent places hold it.
use mathlib.Core.Path.{◌≡◌, refl, sym, ap, ◌∙◌}
use mathlib.Core.Logic.{◌⊎◌, inl, inr, ⊎_elim, by_cases}
use mathlib.Core.Bool.{true, true≢false}
use mathlib.Core.List.{List, [], ◌∷◌}
use Prim.Native.Nat.{ℕ, zero, suc, ◌≤◌, ◌<◌, zero-le}
use native.Mathlib.Omega.{arith}
use native.Mathlib.Decide.{ℕ_discrete}
use borrow.Author.Tests.{eqb-true, eq-eqb}
use Rattle.rewriting.specs.Weighing.{Weighing, AtMost}
use Rattle.rewriting.specs.Rewriting.{Rules, Question}
use Rattle.rewriting.specs.Entries.{Fires}
use Rattle.rewriting.specs.Passes.{Table, over, reading, fires, brought, tried, pass}
use Rattle.rewriting.proofs.Tests.{by_test, both_true}
use Rattle.rewriting.proofs.Order.{best_from, at_most_refl, at_most_trans, best_left, best_right, along_grows}

-- The best of f 0, .. f n is one of them, and is at least as good as each.
module _ (W : Weighing) where
  pub over_from : (n : ℕ) (f : ℕ → ℕ) → (p : ℕ) × (p ≤ n) × (over W n f ≡ f p)
  unfolding over
  over_from zero f = (zero, zero-le, refl)
  over_from (suc n) f =
      let o = over_from n f in
      ⊎_elim (λ e. (o.0, omega arith, e ∙ o.2)) (λ e. (suc n, omega arith, e)) (best_from W (over W n f) (f (suc n)))

  pub over_takes : (n : ℕ) (f : ℕ → ℕ) (p : ℕ) → p ≤ n → AtMost W (f p) (over W n f)
  unfolding over
  over_takes zero f p h = let e : p ≡ 0 = omega arith in rw e (at_most_refl W (f zero))
  over_takes (suc n) f p h = by_cases (ℕ_discrete p (suc n))
      (λ e. rw e (best_right W (over W n f) (f (suc n))))
      (λ e. at_most_trans W (over_takes n f p (omega arith)) (best_left W (over W n f) (f (suc n))))

  pub over_grows : (n : ℕ) (f g : ℕ → ℕ) → ((p : ℕ) → AtMost W (f p) (g p)) → AtMost W (over W n f) (over W n g)
  over_grows n f g h = let o = over_from n f in rw o.2 (at_most_trans W (h o.0) (over_takes n g o.0 o.1))

-- A certificate fires exactly where its test says so.
pub fires_fact : {R : Rules} {i k s : ℕ} → i < R.count → fires R i k s ≡ true → Fires R i k s
unfolding fires
fires_fact {R} {i} {k} {s} h e =
    let l = both_true e in
    let m = both_true l.0 in
    record { there = h; usable = m.0; issuer = eqb-true (R.rule i).from k m.1; symbol = eqb-true (R.rule i).reads s l.1 }

pub fires_test : {R : Rules} {i k s : ℕ} → Fires R i k s → fires R i k s ≡ true
unfolding fires
fires_test {k = k} {s = s} f = rw (f.usable, f.issuer, f.symbol, eq-eqb k k refl, eq-eqb s s refl)

-- x is the old weight, or what some certificate brings.
abbrev pub Came : Question → Rules → Table → ℕ → ℕ → ℕ → ℕ → Type 0
Came Q R t k s a x = (x ≡ t k s a) ⊎ ((i : ℕ) × Fires R i k s × (x ≡ brought Q R t a i))

module _ (Q : Question) (R : Rules) where
  abbrev W : Weighing
  W = Q.weighing

  module _ (t : Table) (k s a : ℕ) where
    tried_from : (n : ℕ) → n ≤ R.count → Came Q R t k s a (tried Q R t k s a n)
    unfolding tried
    tried_from zero h = inl refl
    tried_from (suc n) h = by_test (Came Q R t k s a) (fires R n k s)
        (λ f. ⊎_elim
        (λ e. rw e (tried_from n (omega arith)))
        (λ e. inr (n, fires_fact h f, e))
        (best_from W (tried Q R t k s a n) (brought Q R t a n)))
        (λ f. tried_from n (omega arith))

    tried_keeps : (n : ℕ) → AtMost W (t k s a) (tried Q R t k s a n)
    unfolding tried
    tried_keeps zero = at_most_refl W _
    tried_keeps (suc n) = by_test (AtMost W (t k s a)) (fires R n k s)
        (λ f. at_most_trans W (tried_keeps n) (best_left W _ _))
        (λ f. tried_keeps n)

    tried_takes : (n i : ℕ) → i < n → fires R i k s ≡ true → AtMost W (brought Q R t a i) (tried Q R t k s a n)
    unfolding tried
    tried_takes zero i h f = absurd (omega arith)
    tried_takes (suc n) i h f = by_cases (ℕ_discrete i n)
        (λ e. by_test (AtMost W (brought Q R t a i)) (fires R n k s)
        (λ g. rw e (best_right W _ _))
        (λ g. absurd (true≢false (sym f ∙ ap (λ j. fires R j k s) e ∙ g))))
        (λ e. by_test (AtMost W (brought Q R t a i)) (fires R n k s)
        (λ g. at_most_trans W (tried_takes n i (omega arith) f) (best_left W _ _))
        (λ g. tried_takes n i (omega arith) f))

    -- After a pass an entry has its old weight, or what some certificate brings,
    pub pass_from : Came Q R t k s a (pass Q R t k s a)
    unfolding pass
    pass_from = tried_from R.count (omega arith)

    -- and at least each of these.
    pub pass_keeps : AtMost W (t k s a) (pass Q R t k s a)
    unfolding pass
    pass_keeps = tried_keeps R.count

    pub pass_takes : {i : ℕ} → Fires R i k s → AtMost W (brought Q R t a i) (pass Q R t k s a)
    unfolding pass
    pass_takes {i} f = tried_takes R.count i f.there (fires_test f)

  -- From a better table come better readings and a better pass.
  module _ (t u : Table) (better : (k s a : ℕ) → AtMost W (t k s a) (u k s a)) where
    reading_grows : (q : ℕ) (w : List ℕ) (a : ℕ) → AtMost W (reading Q t q w a) (reading Q u q w a)
    unfolding reading
    reading_grows q [] a = at_most_refl W _
    reading_grows q (s ∷ w) a = over_grows W Q.keys _ _ (λ p. along_grows W (better q s p) (reading_grows p w a))

    pub pass_grows : (k s a : ℕ) → AtMost W (pass Q R t k s a) (pass Q R u k s a)
    unfolding brought
    pass_grows k s a = ⊎_elim
        (λ e. rw e (at_most_trans W (better k s a) (pass_keeps u k s a)))
        (λ o. rw o.2 (at_most_trans W (along_grows W (at_most_refl W _) (reading_grows _ _ a)) (pass_takes u k s a o.1)))
        (pass_from t k s a)
