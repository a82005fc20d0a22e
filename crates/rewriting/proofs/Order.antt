-- The order of a weighing: `AtMost W x y` says that y is at least as good as x.
use mathlib.Core.Path.{◌≡◌, sym, ap, ◌∙◌, subst}
use mathlib.Core.Logic.{◌⊎◌, inl, inr, by_cases}
use Prim.Native.Nat.{ℕ, ◌≤◌}
use native.Mathlib.Omega.{arith}
use native.Mathlib.Decide.{ℕ_discrete}
use Rattle.rewriting.specs.Weighing.{Weighing, AtMost, ByWeakest, minutes}

module _ (W : Weighing) where
  -- The better of two is one of them.
  pub best_from : (x y : ℕ) → (W.best x y ≡ x) ⊎ (W.best x y ≡ y)
  best_from x y = by_cases (ℕ_discrete (W.best x y) x) inl (λ n. inr (W.laws.best_picks x y n))

  -- It is an order,
  pub at_most_refl : (x : ℕ) → AtMost W x x
  at_most_refl x = by_cases (ℕ_discrete (W.best x x) x) (λ e. e) (W.laws.best_picks x x)

  pub at_most_trans : {x y z : ℕ} → AtMost W x y → AtMost W y z → AtMost W x z
  at_most_trans {x} {y} {z} p q = ap (W.best x) (sym q) ∙ sym (W.laws.best_assoc x y z) ∙ ap (λ u. W.best u z) p ∙ q

  pub at_most_antisym : {x y : ℕ} → AtMost W x y → AtMost W y x → x ≡ y
  at_most_antisym {x} {y} p q = sym q ∙ W.laws.best_comm y x ∙ p

  -- and the better of two is at least as good as each.
  pub best_left : (x y : ℕ) → AtMost W x (W.best x y)
  best_left x y = sym (W.laws.best_assoc x x y) ∙ ap (λ u. W.best u y) (at_most_refl x)

  pub best_right : (x y : ℕ) → AtMost W y (W.best x y)
  best_right x y = ap (W.best y) (W.laws.best_comm x y) ∙ best_left y x ∙ W.laws.best_comm y x

  -- Nothing is worse than none.
  pub below_none : {x : ℕ} → x ≤ W.cap → AtMost W x W.none → x ≡ W.none
  below_none {x} h p = sym (W.laws.best_none x h) ∙ W.laws.best_comm W.none x ∙ p

  -- What goes on by none is none.
  pub along_lost : {x y : ℕ} → x ≤ W.cap → y ≡ W.none → W.along x y ≡ W.none
  along_lost {x} h e = ap (W.along x) e ∙ W.laws.along_comm x W.none ∙ W.laws.along_none x h

  -- Better parts make a better whole.
  pub along_grows : {x y u v : ℕ} → AtMost W x u → AtMost W y v → AtMost W (W.along x y) (W.along u v)
  along_grows {x} {y} {u} {v} p q = at_most_trans (W.laws.along_best x y v q)
      (rw (W.laws.along_comm x v, W.laws.along_comm u v) (W.laws.along_best v x u p))

  -- The whole is no better than a part.
  pub along_left : (x y : ℕ) → x ≤ W.cap → y ≤ W.cap → AtMost W (W.along x y) x
  along_left x y h k = subst (AtMost W (W.along x y)) (W.laws.along_comm x W.whole ∙ W.laws.along_whole x h)
      (W.laws.along_best x y W.whole (W.laws.best_whole y k))

  pub along_right : (x y : ℕ) → x ≤ W.cap → y ≤ W.cap → AtMost W (W.along x y) y
  along_right x y h k = rw (W.laws.along_comm x y) (along_left y x k h)

  -- Ranks do not rise as weights get better.
  pub rank_below : (x y : ℕ) → x ≤ W.cap → y ≤ W.cap → AtMost W x y → W.rank y ≤ W.rank x
  rank_below x y h k p = by_cases (ℕ_discrete x y) (λ e. rw e (omega arith)) (λ n. omega (arith, W.laws.rank_falls x y h k p n))

  -- By the weakest: twice the same part is that part, and parts that weigh something make a whole that does.
  module _ (weakest : ByWeakest W) where
    pub along_same : (x : ℕ) → W.along x x ≡ x
    along_same x = by_cases (ℕ_discrete (W.along x x) x) (λ e. e) (weakest.along_picks x x)

    pub along_some : (x y : ℕ) → (x ≡ W.none → ⊥) → (y ≡ W.none → ⊥) → W.along x y ≡ W.none → ⊥
    along_some x y h k e = by_cases (ℕ_discrete (W.along x y) x) (λ p. h (sym p ∙ e)) (λ n. k (sym (weakest.along_picks x y n) ∙ e))

-- Minutes are by the weakest.
pub minutes_by_weakest : ByWeakest minutes
unfolding minutes
minutes_by_weakest = omega arith
