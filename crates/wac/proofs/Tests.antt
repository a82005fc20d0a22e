-- Laws of the tests and searches that the definitions use.
use mathlib.Core.Path.{◌≡◌, refl, ap}
use mathlib.Core.Bool.{Bool, true, false, cond, ◌&&◌}
use mathlib.Core.Logic.{⊎_elim}
use Prim.Native.Nat.{ℕ, zero, suc, ◌<◌, ◌≤◌}
use native.Mathlib.Nat.{le_of_suc-le-suc, eq-or-lt_of_le, not-suc-le-zero}
use native.Mathlib.Omega.{arith}
use Rattle.std.proofs.lemmas.Bool.{and_parts}
use Rattle.std.proofs.Math.Bool.{and-false}
use Rattle.wac.specs.Ranges.{all_below}
use Rattle.wac.specs.File.{lowest}

-- a conjunction whose first part holds is its second part
pub and_true : (a b : Bool) → a ≡ true → (a && b) ≡ b
and_true a b e = rw e

-- a test that holds of each number below n
pub all_below_true : (n : ℕ) (p : ℕ → Bool) → ((k : ℕ) → k < n → p k ≡ true) → all_below n p ≡ true
unfolding all_below
all_below_true zero p h = refl
all_below_true (suc n) p h = rw (all_below_true n p (λ k l. h k (omega arith)), h n (omega arith))

-- a test that holds of all numbers below n holds of each
pub all_below_at : (n : ℕ) (p : ℕ → Bool) → all_below n p ≡ true → (k : ℕ) → k < n → p k ≡ true
unfolding all_below
all_below_at zero p e k l = absurd (not-suc-le-zero l)
all_below_at (suc n) p e k l =
    let both = and_parts _ _ e in
    ⊎_elim (λ (same : k ≡ n). rw same both.1) (λ l'. all_below_at n p both.0 k l') (eq-or-lt_of_le (le_of_suc-le-suc l))

-- a test that fails at a number below n
pub all_below_false : (n : ℕ) (p : ℕ → Bool) (k : ℕ) → k < n → p k ≡ false → all_below n p ≡ false
unfolding all_below
all_below_false zero p k l h = absurd (not-suc-le-zero l)
all_below_false (suc n) p k l h =
    ⊎_elim (λ (e : k ≡ n). rw (← e, h) (and-false (all_below k p)))
    (λ l'. rw (all_below_false n p k l' h))
    (eq-or-lt_of_le (le_of_suc-le-suc l))

-- two tests that agree below n
pub all_below_same : (n : ℕ) (p q : ℕ → Bool) → ((k : ℕ) → k < n → p k ≡ q k) → all_below n p ≡ all_below n q
unfolding all_below
all_below_same zero p q h = refl
all_below_same (suc n) p q h = rw (all_below_same n p q (λ k l. h k (omega arith)), h n (omega arith)) refl

-- no number below n passes the test
pub lowest_none : (n : ℕ) (p : ℕ → Bool) → ((k : ℕ) → k < n → p k ≡ false) → lowest n p ≡ n
unfolding lowest
lowest_none zero p h = refl
lowest_none (suc n) p h =
    rw (h zero (omega arith)) (ap suc (lowest_none n (λ k. p (suc k)) (λ k l. h (suc k) (omega arith))))

-- the number i below n passes the test, and none below it does
pub lowest_found : (n : ℕ) (p : ℕ → Bool) (i : ℕ) → i < n → p i ≡ true → ((k : ℕ) → k < i → p k ≡ false) → lowest n p ≡ i
unfolding lowest
lowest_found zero p i l t h = absurd (not-suc-le-zero l)
lowest_found (suc n) p zero l t h = rw t
lowest_found (suc n) p (suc i) l t h =
    rw (h zero (omega arith))
    (ap suc (lowest_found n (λ k. p (suc k)) i (le_of_suc-le-suc l) t (λ k m. h (suc k) (omega arith))))

-- the lowest number that passes is at most n
pub lowest_most : (n : ℕ) (p : ℕ → Bool) → lowest n p ≤ n
unfolding lowest
lowest_most zero p = omega arith
lowest_most (suc n) p = turn (p zero) (lowest_most n (λ k. p (suc k)))
  where
    turn : (b : Bool) {m : ℕ} → m ≤ n → cond b zero (suc m) ≤ suc n
    turn true l = omega arith
    turn false l = omega arith

-- where the lowest number that passes is n or above, none below n passes
pub lowest_passed : (n : ℕ) (p : ℕ → Bool) → n ≤ lowest n p → (k : ℕ) → k < n → p k ≡ false
unfolding lowest
lowest_passed zero p h k l = absurd (not-suc-le-zero l)
lowest_passed (suc n) p h k l = turn (p zero) refl k l h (lowest_passed n (λ i. p (suc i)))
  where
    turn : (b : Bool) → p zero ≡ b → (k : ℕ) → k < suc n → suc n ≤ cond b zero (suc (lowest n (λ i. p (suc i)))) →
        (n ≤ lowest n (λ i. p (suc i)) → (j : ℕ) → j < n → p (suc j) ≡ false) → p k ≡ false
    turn true e k l h later = absurd (not-suc-le-zero h)
    turn false e zero l h later = e
    turn false e (suc k) l h later = later (le_of_suc-le-suc h) k (le_of_suc-le-suc l)
