-- Sums of numbers, searches below a number, and steps that come to an end because a number falls.
use mathlib.Core.Path.{subst}
use mathlib.Core.Logic.{◌⊎◌, inl, inr, ⊎_elim, by_cases}
use Prim.Native.Nat.{ℕ, zero, suc, ◌+◌, ◌*◌, ◌≤◌, ◌<◌}
use native.Mathlib.Omega.{arith}
use native.Mathlib.Nat.{suc-mul}
use native.Mathlib.Decide.{ℕ_discrete}

-- f 0 + .. + f (n - 1)
unfoldable pub total : ℕ → (ℕ → ℕ) → ℕ
total zero f = 0
total (suc n) f = total n f + f n

-- Sums are ordered as their numbers are.
pub total_le : (n : ℕ) (f g : ℕ → ℕ) → ((i : ℕ) → i < n → f i ≤ g i) → total n f ≤ total n g
unfolding total
total_le zero f g h = omega arith
total_le (suc n) f g h = omega (arith, total_le n f g (λ i l. h i (omega arith)), h n (omega arith))

pub total_lt : (n : ℕ) (f g : ℕ → ℕ) → ((i : ℕ) → i < n → f i ≤ g i) → (j : ℕ) → j < n → f j < g j → total n f < total n g
unfolding total
total_lt zero f g h j l m = absurd (omega arith)
total_lt (suc n) f g h j l m = by_cases (ℕ_discrete j n)
    (λ e. let last : f n < g n = rw e at m in omega (arith, total_le n f g (λ i l. h i (omega arith))))
    (λ e. omega (arith, total_lt n f g (λ i l. h i (omega arith)) j (omega arith) m, h n (omega arith)))

-- A sum of n numbers up to c.
pub total_most : (n c : ℕ) (f : ℕ → ℕ) → ((i : ℕ) → i < n → f i ≤ c) → total n f ≤ n * c
unfolding total
total_most zero c f h = omega arith
total_most (suc n) c f h = omega (arith, total_most n c f (λ i l. h i (omega arith)), h n (omega arith), suc-mul n c)

-- Whether there is a number with P below n.
pub find : (n : ℕ) (P : ℕ → Type 0) → ((i : ℕ) → Dec (P i)) → Dec ((i : ℕ) × (i < n) × P i)
find zero P dec = no (λ r. omega (arith, r.1))
find (suc n) P dec = by_cases (dec n)
    (λ p. yes (n, omega arith, p))
    (λ q. by_cases (find n P dec)
    (λ r. yes (r.0, omega (arith, r.1), r.2))
    (λ none. no (λ r. by_cases (ℕ_discrete r.0 n) (λ e. q (subst P e r.2)) (λ e. none (r.0, omega (arith, r.1), r.2)))))

-- Where a number falls at each step until P holds, P holds after no more steps than that number counts at the start.
module _ (P : ℕ → Type 0) (μ : ℕ → ℕ) (falls : (n : ℕ) → P n ⊎ (μ (suc n) < μ n)) where
  counts_down : (n : ℕ) → ((m : ℕ) × (m < n) × P m) ⊎ (μ n + n ≤ μ 0)
  counts_down zero = inr (omega arith)
  counts_down (suc n) = ⊎_elim
      (λ r. inl (r.0, omega (arith, r.1), r.2))
      (λ h. ⊎_elim (λ p. inl (n, omega arith, p)) (λ l. inr (omega arith)) (falls n))
      (counts_down n)

  pub descends : (n : ℕ) × (n ≤ μ 0) × P n
  descends = ⊎_elim (λ r. (r.0, omega (arith, r.1), r.2)) (λ l. absurd (omega arith)) (counts_down (suc (μ 0)))

-- What holds at n holds a first time.
pub least : (P : ℕ → Type 0) → ((i : ℕ) → Dec (P i)) → (n : ℕ) → P n → (m : ℕ) × (m ≤ n) × P m × ((i : ℕ) → P i → m ≤ i)
least P dec zero p = (0, omega arith, p, λ i q. omega arith)
least P dec (suc n) p = by_cases (dec 0)
    (λ q. (0, omega arith, q, λ i r. omega arith))
    (λ none.
    let r = least (λ i. P (suc i)) (λ i. dec (suc i)) n p in
    (suc r.0, omega (arith, r.1), r.2, λ i q. above r.0 r.3 i q none))
  where
    above : (m : ℕ) → ((i : ℕ) → P (suc i) → m ≤ i) → (i : ℕ) → P i → (P 0 → ⊥) → suc m ≤ i
    above m h zero q none = absurd (none q)
    above m h (suc i) q none = omega (arith, h i q)
