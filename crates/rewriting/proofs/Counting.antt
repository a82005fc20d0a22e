-- Counting over the entries of K keys: sums over them, and a search for one at which two tables differ.
use mathlib.Core.Path.{◌≡◌, refl}
use mathlib.Core.Logic.Dec
use mathlib.Core.Logic.{◌⊎◌, inl, inr, by_cases}
use Prim.Native.Nat.{ℕ, ◌+◌, ◌*◌, ◌≤◌, ◌<◌}
use native.Mathlib.Omega.{arith}
use native.Mathlib.Decide.{ℕ_discrete}
use Rattle.rewriting.specs.Rewriting.{identifiers, delegate, access}
use Rattle.rewriting.specs.Entries.{Mark, Arrival, Entry}
use Rattle.rewriting.proofs.Numbers.{total, total_le, total_lt, total_most, find}

-- The sum over the entries of K keys: for each key those of its identifiers and those of its two marks.
unfoldable pub summed_at : ℕ → (ℕ → ℕ → ℕ) → ℕ
summed_at K f = total identifiers (λ s. total K (f s)) + (f delegate K + f access K)

unfoldable pub summed : ℕ → (ℕ → ℕ → ℕ → ℕ) → ℕ
summed K f = total K (λ k. summed_at K (f k))

module _ (K : ℕ) where
  module _ (f g : ℕ → ℕ → ℕ) (le : (s a : ℕ) → Arrival K s a → f s a ≤ g s a) where
    marks_le : (f delegate K ≤ g delegate K) × (f access K ≤ g access K)
    marks_le = (le delegate K (inr (inl refl, refl)), le access K (inr (inr refl, refl)))

    names_le : (s : ℕ) → s < identifiers → total K (f s) ≤ total K (g s)
    names_le s h = total_le K (f s) (g s) (λ a l. le s a (inl (h, l)))

    at_le : summed_at K f ≤ summed_at K g
    unfolding summed_at
    at_le = omega (arith, total_le identifiers _ _ names_le, marks_le)

    at_lt : (s a : ℕ) → Arrival K s a → f s a < g s a → summed_at K f < summed_at K g
    unfolding summed_at
    at_lt s a (inl e) h =
        let row = total_lt K (f s) (g s) (λ b l. le s b (inl (e.0, l))) a e.1 h in
        omega (arith, marks_le, total_lt identifiers _ _ names_le s e.0 row)
    at_lt s a (inr (inl m, e)) h =
        let l : f delegate K < g delegate K = rw (m, e) at h in
        omega (arith, marks_le, total_le identifiers _ _ names_le)
    at_lt s a (inr (inr m, e)) h =
        let l : f access K < g access K = rw (m, e) at h in
        omega (arith, marks_le, total_le identifiers _ _ names_le)

  module _ (f g : ℕ → ℕ → ℕ → ℕ) (le : (k s a : ℕ) → Entry K k s a → f k s a ≤ g k s a) where
    each_le : (k : ℕ) → k < K → summed_at K (f k) ≤ summed_at K (g k)
    each_le k h = at_le (f k) (g k) (λ s a e. le k s a (h, e))

    -- One entry less, and the sum is less.
    pub summed_lt : (k s a : ℕ) → Entry K k s a → f k s a < g k s a → summed K f < summed K g
    unfolding summed
    summed_lt k s a e h = total_lt K _ _ each_le k e.0 (at_lt (f k) (g k) (λ s a i. le k s a (e.0, i)) s a e.1 h)

  -- The sum of numbers up to c at identifiers and, for each key, up to d at its marks.
  pub summed_most : (c d : ℕ) (f : ℕ → ℕ → ℕ → ℕ) → ((k s a : ℕ) → Entry K k s a → s < identifiers → f k s a ≤ c) →
      ((k : ℕ) → k < K → f k delegate K + f k access K ≤ d) → summed K f ≤ K * (identifiers * (K * c) + d)
  unfolding summed summed_at
  summed_most c d f names marks = total_most K _ _ (λ k h. omega (
    arith,
    total_most identifiers (K * c) (λ s. total K (f k s)) (λ s i. total_most K c (f k s) (λ a j. names k s a (h, inl (i, j)) i)),
    marks k h,
  ))

  -- An entry at which t and u differ.
  pub record Differ (t u : ℕ → ℕ → ℕ → ℕ) : Type 0 where
    pub key : ℕ
    pub symbol : ℕ
    pub place : ℕ
    pub entry : Entry K key symbol place
    pub differ : t key symbol place ≡ u key symbol place → ⊥

  -- Tables are the same at every entry, or there is one at which they differ.
  module _ (t u : ℕ → ℕ → ℕ → ℕ) where
    apart : (k s a : ℕ) → Dec (t k s a ≡ u k s a → ⊥)
    apart k s a = Dec.not (ℕ_discrete (t k s a) (u k s a))

    equal : (k s a : ℕ) → ((t k s a ≡ u k s a → ⊥) → ⊥) → t k s a ≡ u k s a
    equal k s a n = by_cases (ℕ_discrete (t k s a) (u k s a)) (λ e. e) (λ d. absurd (n d))

    abbrev SameNames : Type 0
    SameNames = (k s a : ℕ) → k < K → s < identifiers → a < K → t k s a ≡ u k s a

    abbrev SameMarks : ℕ → Type 0
    SameMarks m = (k : ℕ) → k < K → t k m K ≡ u k m K

    names_compared : SameNames ⊎ Differ t u
    names_compared = by_cases (find K _ (λ k. find identifiers _ (λ s. find K _ (λ a. apart k s a))))
        (λ r. inr (record {
          key = r.0;
          symbol = r.2.0;
          place = r.2.2.0;
          entry = (r.1, inl (r.2.1, r.2.2.1));
          differ = r.2.2.2;
        }))
        (λ none. inl (λ k s a h i j. equal k s a (λ d. none (k, h, (s, i, (a, j, d))))))

    marks_compared : (m : ℕ) → Mark m → SameMarks m ⊎ Differ t u
    marks_compared m h = by_cases (find K (λ k. t k m K ≡ u k m K → ⊥) (λ k. apart k m K))
        (λ r. inr (record { key = r.0; symbol = m; place = K; entry = (r.1, inr (h, refl)); differ = r.2 }))
        (λ none. inl (λ k l. equal k m K (λ d. none (k, l, d))))

    pub compared : ((k s a : ℕ) → Entry K k s a → t k s a ≡ u k s a) ⊎ Differ t u
    compared = gathered names_compared (marks_compared delegate (inl refl)) (marks_compared access (inr refl))
      where
        each : SameNames → SameMarks delegate → SameMarks access → (k s a : ℕ) → Entry K k s a → t k s a ≡ u k s a
        each names delegates accesses k s a (h, inl e) = names k s a h e.0 e.1
        each names delegates accesses k s a (h, inr (inl m, e)) = rw (m, e) (delegates k h)
        each names delegates accesses k s a (h, inr (inr m, e)) = rw (m, e) (accesses k h)

        gathered : SameNames ⊎ Differ t u → SameMarks delegate ⊎ Differ t u → SameMarks access ⊎ Differ t u →
            ((k s a : ℕ) → Entry K k s a → t k s a ≡ u k s a) ⊎ Differ t u
        gathered (inl names) (inl delegates) (inl accesses) = inl (each names delegates accesses)
        gathered (inr d) delegates accesses = inr d
        gathered (inl names) (inr d) accesses = inr d
        gathered (inl names) (inl delegates) (inr d) = inr d
