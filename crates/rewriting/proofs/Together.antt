-- Two files together: each file's certificates are among those of both, what is above a pass of each file is above a pass of both.
use mathlib.Core.Path.{◌≡◌, sym, ◌∙◌, subst}
use mathlib.Core.Logic.{◌⊎◌, inl, inr, ⊎_elim, by_cases}
use mathlib.Core.Bool.{true}
use Prim.Native.Nat.{ℕ, ◌+◌, ◌-◌, ◌<◌, ◌≤◌}
use native.Mathlib.Omega.{arith}
use native.Mathlib.Decide.{dec_lt}
use borrow.Author.Tests.{lt-ltb, le-ltb}
use Rattle.rewriting.specs.Weighing.{Weighing, AtMost}
use Rattle.rewriting.specs.Rewriting.{Rules, Question, Weighty}
use Rattle.rewriting.specs.Entries.{Certificate, Entry, Lawful, Fires}
use Rattle.rewriting.specs.Passes.{Table, brought, pass}
use Rattle.rewriting.specs.Tables.{Below}
use Rattle.rewriting.specs.Together.{Copy, Among, joined, together}
use Rattle.rewriting.proofs.Order.{at_most_trans}
use Rattle.rewriting.proofs.Copies.{copy_fires, copy_brings}
use Rattle.rewriting.proofs.Passing.{pass_from, pass_keeps, pass_takes}

module _ {ℓ} {A : Type ℓ} (n : ℕ) (x y : ℕ → A) where
  joined_first : (i : ℕ) → i < n → joined n x y i ≡ x i
  unfolding joined
  joined_first i h = rw (lt-ltb i n h)

  joined_second : (i : ℕ) → n ≤ i → joined n x y i ≡ y (i - n)
  unfolding joined
  joined_second i h = rw (le-ltb i n h)

-- Certificate number i of R and number j of T are the same.
record Alike (R : Rules) (i : ℕ) (T : Rules) (j : ℕ) : Type 0 where
  rules : R.rule i ≡ T.rule j
  lives : R.live i ≡ T.live j
  weights : R.weight i ≡ T.weight j

alike_flip : {R T : Rules} {i j : ℕ} → Alike R i T j → Alike T j R i
alike_flip e = record { rules = sym e.rules; lives = sym e.lives; weights = sym e.weights }

alike_copy : {R T : Rules} {i j : ℕ} → Alike R i T j → j < T.count → R.live i ≡ true → Copy R T i
alike_copy {j = j} e there usable =
    record { number = j; there = there; usable = sym e.lives ∙ usable; same_rule = sym e.rules; same_weight = sym e.weights }

module _ (R T : Rules) where
  -- A certificate's number among both is its own in the first file, and comes after the first file's count in the second.
  first_alike : (i : ℕ) → i < R.count → Alike (together R T) i R i
  first_alike i h = record {
    rules = joined_first R.count R.rule T.rule i h;
    lives = joined_first R.count R.live T.live i h;
    weights = joined_first R.count R.weight T.weight i h;
  }

  second_alike : (i : ℕ) → R.count ≤ i → Alike (together R T) i T (i - R.count)
  second_alike i h = record {
    rules = joined_second R.count R.rule T.rule i h;
    lives = joined_second R.count R.live T.live i h;
    weights = joined_second R.count R.weight T.weight i h;
  }

  -- Each file's certificates are among those of both,
  pub first_among : Among R (together R T)
  first_among i there = alike_copy (alike_flip (first_alike i there)) (omega arith)

  pub second_among : Among T (together R T)
  second_among i there =
      let back : R.count + i - R.count ≡ i = omega arith in
      alike_copy (alike_flip (subst (Alike (together R T) (R.count + i) T) back (second_alike (R.count + i) (omega arith)))) (omega arith)

  -- and those of both are among those of one file or the other.
  together_from : (i : ℕ) → i < R.count + T.count → (together R T).live i ≡ true → Copy (together R T) R i ⊎ Copy (together R T) T i
  together_from i there usable = by_cases (dec_lt i R.count)
      (λ h. inl (alike_copy (first_alike i h) h usable))
      (λ h. inr (alike_copy (second_alike i (omega arith)) (omega arith) usable))

-- What both files' certificates obey, those of both together obey.
pub together_lawful : {Q : Question} {R T : Rules} → Lawful Q R → Lawful Q T → Lawful Q (together R T)
together_lawful {Q} {R} {T} first second = record {
  certificates = λ i h. by_cases (dec_lt i R.count)
      (λ l. subst (Certificate Q.keys) (sym (first_alike R T i l).rules) (first.certificates i l))
      (λ l.
      let e = second_alike R T i (omega arith) in
      subst (Certificate Q.keys) (sym e.rules) (second.certificates (i - R.count) (omega arith)));
  weights_fit = λ i. by_cases (dec_lt i R.count)
      (λ l. rw (first_alike R T i l).weights (first.weights_fit i))
      (λ l. rw (second_alike R T i (omega arith)).weights (second.weights_fit (i - R.count)));
  asker_is_key = first.asker_is_key;
}

pub together_weighty : (W : Weighing) (R T : Rules) → Weighty W R → Weighty W T → Weighty W (together R T)
together_weighty W R T first second i there usable e = ⊎_elim
    (λ c. first c.number c.there c.usable (c.same_weight ∙ e))
    (λ c. second c.number c.there c.usable (c.same_weight ∙ e))
    (together_from R T i there usable)

module _ (Q : Question) (R T : Rules) where
  abbrev W : Weighing
  W = Q.weighing

  module _ (t u : Table) (first : Below Q (pass Q R t) u) (second : Below Q (pass Q T t) u) where
    by_copy : {B S : Rules} {i k s a : ℕ} → Below Q (pass Q S t) u → Entry Q.keys k s a → Fires B i k s → Copy B S i →
        AtMost W (brought Q B t a i) (u k s a)
    by_copy {S = S} {k = k} {s = s} {a = a} below e f c =
        rw (← copy_brings c Q t a) (at_most_trans W (pass_takes Q S t k s a (copy_fires c f)) (below k s a e))

    -- What is above a pass of each file is above a pass of both together.
    pub pass_together : Below Q (pass Q (together R T) t) u
    pass_together k s a e = ⊎_elim
        (λ h. rw h (at_most_trans W (pass_keeps Q R t k s a) (first k s a e)))
        (λ o. rw o.2 (⊎_elim (by_copy first e o.1) (by_copy second e o.1) (together_from R T o.0 o.1.there o.1.usable)))
        (pass_from Q (together R T) t k s a)
