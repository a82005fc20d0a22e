-- Writing out a chain from the last table of steps: each entry of at most 200 steps is one of the asker's marks, or has a certificate
-- and then the entries that its subject reads, with one step less between them.
use mathlib.Core.Path.{◌≡◌, refl}
use mathlib.Core.Logic.{◌⊎◌, inl, inr}
use mathlib.Core.List.{List, [], ◌∷◌}
use Prim.Native.Nat.{ℕ, suc, ◌+◌, ◌<◌, ◌≤◌, min}
use native.Mathlib.Omega.{arith}
use lib.Dec.{eqb}
use borrow.Author.Tests.{eqb-true}
use Rattle.rewriting.specs.Weighing.{Weighing, steps, uncounted}
use Rattle.rewriting.specs.Rewriting.{Rules, Question}
use Rattle.rewriting.specs.Entries.{Mark, Lawful, Fires}
use Rattle.rewriting.specs.Passes.{Table, reading, brought}
use Rattle.rewriting.specs.Tables.{Last, Origin, own, brings}
use Rattle.rewriting.specs.Steps.{by_steps, kept}
use Rattle.rewriting.proofs.Tests.{by_test}
use Rattle.rewriting.proofs.Passing.{over_from}
use Rattle.rewriting.proofs.LastTable.{origin}
use Rattle.rewriting.proofs.Steps.{kept_lawful}

module _ {Q : Question} {R : Rules} (ok : Lawful Q R) (W : Weighing) (m : ℕ) {t : Table} (last : Last (by_steps Q) (kept W m R) t) where
  -- An entry of at most 200 steps: the asker's own mark; or some certificate with what its subject reads, which is one step less.
  pub steps_entry : (k s a : ℕ) → t k s a < uncounted →
      ((k ≡ Q.asker) × Mark s × (a ≡ Q.keys))
      ⊎ ((i : ℕ) × Fires (kept W m R) i k s × (t k s a ≡ suc (reading (by_steps Q) t (R.rule i).to (R.rule i).writes a)))
  unfolding steps brought kept
  steps_entry k s a h = turn (origin (kept_lawful ok W m) last k s a (λ e. omega arith))
    where
      turn : Origin (by_steps Q) (kept W m R) t k s a → ((k ≡ Q.asker) × Mark s × (a ≡ Q.keys))
          ⊎ ((i : ℕ) × Fires (kept W m R) i k s × (t k s a ≡ suc (reading (by_steps Q) t (R.rule i).to (R.rule i).writes a)))
      turn (own e m p) = inl (e, m, p)
      turn (brings i f e) = inr (i, f, omega arith)

-- A reading of at most 200 steps: nothing is read by staying; and a symbol goes to some place, from which the rest is read.
module _ (Q : Question) (t : Table) where
  pub steps_nothing : (q a : ℕ) → reading (by_steps Q) t q [] a < uncounted → (q ≡ a) × (reading (by_steps Q) t q [] a ≡ 0)
  unfolding steps reading
  steps_nothing q a =
      by_test (λ x. x < uncounted → (q ≡ a) × (x ≡ 0)) (eqb q a) (λ e h. (eqb-true q a e, refl)) (λ e h. absurd (omega arith))

  pub steps_symbol : (q s : ℕ) (w : List ℕ) (a : ℕ) → reading (by_steps Q) t q (s ∷ w) a < uncounted →
      (p : ℕ) × (p ≤ Q.keys) × (reading (by_steps Q) t q (s ∷ w) a ≡ t q s p + reading (by_steps Q) t p w a)
  unfolding steps reading
  steps_symbol q s w a h =
      let o = over_from steps Q.keys (λ p. min uncounted (t q s p + reading (by_steps Q) t p w a)) in
      (o.0, o.1, omega (arith, o.2))
