-- The table with one entry at least at a minute.
use mathlib.Core.Path.{◌≡◌, refl, fun_ext}
use mathlib.Core.Bool.{◌&&◌}
use Prim.Native.Nat.{ℕ, ◌≤◌, max}
use native.Mathlib.Omega.{arith}
use lib.Dec.{eqb}
use borrow.Author.Tests.{eqb-true, eq-eqb}
use Rattle.rewriting.specs.Entries.{Entry}
use Rattle.rewriting.specs.Passes.{Table}
use Rattle.rewriting.proofs.Tests.{by_test, both_true}
use Rattle.notes.specs.Notes.{put}
use Rattle.notes.proofs.Minutes.{Under}

module _ (t : Table) (k s a m : ℕ) where
  -- What holds of the table and of the entry at the greater minute holds of the table with it.
  pub put_holds : (P : ℕ → ℕ → ℕ → ℕ → Type 0) → ((x y z : ℕ) → P x y z (t x y z)) → P k s a (max (t k s a) m) →
      (x y z : ℕ) → P x y z (put t k s a m x y z)
  unfolding put
  put_holds P old new x y z = by_test (P x y z) (eqb x k && (eqb y s && eqb z a))
      (λ e.
      let l = both_true e in
      let r = both_true l.1 in
      rw (eqb-true x k l.0, eqb-true y s r.0, eqb-true z a r.1) new)
      (λ e. old x y z)

  -- The entry itself,
  pub put_same : put t k s a m k s a ≡ max (t k s a) m
  unfolding put
  put_same = rw (eq-eqb k k refl, eq-eqb s s refl, eq-eqb a a refl)

  -- no entry earlier,
  pub put_grows : (x y z : ℕ) → t x y z ≤ put t k s a m x y z
  put_grows = put_holds (λ x y z n. t x y z ≤ n) (λ x y z. omega arith) (omega arith)

  -- and nothing changed by a minute that the entry holds.
  pub put_held : m ≤ t k s a → put t k s a m ≡ t
  put_held h = fun_ext (λ x. fun_ext (λ y. fun_ext (λ z. put_holds (λ x y z n. n ≡ t x y z) (λ x y z. refl) (omega arith) x y z)))

  -- Where nothing above u is put, the result is not above u.
  pub put_under : {K : ℕ} (u : Table) → Under K t u → m ≤ u k s a → Under K (put t k s a m) u
  put_under {K} u h l = put_holds (λ x y z n. Entry K x y z → n ≤ u x y z) h (λ e. omega (arith, h k s a e))

-- Tables in order stay so.
pub put_order : (t u : Table) (k s a m x y z : ℕ) → t x y z ≤ u x y z → put t k s a m x y z ≤ put u k s a m x y z
put_order t u k s a m = put_holds t k s a m (λ x y z n. t x y z ≤ u x y z → n ≤ put u k s a m x y z)
    (λ x y z h. omega (arith, put_grows u k s a m x y z))
    (λ h. omega (arith, put_same u k s a m))
