-- Tables by minutes: at least as good is at least as late.
use Prim.Native.Nat.{ℕ, ◌≤◌}
use native.Mathlib.Omega.{arith}
use Rattle.rewriting.specs.Weighing.{AtMost, minutes}
use Rattle.rewriting.specs.Entries.{Entry}
use Rattle.rewriting.specs.Passes.{Table}
use Rattle.rewriting.specs.Tables.{Below}
use Rattle.notes.specs.Notes.{by_minutes}

-- At every entry over K keys u is at least as late as t.
abbrev pub Under : ℕ → Table → Table → Type 0
Under K t u = (k s a : ℕ) → Entry K k s a → t k s a ≤ u k s a

-- The order of minutes is that of numbers.
pub at_most_le : (x y : ℕ) → AtMost minutes x y → x ≤ y
unfolding minutes
at_most_le x y h = omega arith

pub le_at_most : (x y : ℕ) → x ≤ y → AtMost minutes x y
unfolding minutes
le_at_most x y h = omega arith

module _ {K : ℕ} (asker : ℕ) (t u : Table) where
  pub below_under : Below (by_minutes K asker) t u → Under K t u
  below_under h k s a e = at_most_le _ _ (h k s a e)

  pub under_below : Under K t u → Below (by_minutes K asker) t u
  under_below h k s a e = le_at_most _ _ (h k s a e)
