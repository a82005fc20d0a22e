-- What a lens weighs by.
use mathlib.Core.Path.{◌≡◌}
use Prim.Native.Nat.{ℕ}
use Rattle.std.specs.Prelude.{max}
use Rattle.rewriting.specs.Weighing.{minutes}
use Rattle.decision.specs.Lens.{weighing_of}
use Rattle.decision.specs.declared.lens.Lens.{Lens}
use Rattle.decision.specs.declared.lens.Lens.TheVariants.{Minutes}

-- of minutes the later is the better
pub later_better : {lens : Lens} {z : ℕ} (x y : ℕ) → lens ≡ Minutes → z ≡ max x y → z ≡ (weighing_of lens).best x y
unfolding minutes
later_better x y is e = rw is e
