-- Laws of a choice by a test.
use mathlib.Core.Path.{◌≡◌}
use mathlib.Core.Bool.{Bool, true, false, cond}

-- a test that holds chooses the first
pub when_true {ℓ} : {A : Type ℓ} (b : Bool) (x y : A) → b ≡ true → cond b x y ≡ x
when_true b x y e = rw e

-- a test that fails chooses the second
pub when_false {ℓ} : {A : Type ℓ} (b : Bool) (x y : A) → b ≡ false → cond b x y ≡ y
when_false b x y e = rw e
