-- Tests as facts: what a computed test says, and a choice by a test.
use mathlib.Core.Path.{◌≡◌, refl}
use mathlib.Core.Bool.{Bool, true, false, cond, ◌&&◌, false≢true}

-- What holds of both sides of a choice holds of the choice.
pub by_test {ℓ} : {A : Type ℓ} (P : A → Type 0) (b : Bool) {x y : A} → (b ≡ true → P x) → (b ≡ false → P y) → P (cond b x y)
by_test P true f g = f refl
by_test P false f g = g refl

pub both_true : {a b : Bool} → (a && b) ≡ true → (a ≡ true) × (b ≡ true)
both_true {a = true} e = (refl, e)
both_true {a = false} e = absurd (false≢true e)
