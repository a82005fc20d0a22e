-- Bits as a number: n of them stay below 2^n.
use mathlib.Core.Bool.{Bool, true, false, cond}
use mathlib.Core.List.{List}
use mathlib.Core.Path.{◌≡◌, refl, sym, ap, ◌∙◌, subst}
use Prim.Native.Nat.{ℕ, zero, suc, ◌+◌, ◌*◌, ◌-◌, ◌≤◌, ◌<◌}
use native.Mathlib.Omega.{arith}
use mir.Val.{bool_byte}
use lib.ListN.{get_or}
use Rattle.boundary.specs.Questions.{bits}

-- 2^n
power : ℕ → ℕ
power zero = 1
power (suc n) = 2 * power n

one_le_power : (n : ℕ) → 1 ≤ power n
unfolding power
one_le_power zero = let here : power zero ≡ 1 = refl in omega (arith, here)
one_le_power (suc n) = let here : power (suc n) ≡ 2 * power n = refl in omega (arith, here, one_le_power n)

pub bit_le_one : (b : Bool) → cond b 1 0 ≤ 1
bit_le_one true = omega arith
bit_le_one false = omega arith

-- a yes or no as a number
pub bit_of : (b : Bool) → bool_byte b ≡ cond b 1 0
bit_of true = refl
bit_of false = refl

-- no places
pub bits_none : (places : List Bool) (k : ℕ) → bits places k 0 ≡ 0
unfolding bits
bits_none places k = refl

-- one place more in front
bits_suc : (places : List Bool) (k n : ℕ) → bits places k (suc n) ≡ cond (get_or places k false) 1 0 + 2 * bits places (suc k) n
unfolding bits
bits_suc places k n = refl

pub bits_more : (places : List Bool) (k n : ℕ) → k < n → bits places k (n - k) ≡ cond (get_or places k false) 1 0 + 2 * bits places (k + 1) (n - (k + 1))
bits_more places k n lt =
    ap (bits places k) {x = n - k} {y = suc (n - (k + 1))} (omega arith)
    ∙ bits_suc places k (n - (k + 1))
    ∙ ap (λ j. cond (get_or places k false) 1 0 + 2 * bits places j (n - (k + 1))) {x = suc k} {y = k + 1} (omega arith)

-- at most m places from k on make less than 2^m
bits_below : (places : List Bool) (k n m : ℕ) → n ≤ m → bits places k n < power m
unfolding power
bits_below places k zero m le = omega (arith, bits_none places k, one_le_power m)
bits_below places k (suc n) zero le = absurd (omega arith)
bits_below places k (suc n) (suc m) le =
    let here : power (suc m) ≡ 2 * power m = refl in
    omega (arith, here, bits_suc places k n, bit_le_one (get_or places k false), bits_below places (suc k) n m (omega arith))

-- fifteen places at most
pub bits_half : (places : List Bool) (k n : ℕ) → n ≤ 15 → bits places k n < 32768
unfolding power
bits_half places k n le = bits_below places k n 15 le

-- sixteen places at most
pub bits_whole : (places : List Bool) (k n : ℕ) → n ≤ 16 → bits places k n < 65536
unfolding power
bits_whole places k n le = bits_below places k n 16 le

-- one bit and twice a number are told apart
pub bit_apart : (b b' : Bool) {x x' : ℕ} → cond b 1 0 + 2 * x ≡ cond b' 1 0 + 2 * x' → (b ≡ b') × (x ≡ x')
bit_apart true true e = (refl, omega arith)
bit_apart true false e = absurd (omega arith)
bit_apart false true e = absurd (omega arith)
bit_apart false false e = (refl, omega arith)

-- places with one sum are the same
pub bits_apart : (l l' : List Bool) (k n : ℕ) → bits l k n ≡ bits l' k n → (i : ℕ) → i < n → get_or l (k + i) false ≡ get_or l' (k + i) false
bits_apart l l' k zero e i low = absurd (omega arith)
bits_apart l l' k (suc n) e zero low =
    let first = (bit_apart (get_or l k false) (get_or l' k false) (sym (bits_suc l k n) ∙ e ∙ bits_suc l' k n)).0 in
    subst (λ j. get_or l j false ≡ get_or l' j false) {x = k} {y = k + 0} (omega arith) first
bits_apart l l' k (suc n) e (suc i) low =
    let rest = (bit_apart (get_or l k false) (get_or l' k false) (sym (bits_suc l k n) ∙ e ∙ bits_suc l' k n)).1 in
    subst (λ j. get_or l j false ≡ get_or l' j false) {x = suc k + i} {y = k + suc i} (omega arith) (bits_apart l l' (suc k) n rest i (omega arith))
