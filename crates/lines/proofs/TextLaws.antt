-- Laws about text: decimals, numbers as fields, and a piece copied to lent bytes.
use mathlib.Core.Path.{◌≡◌, refl, ap, ◌∙◌}
use mathlib.Core.Logic.{by_cases}
use mathlib.Core.List.{List, [], ◌∷◌, ◌++◌, append_assoc, append-nil}
use Prim.Native.Nat.{ℕ, zero, suc, ◌+◌, ◌*◌, ◌-◌, ◌/◌, ◌^◌, ◌≤◌, ◌<◌}
use native.Mathlib.Nat.{pow-suc, pow-le-pow_right, le_trans}
use native.Mathlib.Decide.{dec_le}
use native.Mathlib.Omega.{arith}
use borrow.Author.Tests.{lt-ltb, le-ltb}
use lib.ListN.{length, take, drop, get_or, length-append, length-drop, length-take, drop_of_length-le}
use lib.Seq.{drop-drop, take_all, take-length}
use borrow.Rule.Slice.PartMut.{mid_of, put_mid}
use Rattle.io.specs.Digits.{last_digits, IsDigitCount}
use Rattle.lines.specs.Text.{places, decimal, fields}

some : (k : ℕ) → 1 ≤ 10 ^ k
some k = pow-le-pow_right {n = 10} (omega arith) {i = 0} {j = k} (omega arith)

-- the fewest digits, of which there is one or more
few_more : {k n : ℕ} → IsDigitCount 10 1 n (suc k) → 0 < k → 10 ^ k ≤ n
few_more {k} {n} few h = let one : suc k - 1 ≡ k = omega arith in rw one at (few.2 (omega arith))

-- without its last digit a number has one fewer,
tenth_few : {n : ℕ} (k : ℕ) → 10 ≤ n → IsDigitCount 10 1 n (suc k) → IsDigitCount 10 1 (n / 10) k
tenth_few zero h few = absurd (omega (arith, few.1))
tenth_few (suc k) h few = (
  omega arith,
  omega (arith, few.1, pow-suc 10 (suc k)),
  λ h. let one : suc k - 1 ≡ k = omega arith in rw one (omega (arith, few_more few (omega arith), pow-suc 10 k)),
)

-- and one below 10 has one.
single_few : {n : ℕ} (k : ℕ) → n < 10 → IsDigitCount 10 1 n (suc k) → 1 ≡ suc k
single_few zero h few = refl
single_few (suc k) h few = absurd (omega (arith, few_more few (omega arith), pow-suc 10 k, some k))

-- of a number below 10^(j + 1) the fewest digits are as many as its places
pub fewest_places : (j k n : ℕ) → n < 10 ^ suc j → IsDigitCount 10 1 n k → places j n ≡ k
unfolding places
fewest_places j zero n low few = absurd (omega (arith, few.0))
fewest_places zero (suc k) n low few = single_few k low few
fewest_places (suc j) (suc k) n low few = by_cases (dec_le 10 n)
    (λ h. rw (le-ltb n 10 h) (ap suc (fewest_places j k (n / 10) (omega (arith, pow-suc 10 (suc j))) (tenth_few k h few))))
    (λ h. rw (lt-ltb n 10 (omega arith)) (single_few k (omega arith) few))

-- a number of 64 bits in its fewest digits is its decimal
pub fewest_decimal : {k n : ℕ} → n < 18446744073709551616 → IsDigitCount 10 1 n k → last_digits 10 k n ≡ decimal n
unfolding decimal
fewest_decimal {k} {n} low few = rw (fewest_places 19 k n (omega (arith)) few)

-- a number below 10^(j + 1) has at most j + 1 places, however many are looked for
pub places_few : (j k n : ℕ) → n < 10 ^ suc j → places k n ≤ suc j
unfolding places
places_few j zero n low = omega arith
places_few zero (suc k) n low = rw (lt-ltb n 10 low) (omega arith)
places_few (suc j) (suc k) n low = by_cases (dec_le 10 n)
    (λ h. rw (le-ltb n 10 h) (omega (arith, places_few j k (n / 10) (omega (arith, pow-suc 10 (suc j))))))
    (λ h. rw (lt-ltb n 10 (omega arith)) (omega arith))

length_digits : (k n : ℕ) → length (last_digits 10 k n) ≡ k
length_digits zero n = refl
length_digits (suc k) n = length-append (last_digits 10 k (n / 10)) _ ∙ omega (arith, length_digits k (n / 10))

-- so its decimal is no longer
pub decimal_few : (j n : ℕ) → n < 10 ^ suc j → length (decimal n) ≤ suc j
unfolding decimal
decimal_few j n low = rw (length_digits (places 19 n) n) (places_few j 19 n low)

-- a copy to the part from a place on is the piece put there
pub put_part : (at : ℕ) (out word part : List ℕ) → at + length word ≤ length out →
    part ≡ take (length word) word ++ drop (length word) (mid_of at (length out - at) out) →
    put_mid at (length out - at) out part ≡ take at out ++ word ++ drop (at + length word) out
put_part at out word part fits copied =
    let all = take_all (length out - at) (drop at out) (omega (arith, length-drop at out)) in
    let none = drop_of_length-le (drop at out) {i = length out - at} (omega (arith, length-drop at out)) in
    rw (none, append-nil, copied, all, take-length, drop-drop, append_assoc)

-- all of these numbers are below m
abbrev pub AllBelow : ℕ → List ℕ → Type 0
AllBelow m [] = Unit {0}
AllBelow m (n ∷ ns) = (n < m) × AllBelow m ns

pub all_below_lem : (m : ℕ) (ns : List ℕ) → ((i : ℕ) → get_or ns i 0 < m) → AllBelow m ns
all_below_lem m [] low = tt
all_below_lem m (n ∷ ns) low = (low 0, all_below_lem m ns (λ i. low (suc i)))

all_taken : (m n : ℕ) (ns : List ℕ) → AllBelow m ns → AllBelow m (take n ns)
all_taken m zero ns low = tt
all_taken m (suc n) [] low = tt
all_taken m (suc n) (k ∷ ns) low = (low.0, all_taken m n ns low.1)

-- numbers below 10^(j + 1) take at most j + 2 bytes each as fields
pub fields_most : (j : ℕ) (ns : List ℕ) → AllBelow (10 ^ suc j) ns → length (fields ns) ≤ (j + 2) * length ns
fields_most j [] low = omega arith
fields_most j (n ∷ ns) low = rw length-append (omega (arith, decimal_few j n low.0, fields_most j ns low.1))

-- bytes as fields take at most 4 bytes each
pub fields_bytes : (n : ℕ) (ns : List ℕ) → ((i : ℕ) → get_or ns i 0 < 256) → length (fields (take n ns)) ≤ 4 * length ns
fields_bytes n ns low =
    le_trans (fields_most 2 (take n ns) (all_taken 1000 n ns (all_below_lem 1000 ns (λ i. omega (arith, low i)))))
    (omega (arith, length-take n ns))

-- a number of 64 bits has at most 20 digits
pub decimal_most : (n : ℕ) → n < 18446744073709551616 → length (decimal n) ≤ 20
decimal_most n low = decimal_few 19 n (omega arith)
