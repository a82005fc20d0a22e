-- Taking a note.
use mathlib.Core.Path.{◌≡◌, refl}
use mathlib.Core.Bool.{Bool, true, false}
use Prim.Native.Nat.{ℕ, ◌≤◌, ◌<◌}
use native.Mathlib.Nat.{le_refl, le_trans}
use native.Mathlib.Omega.{arith}
use lib.Dec.{leb}
use borrow.Author.Tests.{leb-true, leb-false, le-leb}
use Rattle.rewriting.specs.Passes.{Table}
use Rattle.rewriting.proofs.Tests.{both_true}
use Rattle.notes.specs.Notes.{Note, raise, receipt, Ledger, raised, Taken, checked, take}
use Rattle.notes.proofs.Putting.{put_same, put_grows, put_order}

-- The entry holds the note's minute.
abbrev pub Holds : Table → Note → Type 0
Holds t (raise k s a m) = m ≤ t k s a
Holds t (receipt k s a m) = m ≤ t k s a

module _ (k s a m : ℕ) (l : Ledger) where
  checking : (P : Taken → Type 0) (b : Bool) → (b ≡ true → P (checked true k s a m l)) → (b ≡ false → P (checked false k s a m l)) →
      P (checked b k s a m l)
  checking P true f g = f refl
  checking P false f g = g refl

  -- A receipt is taken or is late.
  pub receipt_cases : (P : Taken → Type 0) → (m ≤ l.minute k s a → P (checked true k s a m l)) →
      (l.minute k s a < m → P (checked false k s a m l)) → P (take (receipt k s a m) l)
  unfolding take
  receipt_cases P f g = checking P (leb m (l.minute k s a)) (λ e. f (leb-true _ _ e)) (λ e. g (leb-false _ _ e))

  -- It is taken if the entry holds its minute.
  pub receipt_taken : m ≤ l.minute k s a → take (receipt k s a m) l ≡ checked true k s a m l
  receipt_taken h = receipt_cases (λ r. r ≡ checked true k s a m l) (λ e. refl) (λ e. absurd (omega arith))

-- No minute and no receipted minute is lowered, and no entry comes to wait to be sent.
pub record Moves (l l' : Ledger) : Type 0 where
  pub grows : (x y z : ℕ) → l.minute x y z ≤ l'.minute x y z
  pub receipts : (x y z : ℕ) → l.receipted x y z ≤ l'.receipted x y z
  pub settles : (x y z : ℕ) → l.minute x y z ≤ l.receipted x y z → l'.minute x y z ≤ l'.receipted x y z

-- A site that need not work after a raise held its minute, and need not work before;
pub raise_idle : (k s a m : ℕ) (l : Ledger) → (raised k s a m l).idle ≡ true → (m ≤ l.minute k s a) × (l.idle ≡ true)
raise_idle k s a m l e = let both = both_true {a = leb m (l.minute k s a)} e in (leb-true _ _ both.0, both.1)

-- a note whose minute the entry holds does not wake it,
pub take_quiet : (n : Note) (l : Ledger) → Holds l.minute n → l.idle ≡ true → (take n l).ledger.idle ≡ true
unfolding take
take_quiet (raise k s a m) l h e = rw (le-leb m (l.minute k s a) h, e)
take_quiet (receipt k s a m) l h e = rw (receipt_taken k s a m l h) e

moves_stay : (l : Ledger) → Moves l l
moves_stay l = record { grows = λ x y z. le_refl _; receipts = λ x y z. le_refl _; settles = λ x y z h. h }

-- and every note moves it on.
pub take_moves : (n : Note) (l : Ledger) → Moves l (take n l).ledger
unfolding take
take_moves (raise k s a m) l = record {
  grows = put_grows _ _ _ _ _;
  receipts = put_grows _ _ _ _ _;
  settles = put_order l.minute l.receipted k s a _;
}
take_moves (receipt k s a m) l = receipt_cases k s a m l (λ r. Moves l r.ledger)
    (λ h. record {
      grows = λ x y z. le_refl _;
      receipts = put_grows _ _ _ _ _;
      settles = λ x y z h. le_trans h (put_grows _ _ _ _ _ x y z);
    })
    (λ h. moves_stay l)

-- A receipt for a minute that the entry holds is receipted.
pub receipt_noted : (k s a m : ℕ) (l : Ledger) → m ≤ l.minute k s a → m ≤ (take (receipt k s a m) l).ledger.receipted k s a
receipt_noted k s a m l h = rw (receipt_taken k s a m l h) (simp put_same (omega arith))
