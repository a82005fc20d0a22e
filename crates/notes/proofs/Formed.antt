-- What a note that a site writes says: an entry of an identifier or of mark 10, and a minute that is not 0.
use mathlib.Core.Logic.{inl, inr}
use Prim.Native.Nat.{ℕ, ◌≤◌, ◌<◌}
use native.Mathlib.Omega.{arith}
use Rattle.rewriting.specs.Weighing.{minutes, endless}
use Rattle.rewriting.specs.Rewriting.{Rules, delegate, access}
use Rattle.rewriting.specs.Entries.{Entry, Arrival, Lawful}
use Rattle.rewriting.specs.Passes.{Table}
use Rattle.rewriting.proofs.Sound.{found_fits}
use Rattle.rewriting.proofs.LastTable.{access_start}
use Rattle.notes.specs.Notes.{by_minutes, Note, raise, receipt}
use Rattle.notes.specs.Line.{In, Party}
use Rattle.notes.proofs.Minutes.{at_most_le}
use Rattle.notes.proofs.Sides.{Named, Honest, Side}

-- An entry over K keys of an identifier or of mark 10, and a minute that is not 0 and not past the end.
pub record Sent (K k s a m : ℕ) : Type 0 where
  pub entry : Entry K k s a
  pub symbol : s ≤ delegate
  pub some : 0 < m
  pub fits : m ≤ endless

-- The note says such an entry and minute.
abbrev pub Formed : ℕ → Note → Type 0
Formed K (raise k s a m) = Sent K k s a m
Formed K (receipt k s a m) = Sent K k s a m

up_to_end : (m : ℕ) → m ≤ minutes.cap → m ≤ endless
unfolding minutes
up_to_end m h = h

module _ {K asker : ℕ} {B : Rules} (ok : Lawful (by_minutes K asker) B) where
  -- No minute of mark 11 is later than at the start.
  named_symbol : {t : Table} {k s a m : ℕ} → Arrival K s a → Named (by_minutes K asker) B t k s a m → s ≤ delegate
  named_symbol (inl e) n = omega arith
  named_symbol (inr (inl e, i)) n = omega arith
  named_symbol {t} {k} {s} {a} {m} (inr (inr e, i)) n =
      let n : Named (by_minutes K asker) B t k access a m = rw e at n in
      absurd (omega (arith, n.later, at_most_le _ _ (access_start ok n.found)))

  pub named_sent : {t : Table} {k s a m : ℕ} → Named (by_minutes K asker) B t k s a m → Sent K k s a m
  named_sent {m = m} n = record {
    entry = n.entry;
    symbol = named_symbol n.entry.1 n;
    some = omega (arith, n.later);
    fits = up_to_end m (found_fits ok n.found);
  }

  honest_formed : (mine theirs : Table) (n : Note) → Honest (by_minutes K asker) B mine theirs n → Formed K n
  honest_formed mine theirs (raise k s a m) h = named_sent h
  honest_formed mine theirs (receipt k s a m) h = named_sent h.0

  -- So does every note that a site wrote.
  pub side_formed : {R : Rules} {p q : Party} → Side (by_minutes K asker) B R p q → (n : Note) → In n p.wrote → Formed K n
  side_formed S n j = honest_formed _ _ n (S.honest n j)
