-- Passes settle: over any table that lent places hold, passes come to one that changes nothing, because the sum of the entries' ranks
-- falls with each that changes something. So there is a number of passes, and only one.
use mathlib.Core.Path.{◌≡◌, refl, sym}
use mathlib.Core.Logic.{◌⊎◌, inl, inr, ⊎_elim}
use Prim.Native.Nat.{ℕ, suc, ◌+◌, ◌*◌, ◌≤◌, ◌<◌}
use native.Mathlib.Omega.{arith}
use Rattle.rewriting.specs.Weighing.{Weighing}
use Rattle.rewriting.specs.Rewriting.{Rules, Question, identifiers, delegate, access}
use Rattle.rewriting.specs.Entries.{Lawful}
use Rattle.rewriting.specs.Passes.{Table, pass, repeated, Still, CountFrom}
use Rattle.rewriting.specs.Tables.{Held}
use Rattle.rewriting.proofs.Order.{rank_below}
use Rattle.rewriting.proofs.Passing.{pass_keeps}
use Rattle.rewriting.proofs.Held.{pass_held, repeated_held}
use Rattle.rewriting.proofs.Numbers.{descends, least}
use Rattle.rewriting.proofs.Counting.{summed, summed_lt, summed_most, compared}

-- The ranks of a table's entries, added up.
abbrev pub ranks : Question → Table → ℕ
ranks Q t = summed Q.keys (λ k s a. Q.weighing.rank (t k s a))

-- Whether a pass changes nothing.
pub decide_still : (Q : Question) (R : Rules) (t : Table) → Dec (Still Q R t)
decide_still Q R t = ⊎_elim
    yes
    (λ d. no (λ still. d.differ (still d.key d.symbol d.place d.entry)))
    (compared Q.keys (pass Q R t) t)

-- The number of passes is unique.
pub count_unique : {Q : Question} {R : Rules} {t : Table} {N M : ℕ} → CountFrom Q R t N → CountFrom Q R t M → N ≡ M
count_unique a b = omega (arith, a.first b.before b.still, b.first a.before a.still)

module _ {Q : Question} {R : Rules} (ok : Lawful Q R) {t : Table} (held : Held Q t) where
  abbrev W : Weighing
  W = Q.weighing

  -- A pass that changes something lowers the ranks.
  pub ranks_fall : Still Q R t ⊎ (ranks Q (pass Q R t) < ranks Q t)
  ranks_fall = ⊎_elim inl (λ d. inr (summed_lt Q.keys _ _
      (λ k s a e. rank_below W _ _ (held.fits k s a) (next.fits k s a) (pass_keeps Q R t k s a)) d.key d.symbol d.place d.entry
      (W.laws.rank_falls _ _ (held.fits _ _ _) (next.fits _ _ _) (pass_keeps Q R t _ _ _) (λ e. d.differ (sym e)))))
      (compared Q.keys (pass Q R t) t)
    where
      next : Held Q (pass Q R t)
      next = pass_held Q t held ok

  -- The ranks are at most the cap for each of the K × (10 × K + 2) entries.
  pub ranks_most : ranks Q t ≤ Q.keys * (identifiers * Q.keys + 2) * W.cap
  ranks_most = omega (
    arith,
    summed_most Q.keys W.cap (W.cap + W.cap) _ (λ k s a e i. rank k s a)
        (λ k h. omega (arith, rank k delegate Q.keys, rank k access Q.keys)),
  )
    where
      rank : (k s a : ℕ) → W.rank (t k s a) ≤ W.cap
      rank k s a = W.laws.rank_fits (t k s a) (held.fits k s a)

module _ {Q : Question} {R : Rules} (ok : Lawful Q R) {t : Table} (held : Held Q t) where
  abbrev StillAfter : ℕ → Type 0
  StillAfter n = Still Q R (repeated Q R t n)

  -- Passes over t come to an end, and their number is at most one more than the ranks.
  pub settles : (N : ℕ) × CountFrom Q R t N × (N ≤ suc (ranks Q t))
  unfolding repeated
  settles =
      let d = descends StillAfter (λ n. ranks Q (repeated Q R t n)) (λ n. ranks_fall ok (repeated_held Q ok t held n)) in
      let m = least StillAfter (λ n. decide_still Q R (repeated Q R t n)) d.0 d.2 in
      (suc m.0, record { before = m.0; one_more = refl; still = m.2; first = m.3 }, omega (arith, d.1, m.1))
