-- The bound: a table with at least what a pass gives lacks one entry fewer, and fewer than K × (10 × K + 1) lack theirs at first,
-- whatever the weights. It bounds passes, and exchanges between sites.
use mathlib.Core.Path.{◌≡◌, refl, sym, ◌∙◌}
use mathlib.Core.Logic.{inl, inr, ⊎_elim, by_cases}
use mathlib.Core.Bool.{cond}
use Prim.Native.Nat.{ℕ, zero, suc, ◌-◌, ◌≤◌, ◌<◌, min}
use native.Mathlib.Omega.{arith}
use native.Mathlib.Decide.{ℕ_discrete}
use lib.Dec.{eqb}
use borrow.Author.Tests.{eq-eqb, ne_eqb}
use Rattle.rewriting.specs.Weighing.{Weighing}
use Rattle.rewriting.specs.Rewriting.{Rules, Question, delegate, access}
use Rattle.rewriting.specs.Entries.{Entry, Lawful}
use Rattle.rewriting.specs.Passes.{Table, pass, repeated, passes, Settled, PassCount, bound}
use Rattle.rewriting.specs.Tables.{Same, Below, Sound, Started, Last, Climbs}
use Rattle.rewriting.proofs.Tests.{by_test}
use Rattle.rewriting.proofs.Order.{at_most_refl, at_most_trans, at_most_antisym}
use Rattle.rewriting.proofs.Passing.{pass_keeps}
use Rattle.rewriting.proofs.Sound.{sound_held, start_sound, passes_sound}
use Rattle.rewriting.proofs.LastTable.{settled_last, sound_below, asked_same, access_start}
use Rattle.rewriting.proofs.Counting.{summed, summed_lt, summed_most, compared}
use Rattle.rewriting.proofs.Settling.{settles}
use Rattle.rewriting.proofs.Progress.{Gained, gain}

-- 1 where two weights differ, and 0 where they are the same.
lack : ℕ → ℕ → ℕ
lack x y = cond (eqb x y) 0 1

lack_most : (x y : ℕ) → lack x y ≤ 1
unfolding lack
lack_most x y = by_test (λ n. n ≤ 1) (eqb x y) (λ e. omega arith) (λ e. omega arith)

lack_none : {x y : ℕ} → x ≡ y → lack x y ≡ 0
unfolding lack
lack_none {x} {y} e = rw (eq-eqb x y e)

lack_one : {x y : ℕ} → (x ≡ y → ⊥) → lack x y ≡ 1
unfolding lack
lack_one {x} {y} d = rw (ne_eqb x y d)

-- 1 for the symbols that certificates read, and 0 for mark 11.
abbrev readable : ℕ → ℕ
readable s = min 1 (access - s)

-- How many entries of t lack their last weight, that of F.
pub lacking : Question → Table → Table → ℕ
lacking Q F t = summed Q.keys (λ k s a. lack (t k s a) (F k s a))

-- Where none lacks its own, the tables are the same.
pub lacking_none : (Q : Question) (F t : Table) → lacking Q F t ≡ 0 → Same Q t F
unfolding lacking
lacking_none Q F t z = ⊎_elim
    (λ same. same)
    (λ d. absurd (omega (
      arith,
      summed_lt Q.keys (λ k s a. 0) (λ k s a. lack (t k s a) (F k s a)) (λ k s a e. omega arith)
          d.key d.symbol d.place d.entry (omega (arith, lack_one d.differ)),
    )))
    (compared Q.keys t F)

module _ {Q : Question} {R : Rules} (ok : Lawful Q R) {F : Table} (last : Last Q R F) {t : Table} (sound : Sound Q R t) (started : Started Q t) where
  abbrev W : Weighing
  W = Q.weighing

  abbrev K : ℕ
  K = Q.keys

  -- Every entry of mark 11 has its last weight from the start.
  access_final : (k : ℕ) → k < K → t k access K ≡ F k access K
  access_final k h = at_most_antisym W
      (sound_below ok last sound k access K)
      (at_most_trans W (access_start ok (last.sound k access K)) (started k access K (h, inr (inr refl, refl))))

  -- So have the asker's marks: fewer entries lack it than the bound.
  pub lacking_most : lacking Q F t < bound K
  unfolding lacking
  lacking_most = omega (
    arith,
    summed_lt K (λ k s a. lack (t k s a) (F k s a)) (λ k s a. readable s) each Q.asker delegate K (ok.asker_is_key, inr (inl refl, refl))
        (omega (arith, lack_none (asked_same ok last sound started delegate (inl refl)))),
    summed_most K 1 1 (λ k s a. readable s) (λ k s a e i. omega arith) (λ k h. omega arith),
  )
    where
      each : (k s a : ℕ) → Entry K k s a → lack (t k s a) (F k s a) ≤ readable s
      each k s a (h, inl e) = omega (arith, lack_most (t k s a) (F k s a))
      each k s a (h, inr (inl m, e)) = omega (arith, lack_most (t k s a) (F k s a))
      each k s a (h, inr (inr m, e)) = rw (m, e) (omega (arith, lack_none (access_final k h)))

  -- A table that has at least what a pass gives lacks one fewer, while any lacks.
  module _ {u : Table} (u-sound : Sound Q R u) (passed : Below Q (pass Q R t) u) where
    final_stays : (k s a : ℕ) → Entry K k s a → t k s a ≡ F k s a → u k s a ≡ F k s a
    final_stays k s a e h = at_most_antisym W
        (sound_below ok last u-sound k s a)
        (rw h at (at_most_trans W (pass_keeps Q R t k s a) (passed k s a e)))

    lack_falls : (k s a : ℕ) → Entry K k s a → lack (u k s a) (F k s a) ≤ lack (t k s a) (F k s a)
    lack_falls k s a e = by_cases (ℕ_discrete (t k s a) (F k s a))
        (λ h. omega (arith, lack_none (final_stays k s a e h)))
        (λ h. omega (arith, lack_one h, lack_most (u k s a) (F k s a)))

    pub lacking_step : lacking Q F u ≤ lacking Q F t - 1
    unfolding lacking
    lacking_step = ⊎_elim
        (λ same.
        let all : (k s a : ℕ) → Entry K k s a → lack (u k s a) (F k s a) ≤ 0 = λ k s a e. omega (arith, lack_none (final_stays k s a e (same k s a e))) in
        omega (
          arith,
          summed_most K 0 0 (λ k s a. lack (u k s a) (F k s a)) (λ k s a e i. all k s a e)
              (λ k h. omega (arith, all k delegate K (h, inr (inl refl, refl)), all k access K (h, inr (inr refl, refl)))),
        ))
        (λ d. fewer (gain ok last sound u-sound started passed d))
        (compared K t F)
      where
        fewer : Gained Q F t u → lacking Q F u ≤ lacking Q F t - 1
        fewer g =
            let d = g.at in
            omega (
              arith,
              summed_lt K (λ k s a. lack (u k s a) (F k s a)) (λ k s a. lack (t k s a) (F k s a)) lack_falls
                  d.key d.symbol d.place d.entry (omega (arith, lack_none g.now, lack_one d.differ)),
            )

module _ {Q : Question} {R : Rules} (ok : Lawful Q R) {F : Table} (last : Last Q R F) {X : ℕ → Table} (climbs : Climbs Q R X) where
  started : (n : ℕ) → Started Q (X n)
  started zero k s a e = climbs.started k s a e
  started (suc n) k s a e =
      at_most_trans Q.weighing (started n k s a e) (at_most_trans Q.weighing (pass_keeps Q R (X n) k s a) (climbs.passed n k s a e))

  lacking_after : (n : ℕ) → lacking Q F (X n) ≤ lacking Q F (X 0) - n
  lacking_after zero = omega arith
  lacking_after (suc n) = omega (arith, lacking_after n, lacking_step ok last (climbs.sound n) (started n) (climbs.sound (suc n)) (climbs.passed n))

  -- From step K × (10 × K + 1) - 1 on every entry has its last weight.
  pub reached : (n : ℕ) → bound Q.keys ≤ suc n → Same Q (X n) F
  reached n h = lacking_none Q F (X n) (omega (arith, lacking_after n, lacking_most ok last (climbs.sound 0) climbs.started))

module _ {Q : Question} {R : Rules} (ok : Lawful Q R) where
  counted : (N : ℕ) × PassCount Q R N
  counted = let c = settles ok (sound_held ok (start_sound ok)) in (c.0, c.1)

  -- There is a last table: that of the settled passes.
  pub last_exists : (F : Table) × Last Q R F
  last_exists = let c = counted.1 in (passes Q R c.before, settled_last ok c.before c.still)

  -- Passes climb,
  pub passes_climb : Climbs Q R (passes Q R)
  unfolding repeated
  passes_climb = record {
    sound = passes_sound ok;
    started = λ k s a e. at_most_refl Q.weighing _;
    passed = λ n k s a e. at_most_refl Q.weighing _;
  }

  -- so there are at most K × (10 × K + 1) of them.
  pub passes_bounded : {N : ℕ} → PassCount Q R N → N ≤ bound Q.keys
  unfolding repeated
  passes_bounded {N} c = omega (arith, c.first (bound Q.keys - 1) settled, some)
    where
      near : (n : ℕ) → bound Q.keys ≤ suc n → Same Q (passes Q R n) last_exists.0
      near = reached ok last_exists.1 passes_climb

      some : 0 < bound Q.keys
      some = omega (arith, lacking_most ok last_exists.1 (passes_climb.sound 0) passes_climb.started)

      settled : Settled Q R (bound Q.keys - 1)
      settled k s a e = near (suc (bound Q.keys - 1)) (omega arith) k s a e ∙ sym (near (bound Q.keys - 1) (omega arith) k s a e)

  -- There is a number of passes within the bound.
  pub pass_count : (N : ℕ) × PassCount Q R N × (N ≤ bound Q.keys)
  pass_count = (counted.0, counted.1, passes_bounded counted.1)
