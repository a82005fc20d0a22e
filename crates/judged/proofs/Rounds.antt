-- Passes over tables kept as short lists: they are the passes of the definition, and a test tells whether one changes nothing.
use mathlib.Core.Path.{◌≡◌, refl, sym, ap, ◌∙◌, subst, fun_ext}
use mathlib.Core.Logic.{◌⊎◌, inl, inr, ⊎_elim, by_cases}
use mathlib.Core.Bool.{Bool, true, false, cond, ◌&&◌, ◌||◌, not, true≢false}
use mathlib.Core.List.{List, [], ◌∷◌}
use Prim.Native.Nat.{ℕ, zero, suc, ◌≤◌, ◌<◌}
use native.Mathlib.Decide.{ℕ_discrete, dec_lt}
use native.Mathlib.Omega.{arith}
use lib.Dec.{eqb}
use borrow.Author.Tests.{eqb-true, eq-eqb, ne_eqb}
use Rattle.rewriting.specs.Weighing.{Weighing}
use Rattle.rewriting.specs.Rewriting.{Rules, Question, delegate, access}
use Rattle.rewriting.specs.Entries.{Lawful}
use Rattle.rewriting.specs.Passes.{start, fires, brought, tried, pass, repeated, passes, Still, Settled, PassCount}
use Rattle.rewriting.specs.Tables.{Held}
use Rattle.rewriting.proofs.Tests.{by_test, both_true}
use Rattle.rewriting.proofs.Order.{below_none}
use Rattle.rewriting.proofs.Passing.{pass_keeps}
use Rattle.rewriting.proofs.Held.{repeated_held, held_same, stays_still}
use Rattle.rewriting.proofs.Sound.{sound_held, start_sound}
use Rattle.judged.proofs.Lists.{End, Item, only, worth, one, told, scaled, reach, GoodEnd, GoodEnds, Good, best_last, told_fits, worth_scaled, scaled_good, reach_good, reading_same}

-- The list with one entry more, if that is better than what the list has there.
unfoldable pub put : Weighing → Item → List Item → List Item
put W e l =
    let now = told W l e.key e.symbol e.end.place in
    cond (eqb (W.best now e.end.weight) now) l (e ∷ l)

-- The same for each of the ends that the key k reaches by the symbol s.
unfoldable pub add : Weighing → ℕ → ℕ → List End → List Item → List Item
add W k s [] l = l
add W k s (e ∷ es) l = add W k s es (put W (record { key = k; symbol = s; end = e }) l)

-- What certificate number i brings, all ends at once.
unfoldable pub ends : Question → Rules → List Item → ℕ → List End
ends Q R l i = scaled Q.weighing (R.weight i) (reach Q.weighing l (R.rule i).to (R.rule i).writes)

-- The list after the certificates numbered below n were tried.
unfoldable pub raised : Question → Rules → List Item → ℕ → List Item
raised Q R l zero = l
raised Q R l (suc n) =
    let old = raised Q R l n in
    let new = add Q.weighing (R.rule n).from (R.rule n).reads (ends Q R l n) old in
    cond (R.live n) new old

-- The asker's two marks.
unfoldable pub opened : Question → List Item
opened Q =
    let end : End = record { place = Q.keys; weight = Q.weighing.whole } in
    record { key = Q.asker; symbol = delegate; end = end } ∷ record { key = Q.asker; symbol = access; end = end } ∷ []

-- The list after n passes.
unfoldable pub round : Question → Rules → ℕ → List Item
round Q R zero = opened Q
round Q R (suc n) = raised Q R (round Q R n) R.count

-- Two lists say the same at the entries of a third.
unfoldable pub alike : Weighing → List Item → List Item → List Item → Bool
alike W l m [] = true
alike W l m (e ∷ n) =
    let rest = alike W l m n in
    eqb (told W l e.key e.symbol e.end.place) (told W m e.key e.symbol e.end.place) && rest

-- The pass after the first n changes nothing.
unfoldable pub calm : Question → Rules → ℕ → Bool
calm Q R n = let l = round Q R n in let m = raised Q R l R.count in alike Q.weighing l m m

-- N passes, of which the last is the first that changes nothing.
unfoldable pub counts : Question → Rules → ℕ → Bool
counts Q R zero = false
counts Q R (suc zero) = calm Q R zero
counts Q R (suc (suc n)) = calm Q R (suc n) && not (calm Q R n)

eqb_comm : (x y : ℕ) → eqb x y ≡ eqb y x
eqb_comm x y = by_cases (ℕ_discrete x y) (λ e. eq-eqb x y e ∙ sym (eq-eqb y x (sym e))) (λ n. ne_eqb x y n ∙ sym (ne_eqb y x (λ e. n (sym e))))

module _ (W : Weighing) (K : ℕ) where
  -- One entry more, and the better of both stands there.
  put_told : (e : Item) (l : List Item) → Good W K l → (k s a : ℕ) → told W (put W e l) k s a ≡ W.best (told W l k s a) (one W e k s a)
  unfolding put told one only
  put_told e l h k s a = by_test (λ m. told W m k s a ≡ W.best (told W l k s a) (one W e k s a)) (eqb (W.best now e.end.weight) now)
      (λ t. sym (same (eqb-true (W.best now e.end.weight) now t)))
      (λ t. W.laws.best_comm (one W e k s a) (told W l k s a))
    where
      now : ℕ
      now = told W l e.key e.symbol e.end.place

      same : W.best now e.end.weight ≡ now → W.best (told W l k s a) (one W e k s a) ≡ told W l k s a
      same t = by_test (λ x. W.best (told W l k s a) x ≡ told W l k s a) (eqb e.key k && eqb e.symbol s)
          (λ b. by_test (λ x. W.best (told W l k s a) x ≡ told W l k s a) (eqb e.end.place a)
          (λ c.
          let p = both_true b in
          rw (← eqb-true e.key k p.0, ← eqb-true e.symbol s p.1, ← eqb-true e.end.place a c) t)
          (λ c. best_last W (told_fits W K l k s a h)))
          (λ b. best_last W (told_fits W K l k s a h))

  put_good : (e : Item) → GoodEnd W K e.end → (l : List Item) → Good W K l → Good W K (put W e l)
  unfolding put
  put_good e g l h =
      let now = told W l e.key e.symbol e.end.place in
      by_test (Good W K) (eqb (W.best now e.end.weight) now) (λ t. h) (λ t. (g, h))

  add_good : (k s : ℕ) (es : List End) → GoodEnds W K es → (l : List Item) → Good W K l → Good W K (add W k s es l)
  unfolding add
  add_good k s [] g l h = h
  add_good k s (e ∷ es) g l h = add_good k s es g.1 (put W (record { key = k; symbol = s; end = e }) l) (put_good (record { key = k; symbol = s; end = e }) g.0 l h)

  add_told : (k s : ℕ) (es : List End) → GoodEnds W K es → (l : List Item) → Good W K l → (k' s' a : ℕ) →
      told W (add W k s es l) k' s' a ≡ cond (eqb k k' && eqb s s') (W.best (told W l k' s' a) (worth W es a)) (told W l k' s' a)
  unfolding add worth one
  add_told k s [] g l h k' s' a = turn (eqb k k' && eqb s s')
    where
      turn : (b : Bool) → told W l k' s' a ≡ cond b (W.best (told W l k' s' a) W.none) (told W l k' s' a)
      turn true = sym (best_last W (told_fits W K l k' s' a h))
      turn false = refl
  add_told k s (e ∷ es) g l h k' s' a =
      add_told k s es g.1 (put W (record { key = k; symbol = s; end = e }) l) (put_good (record { key = k; symbol = s; end = e }) g.0 l h) k' s' a
      ∙ ap (λ t. cond (eqb k k' && eqb s s') (W.best t (worth W es a)) t) (put_told (record { key = k; symbol = s; end = e }) l h k' s' a)
      ∙ turn (eqb k k' && eqb s s')
    where
      old : ℕ
      old = told W l k' s' a

      turn : (b : Bool) → cond b (W.best (W.best old (cond b (only W e a) W.none)) (worth W es a)) (W.best old (cond b (only W e a) W.none))
          ≡ cond b (W.best old (W.best (only W e a) (worth W es a))) old
      turn true = W.laws.best_assoc old (only W e a) (worth W es a)
      turn false = best_last W (told_fits W K l k' s' a h)

module _ (W : Weighing) where
  -- Two lists that say the same at the entries of a third do so wherever the third says something.
  alike_at : (l m n : List Item) → alike W l m n ≡ true → (k s a : ℕ) → (told W l k s a ≡ told W m k s a) ⊎ (told W n k s a ≡ W.none)
  unfolding alike told one only
  alike_at l m [] e k s a = inr refl
  alike_at l m (i ∷ n) e k s a = let p = both_true e in turn (eqb-true _ _ p.0) (alike_at l m n p.1 k s a)
    where
      turn : told W l i.key i.symbol i.end.place ≡ told W m i.key i.symbol i.end.place → (told W l k s a ≡ told W m k s a) ⊎ (told W n k s a ≡ W.none) →
          (told W l k s a ≡ told W m k s a) ⊎ (W.best (one W i k s a) (told W n k s a) ≡ W.none)
      turn here rest = ⊎_elim inl
          (λ z. by_test (λ x. (told W l k s a ≡ told W m k s a) ⊎ (W.best x (told W n k s a) ≡ W.none)) (eqb i.key k && eqb i.symbol s)
          (λ b. by_test (λ x. (told W l k s a ≡ told W m k s a) ⊎ (W.best x (told W n k s a) ≡ W.none)) (eqb i.end.place a)
          (λ c.
          let q = both_true b in
          inl (rw (← eqb-true i.key k q.0, ← eqb-true i.symbol s q.1, ← eqb-true i.end.place a c) here))
          (λ c. inr (rw z (best_last W W.laws.none_fits))))
          (λ b. inr (rw z (best_last W W.laws.none_fits))))
          rest

  alike_same : (l m n : List Item) → told W l ≡ told W m → alike W l m n ≡ true
  unfolding alike
  alike_same l m [] e = refl
  alike_same l m (i ∷ n) e = rw (eq-eqb (told W l i.key i.symbol i.end.place) (told W m i.key i.symbol i.end.place) (ap (λ t. t i.key i.symbol i.end.place) e)) (alike_same l m n e)

module _ {Q : Question} {R : Rules} (ok : Lawful Q R) where
  abbrev W : Weighing
  W = Q.weighing

  abbrev K : ℕ
  K = Q.keys

  -- One pass.
  module _ (l : List Item) (good : Good W K l) where
    to_key : (i : ℕ) → i < R.count → (R.rule i).to ≤ K
    to_key i h = omega (arith, (ok.certificates i h).subject)

    ends_good : (i : ℕ) → i < R.count → GoodEnds W K (ends Q R l i)
    unfolding ends
    ends_good i h = scaled_good W K (R.weight i) (ok.weights_fit i) _ (reach_good Q l good (R.rule i).to (R.rule i).writes (to_key i h))

    ends_worth : (i a : ℕ) → i < R.count → worth W (ends Q R l i) a ≡ brought Q R (told W l) a i
    unfolding ends brought
    ends_worth i a h = worth_scaled W K (R.weight i) (ok.weights_fit i) _ a
        ∙ ap (W.along (R.weight i)) (sym (reading_same Q l good (R.rule i).to (R.rule i).writes a (to_key i h)))

    raised_good : (n : ℕ) → n ≤ R.count → Good W K (raised Q R l n)
    unfolding raised
    raised_good zero h = good
    raised_good (suc n) h = by_test (Good W K) (R.live n)
        (λ e. add_good W K (R.rule n).from (R.rule n).reads (ends Q R l n) (ends_good n h) (raised Q R l n) (raised_good n (omega arith)))
        (λ e. raised_good n (omega arith))

    raised_told : (n : ℕ) → n ≤ R.count → (k s a : ℕ) → told W (raised Q R l n) k s a ≡ tried Q R (told W l) k s a n
    unfolding raised tried fires
    raised_told zero h k s a = refl
    raised_told (suc n) h k s a = turn (R.live n) (raised_told n (omega arith) k s a)
      where
        old : List Item
        old = raised Q R l n

        turn : (b : Bool) → told W old k s a ≡ tried Q R (told W l) k s a n →
            told W (cond b (add W (R.rule n).from (R.rule n).reads (ends Q R l n) old) old) k s a
            ≡ cond (b && eqb (R.rule n).from k && eqb (R.rule n).reads s) (W.best (tried Q R (told W l) k s a n) (brought Q R (told W l) a n)) (tried Q R (told W l) k s a n)
        turn true e = add_told W K (R.rule n).from (R.rule n).reads (ends Q R l n) (ends_good n h) old (raised_good n (omega arith)) k s a
            ∙ rw (e, ends_worth n a h)
        turn false e = e

  -- Any number of passes.
  opened_good : Good W K (opened Q)
  unfolding opened
  opened_good = ((omega arith, W.laws.whole_fits), ((omega arith, W.laws.whole_fits), tt))

  round_good : (n : ℕ) → Good W K (round Q R n)
  unfolding round
  round_good zero = opened_good
  round_good (suc n) = raised_good (round Q R n) (round_good n) R.count (omega arith)

  opened_told : told W (opened Q) ≡ start Q
  unfolding opened told one only start
  opened_told = fun_ext (λ k. fun_ext (λ s. fun_ext (λ a.
      ap (λ b. marks b (eqb delegate s) (eqb access s) (eqb K a)) (eqb_comm Q.asker k)
      ∙ ap (λ b. marks (eqb k Q.asker) b (eqb access s) (eqb K a)) (eqb_comm delegate s)
      ∙ ap (λ b. marks (eqb k Q.asker) (eqb s delegate) b (eqb K a)) (eqb_comm access s)
      ∙ ap (λ b. marks (eqb k Q.asker) (eqb s delegate) (eqb s access) b) (eqb_comm K a)
      ∙ bits (eqb k Q.asker) (eqb s delegate) (eqb s access) (eqb a K))))
    where
      marks : Bool → Bool → Bool → Bool → ℕ
      marks k d x a = W.best (cond (k && d) (cond a W.whole W.none) W.none) (W.best (cond (k && x) (cond a W.whole W.none) W.none) W.none)

      whole_last : W.best W.whole W.none ≡ W.whole
      whole_last = best_last W W.laws.whole_fits

      none_last : W.best W.none W.none ≡ W.none
      none_last = best_last W W.laws.none_fits

      none_thrice : W.best W.none (W.best W.none W.none) ≡ W.none
      none_thrice = ap (W.best W.none) none_last ∙ none_last

      none_first : W.best W.none W.whole ≡ W.whole
      none_first = W.laws.best_none W.whole W.laws.whole_fits

      whole_both : W.best W.whole W.whole ≡ W.whole
      whole_both = W.laws.best_whole W.whole W.laws.whole_fits

      bits : (k d x a : Bool) → marks k d x a ≡ cond (k && (d || x) && a) W.whole W.none
      bits false d x a = none_thrice
      bits true true true true = ap (W.best W.whole) whole_last ∙ whole_both
      bits true true true false = none_thrice
      bits true true false true = ap (W.best W.whole) none_last ∙ whole_last
      bits true true false false = none_thrice
      bits true false true true = ap (W.best W.none) whole_last ∙ none_first
      bits true false true false = none_thrice
      bits true false false true = none_thrice
      bits true false false false = none_thrice

  pub round_told : (n : ℕ) → told W (round Q R n) ≡ passes Q R n
  unfolding round repeated pass
  round_told zero = opened_told
  round_told (suc n) = fun_ext (λ k. fun_ext (λ s. fun_ext (λ a. raised_told (round Q R n) (round_good n) R.count (omega arith) k s a)))
      ∙ ap (pass Q R) (round_told n)

  start_held : Held Q (start Q)
  start_held = sound_held ok (start_sound ok)

  -- The test says whether a pass changes nothing,
  pub calm_settled : (n : ℕ) → calm Q R n ≡ true → Settled Q R n
  unfolding calm round repeated
  calm_settled n e k s a entry = ⊎_elim (λ h. sym (before ∙ h ∙ after))
      (λ z.
      let now : pass Q R (passes Q R n) k s a ≡ W.none = sym after ∙ z in
      now ∙ sym (below_none W ((repeated_held Q ok (start Q) start_held n).fits k s a) (rw now at (pass_keeps Q R (passes Q R n) k s a))))
      (alike_at W (round Q R n) (round Q R (suc n)) (round Q R (suc n)) e k s a)
    where
      before : passes Q R n k s a ≡ told W (round Q R n) k s a
      before = ap (λ t. t k s a) (sym (round_told n))

      after : told W (round Q R (suc n)) k s a ≡ pass Q R (passes Q R n) k s a
      after = ap (λ t. t k s a) (round_told (suc n))

  settled_calm : (n : ℕ) → Settled Q R n → calm Q R n ≡ true
  unfolding calm round repeated
  settled_calm n h = alike_same W (round Q R n) (round Q R (suc n)) (round Q R (suc n))
      (round_told n ∙ sym (round_told (suc n) ∙ held_same Q (held (suc n)) (held n) h))
    where
      held : (n : ℕ) → Held Q (passes Q R n)
      held = repeated_held Q ok (start Q) start_held

  -- and which number the passes have.
  pub counts_passes : (N : ℕ) → counts Q R N ≡ true → PassCount Q R N
  unfolding counts
  counts_passes zero e = absurd (true≢false (sym e))
  counts_passes (suc zero) e = record { before = zero; one_more = refl; still = calm_settled zero e; first = λ n h. omega arith }
  counts_passes (suc (suc n)) e =
      let b = both_true e in
      record { before = suc n; one_more = refl; still = calm_settled (suc n) b.0; first = λ i h. late i h b.1 }
    where
      late : (i : ℕ) → Settled Q R i → not (calm Q R n) ≡ true → suc n ≤ i
      late i h c = by_cases (dec_lt i (suc n))
          (λ l. absurd (true≢false (sym c ∙ ap not (settled_calm n (subst (Still Q R) (sym (stays_still Q ok (start Q) start_held i h n (omega arith))) h)))))
          (λ l. omega arith)
