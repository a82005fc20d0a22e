-- Soundness: what a table of passes says, some chain brings about. Also where the passes have only some of the certificates.
use mathlib.Core.Path.{◌≡◌, refl, sym, ap, ◌∙◌}
use mathlib.Core.Logic.{inl, inr, ⊎_elim}
use mathlib.Core.Bool.{Bool, true, false, ◌&&◌, ◌||◌}
use mathlib.Core.List.{List, [], ◌∷◌, ◌++◌}
use Prim.Native.Nat.{ℕ, zero, suc, ◌≤◌}
use lib.Dec.{eqb}
use borrow.Author.Tests.{eqb-true}
use Rattle.rewriting.specs.Weighing.{Weighing}
use Rattle.rewriting.specs.Rewriting.{Rules, Question, weighed, delegate, access}
use Rattle.rewriting.specs.Entries.{Mark, Lawful, Fires, Brings, Reads, asked, by, stays, goes}
use Rattle.rewriting.specs.Passes.{Table, start, reading, brought, pass, repeated, passes}
use Rattle.rewriting.specs.Tables.{Held, Found, Sound}
use Rattle.rewriting.specs.Together.{Among}
use Rattle.rewriting.proofs.Tests.{by_test, both_true}
use Rattle.rewriting.proofs.Order.{best_from, along_lost}
use Rattle.rewriting.proofs.Trees.{brings_entry}
use Rattle.rewriting.proofs.Copies.{among_itself, copy_fires, copy_brings}
use Rattle.rewriting.proofs.Passing.{over_from, pass_from}

-- The weight of chains.
module _ {Q : Question} {R : Rules} (ok : Lawful Q R) where
  abbrev W : Weighing
  W = Q.weighing

  pub weighed_fits : (ch : List ℕ) → weighed W R ch ≤ W.cap
  unfolding weighed
  weighed_fits [] = W.laws.whole_fits
  weighed_fits (i ∷ ch) = W.laws.along_fits (R.weight i) (weighed W R ch) (ok.weights_fit i) (weighed_fits ch)

  pub weighed_append : (c d : List ℕ) → weighed W R (c ++ d) ≡ W.along (weighed W R c) (weighed W R d)
  unfolding weighed
  weighed_append [] d = sym (W.laws.along_whole (weighed W R d) (weighed_fits d))
  weighed_append (i ∷ c) d =
      ap (W.along (R.weight i)) (weighed_append c d) ∙ sym (W.laws.along_assoc (R.weight i) (weighed W R c) (weighed W R d))

  pub found_fits : {P : List ℕ → Type 0} {x : ℕ} → Found W R P x → x ≤ W.cap
  found_fits (inl e) = rw e W.laws.none_fits
  found_fits (inr h) = rw (← h.2) (weighed_fits h.0)

  -- x along y is found if x and y are and their chains join.
  found_along : {A B C : List ℕ → Type 0} {x y : ℕ} → Found W R A x → Found W R B y → ((c d : List ℕ) → A c → B d → C (c ++ d)) →
      Found W R C (W.along x y)
  found_along {y = y} (inl e) f join = inl (ap (λ z. W.along z y) e ∙ W.laws.along_none y (found_fits f))
  found_along (inr c) (inl e) join = inl (along_lost W (found_fits (inr c)) e)
  found_along (inr c) (inr d) join = inr (
    c.0 ++ d.0,
    join c.0 d.0 c.1 d.1,
    weighed_append c.0 d.0 ∙ ap (λ z. W.along z (weighed W R d.0)) c.2 ∙ ap (W.along _) d.2,
  )

  -- The better of two found weights is found.
  pub found_best : {P : List ℕ → Type 0} {x y : ℕ} → Found W R P x → Found W R P y → Found W R P (W.best x y)
  found_best {x = x} {y = y} f g = ⊎_elim (λ e. rw e f) (λ e. rw e g) (best_from W x y)

  -- A sound table is as lent places hold it.
  pub sound_held : {t : Table} → Sound Q R t → Held Q t
  sound_held h = record {
    fits = λ k s a. found_fits (h k s a);
    elsewhere = λ k s a. ⊎_elim inr (λ c. inl (brings_entry ok c.1)) (h k s a);
  }

  module _ (t : Table) (sound : Sound Q R t) where
    reading_found : (q : ℕ) (w : List ℕ) (a : ℕ) → Found W R (Reads Q R q w a) (reading Q t q w a)
    unfolding reading weighed
    reading_found q [] a = by_test (Found W R (Reads Q R q [] a)) (eqb q a) (λ e. inr ([], rw (eqb-true q a e) stays, refl)) (λ e. inl refl)
    reading_found q (s ∷ w) a =
        let o = over_from W Q.keys (λ p. W.along (t q s p) (reading Q t p w a)) in
        rw o.2 (found_along (sound q s o.0) (reading_found o.0 w a) (λ c d b r. goes b r))

    -- What a certificate brings is found.
    pub brought_found : (k s a i : ℕ) → Fires R i k s → Found W R (Brings Q R k s a) (brought Q R t a i)
    unfolding brought weighed
    brought_found k s a i f = ⊎_elim
        (λ e. inl (along_lost W (ok.weights_fit i) e))
        (λ c. inr (i ∷ c.0, by i f c.1, ap (W.along (R.weight i)) c.2))
        (reading_found (R.rule i).to (R.rule i).writes a)

    -- A pass with some of the certificates keeps a table sound for all of them,
    pub pass_sound : {T : Rules} → Among T R → Sound Q R (pass Q T t)
    pass_sound {T} among k s a = ⊎_elim
        (λ e. rw e (sound k s a))
        (λ o.
        let c = among o.0 o.1.there o.1.usable in
        rw (o.2, ← copy_brings c Q t a) (brought_found k s a c.number (copy_fires c o.1)))
        (pass_from Q T t k s a)

  -- and so do any number of them.
  pub repeated_sound : {T : Rules} → Among T R → (t : Table) → Sound Q R t → (n : ℕ) → Sound Q R (repeated Q T t n)
  unfolding repeated
  repeated_sound among t sound zero = sound
  repeated_sound {T} among t sound (suc n) = pass_sound (repeated Q T t n) (repeated_sound among t sound n) among

  pub start_sound : Sound Q R (start Q)
  unfolding start weighed
  start_sound k s a = by_test (Found W R (Brings Q R k s a)) (eqb k Q.asker && (eqb s delegate || eqb s access) && eqb a Q.keys)
      (λ e.
      let l = both_true e in
      let m = both_true l.0 in
      inr ([], rw (eqb-true k Q.asker m.0, eqb-true a Q.keys l.1) (asked (mark (eqb s delegate) refl m.1)), refl))
      (λ e. inl refl)
    where
      mark : (b : Bool) → eqb s delegate ≡ b → (b || eqb s access) ≡ true → Mark s
      mark true h e = inl (eqb-true s delegate h)
      mark false h e = inr (eqb-true s access e)

  -- The tables of passes are sound.
  pub passes_sound : (n : ℕ) → Sound Q R (passes Q R n)
  passes_sound = repeated_sound (among_itself R) (start Q) start_sound
