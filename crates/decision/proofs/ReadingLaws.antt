-- Laws of a certificate's symbols and of their best reading.
use mathlib.Core.Path.{◌≡◌, refl, sym, ap, ◌∙◌, fun_ext}
use mathlib.Core.Logic.{⊎_elim}
use mathlib.Core.Bool.{cond}
use mathlib.Core.List.{List, [], ◌∷◌}
use Prim.Native.Nat.{ℕ, zero, suc, ◌+◌, ◌<◌, ◌≤◌}
use native.Mathlib.Decide.{ℕ_discrete}
use native.Mathlib.Numerals.{add-one}
use native.Mathlib.Omega.{arith}
use borrow.Author.Tests.{eq-eqb, ne_eqb}
use lib.Dec.{eqb}
use lib.ListN.{length, get_or, take, drop, length-append, length-take, drop_of_length-le, get_or-append}
use lib.Seq.{get_or-take, get_or_at, drop-cons, length-take-le}
use Rattle.wac.specs.Limits.{keys, subject_ids, unused}
use Rattle.wac.specs.declared.cert.Cert.{Cert}
use Rattle.rewriting.specs.Weighing.{Weighing}
use Rattle.rewriting.specs.Rewriting.{Question}
use Rattle.rewriting.specs.Passes.{Table, over, reading}
use Rattle.rewriting.specs.Tables.{Held}
use Rattle.rewriting.proofs.Tests.{by_test}
use Rattle.rewriting.proofs.Order.{best_from}
use Rattle.rewriting.proofs.Passing.{over_from, over_takes}
use Rattle.rewriting.proofs.Words.{arrival_place}
use Rattle.rewriting.proofs.Held.{reading_fits}
use Rattle.decision.specs.Usable.{symbols_of}
use Rattle.decision.specs.Lens.{weighing_of, question_by}
use Rattle.decision.specs.Engine.{held}
use Rattle.decision.specs.declared.lens.Lens.{Lens}
use Rattle.decision.specs.declared.row.Row.{Row}
use Rattle.decision.proofs.Choices.{when_true, when_false}
use Rattle.decision.proofs.TableLaws.{list_held}

-- the three identifier bytes
abbrev ids : Cert → List ℕ
ids c = c.ids.0 ∷ c.ids.1 ∷ c.ids.2 ∷ []

-- a right side has at most four symbols
pub symbols_few : (c : Cert) → length (symbols_of c) ≤ 4
unfolding symbols_of
symbols_few c =
    let mark = by_test (λ (w : List ℕ). length w ≤ 1) (eqb c.mark unused) {x = []} {y = c.mark ∷ []} (λ e. omega arith) (λ e. omega arith) in
    omega (arith, length-append (take c.count (ids c)) (cond (eqb c.mark unused) [] (c.mark ∷ [])), length-take c.count (ids c), mark)

module _ (c : Cert) (few : c.count ≤ subject_ids) where
  -- as many identifiers as the certificate says
  some_ids : length (take c.count (ids c)) ≡ c.count
  some_ids = length-take-le c.count (ids c) few

  pub symbols_unmarked : c.mark ≡ unused → length (symbols_of c) ≡ c.count
  unfolding symbols_of
  symbols_unmarked e =
      length-append (take c.count (ids c)) _ ∙ rw (when_true (eqb c.mark unused) [] (c.mark ∷ []) (eq-eqb _ _ e)) (omega (arith, some_ids))

  pub symbols_marked : (c.mark ≡ unused → ⊥) → length (symbols_of c) ≡ c.count + 1
  unfolding symbols_of
  symbols_marked e =
      length-append (take c.count (ids c)) _ ∙ rw (when_false (eqb c.mark unused) [] (c.mark ∷ []) (ne_eqb _ _ e)) (omega (arith, some_ids))

  -- a symbol below the count is an identifier
  pub symbol_id : (j : ℕ) → j < c.count → get_or (symbols_of c) j 0 ≡ get_or (ids c) j 0
  unfolding symbols_of
  symbol_id j h = get_or-append (take c.count (ids c)) _ 0 j (rw some_ids h) ∙ get_or-take c.count (ids c) j 0 h

  -- the symbol after them is the closing mark
  pub symbol_mark : (j : ℕ) → c.count ≤ j → j < length (symbols_of c) → get_or (symbols_of c) j 0 ≡ c.mark
  unfolding symbols_of
  symbol_mark j h l = turn (ℕ_discrete c.mark unused)
    where
      turn : Dec (c.mark ≡ unused) → get_or (symbols_of c) j 0 ≡ c.mark
      turn (yes e) = absurd (omega (arith, symbols_unmarked e))
      turn (no e) =
          let same : length (take c.count (ids c)) ≡ j = some_ids ∙ omega (arith, symbols_marked e) in
          rw (when_false (eqb c.mark unused) [] (c.mark ∷ []) (ne_eqb _ _ e)) (get_or_at (take c.count (ids c)) c.mark [] 0 j same)

-- the better of two weights that fit fits
pub best_fits : (W : Weighing) (x y : ℕ) → x ≤ W.cap → y ≤ W.cap → W.best x y ≤ W.cap
best_fits W x y h k = ⊎_elim (λ e. rw e h) (λ e. rw e k) (best_from W x y)

-- the best of f 0, f 1, .. f (n - 1), and none of no number
unfoldable pub up_to : Weighing → ℕ → (ℕ → ℕ) → ℕ
up_to W zero f = W.none
up_to W (suc n) f = W.best (up_to W n f) (f n)

module _ (W : Weighing) (f : ℕ → ℕ) (fits : (p : ℕ) → f p ≤ W.cap) where
  pub up_to_fits : (n : ℕ) → up_to W n f ≤ W.cap
  unfolding up_to
  up_to_fits zero = W.laws.none_fits
  up_to_fits (suc n) = best_fits W _ _ (up_to_fits n) (fits n)

  -- the best of the first n + 1 numbers
  pub up_to_over : (n : ℕ) → up_to W (suc n) f ≡ over W n f
  unfolding up_to over
  up_to_over zero = W.laws.best_none (f zero) (fits zero)
  up_to_over (suc n) = ap (λ x. W.best x (f (suc n))) (up_to_over n)

  -- one more number
  pub up_to_more : (n : ℕ) → up_to W (n + 1) f ≡ W.best (up_to W n f) (f n)
  unfolding up_to
  up_to_more n = rw (add-one n)

  -- a number that weighs nothing adds nothing
  pub up_to_same : (n : ℕ) → f n ≡ W.none → up_to W (n + 1) f ≡ up_to W n f
  up_to_same n e = up_to_more n ∙ ap (W.best (up_to W n f)) e ∙ W.laws.best_comm _ _ ∙ W.laws.best_none _ (up_to_fits n)

-- a reading does not depend on the asker
pub reading_asker : (lens : Lens) (a b : ℕ) (t : Table) (k : ℕ) (w : List ℕ) (p : ℕ) → reading (question_by lens a) t k w p ≡ reading (question_by lens b) t k w p
unfolding reading
reading_asker lens a b t k [] p = refl
reading_asker lens a b t k (s ∷ w) p =
    ap (over (weighing_of lens) keys) (fun_ext (λ r. ap ((weighing_of lens).along (t k s r)) (reading_asker lens a b t r w p)))

-- a row's table is one as lent places hold it
pub fine : (r : Row) → Held (question_by r.lens 0) (held r.lens r.table.now)
fine r = list_held r.lens 0 r.table.now r.within

-- what a place gives to the reading of a word from its symbol j on
abbrev pub through : Question → Table → List ℕ → ℕ → ℕ → ℕ → ℕ → ℕ
through Q t w j from to p = Q.weighing.along (t from (get_or w j 0) p) (reading Q t p (drop (j + 1) w) to)

module _ (Q : Question) (t : Table) (held : Held Q t) where
  abbrev W : Weighing
  W = Q.weighing

  -- past the last symbol nothing is read
  pub read_past : (w : List ℕ) (j from to : ℕ) → length w ≤ j → reading Q t from (drop j w) to ≡ cond (eqb from to) W.whole W.none
  unfolding reading
  read_past w j from to h = rw (drop_of_length-le w {i = j} h)

  pub through_fits : (w : List ℕ) (j from to p : ℕ) → through Q t w j from to p ≤ W.cap
  through_fits w j from to p = W.laws.along_fits _ _ (held.fits _ _ _) (reading_fits Q t held _ _ _)

  -- a place that the symbol does not go to gives nothing
  pub through_lost : (w : List ℕ) (j from to p : ℕ) → t from (get_or w j 0) p ≡ W.none → through Q t w j from to p ≡ W.none
  through_lost w j from to p e =
      ap (λ x. W.along x (reading Q t p (drop (j + 1) w) to)) e ∙ W.laws.along_none _ (reading_fits Q t held p (drop (j + 1) w) to)

  -- a symbol goes to any place, and the rest is read from there
  pub read_symbol : (w : List ℕ) (j from to : ℕ) → j < length w → reading Q t from (drop j w) to ≡ over W Q.keys (through Q t w j from to)
  unfolding reading
  read_symbol w j from to h = ap (λ u. reading Q t from u to) (drop-cons w j 0 h ∙ ap (λ k. get_or w j 0 ∷ drop k w) (sym (add-one j)))

  -- the last symbol goes where the reading ends
  pub read_last : (w : List ℕ) (j from to : ℕ) → length w ≡ j + 1 → reading Q t from (drop j w) to ≡ t from (get_or w j 0) to
  read_last w j from to e = read_symbol w j from to (omega arith) ∙ turn (over_from W Q.keys (through Q t w j from to))
    where
      ends : (p : ℕ) → through Q t w j from to p ≡ W.along (t from (get_or w j 0) p) (cond (eqb p to) W.whole W.none)
      ends p = ap (W.along _) (read_past w (j + 1) p to (omega arith))

      here : (p : ℕ) → p ≡ to → through Q t w j from to p ≡ t from (get_or w j 0) to
      here p e = ends p ∙ rw (when_true (eqb p to) W.whole W.none (eq-eqb p to e), e) (W.laws.along_comm _ _ ∙ W.laws.along_whole _ (held.fits _ _ _))

      there : (p : ℕ) → (p ≡ to → ⊥) → through Q t w j from to p ≡ W.none
      there p e = ends p ∙ rw (when_false (eqb p to) W.whole W.none (ne_eqb p to e)) (W.laws.along_comm _ _ ∙ W.laws.along_none _ (held.fits _ _ _))

      lost : over W Q.keys (through Q t w j from to) ≡ W.none → W.none ≡ t from (get_or w j 0) to
      lost z = ⊎_elim
          (λ entry.
          let taken = over_takes W Q.keys (through Q t w j from to) to (arrival_place entry.1) in
          sym (rw (here to refl, z) at taken) ∙ W.laws.best_comm _ _ ∙ W.laws.best_none _ (held.fits _ _ _))
          (λ n. sym n)
          (held.elsewhere from (get_or w j 0) to)

      turn : (p : ℕ) × (p ≤ Q.keys) × (over W Q.keys (through Q t w j from to) ≡ through Q t w j from to p) → over W Q.keys (through Q t w j from to) ≡ t from (get_or w j 0) to
      turn o = found (ℕ_discrete o.0 to)
        where
          found : Dec (o.0 ≡ to) → over W Q.keys (through Q t w j from to) ≡ t from (get_or w j 0) to
          found (yes e) = o.2 ∙ here o.0 e
          found (no e) = let z = o.2 ∙ there o.0 e in z ∙ lost z
