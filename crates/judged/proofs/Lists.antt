-- Tables as short lists of the entries that weigh something, and readings through them. Over any weighing and any number of keys.
use mathlib.Core.Path.{◌≡◌, refl, sym, ap, ◌∙◌, fun_ext}
use mathlib.Core.Logic.{⊎_elim, by_cases}
use mathlib.Core.Bool.{Bool, true, false, cond, ◌&&◌}
use mathlib.Core.List.{List, [], ◌∷◌, ◌++◌}
use Prim.Native.Nat.{ℕ, zero, suc, ◌≤◌}
use native.Mathlib.Decide.{ℕ_discrete}
use lib.Dec.{eqb}
use borrow.Author.Tests.{eq-eqb, ne_eqb}
use Rattle.rewriting.specs.Weighing.{Weighing}
use Rattle.rewriting.specs.Rewriting.{Question}
use Rattle.rewriting.specs.Passes.{Table, over, reading}
use Rattle.rewriting.proofs.Order.{best_from, below_none, along_lost}
use Rattle.rewriting.proofs.Passing.{over_from, over_takes}

-- A place, and the weight with which it is reached.
pub record End : Type 0 where
  pub place : ℕ
  pub weight : ℕ

-- An entry and its weight.
pub record Item : Type 0 where
  pub key : ℕ
  pub symbol : ℕ
  pub end : End

-- The weight at the end's place, and none elsewhere.
unfoldable pub only : Weighing → End → ℕ → ℕ
only W e a = cond (eqb e.place a) e.weight W.none

-- The best weight of the ends at a place.
unfoldable pub worth : Weighing → List End → ℕ → ℕ
worth W [] a = W.none
worth W (e ∷ l) a = W.best (only W e a) (worth W l a)

-- The table of one entry.
unfoldable pub one : Weighing → Item → Table
one W e k s a = cond (eqb e.key k && eqb e.symbol s) (only W e.end a) W.none

-- The table of a list: the best of its entries.
unfoldable pub told : Weighing → List Item → Table
told W [] k s a = W.none
told W (e ∷ l) k s a = W.best (one W e k s a) (told W l k s a)

-- The ends, with x along before them.
unfoldable pub scaled : Weighing → ℕ → List End → List End
scaled W x [] = []
scaled W x (e ∷ l) = record { place = e.place; weight = W.along x e.weight } ∷ scaled W x l

-- From the key q by the symbol s through the entries of the list, and on by y.
unfoldable pub spread : Weighing → (ℕ → List End) → List Item → ℕ → ℕ → List End
spread W y [] q s = []
spread W y (e ∷ l) q s =
    let rest = spread W y l q s in
    let more = scaled W e.end.weight (y e.end.place) ++ rest in
    cond (eqb e.key q && eqb e.symbol s) more rest

-- Where reading a list of symbols leads.
unfoldable pub reach : Weighing → List Item → ℕ → List ℕ → List End
reach W l q [] = record { place = q; weight = W.whole } ∷ []
reach W l q (s ∷ w) = spread W (λ p. reach W l p w) l q s

-- Places up to K, and weights that fit.
abbrev pub GoodEnd : Weighing → ℕ → End → Type 0
GoodEnd W K e = (e.place ≤ K) × (e.weight ≤ W.cap)

abbrev pub GoodEnds : Weighing → ℕ → List End → Type 0
GoodEnds W K [] = Unit {0}
GoodEnds W K (e ∷ l) = GoodEnd W K e × GoodEnds W K l

abbrev pub Good : Weighing → ℕ → List Item → Type 0
Good W K [] = Unit {0}
Good W K (e ∷ l) = GoodEnd W K e.end × Good W K l

module _ (W : Weighing) where
  -- What best and along do together.
  along_both : (x y z : ℕ) → W.along x (W.best y z) ≡ W.best (W.along x y) (W.along x z)
  along_both x y z = ⊎_elim
      (λ e. ap (W.along x) e ∙ sym (W.laws.best_comm (W.along x y) (W.along x z) ∙ W.laws.along_best x z y (W.laws.best_comm z y ∙ e)))
      (λ e. ap (W.along x) e ∙ sym (W.laws.along_best x y z e))
      (best_from W y z)

  both_along : (x y z : ℕ) → W.along (W.best x y) z ≡ W.best (W.along x z) (W.along y z)
  both_along x y z = W.laws.along_comm (W.best x y) z ∙ along_both z x y
      ∙ ap (λ v. W.best v (W.along z y)) (W.laws.along_comm z x) ∙ ap (W.best (W.along x z)) (W.laws.along_comm z y)

  best_fits : {x y : ℕ} → x ≤ W.cap → y ≤ W.cap → W.best x y ≤ W.cap
  best_fits {x} {y} h k = ⊎_elim (λ e. rw e h) (λ e. rw e k) (best_from W x y)

  pub best_last : {x : ℕ} → x ≤ W.cap → W.best x W.none ≡ x
  best_last {x} h = W.laws.best_comm x W.none ∙ W.laws.best_none x h

  best_four : (a b c d : ℕ) → W.best (W.best a b) (W.best c d) ≡ W.best (W.best a c) (W.best b d)
  best_four a b c d = W.laws.best_assoc a b (W.best c d)
      ∙ ap (W.best a) (sym (W.laws.best_assoc b c d) ∙ ap (λ x. W.best x d) (W.laws.best_comm b c) ∙ W.laws.best_assoc c b d)
      ∙ sym (W.laws.best_assoc a c (W.best b d))

  over_both : (n : ℕ) (f g : ℕ → ℕ) → over W n (λ p. W.best (f p) (g p)) ≡ W.best (over W n f) (over W n g)
  unfolding over
  over_both zero f g = refl
  over_both (suc n) f g = ap (λ v. W.best v (W.best (f (suc n)) (g (suc n)))) (over_both n f g)
      ∙ best_four (over W n f) (over W n g) (f (suc n)) (g (suc n))

  -- An end's weight stands at its place.
  only_at : (e : End) → only W e e.place ≡ e.weight
  unfolding only
  only_at e = ap (λ b. cond b e.weight W.none) (eq-eqb e.place e.place refl)

  only_off : (e : End) (a : ℕ) → (e.place ≡ a → ⊥) → only W e a ≡ W.none
  unfolding only
  only_off e a h = ap (λ b. cond b e.weight W.none) (ne_eqb e.place a h)

  only_fits : (e : End) (a : ℕ) → e.weight ≤ W.cap → only W e a ≤ W.cap
  unfolding only
  only_fits e a h = turn (eqb e.place a)
    where
      turn : (b : Bool) → cond b e.weight W.none ≤ W.cap
      turn true = h
      turn false = W.laws.none_fits

  only_scaled : (x : ℕ) → x ≤ W.cap → (e : End) (a : ℕ) → only W (record { place = e.place; weight = W.along x e.weight }) a ≡ W.along x (only W e a)
  unfolding only
  only_scaled x h e a = turn (eqb e.place a)
    where
      turn : (b : Bool) → cond b (W.along x e.weight) W.none ≡ W.along x (cond b e.weight W.none)
      turn true = refl
      turn false = sym (along_lost W h refl)

  module _ (K : ℕ) where
    worth_fits : (l : List End) (a : ℕ) → GoodEnds W K l → worth W l a ≤ W.cap
    unfolding worth
    worth_fits [] a g = W.laws.none_fits
    worth_fits (e ∷ l) a g = best_fits (only_fits e a g.0.1) (worth_fits l a g.1)

    one_fits : (e : Item) (k s a : ℕ) → e.end.weight ≤ W.cap → one W e k s a ≤ W.cap
    unfolding one
    one_fits e k s a h = turn (eqb e.key k && eqb e.symbol s)
      where
        turn : (b : Bool) → cond b (only W e.end a) W.none ≤ W.cap
        turn true = only_fits e.end a h
        turn false = W.laws.none_fits

    pub told_fits : (l : List Item) (k s a : ℕ) → Good W K l → told W l k s a ≤ W.cap
    unfolding told
    told_fits [] k s a g = W.laws.none_fits
    told_fits (e ∷ l) k s a g = best_fits (one_fits e k s a g.0.1) (told_fits l k s a g.1)

    worth_append : (l m : List End) (a : ℕ) → GoodEnds W K m → worth W (l ++ m) a ≡ W.best (worth W l a) (worth W m a)
    unfolding worth
    worth_append [] m a g = sym (W.laws.best_none (worth W m a) (worth_fits m a g))
    worth_append (e ∷ l) m a g = ap (W.best (only W e a)) (worth_append l m a g) ∙ sym (W.laws.best_assoc (only W e a) (worth W l a) (worth W m a))

    pub worth_scaled : (x : ℕ) → x ≤ W.cap → (l : List End) (a : ℕ) → worth W (scaled W x l) a ≡ W.along x (worth W l a)
    unfolding worth scaled
    worth_scaled x h [] a = sym (along_lost W h refl)
    worth_scaled x h (e ∷ l) a = ap (λ v. W.best v (worth W (scaled W x l) a)) (only_scaled x h e a)
        ∙ ap (W.best (W.along x (only W e a))) (worth_scaled x h l a)
        ∙ sym (along_both x (only W e a) (worth W l a))

    append_good : (l m : List End) → GoodEnds W K l → GoodEnds W K m → GoodEnds W K (l ++ m)
    append_good [] m g h = h
    append_good (e ∷ l) m g h = (g.0, append_good l m g.1 h)

    pub scaled_good : (x : ℕ) → x ≤ W.cap → (l : List End) → GoodEnds W K l → GoodEnds W K (scaled W x l)
    unfolding scaled
    scaled_good x h [] g = tt
    scaled_good x h (e ∷ l) g = ((g.0.0, W.laws.along_fits x e.weight h g.0.1), scaled_good x h l g.1)

    -- Through one place.
    module _ (y : ℕ → ℕ) (y-fits : (p : ℕ) → p ≤ K → y p ≤ W.cap) where
      over_none : over W K (λ p. W.along W.none (y p)) ≡ W.none
      over_none =
          let o = over_from W K (λ p. W.along W.none (y p)) in
          o.2 ∙ W.laws.along_none (y o.0) (y-fits o.0 o.1)

      over_only : (e : End) → GoodEnd W K e → over W K (λ p. W.along (only W e p) (y p)) ≡ W.along e.weight (y e.place)
      over_only e g =
          let o = over_from W K f in
          by_cases (ℕ_discrete e.place o.0)
          (λ h. o.2 ∙ sym (ap f h) ∙ here)
          (λ h. let z = o.2 ∙ ap (λ v. W.along v (y o.0)) (only_off e o.0 h) ∙ W.laws.along_none (y o.0) (y-fits o.0 o.1) in z ∙ sym (lost z))
        where
          f : ℕ → ℕ
          f p = W.along (only W e p) (y p)

          here : f e.place ≡ W.along e.weight (y e.place)
          here = ap (λ v. W.along v (y e.place)) (only_at e)

          lost : over W K f ≡ W.none → W.along e.weight (y e.place) ≡ W.none
          lost z = below_none W (W.laws.along_fits e.weight (y e.place) g.1 (y-fits e.place g.0))
              (rw (here, z) at (over_takes W K f e.place g.0))

      -- Reading one symbol through the entries of a list.
      module _ (Y : ℕ → List End) (Y-good : (p : ℕ) → p ≤ K → GoodEnds W K (Y p)) where
        spread_good : (l : List Item) (q s : ℕ) → Good W K l → GoodEnds W K (spread W Y l q s)
        unfolding spread
        spread_good [] q s g = tt
        spread_good (e ∷ l) q s g = turn (eqb e.key q && eqb e.symbol s) (spread_good l q s g.1)
          where
            turn : (b : Bool) → GoodEnds W K (spread W Y l q s) → GoodEnds W K (cond b (scaled W e.end.weight (Y e.end.place) ++ spread W Y l q s) (spread W Y l q s))
            turn true h = append_good (scaled W e.end.weight (Y e.end.place)) (spread W Y l q s)
                (scaled_good e.end.weight g.0.1 (Y e.end.place) (Y-good e.end.place g.0.0)) h
            turn false h = h

        spread_reads : (a : ℕ) → ((p : ℕ) → p ≤ K → y p ≡ worth W (Y p) a) → (l : List Item) (q s : ℕ) → Good W K l →
            over W K (λ p. W.along (told W l q s p) (y p)) ≡ worth W (spread W Y l q s) a
        unfolding spread told one worth
        spread_reads a same [] q s g = over_none
        spread_reads a same (e ∷ l) q s g =
            ap (over W K) (fun_ext (λ p. both_along (one W e q s p) (told W l q s p) (y p)))
            ∙ over_both K (λ p. W.along (one W e q s p) (y p)) (λ p. W.along (told W l q s p) (y p))
            ∙ ap (W.best (over W K (λ p. W.along (one W e q s p) (y p)))) (spread_reads a same l q s g.1)
            ∙ turn (eqb e.key q && eqb e.symbol s)
          where
            rest : List End
            rest = spread W Y l q s

            rest_good : GoodEnds W K rest
            rest_good = spread_good l q s g.1

            turn : (b : Bool) → W.best (over W K (λ p. W.along (cond b (only W e.end p) W.none) (y p))) (worth W rest a)
                ≡ worth W (cond b (scaled W e.end.weight (Y e.end.place) ++ rest) rest) a
            turn true = ap (λ v. W.best v (worth W rest a))
                (over_only e.end g.0 ∙ ap (W.along e.end.weight) (same e.end.place g.0.0) ∙ sym (worth_scaled e.end.weight g.0.1 (Y e.end.place) a))
                ∙ sym (worth_append (scaled W e.end.weight (Y e.end.place)) rest a rest_good)
            turn false = ap (λ v. W.best v (worth W rest a)) over_none ∙ W.laws.best_none (worth W rest a) (worth_fits rest a rest_good)

-- Reading a list of symbols.
module _ (Q : Question) (l : List Item) (good : Good Q.weighing Q.keys l) where
  abbrev W : Weighing
  W = Q.weighing

  abbrev K : ℕ
  K = Q.keys

  pub reach_good : (q : ℕ) (w : List ℕ) → q ≤ K → GoodEnds W K (reach W l q w)
  unfolding reach
  reach_good q [] h = ((h, W.laws.whole_fits), tt)
  reach_good q (s ∷ w) h = spread_good W K (λ p. W.none) (λ p i. W.laws.none_fits) (λ p. reach W l p w) (λ p i. reach_good p w i) l q s good

  pub reading_same : (q : ℕ) (w : List ℕ) (a : ℕ) → q ≤ K → reading Q (told W l) q w a ≡ worth W (reach W l q w) a
  unfolding reading reach worth only
  reading_same q [] a h = sym (best_last W (only_fits W (record { place = q; weight = W.whole }) a W.laws.whole_fits))
  reading_same q (s ∷ w) a h = spread_reads W K (λ p. reading Q (told W l) p w a) (λ p i. rw (reading_same p w a i) (worth_fits W K (reach W l p w) a (reach_good p w i)))
      (λ p. reach W l p w) (λ p i. reach_good p w i) a (λ p i. reading_same p w a i) l q s good
