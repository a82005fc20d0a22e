-- Weighings: how the weights of certificates combine, along one chain and over all chains (document 003, Table 1; document 01,
-- "Rewriting and usable certificates" and "Entries and passes"). Minutes and steps are the two that document 01 asks for.
use Rattle.std.specs.Prelude.{◌≡◌, ℕ, ◌+◌, ◌-◌, ◌≤◌, ◌<◌, min, max}
use Rattle.std.proofs.Common.{arith}

-- What every weighing obeys. Each law is a line of arithmetic for the weighings below.
pub record Laws (cap none whole : ℕ) (best along : ℕ → ℕ → ℕ) (rank : ℕ → ℕ) : Type 0 where
  -- weights are the numbers up to `cap`
  pub none_fits : none ≤ cap
  pub whole_fits : whole ≤ cap
  pub along_fits : (x y : ℕ) → x ≤ cap → y ≤ cap → along x y ≤ cap
  -- the better of two is one of them, in whatever order they come; none is the worst, the whole the best
  pub best_picks : (x y : ℕ) → (best x y ≡ x → ⊥) → best x y ≡ y
  pub best_comm : (x y : ℕ) → best x y ≡ best y x
  pub best_assoc : (x y z : ℕ) → best (best x y) z ≡ best x (best y z)
  pub best_none : (x : ℕ) → x ≤ cap → best none x ≡ x
  pub best_whole : (x : ℕ) → x ≤ cap → best x whole ≡ whole
  -- the parts of a chain may come in any order; the empty part adds nothing, and what goes on by none is none
  pub along_comm : (x y : ℕ) → along x y ≡ along y x
  pub along_assoc : (x y z : ℕ) → along (along x y) z ≡ along x (along y z)
  pub along_whole : (x : ℕ) → x ≤ cap → along whole x ≡ x
  pub along_none : (x : ℕ) → x ≤ cap → along none x ≡ none
  -- a better part makes no worse chain
  pub along_best : (x y z : ℕ) → best y z ≡ z → best (along x y) (along x z) ≡ along x z
  -- better weights have lower ranks, so nothing gets better for ever
  pub rank_fits : (x : ℕ) → x ≤ cap → rank x ≤ cap
  pub rank_falls : (x y : ℕ) → x ≤ cap → y ≤ cap → best x y ≡ y → (x ≡ y → ⊥) → rank y < rank x

-- A weighing: a number for "none" and one for the empty chain, the better of two chains, the weight of two parts of one chain,
-- and a rank that falls as weights get better.
pub record Weighing : Type 0 where
  pub cap : ℕ
  pub none : ℕ
  pub whole : ℕ
  pub best : ℕ → ℕ → ℕ
  pub along : ℕ → ℕ → ℕ
  pub rank : ℕ → ℕ
  pub laws : Laws cap none whole best along rank

-- y is at least as good as x.
abbrev pub AtMost : Weighing → ℕ → ℕ → Type 0
AtMost W x y = W.best x y ≡ y

-- A chain weighs what its weakest certificate weighs, and the empty chain weighs something. True of minutes and not of steps.
pub record ByWeakest (W : Weighing) : Type 0 where
  pub along_picks : (x y : ℕ) → (W.along x y ≡ x → ⊥) → W.along x y ≡ y
  pub whole_some : W.whole ≡ W.none → ⊥

-- The minute that means without end.
abbrev pub endless : ℕ
endless = 4294967295

-- Minutes: the least along a chain, the greatest over chains; 0 means none.
unfoldable pub minutes : Weighing
minutes = record { cap = endless; none = 0; whole = endless; best = max; along = min; rank = λ x. endless - x; laws = omega arith }

-- What stands for "none, or more than 200" steps.
abbrev pub uncounted : ℕ
uncounted = 201

-- Steps: the sum along a chain, the fewest over chains.
unfoldable pub steps : Weighing
steps = record {
  cap = uncounted;
  none = uncounted;
  whole = 0;
  best = min;
  along = λ x y. min uncounted (x + y);
  rank = λ x. x;
  laws = omega arith;
}
