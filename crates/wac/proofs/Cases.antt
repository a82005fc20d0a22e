-- Laws of a list of cases, of which the first that holds is given.
use mathlib.Core.Path.{◌≡◌, refl, sym, ap}
use mathlib.Core.Bool.{Bool, true, false, cond}
use mathlib.Core.List.{List, [], ◌∷◌, ◌++◌}
use Prim.Native.Nat.{ℕ}
use native.Mathlib.Omega.{arith}
use Rattle.wac.specs.Answers.{gives, refuses, Case, first_of}

-- an answer that gives is no refusal
pub gives_not_refuses : {A : Type 0} {a : A} {n : ℕ} {vs : List ℕ} → gives a ≡ refuses n vs → ⊥
gives_not_refuses e = let z : ◌≡◌ {A = ℕ} 0 1 = cc in omega arith

-- what two answers give is the same where the answers are
pub gives_injective : {A : Type 0} {a b : A} → gives a ≡ gives b → a ≡ b
gives_injective e = cc

module _ {A : Type 0} where
  -- with no case the value is given
  pub first_none : (a : A) → first_of [] a ≡ gives a
  unfolding first_of
  first_none a = refl

  -- a case that holds is given
  pub first_holds : (c : Case) (cases : List Case) (a : A) → c.holds ≡ true → first_of (c ∷ cases) a ≡ refuses c.number c.values
  unfolding first_of
  first_holds c cases a e = rw e

  -- a case that does not hold is passed over
  pub first_fails : (c : Case) (cases : List Case) (a : A) → c.holds ≡ false → first_of (c ∷ cases) a ≡ first_of cases a
  unfolding first_of
  first_fails c cases a e = rw e

  -- where the value is given, the first case does not hold
  pub first_passed : (c : Case) (cases : List Case) (a : A) {x : A} → first_of (c ∷ cases) a ≡ gives x → (c.holds ≡ false) × (first_of cases a ≡ gives x)
  unfolding first_of
  first_passed c cases a {x} e = turn c.holds e
    where
      turn : (b : Bool) → cond b (refuses c.number c.values) (first_of cases a) ≡ gives x → (b ≡ false) × (first_of cases a ≡ gives x)
      turn true e = absurd (gives_not_refuses (sym e))
      turn false e = (refl, e)

  -- what the first cases refuse, more cases after them refuse, whatever the value
  pub first_refused : {B : Type 0} (cases more : List Case) (a : A) (b : B) {n : ℕ} {vs : List ℕ} → first_of cases a ≡ refuses n vs → first_of (cases ++ more) b ≡ refuses n vs
  unfolding first_of
  first_refused [] more a b e = absurd (gives_not_refuses e)
  first_refused {B} (c ∷ cases) more a b {n} {vs} e = turn c.holds (first_refused cases more a b) e
    where
      turn : (h : Bool) → (first_of cases a ≡ refuses n vs → first_of (cases ++ more) b ≡ refuses n vs) → cond h (refuses c.number c.values) (first_of cases a) ≡ refuses n vs →
          cond h (refuses c.number c.values) (first_of (cases ++ more) b) ≡ refuses n vs
      turn true next e = cc
      turn false next e = next e

  -- cases none of which holds leave what comes after them
  pub first_given : {B : Type 0} (cases more : List Case) (a : A) (b : B) {x : A} → first_of cases a ≡ gives x → first_of (cases ++ more) b ≡ first_of more b
  unfolding first_of
  first_given [] more a b e = refl
  first_given (c ∷ cases) more a b e = let p = first_passed c cases a e in rw p.0 (first_given cases more a b p.1)

  -- where the value is given, the first cases do not hold, nor do those after them
  pub first_both : {B : Type 0} (cases more : List Case) (a : A) (b : B) {x : B} → first_of (cases ++ more) b ≡ gives x → (first_of cases a ≡ gives a) × (first_of more b ≡ gives x)
  unfolding first_of
  first_both [] more a b e = (refl, e)
  first_both {B} (c ∷ cases) more a b {x} e = turn c.holds (first_both cases more a b) e
    where
      turn : (h : Bool) → (first_of (cases ++ more) b ≡ gives x → (first_of cases a ≡ gives a) × (first_of more b ≡ gives x)) →
          cond h (refuses c.number c.values) (first_of (cases ++ more) b) ≡ gives x →
          (cond h (refuses c.number c.values) (first_of cases a) ≡ gives a) × (first_of more b ≡ gives x)
      turn true next e = absurd (gives_not_refuses (sym e))
      turn false next e = next e

  -- cases after the first, none of which holds, change nothing
  pub first_alone : (cases more : List Case) (a : A) → first_of more a ≡ gives a → first_of (cases ++ more) a ≡ first_of cases a
  unfolding first_of
  first_alone [] more a e = e
  first_alone (c ∷ cases) more a e = ap (cond c.holds (refuses c.number c.values)) (first_alone cases more a e)
