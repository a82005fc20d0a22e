-- What is always true of two sites: it holds of two that were just opened, and every step keeps it.
use mathlib.Core.Bool.{false≢true}
use mathlib.Core.List.Memᴰ
use Prim.Native.Nat.{ℕ}
use native.Mathlib.Nat.{le_refl}
use Rattle.rewriting.specs.Rewriting.{Rules, Question}
use Rattle.rewriting.specs.Entries.{Lawful}
use Rattle.rewriting.specs.Passes.{Table, pass}
use Rattle.rewriting.specs.Tables.{Below}
use Rattle.rewriting.specs.Together.{together}
use Rattle.rewriting.proofs.Sound.{start_sound}
use Rattle.rewriting.proofs.Together.{first_among, second_among, together_lawful, pass_together}
use Rattle.notes.specs.Notes.{by_minutes}
use Rattle.notes.specs.Line.{System, swap, Step, step_a, step_b, Steps, none, more, Reached, fresh}
use Rattle.notes.proofs.Sides.{Part, Side, side_other, side_acts, act_grows}

-- The certificates R and T are parts of B, and what is above a pass of each is above a pass of B.
pub record Both (Q : Question) (B R T : Rules) : Type 0 where
  pub first : Part Q B R
  pub second : Part Q B T
  pub above : (t u : Table) → Below Q (pass Q R t) u → Below Q (pass Q T t) u → Below Q (pass Q B t) u

pub both_together : {Q : Question} {R T : Rules} → Lawful Q R → Lawful Q T → Both Q (together R T) R T
both_together {Q} {R} {T} r t = record {
  first = record { whole = together_lawful r t; own = r; among = first_among R T };
  second = record { whole = together_lawful r t; own = t; among = second_among R T };
  above = pass_together Q R T;
}

pub both_swap : {Q : Question} {B R T : Rules} → Both Q B R T → Both Q B T R
both_swap both = record { first = both.second; second = both.first; above = λ t u f g. both.above t u g f }

-- What is always true of both sites.
pub record Good (Q : Question) (B R T : Rules) (x : System) : Type 0 where
  pub side_a : Side Q B R x.a x.b
  pub side_b : Side Q B T x.b x.a

-- The two sites are alike.
pub good_swap : {Q : Question} {B R T : Rules} {x : System} → Good Q B R T x → Good Q B T R (swap x)
good_swap g = record { side_a = g.side_b; side_b = g.side_a }

module _ {K asker : ℕ} {B R T : Rules} (both : Both (by_minutes K asker) B R T) where
  abbrev Q : Question
  Q = by_minutes K asker

  pub good_step : {x y : System} → Step Q R T x y → Good Q B R T x → Good Q B R T y
  good_step (step_a c) g = record {
    side_a = side_acts both.first c g.side_a g.side_b;
    side_b = side_other (act_grows both.first c g.side_a) g.side_b;
  }
  good_step (step_b c) g = record {
    side_a = side_other (act_grows both.second c g.side_b) g.side_a;
    side_b = side_acts both.second c g.side_b g.side_a;
  }

  pub good_steps : {x y : System} → Steps Q R T x y → Good Q B R T x → Good Q B R T y
  good_steps none g = g
  good_steps (more r c) g = good_step c (good_steps r g)

  fresh_side : (S : Rules) → Side Q B S (fresh Q) (fresh Q)
  fresh_side S = record {
    sound = start_sound both.first.whole;
    started = λ k s a e. le_refl _;
    shut = λ e. absurd (false≢true e);
    known = λ k s a e. le_refl _;
    seen = λ k s a e. le_refl _;
    honest = λ n j. absurd (Memᴰ.not-nil j);
  }

  -- It holds in every state that two sites can come to.
  pub good : {x : System} → Reached Q R T x → Good Q B R T x
  good r = good_steps r (record { side_a = fresh_side R; side_b = fresh_side T })
