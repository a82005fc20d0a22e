-- Runs one after the other, and with the sites in each other's places; full exchanges are runs, so what holds in every state holds after
-- them.
use Prim.Native.Nat.{ℕ}
use Rattle.rewriting.specs.Rewriting.{Rules, Question}
use Rattle.notes.specs.Line.{act_work, System, swap, step_a, step_b, Steps, none, more}
use Rattle.notes.specs.Exchange.{a_works, Half, Full, Exchanges, begin, from_a, from_b}

-- The two sites are alike.
pub steps_swap : {Q : Question} {R T : Rules} {x y : System} → Steps Q R T x y → Steps Q T R (swap x) (swap y)
steps_swap none = none
steps_swap (more r (step_a c)) = more (steps_swap r) (step_b c)
steps_swap (more r (step_b c)) = more (steps_swap r) (step_a c)

-- Runs one after the other.
steps_more : {Q : Question} {R T : Rules} {x y z : System} → Steps Q R T x y → Steps Q R T y z → Steps Q R T x z
steps_more r none = r
steps_more r (more o c) = more (steps_more r o) c

-- Halves, full exchanges and any number of them are runs.
module _ {Q : Question} {R T : Rules} {x y : System} where
  pub half_worked : (h : Half Q R T x y) → Steps Q R T x (a_works h.worked h.from)
  half_worked h = more h.before (step_a (act_work h.worked h.work))

  pub half_steps : Half Q R T x y → Steps Q R T x y
  half_steps h = steps_more (half_worked h) h.after

pub full_steps : {Q : Question} {R T : Rules} {x y : System} → Full Q R T x y → Steps Q R T x y
full_steps f = steps_more (half_steps f.there) (steps_swap (half_steps f.back))

pub exchanges_steps : {Q : Question} {R T : Rules} {x y : System} {n : ℕ} → Exchanges Q R T x n y → Steps Q R T x y
exchanges_steps begin = none
exchanges_steps (from_a r f) = steps_more (exchanges_steps r) (full_steps f)
exchanges_steps (from_b r f) = steps_more (exchanges_steps r) (steps_swap (full_steps f))
