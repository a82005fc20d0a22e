-- More certificates, never less: what passes over some certificates find is sound for more of them, so the answer for more certificates
-- is at least as good, and what was granted stays granted.
use mathlib.Core.Path.{◌≡◌}
use Prim.Native.Nat.{ℕ}
use Rattle.rewriting.specs.Weighing.{AtMost}
use Rattle.rewriting.specs.Rewriting.{Rules, Question, Chain, Answer, delegate}
use Rattle.rewriting.specs.Entries.{Lawful}
use Rattle.rewriting.specs.Passes.{start}
use Rattle.rewriting.specs.Together.{Among}
use Rattle.rewriting.proofs.Order.{below_none}
use Rattle.rewriting.proofs.Sound.{found_fits, start_sound, repeated_sound}
use Rattle.rewriting.proofs.Answers.{answer_found, answer_unique}
use Rattle.rewriting.proofs.LastTable.{settled_last, sound_below, last_answer}
use Rattle.rewriting.proofs.Bound.{pass_count, last_exists}

module _ {Q : Question} {R T : Rules} (ok : Lawful Q R) (more-ok : Lawful Q T) (among : Among R T) (owner : ℕ) {m n : ℕ}
    (more : Answer Q.weighing T (Chain T owner Q.asker) m) (fewer : Answer Q.weighing R (Chain R owner Q.asker) n) where
  -- The answer for more certificates is at least as good,
  pub more_never_less : AtMost Q.weighing n m
  more_never_less =
      let c = (pass_count ok).1 in
      let last = (last_exists more-ok).1 in
      rw (answer_unique fewer (last_answer ok (settled_last ok c.before c.still) owner), answer_unique more (last_answer more-ok last owner))
      (sound_below more-ok last (repeated_sound more-ok among (start Q) (start_sound more-ok) c.before) owner delegate Q.keys)

  -- so it is none only if the answer for fewer is.
  pub more_never_none : m ≡ Q.weighing.none → n ≡ Q.weighing.none
  more_never_none e = below_none Q.weighing (found_fits ok (answer_found fewer)) (rw e at more_never_less)
