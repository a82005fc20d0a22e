-- What a site holds only grows along a run.
use mathlib.Core.List.{List}
use Prim.Native.Nat.{ℕ}
use native.Mathlib.Nat.{le_refl, le_trans}
use Rattle.rewriting.specs.Rewriting.{Rules}
use Rattle.rewriting.proofs.LastTable.{repeated_keeps}
use Rattle.notes.specs.Notes.{by_minutes, Note, Ledger, Works}
use Rattle.notes.specs.Line.{Party, Act, act_work, act_send, act_take, System, Step, step_a, step_b, Steps, none, more}
use Rattle.notes.proofs.Minutes.{Under, below_under}
use Rattle.notes.proofs.Taking.{take_moves}

-- No minute and no receipted minute is lowered.
pub record Grew (K : ℕ) (l l' : Ledger) : Type 0 where
  pub minutes : Under K l.minute l'.minute
  pub receipts : Under K l.receipted l'.receipted

grew_none : {K : ℕ} (l : Ledger) → Grew K l l
grew_none l = record { minutes = λ k s a e. le_refl _; receipts = λ k s a e. le_refl _ }

grew_more : {K : ℕ} {l l' l'' : Ledger} → Grew K l l' → Grew K l' l'' → Grew K l l''
grew_more g h = record {
  minutes = λ k s a e. le_trans (g.minutes k s a e) (h.minutes k s a e);
  receipts = λ k s a e. le_trans (g.receipts k s a e) (h.receipts k s a e);
}

module _ {K asker : ℕ} where
  pub works_grew : {R : Rules} {l l' : Ledger} → Works (by_minutes K asker) R l l' → Grew K l l'
  works_grew {R} {l} w = record {
    minutes = rw w.minute (below_under asker _ _ (repeated_keeps (by_minutes K asker) R l.minute w.passes));
    receipts = rw w.receipted (λ k s a e. le_refl _);
  }

  act_grew : {R : Rules} {theirs : List Note} {p q : Party} → Act (by_minutes K asker) R theirs p q → Grew K p.ledger q.ledger
  act_grew (act_work l w) = works_grew w
  act_grew (act_send {p} k s a e d) = grew_none p.ledger
  act_grew (act_take {p} n j) =
      let m = take_moves n p.ledger in
      record { minutes = λ k s a e. m.grows k s a; receipts = λ k s a e. m.receipts k s a }

  step_grew : {R T : Rules} {x y : System} → Step (by_minutes K asker) R T x y → Grew K x.a.ledger y.a.ledger
  step_grew (step_a c) = act_grew c
  step_grew (step_b {x} c) = grew_none x.a.ledger

  -- So it is along every run.
  pub steps_grew : {R T : Rules} {x y : System} → Steps (by_minutes K asker) R T x y → Grew K x.a.ledger y.a.ledger
  steps_grew (none {x}) = grew_none x.a.ledger
  steps_grew (more r c) = grew_more (steps_grew r) (step_grew c)
