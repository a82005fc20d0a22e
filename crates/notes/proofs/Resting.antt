-- Two sites at rest hold the last table of both files together, and stay at rest; and no note that one of them wrote is late.
use mathlib.Core.Path.{◌≡◌}
use Prim.Native.Nat.{ℕ}
use native.Mathlib.Omega.{arith}
use Rattle.rewriting.specs.Rewriting.{Rules, Question}
use Rattle.rewriting.specs.Passes.{Table}
use Rattle.rewriting.specs.Tables.{Last}
use Rattle.rewriting.proofs.Sound.{sound_held}
use Rattle.rewriting.proofs.Held.{held_same}
use Rattle.rewriting.proofs.LastTable.{sound_below}
use Rattle.notes.specs.Notes.{by_minutes, Note, raise, receipt, Ledger, noted, late, take, Rest}
use Rattle.notes.specs.Line.{In, Party, System, Act, act_work, act_send, act_take, Step, step_a, step_b, Steps, none, more}
use Rattle.notes.proofs.Minutes.{at_most_le, under_below}
use Rattle.notes.proofs.Taking.{Holds, receipt_taken, take_moves, take_quiet}
use Rattle.notes.proofs.Sides.{Honest, Side, worked}
use Rattle.notes.proofs.Good.{Both, both_swap, Good, good_swap, good_steps}

-- The writer's table holds the minute of an honest note.
honest_held : (Q : Question) (B : Rules) (mine theirs : Table) (n : Note) → Honest Q B mine theirs n → Holds mine n
honest_held Q B mine theirs (raise k s a m) h = h.held
honest_held Q B mine theirs (receipt k s a m) h = h.0.held

-- No note that q wrote is late.
raise_accepted : (k s a m : ℕ) (l : Ledger) → (take (raise k s a m) l).answer ≡ late → ⊥
unfolding take
raise_accepted k s a m l e = let z : ◌≡◌ {A = ℕ} 0 1 = cc in omega arith

noted_accepted : noted ≡ late → ⊥
noted_accepted e = let z : ◌≡◌ {A = ℕ} 0 1 = cc in omega arith

pub side_accepted : {Q : Question} {B T : Rules} {p q : Party} → Side Q B T q p → (n : Note) → In n q.wrote → (take n p.ledger).answer ≡ late → ⊥
side_accepted {p = p} O (raise k s a m) j = raise_accepted k s a m p.ledger
side_accepted {p = p} O (receipt k s a m) j = rw (receipt_taken k s a m p.ledger (O.honest (receipt k s a m) j).1) noted_accepted

module _ {K asker : ℕ} {B R T : Rules} (both : Both (by_minutes K asker) B R T) where
  abbrev Q : Question
  Q = by_minutes K asker

  module _ {x : System} (g : Good Q B R T x) (a-rests : Rest K x.a.ledger) (b-rests : Rest K x.b.ledger) where
    -- Where both rest, both hold the same,
    rest_same : x.a.ledger.minute ≡ x.b.ledger.minute
    rest_same =
        let ok = both.first.whole in
        held_same Q (sound_held ok g.side_a.sound) (sound_held ok g.side_b.sound) (λ k s a e. omega (
          arith,
          a-rests.all k s a e,
          g.side_a.known k s a e,
          b-rests.all k s a e,
          g.side_b.known k s a e,
        ))

    -- which is the last table.
    pub rest_last : Last Q B x.a.ledger.minute
    rest_last = record {
      sound = g.side_a.sound;
      started = under_below asker _ _ g.side_a.started;
      closed = both.above _ _ (g.side_a.shut a-rests.quiet) (rw rest_same (g.side_b.shut b-rests.quiet));
    }

  -- An act of a site at rest leaves it at rest.
  rest_acts : {p p' q : Party} → Act Q R q.wrote p p' → Side Q B R p q → Side Q B T q p → p.ledger.minute ≡ q.ledger.minute →
      Last Q B p.ledger.minute → Rest K p.ledger → Rest K p'.ledger
  rest_acts (act_work l w) S O same last rests = record {
    quiet = (let already = rests.quiet in cc w.idle);
    all = λ k s a e. rw w.receipted (omega (
      arith,
      at_most_le _ _ (sound_below both.first.whole last (worked both.first w S.sound).sound k s a),
      rests.all k s a e,
    ));
  }
  rest_acts (act_send k s a e d) S O same last rests = rests
  rest_acts (act_take {p} n j) S O same last rests = record {
    quiet = take_quiet n p.ledger (rw same (honest_held Q B _ _ n (O.honest n j))) rests.quiet;
    all = λ k s a e. (take_moves n p.ledger).settles k s a (rests.all k s a e);
  }

module _ {K asker : ℕ} {B R T : Rules} (both : Both (by_minutes K asker) B R T) where
  stay_step : {x y : System} → Good (by_minutes K asker) B R T x → Step (by_minutes K asker) R T x y →
      Rest K x.a.ledger → Rest K x.b.ledger → Rest K y.a.ledger × Rest K y.b.ledger
  stay_step g (step_a c) a b = (rest_acts both c g.side_a g.side_b (rest_same both g a b) (rest_last both g a b) a, b)
  stay_step g (step_b c) a b =
      let o = both_swap both in
      let h = good_swap g in
      (a, rest_acts o c g.side_b g.side_a (rest_same o h b a) (rest_last o h b a) b)

  -- Once both rest they stay so, whatever notes still come.
  pub stay_steps : {x y : System} → Good (by_minutes K asker) B R T x → Steps (by_minutes K asker) R T x y →
      Rest K x.a.ledger → Rest K x.b.ledger → Rest K y.a.ledger × Rest K y.b.ledger
  stay_steps g none a b = (a, b)
  stay_steps g (more r c) a b = let still = stay_steps g r a b in stay_step (good_steps both r g) c still.0 still.1
