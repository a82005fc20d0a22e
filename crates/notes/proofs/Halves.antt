-- What a half does: the other site comes to hold all that the sender worked out, and a sender that holds the last table comes to rest.
use mathlib.Core.Path.{◌≡◌}
use mathlib.Core.Bool.{true}
use Prim.Native.Nat.{ℕ, ◌≤◌}
use native.Mathlib.Nat.{le_trans}
use Rattle.rewriting.specs.Rewriting.{Rules, Question}
use Rattle.rewriting.specs.Passes.{Table}
use Rattle.rewriting.specs.Tables.{Last}
use Rattle.rewriting.proofs.LastTable.{sound_below}
use Rattle.notes.specs.Notes.{by_minutes, Note, raise, receipt, Rest}
use Rattle.notes.specs.Line.{Party, act_work, act_send, act_take, System, step_a, step_b, Steps, none, more}
use Rattle.notes.specs.Exchange.{Half}
use Rattle.notes.proofs.Minutes.{Under, at_most_le}
use Rattle.notes.proofs.Taking.{Holds, take_quiet}
use Rattle.notes.proofs.Sides.{Honest, Side, Worked, worked}
use Rattle.notes.proofs.Good.{Both, Good, good_steps}
use Rattle.notes.proofs.Running.{half_worked, half_steps}
use Rattle.notes.proofs.Growing.{steps_grew, works_grew}

module _ {K asker : ℕ} {B R T : Rules} (both : Both (by_minutes K asker) B R T) {J : Table} (last : Last (by_minutes K asker) B J) where
  abbrev Q : Question
  Q = by_minutes K asker

  -- No sound table is above the last.
  under_last : {S : Rules} {p q : Party} → Side Q B S p q → (k s a : ℕ) → p.ledger.minute k s a ≤ J k s a
  under_last S k s a = at_most_le _ _ (sound_below both.first.whole last S.sound k s a)

  -- A site that holds the last table holds the minute of every note that the other wrote,
  holds_all : {p q : Party} → Side Q B T q p → Under K J p.ledger.minute → (n : Note) → Honest Q B q.ledger.minute p.ledger.minute n →
      Holds p.ledger.minute n
  holds_all O full (raise k s a m) h = le_trans h.held (le_trans (under_last O k s a) (full k s a h.entry))
  holds_all O full (receipt k s a m) h = h.1

  -- so once it has worked it has not to work again.
  stays_idle : {x y : System} → Good Q B R T x → Under K J x.a.ledger.minute → x.a.ledger.idle ≡ true → Steps Q R T x y →
      y.a.ledger.idle ≡ true
  stays_idle g full idle none = idle
  stays_idle g full idle (more r (step_a (act_work l w))) = w.idle
  stays_idle g full idle (more r (step_a (act_send k s a e d))) = stays_idle g full idle r
  stays_idle g full idle (more {y = y} r (step_a (act_take n j))) =
      let O = (good_steps both r g).side_b in
      take_quiet n y.a.ledger
      (holds_all O (λ k s a e. le_trans (full k s a e) ((steps_grew r).minutes k s a e)) n (O.honest n j)) (stays_idle g full idle r)
  stays_idle g full idle (more r (step_b c)) = stays_idle g full idle r

  module _ {x y : System} (g : Good Q B R T x) (h : Half Q R T x y) where
    pub after : Good Q B R T y
    after = good_steps both (half_steps h) g

    -- What working has at least,
    pub half_passed : Worked Q B R h.from.a.ledger.minute h.worked.minute
    half_passed = worked both.first h.work (good_steps both h.before g).side_a.sound

    pub half_grew : Under K x.a.ledger.minute h.worked.minute
    half_grew k s a e = le_trans ((steps_grew h.before).minutes k s a e) ((works_grew h.work).minutes k s a e)

    -- and what the other site holds after the half.
    pub half_told : Under K h.worked.minute y.b.ledger.minute
    half_told k s a e = le_trans (h.all k s a e) (after.side_a.known k s a e)

    -- A half of a site that holds the last table brings it to rest, and it rests from then on.
    pub half_rest : {z : System} → Under K J x.a.ledger.minute → Steps Q R T y z → Rest K z.a.ledger
    half_rest {z} full on = record {
      quiet = stays_idle after (λ k s a e. le_trans (full k s a e) ((steps_grew (half_steps h)).minutes k s a e))
          (stays_idle (good_steps both (half_worked h) g) (λ k s a e. le_trans (full k s a e) (half_grew k s a e)) h.work.idle h.after) on;
      all = λ k s a e. le_trans (under_last (good_steps both on after).side_a k s a)
          (le_trans (full k s a e) (le_trans (half_grew k s a e) (le_trans (h.all k s a e) ((steps_grew on).receipts k s a e))));
    }
