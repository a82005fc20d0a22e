-- Completeness: a table that has the start and to which a pass brings nothing better is at least as good as every chain.
use mathlib.Core.Path.{◌≡◌, refl}
use mathlib.Core.Logic.{inl, inr}
use mathlib.Core.List.{List}
use Prim.Native.Nat.{ℕ}
use borrow.Author.Tests.{eq-eqb}
use Rattle.rewriting.specs.Weighing.{Weighing, AtMost}
use Rattle.rewriting.specs.Rewriting.{Rules, Question, weighed}
use Rattle.rewriting.specs.Entries.{Mark, Lawful, Brings, Reads, by}
use Rattle.rewriting.specs.Passes.{Table, start, reading, brought}
use Rattle.rewriting.specs.Tables.{Started, Closed}
use Rattle.rewriting.proofs.Order.{at_most_refl, at_most_trans, along_grows}
use Rattle.rewriting.proofs.Words.{arrival_place}
use Rattle.rewriting.proofs.Trees.{ByParts, brings_induction, reads_induction, brings_entry}
use Rattle.rewriting.proofs.Passing.{over_takes, pass_takes}
use Rattle.rewriting.proofs.Sound.{weighed_append}

-- The asker's marks have the whole from the start.
pub start_mark : (Q : Question) (s : ℕ) → Mark s → start Q Q.asker s Q.keys ≡ Q.weighing.whole
unfolding start
start_mark Q s (inl e) = rw (e, eq-eqb Q.asker Q.asker refl, eq-eqb Q.keys Q.keys refl)
start_mark Q s (inr e) = rw (e, eq-eqb Q.asker Q.asker refl, eq-eqb Q.keys Q.keys refl)

module _ {Q : Question} {R : Rules} (ok : Lawful Q R) {t : Table} (started : Started Q t) (closed : Closed Q R t) where
  abbrev W : Weighing
  W = Q.weighing

  abbrev One : ℕ → ℕ → ℕ → List ℕ → Type 0
  One k s a ch = AtMost W (weighed W R ch) (t k s a)

  abbrev All : ℕ → List ℕ → ℕ → List ℕ → Type 0
  All k w a ch = AtMost W (weighed W R ch) (reading Q t k w a)

  covering : ByParts Q R One All
  unfolding weighed brought reading
  covering = record {
    on_asked = λ s h. rw (start_mark Q s h) at (started Q.asker s Q.keys (ok.asker_is_key, inr (h, refl)));
    on_by = λ i k s a ch f r next. at_most_trans W (along_grows W (at_most_refl W (R.weight i)) next)
        (at_most_trans W (pass_takes Q R t k s a f) (closed k s a (brings_entry ok (by i f r))));
    on_stays = λ k. rw (eq-eqb k k refl) (at_most_refl W W.whole);
    on_goes = λ k s p w a c d b one r all. rw (weighed_append ok c d) (at_most_trans W (along_grows W one all)
        (over_takes W Q.keys (λ p. W.along (t k s p) (reading Q t p w a)) p (arrival_place (brings_entry ok b).1)));
  }

  -- Whatever brings an entry about weighs at most what the table says, and whatever reads a list at most its best reading.
  pub brings_covered : {k s a : ℕ} {ch : List ℕ} → Brings Q R k s a ch → AtMost W (weighed W R ch) (t k s a)
  brings_covered = brings_induction covering

  pub reads_covered : {k a : ℕ} {w ch : List ℕ} → Reads Q R k w a ch → AtMost W (weighed W R ch) (reading Q t k w a)
  reads_covered = reads_induction covering
