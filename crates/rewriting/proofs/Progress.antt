-- Progress: while a table on the way to the last one lacks something, a pass brings at least one more entry to its last weight.
use mathlib.Core.Path.{◌≡◌, refl}
use mathlib.Core.Logic.{◌⊎◌, inl, inr, ⊎_elim, by_cases}
use mathlib.Core.List.{List, ◌∷◌, ◌++◌}
use Prim.Native.Nat.{ℕ, zero, suc, ◌≤◌, ◌<◌}
use native.Mathlib.Omega.{arith}
use native.Mathlib.Decide.{ℕ_discrete}
use borrow.Author.Tests.{eq-eqb}
use Rattle.rewriting.specs.Weighing.{Weighing, AtMost}
use Rattle.rewriting.specs.Rewriting.{Rules, Question, weighed}
use Rattle.rewriting.specs.Entries.{Entry, Lawful, Fires, Brings, Reads, by}
use Rattle.rewriting.specs.Passes.{Table, reading, brought, pass}
use Rattle.rewriting.specs.Tables.{Below, Sound, Started, Last}
use Rattle.rewriting.proofs.Order.{at_most_refl, at_most_trans, at_most_antisym, along_grows, along_left, along_right}
use Rattle.rewriting.proofs.Words.{arrival_place}
use Rattle.rewriting.proofs.Trees.{ByParts, brings_induction, brings_entry}
use Rattle.rewriting.proofs.Passing.{over_takes, pass_takes}
use Rattle.rewriting.proofs.Sound.{weighed_fits, weighed_append, found_fits}
use Rattle.rewriting.proofs.Complete.{brings_covered}
use Rattle.rewriting.proofs.LastTable.{sound_below, none_same, asked_same}
use Rattle.rewriting.proofs.Counting.{Differ}

-- An entry that has its last weight in u and not yet in t.
pub record Gained (Q : Question) (F t u : Table) : Type 0 where
  pub at : Differ Q.keys t F
  pub now : u at.key at.symbol at.place ≡ F at.key at.symbol at.place

module _ {Q : Question} {R : Rules} (ok : Lawful Q R) {F : Table} (last : Last Q R F)
    {t u : Table} (t-sound : Sound Q R t) (u-sound : Sound Q R u) (started : Started Q t) (passed : Below Q (pass Q R t) u) where
  abbrev W : Weighing
  W = Q.weighing

  abbrev Gain : Type 0
  Gain = Gained Q F t u

  abbrev Lacks : ℕ → ℕ → ℕ → Type 0
  Lacks k s a = t k s a ≡ F k s a → ⊥

  last_fits : (k s a : ℕ) → F k s a ≤ W.cap
  last_fits k s a = found_fits ok (last.sound k s a)

  -- If what a certificate reads is there, with the last weight of the entry that it makes, the pass brings the entry to that weight.
  brought_now : {i k s a : ℕ} {ch : List ℕ} → Fires R i k s → Reads Q R (R.rule i).to (R.rule i).writes a ch →
      AtMost W (F k s a) (weighed W R (i ∷ ch)) → AtMost W (weighed W R ch) (reading Q t (R.rule i).to (R.rule i).writes a) →
      u k s a ≡ F k s a
  unfolding weighed brought
  brought_now {i} {k} {s} {a} f r e up =
      let entry = brings_entry ok (by i f r) in
      at_most_antisym W (sound_below ok last u-sound k s a)
      (at_most_trans W e (at_most_trans W (along_grows W (at_most_refl W (R.weight i)) up)
      (at_most_trans W (pass_takes Q R t k s a f) (passed k s a entry))))

  -- If the first symbol has its last weight and the rest can be read, the whole list can.
  read_now : {k s p a : ℕ} {w c d : List ℕ} → Brings Q R k s p c → Reads Q R p w a d → t k s p ≡ F k s p →
      AtMost W (weighed W R d) (reading Q t p w a) → AtMost W (weighed W R (c ++ d)) (reading Q t k (s ∷ w) a)
  unfolding reading
  read_now {k} {s} {p} {a} {w} {c} {d} b r same up =
      let cover : AtMost W (weighed W R c) (t k s p) = rw (← same) at (brings_covered ok last.started last.closed b) in
      rw (weighed_append ok c d) (at_most_trans W (along_grows W cover up)
      (over_takes W Q.keys (λ p. W.along (t k s p) (reading Q t p w a)) p (arrival_place (brings_entry ok b).1)))

  -- Suppose that some entry gains wherever one of a better last weight than rank r lacks its own. Then follow a chain that gives an entry
  -- of rank r its last weight. Either all that its first certificate reads is there, and the entry itself gains; or something in the
  -- tree is lacking, which has no worse a last weight.
  module _ (r : ℕ) (better : (k s a : ℕ) → Entry Q.keys k s a → W.rank (F k s a) < r → Lacks k s a → Gain) where
    abbrev One : ℕ → ℕ → ℕ → List ℕ → Type 0
    One k s a ch = W.rank (F k s a) ≤ r → AtMost W (F k s a) (weighed W R ch) → Lacks k s a → Gain

    abbrev All : ℕ → List ℕ → ℕ → List ℕ → Type 0
    All k w a ch = (x : ℕ) → x ≤ W.cap → W.rank x ≤ r → AtMost W x (weighed W R ch) → AtMost W (weighed W R ch) (reading Q t k w a) ⊎ Gain

    further : {k s p x : ℕ} {c : List ℕ} → Brings Q R k s p c → One k s p c →
        x ≤ W.cap → W.rank x ≤ r → AtMost W x (weighed W R c) → Lacks k s p → Gain
    further {k} {s} {p} {x} b one h l first lacks = by_cases (ℕ_discrete x (F k s p))
        (λ e. one (rw e at l) (rw e at first) lacks)
        (λ n.
        let cover = at_most_trans W first (brings_covered ok last.started last.closed b) in
        better k s p (brings_entry ok b) (omega (arith, W.laws.rank_falls x (F k s p) h (last_fits k s p) cover n)) lacks)

    gaining : ByParts Q R One All
    unfolding weighed reading
    gaining = record {
      on_asked = λ s h l e lacks. absurd (lacks (asked_same ok last t-sound started s h));
      on_by = λ i k s a ch f r all l e lacks.
          let rest = at_most_trans W e (along_right W _ _ (ok.weights_fit i) (weighed_fits ok ch)) in
          let gained : AtMost W (weighed W R ch) (reading Q t (R.rule i).to (R.rule i).writes a) → Gain =
          λ up. record {
            at = record { key = k; symbol = s; place = a; entry = brings_entry ok (by i f r); differ = lacks };
            now = brought_now f r e up;
          } in
          ⊎_elim gained (λ g. g) (all (F k s a) (last_fits k s a) l rest);
      on_stays = λ k x h l e. inl (rw (eq-eqb k k refl) (at_most_refl W W.whole));
      on_goes = λ k s p w a c d b one r all x h l e.
          let both : AtMost W x (W.along (weighed W R c) (weighed W R d)) = rw (weighed_append ok c d) at e in
          let first = at_most_trans W both (along_left W _ _ (weighed_fits ok c) (weighed_fits ok d)) in
          let second = at_most_trans W both (along_right W _ _ (weighed_fits ok c) (weighed_fits ok d)) in
          by_cases (ℕ_discrete (t k s p) (F k s p))
          (λ same. ⊎_elim (λ up. inl (read_now b r same up)) inr (all x h l second))
          (λ lacks. inr (further b one h l first lacks));
    }

    gain_of_rank : (k s a : ℕ) → Entry Q.keys k s a → W.rank (F k s a) ≤ r → Lacks k s a → Gain
    gain_of_rank k s a entry l lacks = ⊎_elim
        (λ z. absurd (lacks (none_same ok last t-sound k s a z)))
        (λ c. brings_induction gaining c.1 l (rw c.2 (at_most_refl W _)) lacks)
        (last.sound k s a)

  gain_up_to : (r k s a : ℕ) → Entry Q.keys k s a → W.rank (F k s a) ≤ r → Lacks k s a → Gain
  gain_up_to zero = gain_of_rank zero (λ k s a i h lacks. absurd (omega arith))
  gain_up_to (suc r) = gain_of_rank (suc r) (λ k s a i h lacks. gain_up_to r k s a i (omega arith) lacks)

  -- If an entry lacks its last weight in t, then some entry gains its own in u.
  pub gain : Differ Q.keys t F → Gain
  gain d = gain_up_to (W.rank (F d.key d.symbol d.place)) d.key d.symbol d.place d.entry (omega arith) d.differ
