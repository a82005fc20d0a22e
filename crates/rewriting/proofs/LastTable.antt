-- The last table: a settled table of passes is one, there is only one, every sound table is below it, it answers for every entry and
-- for every owner, and each of its weights has an origin.
use mathlib.Core.Path.{◌≡◌, refl, sym, ◌∙◌}
use mathlib.Core.Logic.Iff
use mathlib.Core.Logic.{inl, inr, ⊎_elim}
use mathlib.Core.List.{List}
use Prim.Native.Nat.{ℕ, zero, suc}
use native.Mathlib.Omega.{arith}
use Rattle.rewriting.specs.Weighing.{Weighing, AtMost}
use Rattle.rewriting.specs.Rewriting.{Rules, Question, Chain, weighed, Answer, delegate, access}
use Rattle.rewriting.specs.Entries.{Mark, Entry, Lawful, Brings, asked, by}
use Rattle.rewriting.specs.Passes.{Table, start, brought, pass, repeated, passes, Still, Settled}
use Rattle.rewriting.specs.Tables.{Below, Found, Sound, Started, Closed, Last, Origin, own, brings}
use Rattle.rewriting.proofs.Order.{at_most_refl, at_most_trans, at_most_antisym, below_none, along_grows}
use Rattle.rewriting.proofs.Trees.{chain_brings, brings_entry}
use Rattle.rewriting.proofs.Passing.{pass_keeps, pass_takes}
use Rattle.rewriting.proofs.Sound.{weighed_fits, found_fits, start_sound, passes_sound}
use Rattle.rewriting.proofs.Complete.{start_mark, brings_covered, reads_covered}
use Rattle.rewriting.proofs.Answers.{answer_moves}

module _ (Q : Question) (R : Rules) (t : Table) where
  abbrev later : ℕ → Table
  later = repeated Q R t

  -- Passes only raise a table,
  pub repeated_keeps : (n : ℕ) → Below Q t (later n)
  unfolding repeated
  repeated_keeps zero k s a e = at_most_refl Q.weighing _
  repeated_keeps (suc n) k s a e = at_most_trans Q.weighing (repeated_keeps n k s a e) (pass_keeps Q R (later n) k s a)

  -- and those that come to an end raise it at least by one pass.
  pub still_passed : (n : ℕ) → Still Q R (later n) → Below Q (pass Q R t) (later n)
  unfolding repeated
  still_passed zero still k s a e = rw (still k s a e) (at_most_refl Q.weighing _)
  still_passed (suc n) still k s a e = passed n
    where
      passed : (n : ℕ) → AtMost Q.weighing (pass Q R t k s a) (later (suc n) k s a)
      passed zero = at_most_refl Q.weighing _
      passed (suc n) = at_most_trans Q.weighing (passed n) (pass_keeps Q R (later (suc n)) k s a)

  -- A table that a pass leaves alone is closed.
  pub still_closed : Still Q R t → Closed Q R t
  still_closed still k s a e = rw (still k s a e) (at_most_refl Q.weighing _)

module _ {Q : Question} {R : Rules} (ok : Lawful Q R) where
  abbrev W : Weighing
  W = Q.weighing

  -- A settled table of passes is the last.
  pub settled_last : (n : ℕ) → Settled Q R n → Last Q R (passes Q R n)
  settled_last n settled = record {
    sound = passes_sound ok n;
    started = repeated_keeps Q R (start Q) n;
    closed = still_closed Q R (passes Q R n) settled;
  }

  module _ {F : Table} (last : Last Q R F) where
    -- Every sound table is below the last.
    pub sound_below : {t : Table} → Sound Q R t → (k s a : ℕ) → AtMost W (t k s a) (F k s a)
    sound_below sound k s a = ⊎_elim
        (λ z. rw z (W.laws.best_none (F k s a) (found_fits ok (last.sound k s a))))
        (λ c. rw c.2 at (brings_covered ok last.started last.closed c.1))
        (sound k s a)

    -- A sound table is already the last where that has none, and, if it has the start, at the asker's marks.
    pub none_same : {t : Table} → Sound Q R t → (k s a : ℕ) → F k s a ≡ W.none → t k s a ≡ F k s a
    none_same sound k s a z = below_none W (found_fits ok (sound k s a)) (rw z at (sound_below sound k s a)) ∙ sym z

    pub asked_same : {t : Table} → Sound Q R t → Started Q t → (s : ℕ) → Mark s → t Q.asker s Q.keys ≡ F Q.asker s Q.keys
    asked_same sound started s h =
        let entry : Entry Q.keys Q.asker s Q.keys = (ok.asker_is_key, inr (h, refl)) in
        let top = W.laws.best_whole (F Q.asker s Q.keys) (found_fits ok (last.sound Q.asker s Q.keys)) in
        at_most_antisym W (sound_below sound Q.asker s Q.keys)
        (at_most_trans W top (rw (start_mark Q s h) at (started Q.asker s Q.keys entry)))

    -- Each of its entries is the answer for what brings the entry about,
    pub last_entry : (k s a : ℕ) → Answer W R (Brings Q R k s a) (F k s a)
    last_entry k s a = ⊎_elim
        (λ z. inr (z, λ ch b. below_none W (weighed_fits ok ch) (rw z at (covered ch b))))
        (λ c. inl (record { chain = c.0; leads = c.1; weighs = c.2; none_better = covered }))
        (last.sound k s a)
      where
        covered : (ch : List ℕ) → Brings Q R k s a ch → AtMost W (weighed W R ch) (F k s a)
        covered ch = brings_covered ok last.started last.closed

    -- and the owner's mark 10 is the answer for the chains from the owner.
    pub last_answer : (owner : ℕ) → Answer W R (Chain R owner Q.asker) (F owner delegate Q.keys)
    last_answer owner = answer_moves (λ ch. Iff.symm (chain_brings ok owner ch)) (last_entry owner delegate Q.keys)

    -- Every weight but none has an origin.
    pub origin : (k s a : ℕ) → (F k s a ≡ W.none → ⊥) → Origin Q R F k s a
    unfolding weighed brought
    origin k s a some = ⊎_elim (λ z. absurd (some z)) (λ c. grown c.1 c.2) (last.sound k s a)
      where
        grown : {k s a : ℕ} {ch : List ℕ} → Brings Q R k s a ch → weighed W R ch ≡ F k s a → Origin Q R F k s a
        grown (asked h) e = own refl h refl
        grown (by {k = k} {s = s} {a = a} i f r) e = brings i f (at_most_antisym W
            (at_most_trans W (pass_takes Q R F k s a f) (last.closed k s a (brings_entry ok (by i f r))))
            (rw (← e) (along_grows W (at_most_refl W (R.weight i)) (reads_covered ok last.started last.closed r))))

  -- What chains bring about for mark 11 is at most the start: no certificate reads it.
  pub access_start : {k a x : ℕ} → Found W R (Brings Q R k access a) x → AtMost W x (start Q k access a)
  access_start {k} {a} {x} found = ⊎_elim
      (λ z. rw z (W.laws.best_none _ (found_fits ok (start_sound ok k access a))))
      (λ c. from refl c.1)
      found
    where
      from : {k s a : ℕ} {ch : List ℕ} → s ≡ access → Brings Q R k s a ch → AtMost W x (start Q k s a)
      from {s = s} e (asked m) = rw (start_mark Q s m) (W.laws.best_whole x (found_fits ok found))
      from e (by i f r) =
          let c = ok.certificates i f.there in
          absurd (⊎_elim (λ h. omega (arith, f.symbol, h.0)) (λ h. omega (arith, f.symbol, h.0)) c.sides)

  -- There is only one last table.
  pub last_unique : {t u : Table} → Last Q R t → Last Q R u → (k s a : ℕ) → t k s a ≡ u k s a
  last_unique p q k s a = at_most_antisym W (sound_below q p.sound k s a) (sound_below p q.sound k s a)
