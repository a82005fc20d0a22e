-- Runs: which certificate a run begins with and how it goes on, runs one after the other, and the empty chain.
use mathlib.Core.Path.{◌≡◌, refl, sym, ap, ◌∙◌, fun_ext}
use mathlib.Core.Logic.{◌↔◌, inl, ⊎_elim}
use mathlib.Core.Bool.{Bool, true, false, cond, ◌&&◌}
use mathlib.Core.List.{List, [], ◌∷◌, ◌++◌}
use mathlib.Core.Option.{Option, none, some, bind, none-ne-some, some-injective}
use Prim.Native.Nat.{ℕ}
use lib.Dec.{ltb, eqb}
use borrow.Author.Tests.{ltb-true, eqb-true, lt-ltb, eq-eqb}
use Rattle.rewriting.specs.Rewriting.{Rules, Config, applied, step, run, at, Chain, delegate, access}
use Rattle.rewriting.specs.Entries.{Fires}
use Rattle.rewriting.proofs.Tests.{both_true}

-- What comes after a test came because the test holds.
passed : (b : Bool) (x : Option Config) (f : Config → Option Config) (y : Config) →
    bind (cond b x none) f ≡ some y → (b ≡ true) × (bind x f ≡ some y)
unfolding bind
passed true x f y e = (refl, e)
passed false x f y e = absurd (none-ne-some y e)

bind_bind : (o : Option Config) (f g : Config → Option Config) → bind (bind o f) g ≡ bind o (λ y. bind (f y) g)
unfolding bind
bind_bind none f g = refl
bind_bind (some y) f g = refl

-- Where a run goes on after its first certificate.
pub record Onward (R : Rules) (i k : ℕ) (u ch : List ℕ) (y : Config) : Type 0 where
  pub symbol : ℕ
  pub rest : List ℕ
  pub word : u ≡ symbol ∷ rest
  pub fires : Fires R i k symbol
  pub goes_on : run R ch (record { key = (R.rule i).to; word = (R.rule i).writes ++ rest }) ≡ some y

module _ (R : Rules) where
  -- A certificate that fires rewrites,
  pub fires_run : (i k s : ℕ) (v ch : List ℕ) → Fires R i k s →
      run R (i ∷ ch) (record { key = k; word = s ∷ v }) ≡ run R ch (record { key = (R.rule i).to; word = (R.rule i).writes ++ v })
  unfolding run step applied bind
  fires_run i k s v ch f = rw (lt-ltb i R.count f.there, f.usable, f.issuer, f.symbol, eq-eqb k k refl, eq-eqb s s refl)

  pub run_by : {k s : ℕ} {u v : List ℕ} {y : Config} (i : ℕ) (ch : List ℕ) → u ≡ s ∷ v → Fires R i k s →
      run R ch (record { key = (R.rule i).to; word = (R.rule i).writes ++ v }) ≡ some y →
      run R (i ∷ ch) (record { key = k; word = u }) ≡ some y
  run_by {k} {s} {v = v} i ch e f r = rw e (fires_run i k s v ch f ∙ r)

  -- and only such a one does.
  pub run_onward : (i k : ℕ) (u ch : List ℕ) (y : Config) → run R (i ∷ ch) (record { key = k; word = u }) ≡ some y → Onward R i k u ch y
  unfolding run step applied bind
  run_onward i k [] ch y e = absurd (none-ne-some y (passed (ltb i R.count && R.live i) none (run R ch) y e).1)
  run_onward i k (s ∷ w) ch y e =
      let there = passed (ltb i R.count && R.live i) (applied (R.rule i) k (s ∷ w)) (run R ch) y e in
      let applies = passed (eqb (R.rule i).from k && eqb (R.rule i).reads s)
      (some (record { key = (R.rule i).to; word = (R.rule i).writes ++ w })) (run R ch) y there.1 in
      let left = both_true applies.0 in
      let usable = both_true there.0 in
      record {
        symbol = s;
        rest = w;
        word = refl;
        fires = record {
          there = ltb-true i R.count usable.0;
          usable = usable.1;
          issuer = eqb-true (R.rule i).from k left.0;
          symbol = eqb-true (R.rule i).reads s left.1;
        };
        goes_on = applies.1;
      }

  -- Runs one after the other.
  pub run_append : (c d : List ℕ) (x : Config) → run R (c ++ d) x ≡ bind (run R c x) (run R d)
  unfolding run bind
  run_append [] d x = refl
  run_append (i ∷ c) d x = ap (bind (step R i x)) (fun_ext (run_append c d)) ∙ sym (bind_bind (step R i x) (run R c) (run R d))

  -- The empty chain exists exactly where owner and asker are the same key.
  pub chain_empty : (owner asker : ℕ) → Chain R owner asker [] ↔ (owner ≡ asker)
  unfolding run
  chain_empty owner asker = (⊎_elim (same delegate) (same access), λ e. inl (rw e))
    where
      same : (m : ℕ) → some (at owner delegate) ≡ some (at asker m) → owner ≡ asker
      same m e = ap (λ (c : Config). c.key) (some-injective (at owner delegate) (at asker m) e)
