-- Chains are reading trees: a chain from the owner to the asker is what brings the owner's mark 10 to the end, and the other way
-- round. What a tree brings about is an entry.
use mathlib.Core.Path.{◌≡◌, refl, sym, ap, ◌∙◌}
use mathlib.Core.Logic.{◌↔◌, ◌⊎◌, inl, inr, ⊎_elim}
use mathlib.Core.List.{List, [], ◌∷◌, ◌++◌, append_assoc, append-nil}
use mathlib.Core.Option.{Option, some, bind, some-injective}
use Prim.Native.Nat.{ℕ, ◌<◌}
use native.Mathlib.Omega.{arith}
use Rattle.rewriting.specs.Rewriting.{Rules, Config, Question, run, at, Chain, delegate, access}
use Rattle.rewriting.specs.Entries.{Mark, Entry, Lawful, Fires, Brings, Reads, asked, by, stays, goes}
use Rattle.rewriting.proofs.Words.{Leads, leads_on, leads_entry}
use Rattle.rewriting.proofs.Runs.{fires_run, run_onward, run_append}

-- One holds of the tree of a symbol, and All of that of a list, whenever they hold of its parts.
pub record ByParts (Q : Question) (R : Rules) (One : ℕ → ℕ → ℕ → List ℕ → Type 0) (All : ℕ → List ℕ → ℕ → List ℕ → Type 0) : Type 0 where
  pub on_asked : (s : ℕ) → Mark s → One Q.asker s Q.keys []
  pub on_by : (i k s a : ℕ) (ch : List ℕ) → Fires R i k s → Reads Q R (R.rule i).to (R.rule i).writes a ch →
      All (R.rule i).to (R.rule i).writes a ch → One k s a (i ∷ ch)
  pub on_stays : (k : ℕ) → All k [] k []
  pub on_goes : (k s p : ℕ) (w : List ℕ) (a : ℕ) (c d : List ℕ) → Brings Q R k s p c → One k s p c →
      Reads Q R p w a d → All p w a d → All k (s ∷ w) a (c ++ d)

-- Then they hold of every tree.
module _ {Q : Question} {R : Rules} {One : ℕ → ℕ → ℕ → List ℕ → Type 0} {All : ℕ → List ℕ → ℕ → List ℕ → Type 0}
    (parts : ByParts Q R One All) where
  pub brings_induction : {k s a : ℕ} {ch : List ℕ} → Brings Q R k s a ch → One k s a ch
  brings_induction b = elim b as (λ k s a ch x. One k s a ch) (λ k w a ch x. All k w a ch) [
    | asked {s = s} h ↦ parts.on_asked s h
    | by {k = k} {s = s} {a = a} {ch = ch} i f (t → q) ↦ parts.on_by i k s a ch f t q
    | stays {k = k} ↦ parts.on_stays k
    | goes {k = k} {s = s} {p = p} {a = a} {w = w} {c = c} {d = d} (b → x) (t → q) ↦ parts.on_goes k s p w a c d b x t q
  ]

  pub reads_induction : {k a : ℕ} {w ch : List ℕ} → Reads Q R k w a ch → All k w a ch
  reads_induction stays = parts.on_stays _
  reads_induction (goes b t) = parts.on_goes _ _ _ _ _ _ _ b (brings_induction b) t (reads_induction t)

-- From a run to a tree: a reading of two lists one after the other is a reading of each.
record Split (Q : Question) (R : Rules) (k : ℕ) (u w : List ℕ) (a : ℕ) (ch : List ℕ) : Type 0 where
  place : ℕ
  first : List ℕ
  second : List ℕ
  joins : ch ≡ first ++ second
  before : Reads Q R k u place first
  behind : Reads Q R place w a second

module _ {Q : Question} {R : Rules} where
  split : {k a : ℕ} {ch : List ℕ} (u w : List ℕ) → Reads Q R k (u ++ w) a ch → Split Q R k u w a ch
  split {k} {ch = ch} [] w t = record { place = k; first = []; second = ch; joins = refl; before = stays; behind = t }
  split (s ∷ u) w (goes {c = c} b t) =
      let r = split u w t in
      record {
        place = r.place;
        first = c ++ r.first;
        second = r.second;
        joins = ap (λ x. c ++ x) r.joins ∙ sym (append_assoc c r.first r.second);
        before = goes b r.before;
        behind = r.behind;
      }

  -- A run that ends at the asker with a mark is a reading of its first word.
  run_reads : (ch : List ℕ) (k : ℕ) (u : List ℕ) (m : ℕ) → Mark m →
      run R ch (record { key = k; word = u }) ≡ some (at Q.asker m) → Reads Q R k u Q.keys ch
  unfolding run
  run_reads [] k u m h e =
      let f = some-injective (record { key = k; word = u }) (at Q.asker m) e in
      rw (ap (λ (c : Config). c.key) f, ap (λ (c : Config). c.word) f) (goes (asked h) stays)
  run_reads (i ∷ ch) k u m h e =
      let o = run_onward R i k u ch (at Q.asker m) e in
      let r = run_reads ch (R.rule i).to ((R.rule i).writes ++ o.rest) m h o.goes_on in
      prepend i o.word o.fires (split (R.rule i).writes o.rest r)
    where
      prepend : {k s a : ℕ} {u w ch : List ℕ} (i : ℕ) → u ≡ s ∷ w → Fires R i k s →
          Split Q R (R.rule i).to (R.rule i).writes w a ch → Reads Q R k u a (i ∷ ch)
      prepend i e f r = rw (e, r.joins) (goes (by i f r.before) r.behind)

  single : {k s a : ℕ} {ch : List ℕ} → Reads Q R k (s ∷ []) a ch → Brings Q R k s a ch
  single (goes {c = c} b stays) = rw (append-nil c) b

-- From a tree to a run: a run has arrived at a key, with the rest v of the word; or, where the place is the end, at the asker with
-- a mark before v.
Arrived : Question → ℕ → List ℕ → Option Config → Type 0
Arrived Q a v o =
    ((a < Q.keys) × (o ≡ some (record { key = a; word = v })))
    ⊎ ((a ≡ Q.keys) × (m : ℕ) × Mark m × (o ≡ some (record { key = Q.asker; word = m ∷ v })))

module _ {Q : Question} {R : Rules} (ok : Lawful Q R) where
  starts : {k s a : ℕ} {ch : List ℕ} → Brings Q R k s a ch → k < Q.keys
  starts (asked h) = ok.asker_is_key
  starts (by i f t) = rw f.issuer at (ok.certificates i f.there).issuer

  -- Nothing is read at the end.
  at_end : {k a : ℕ} {u ch : List ℕ} → Reads Q R k u a ch → k ≡ Q.keys → (u ≡ []) × (a ≡ Q.keys) × (ch ≡ [])
  at_end stays e = (refl, e, refl)
  at_end (goes b t) e = absurd (omega (arith, starts b))

  arrives_on : {p a : ℕ} {w d : List ℕ} (v c : List ℕ) (x : Config) → Arrived Q p (w ++ v) (run R c x) → Reads Q R p w a d →
      (p < Q.keys → Arrived Q a v (run R d (record { key = p; word = w ++ v }))) → Arrived Q a v (run R (c ++ d) x)
  unfolding Arrived bind run
  arrives_on {d = d} v c x (inl h) t next = rw (run_append R c d x, h.1) (next h.0)
  arrives_on {w = w} {d = d} v c x (inr h) t next =
      let z = at_end t h.0 in
      inr (
        z.1,
        h.1,
        h.2,
        run_append R c d x ∙ ap (λ o. bind o (run R d)) h.3
            ∙ ap (λ l. run R l (record { key = Q.asker; word = h.1 ∷ (w ++ v) })) z.2
            ∙ ap (λ l. some (record { key = Q.asker; word = h.1 ∷ (l ++ v) })) z.0,
      )

  arriving : ByParts Q R
      (λ k s a ch. (v : List ℕ) → Arrived Q a v (run R ch (record { key = k; word = s ∷ v })))
      (λ k w a ch. k < Q.keys → (v : List ℕ) → Arrived Q a v (run R ch (record { key = k; word = w ++ v })))
  unfolding Arrived run
  arriving = record {
    on_asked = λ s h v. inr (refl, s, h, refl);
    on_by = λ i k s a ch f t next v. rw (fires_run R i k s v ch f) (next (ok.certificates i f.there).subject v);
    on_stays = λ k h v. inl (h, refl);
    on_goes = λ k s p w a c d b one t all h v. arrives_on v c (record { key = k; word = s ∷ (w ++ v) }) (one (w ++ v)) t (λ hp. all hp v);
  }

  -- Chains are what brings the owner's mark 10 to the end.
  pub chain_brings : (owner : ℕ) (ch : List ℕ) → Chain R owner Q.asker ch ↔ Brings Q R owner delegate Q.keys ch
  unfolding Arrived
  chain_brings owner ch = (
    ⊎_elim (λ e. single (run_reads ch owner _ delegate (inl refl) e)) (λ e. single (run_reads ch owner _ access (inr refl) e)),
    λ b. ⊎_elim (λ h. absurd (omega arith)) (λ h. marked h.1 h.2 h.3) (brings_induction arriving b []),
  )
    where
      marked : (m : ℕ) → Mark m → run R ch (at owner delegate) ≡ some (at Q.asker m) → Chain R owner Q.asker ch
      marked m (inl h) e = inl (rw h at e)
      marked m (inr h) e = inr (rw h at e)

  entering : ByParts Q R (λ k s a ch. Entry Q.keys k s a) (λ k w a ch. k < Q.keys → Leads Q.keys w a)
  entering = record {
    on_asked = λ s h. (ok.asker_is_key, inr (h, refl));
    on_by = λ i k s a ch f t next. let c = ok.certificates i f.there in leads_entry f c (next c.subject);
    on_stays = λ k h. (λ n. h, λ c. absurd c);
    on_goes = λ k s p w a c d b e t next h. leads_on e.1 next (λ empty end. (at_end t end).1);
  }

  -- What a tree brings about is an entry.
  pub brings_entry : {k s a : ℕ} {ch : List ℕ} → Brings Q R k s a ch → Entry Q.keys k s a
  brings_entry = brings_induction entering
