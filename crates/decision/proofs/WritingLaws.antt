-- Laws of writing out the chain: which certificate brings an entry about, and lists written one after the other.
use mathlib.Core.Path.{◌≡◌, refl, sym, ap, ap₂, ◌∙◌, subst}
use mathlib.Core.Logic.{◌⊎◌, inl, inr, ⊎_elim, by_cases}
use mathlib.Core.Bool.{Bool, true, false, ◌&&◌, true≢false}
use mathlib.Core.List.{List, [], ◌∷◌, ◌++◌, append-nil, append_assoc}
use Prim.Native.Nat.{ℕ, suc, ◌+◌, ◌<◌, ◌≤◌, min}
use native.Mathlib.Nat.{add-zero, add-suc, suc-add}
use native.Mathlib.Numerals.{add-one}
use native.Mathlib.Omega.{arith}
use native.Mathlib.Decide.{ℕ_discrete}
use borrow.Author.Tests.{eq-eqb, eqb-true}
use lib.Dec.{eqb}
use lib.ListN.{length, get_or, take, drop, set, length-append}
use lib.Seq.{sets, length-sets, drop-cons, drop-length, take-suc, take-length}
use Rattle.std.proofs.lemmas.Grind.{not_there}
use Rattle.wac.specs.Limits.{keys, chain_places, end_place}
use Rattle.wac.specs.File.{count_of, cert_at}
use Rattle.wac.specs.declared.cert.Cert.{Cert}
use Rattle.wac.proofs.FileLaws.{file_kept}
use Rattle.rewriting.specs.Weighing.{minutes, steps, uncounted}
use Rattle.rewriting.specs.Rewriting.{Rules, Question}
use Rattle.rewriting.specs.Entries.{Mark, Lawful, Brings, Reads, asked, by, stays, goes}
use Rattle.rewriting.specs.Passes.{Table, reading, fires}
use Rattle.rewriting.specs.Steps.{by_steps, kept}
use Rattle.rewriting.proofs.Tests.{by_test, both_true}
use Rattle.rewriting.proofs.Passing.{over_from, fires_fact, fires_test}
use Rattle.rewriting.proofs.Complete.{start_mark}
use Rattle.rewriting.proofs.WriteOut.{steps_entry, steps_nothing, steps_symbol}
use Rattle.decision.specs.Usable.{symbols_of, rules_of}
use Rattle.decision.specs.Lens.{question_by, rules_by, live_by}
use Rattle.decision.specs.Table.{is_entry, table_of}
use Rattle.decision.specs.Engine.{Accepted, Within, held}
use Rattle.decision.specs.Writing.{steps_at, steps_read, StepsTable, brings, Bringing, Wrote, Entered, ReadBy}
use Rattle.decision.specs.declared.request.Request.{Request}
use Rattle.decision.specs.declared.entries.Entry.{Entry}
use Rattle.decision.specs.declared.lens.Lens.TheVariants.{Minutes, Steps}
use Rattle.decision.specs.declared.writing.LastSteps.{LastSteps}
use Rattle.decision.proofs.RulesLaws.{rules_live, inquiry_lawful}
use Rattle.decision.proofs.ReadingLaws.{reading_asker}

-- steps go up to 201
steps_read_fits : (Q : Question) (t : Table) (w : List ℕ) (p a : ℕ) → reading (by_steps Q) t p w a ≤ uncounted
unfolding reading steps
steps_read_fits Q t [] p a = by_test (λ x. x ≤ uncounted) (eqb p a) (λ e. omega arith) (λ e. omega arith)
steps_read_fits Q t (s ∷ w) p a =
    let o = over_from steps Q.keys (λ r. min uncounted (t p s r + reading (by_steps Q) t r w a)) in
    omega (arith, o.2)

pub read_fits : (floor : ℕ) (l : List ℕ) (c : Cert) (j from to : ℕ) → steps_read floor l c j from to ≤ uncounted
read_fits floor l c j from to = steps_read_fits (question_by Minutes 0) (held (Steps floor) l) (drop j (symbols_of c)) from to

pub at_fits : (floor : ℕ) (l : List ℕ) (k x a : ℕ) → Within (Steps floor) l → steps_at floor l k x a ≤ uncounted
unfolding table_of steps
at_fits floor l k x a w = by_test (λ n. n ≤ uncounted) (is_entry k x a) (λ e. w.fits _) (λ e. omega arith)

-- the tests of a certificate that brings an entry about
abbrev pub passes : Request → ℕ → List ℕ → Cert → ℕ → ℕ → ℕ → Bool
passes q floor l c k x a =
    ((live_by (Steps floor) q c && eqb c.issuer k) && eqb c.left x) && eqb (steps_read floor l c 0 c.subject a + 1) (steps_at floor l k x a)

-- the definition's tests are these
pub brings_tests : (t : LastSteps) (i : ℕ) (e : Entry) (c : Cert) → c ≡ cert_at t.inquiry.file.now i →
    brings t.inquiry.file.now t.inquiry.request t.floor t.table.now i e.key e.symbol e.place ≡ passes t.inquiry.request t.floor t.table.now c e.key e.symbol e.place
unfolding brings fires kept rules_of
brings_tests t i e c same =
    let d = cert_at t.inquiry.file.now i in
    let read = eqb (steps_read t.floor t.table.now d 0 d.subject e.place + 1) (steps_at t.floor t.table.now e.key e.symbol e.place) in
    ap (λ b. ((b && eqb d.issuer e.key) && eqb d.left e.symbol) && read) (rules_live (Steps t.floor) t.inquiry.file.now t.inquiry.request i)
    ∙ ap (λ d. passes t.inquiry.request t.floor t.table.now d e.key e.symbol e.place) (sym same)

-- a certificate that passes the test brings the entry about
pub brings_fact : (s : List ℕ) (q : Request) (floor : ℕ) (l : List ℕ) (k x a i : ℕ) {r : Bool} → i < count_of s → r ≡ brings s q floor l i k x a → r ≡ true → Bringing s q floor l k x a i
unfolding brings kept rules_of
brings_fact s q floor l k x a i below is e =
    let both = both_true (sym is ∙ e) in
    record { fires = fires_fact below both.0; steps = sym (eqb-true _ _ both.1) ∙ add-one _ }

module _ {s : List ℕ} {q : Request} {floor : ℕ} {l : List ℕ} {k x a i : ℕ} (b : Bringing s q floor l k x a i) where
  -- such a certificate is one of the file's,
  pub bringing_below : i < count_of s
  unfolding kept rules_of
  bringing_below = b.fires.there

  -- so a byte holds its number,
  pub bringing_small : Accepted s → i < 256
  bringing_small ok = omega (arith, bringing_below, (file_kept s ok).0.few)

  -- and its subject reads one step less
  pub bringing_steps : {c : Cert} → c ≡ cert_at s i → steps_at floor l k x a ≡ suc (steps_read floor l c 0 c.subject a)
  bringing_steps same = b.steps ∙ ap (λ d. suc (steps_read floor l d 0 d.subject a)) (sym same)

-- an equation that cannot fail holds, and so does a mark
held_equal : (a b : ℕ) → ((a ≡ b → ⊥) → ⊥) → a ≡ b
held_equal a b h = by_cases (ℕ_discrete a b) (λ e. e) (λ n. absurd (h n))

held_mark : (x : ℕ) → ((Mark x → ⊥) → ⊥) → Mark x
held_mark x h = by_cases (ℕ_discrete x 10) inl (λ n. by_cases (ℕ_discrete x 11) inr (λ m. absurd (h (⊎_elim n m))))

-- the last table of steps of an accepted file
module _ {s : List ℕ} {q : Request} {floor : ℕ} {l : List ℕ} (lawful : Lawful (question_by Minutes q.asker) (rules_by Minutes s q)) (table : StepsTable s q floor l) where
  -- the asker's own marks have no steps
  own_none : (k x a : ℕ) → k ≡ q.asker → Mark x → a ≡ keys → steps_at floor l k x a ≡ 0
  unfolding steps
  own_none k x a e m f =
      let below = table.last.started q.asker x keys (table.asker, inr (m, refl)) in
      let least = rw (start_mark (question_by (Steps floor) q.asker) x m) at below in
      rw (e, f) (omega arith)

  -- where the steps of an entry come from: it is one of the asker's marks, or a certificate brings it about
  Step : ℕ → ℕ → ℕ → Type 0
  Step k x a = ((k ≡ q.asker) × Mark x × (a ≡ keys)) ⊎ ((i : ℕ) × Bringing s q floor l k x a i)

  entry_step : (k x a : ℕ) → steps_at floor l k x a ≤ chain_places → Step k x a
  unfolding kept rules_of Step
  entry_step k x a h = ⊎_elim inl
      (λ r. inr (r.0, record { fires = r.1; steps = r.2 ∙ ap suc (reading_asker (Steps floor) q.asker 0 (held (Steps floor) l) _ _ a) }))
      (steps_entry lawful minutes floor table.last k x a (omega arith))

  -- some certificate below the count brings about an entry that has steps
  step_some : (k x a : ℕ) → steps_at floor l k x a ≤ chain_places → (steps_at floor l k x a ≡ 0 → ⊥) →
      ((i : ℕ) → i < count_of s → brings s q floor l i k x a ≡ false) → ⊥
  unfolding kept rules_of brings Step
  step_some k x a h some none = ⊎_elim
      (λ o. some (own_none k x a o.0 o.1 o.2))
      (λ r.
      let yes : brings s q floor l r.0 k x a ≡ true = rw (fires_test r.1.fires) (eq-eqb _ _ (add-one _ ∙ sym r.1.steps)) in
      true≢false (sym yes ∙ none r.0 r.1.fires.there))
      (entry_step k x a h)

  -- an entry of no steps is one of the asker's marks
  step_own : (k x a : ℕ) → steps_at floor l k x a ≡ 0 → (k ≡ q.asker) × Mark x × (a ≡ keys)
  unfolding Step
  step_own k x a z = ⊎_elim (λ o. o) (λ r. absurd (omega (arith, r.1.steps))) (entry_step k x a (omega arith))

module _ (t : LastSteps) where
  -- some certificate of the file brings about an entry that has steps
  pub bringing_some : (e : Entry) → steps_at t.floor t.table.now e.key e.symbol e.place ≤ chain_places → (steps_at t.floor t.table.now e.key e.symbol e.place ≡ 0 → ⊥) →
      ((i : ℕ) → i < count_of t.inquiry.file.now → brings t.inquiry.file.now t.inquiry.request t.floor t.table.now i e.key e.symbol e.place ≡ false) → ⊥
  bringing_some e h some none = not_there t.last (λ table. step_some (inquiry_lawful t.inquiry Minutes) table e.key e.symbol e.place h some none)

  -- an entry of no steps is one of the asker's marks, and writes nothing
  pub entry_none : (e : Entry) {at n : ℕ} {ch : List ℕ} → n ≡ steps_at t.floor t.table.now e.key e.symbol e.place → n ≡ 0 →
      Wrote (Entered t.inquiry.file.now t.inquiry.request t.floor e.key e.symbol e.place) at (steps_at t.floor t.table.now e.key e.symbol e.place) ch ch at
  entry_none e is z =
      let own = λ (table : StepsTable t.inquiry.file.now t.inquiry.request t.floor t.table.now). step_own (inquiry_lawful t.inquiry Minutes) table e.key e.symbol e.place (sym is ∙ z) in
      let key = held_equal e.key t.inquiry.request.asker (λ n. not_there t.last (λ table. n (own table).0)) in
      let mark = held_mark e.symbol (λ n. not_there t.last (λ table. n (own table).1)) in
      let place = held_equal e.place keys (λ n. not_there t.last (λ table. n (own table).2)) in
      record { list = []; long = sym z ∙ is; holds = rw (key, place) (asked mark); next = omega arith; written = refl }

-- symbol j of a certificate's right side goes to the place p in a best reading
abbrev pub Goes : ℕ → List ℕ → Cert → ℕ → ℕ → ℕ → ℕ → Type 0
Goes floor l c j from to p =
    steps_read floor l c j from to ≡ steps_at floor l from (get_or (symbols_of c) j 0) p + steps_read floor l c (j + 1) p to

-- it goes to some place
place_found : (floor : ℕ) (l : List ℕ) (c : Cert) (j from to : ℕ) → j < length (symbols_of c) → steps_read floor l c j from to ≤ chain_places →
    (p : ℕ) × (p ≤ end_place) × Goes floor l c j from to p
place_found floor l c j from to h short =
    let cons : drop j (symbols_of c) ≡ get_or (symbols_of c) j 0 ∷ drop (j + 1) (symbols_of c) = rw (add-one j) (drop-cons (symbols_of c) j 0 h) in
    let read : ℕ → List ℕ → ℕ = λ p w. reading (question_by (Steps floor) 0) (held (Steps floor) l) p w to in
    let at : read from (get_or (symbols_of c) j 0 ∷ drop (j + 1) (symbols_of c)) < uncounted = rw (← cons) (omega arith) in
    let r = steps_symbol (question_by Minutes 0) (held (Steps floor) l) from (get_or (symbols_of c) j 0) (drop (j + 1) (symbols_of c)) to at in
    (r.0, r.1, ap (read from) cons ∙ r.2)

module _ (floor : ℕ) (l : List ℕ) (c : Cert) (j from to : ℕ) where
  -- where no place below the end will do, the end does
  pub place_last : (p : ℕ) → j < length (symbols_of c) → steps_read floor l c j from to ≤ chain_places → end_place ≤ p → p ≤ end_place →
      ((r : ℕ) → r < p → Goes floor l c j from to r → ⊥) → Goes floor l c j from to p
  place_last p h short low high none = turn (place_found floor l c j from to h short)
    where
      turn : (r : ℕ) × (r ≤ end_place) × Goes floor l c j from to r → Goes floor l c j from to p
      turn r = by_cases (ℕ_discrete r.0 p) (λ e. subst (Goes floor l c j from to) e r.2) (λ e. absurd (none r.0 (omega (arith, r.1)) r.2))

-- a run of stores, and another after it
sets_append : (l : List ℕ) (i : ℕ) (xs ys : List ℕ) → sets l i (xs ++ ys) ≡ sets (sets l i xs) (i + length xs) ys
sets_append l i [] ys = rw (add-zero i)
sets_append l i (x ∷ xs) ys = sets_append _ (suc i) xs ys ∙ ap (λ (k : ℕ). sets (sets l i (x ∷ xs)) k ys) (suc-add i (length xs) ∙ sym (add-suc i (length xs)))

-- a reading, and one symbol more
reads_snoc : {Q : Question} {R : Rules} {k p a s : ℕ} {w c d : List ℕ} → Reads Q R k w p c → Brings Q R p s a d → Reads Q R k (w ++ s ∷ []) a (c ++ d)
reads_snoc {d = d} stays b = rw (← append-nil d) (goes b stays)
reads_snoc {d = d} (goes {c = c} {d = e} f r) b = rw (append_assoc c e d) (goes f (reads_snoc r b))

-- what is written after a number is written after any that is the same
pub written_after : {P : List ℕ → Type 0} {at n v i : ℕ} {ch' : List ℕ} {r : ℕ} (place : ℕ) (ch : List ℕ) → v ≡ i → Wrote P at n (set ch place v) ch' r → Wrote P at n (set ch place i) ch' r
written_after {P} {at} {n} {ch' = ch'} {r} place ch e w = subst (λ x. Wrote P at n (set ch place x) ch' r) e w

-- an entry's own certificate, and then what its subject reads
pub entry_own : {s : List ℕ} {q : Request} {floor : ℕ} {l : List ℕ} {k x a i : ℕ} {c : Cert} {at : ℕ} {ch ch' : List ℕ} {r : ℕ} →
    Bringing s q floor l k x a i → c ≡ cert_at s i →
    Wrote (ReadBy s q floor c a) (at + 1) (steps_read floor l c 0 c.subject a) (set ch at i) ch' r →
    Wrote (Entered s q floor k x a) at (steps_at floor l k x a) ch ch' r
unfolding kept rules_of
entry_own {s = s} {q = q} {floor = floor} {a = a} {i = i} {at = at} {ch = ch} b same w =
    let steps = bringing_steps b same in
    record {
      list = i ∷ w.list;
      long = ap suc w.long ∙ sym steps;
      holds = by i b.fires (subst (λ d. ReadBy s q floor d a w.list) same w.holds);
      next = omega (arith, w.next);
      written = w.written ∙ ap (λ n. sets (set ch at i) n w.list) (add-one at);
    }

-- the chains by which a word is read from a certificate's subject to a place
abbrev pub ReadsOf : List ℕ → Request → ℕ → Cert → List ℕ → ℕ → List ℕ → Type 0
ReadsOf s q floor c w a ch = Reads (question_by (Steps floor) q.asker) (rules_by (Steps floor) s q) c.subject w a ch

-- a list is written with which j symbols of a certificate's right side are read from its subject, and the rest of the steps is left
pub record Part (s : List ℕ) (q : Request) (floor : ℕ) (l : List ℕ) (c : Cert) (to at : ℕ) (ch ch' : List ℕ) (next from j : ℕ) : Type 0 where
  pub symbols : j ≤ length (symbols_of c)
  pub list : List ℕ
  pub holds : ReadsOf s q floor c (take j (symbols_of c)) from list
  pub goes_on : next ≡ at + length list
  pub written : ch' ≡ sets ch at list
  pub left : steps_read floor l c 0 c.subject to ≡ length list + steps_read floor l c j from to

module _ {s : List ℕ} {q : Request} {floor : ℕ} {l : List ℕ} {c : Cert} {to at : ℕ} {ch : List ℕ} where
  -- before the first symbol nothing is written
  pub part_none : Part s q floor l c to at ch ch at c.subject 0
  part_none = record { symbols = omega arith; list = []; holds = stays; goes_on = omega arith; written = refl; left = omega arith }

  -- the next symbol's entry
  pub part_more : {ch₁ ch₂ : List ℕ} {next from j place r symbol : ℕ} → Part s q floor l c to at ch ch₁ next from j → j < length (symbols_of c) →
      symbol ≡ get_or (symbols_of c) j 0 →
      Goes floor l c j from to place →
      Wrote (Entered s q floor from symbol place) next (steps_at floor l from symbol place) ch₁ ch₂ r →
      Part s q floor l c to at ch ch₂ r place (j + 1)
  part_more {from = from} {j = j} {place = place} {symbol = symbol} p h e went w =
      let same : steps_at floor l from symbol place ≡ steps_at floor l from (get_or (symbols_of c) j 0) place = ap (λ x. steps_at floor l from x place) e in
      let word : take j (symbols_of c) ++ symbol ∷ [] ≡ take (j + 1) (symbols_of c) = ap (λ x. take j (symbols_of c) ++ x ∷ []) e ∙ sym (rw (add-one j) (take-suc (symbols_of c) j 0 h)) in
      let long = length-append p.list w.list in
      record {
        symbols = omega arith;
        list = p.list ++ w.list;
        holds = subst (λ u. ReadsOf s q floor c u place (p.list ++ w.list)) word (reads_snoc p.holds w.holds);
        goes_on = omega (arith, p.goes_on, w.next, w.long);
        written = w.written ∙ ap₂ (λ (m : List ℕ) (n : ℕ). sets m n w.list) p.written p.goes_on ∙ sym (sets_append ch at p.list w.list);
        left = omega (arith, p.left, w.long);
      }

  -- nothing is written past the end
  pub part_length : {ch' : List ℕ} {next from j : ℕ} → Part s q floor l c to at ch ch' next from j → length ch' ≡ length ch
  part_length p = ap length p.written ∙ length-sets ch at p.list

  -- the next symbol's entry has no more steps than the whole, and there is room for it
  pub part_room : (place : ℕ) {ch' : List ℕ} {next from j symbol : ℕ} → Part s q floor l c to at ch ch' next from j → symbol ≡ get_or (symbols_of c) j 0 →
      Goes floor l c j from to place →
      at + steps_read floor l c 0 c.subject to ≤ length ch →
      (steps_at floor l from symbol place ≤ steps_read floor l c 0 c.subject to) × (next + steps_at floor l from symbol place ≤ length ch')
  part_room place {from = from} {j = j} {symbol = symbol} p e went room =
      let same : steps_at floor l from symbol place ≡ steps_at floor l from (get_or (symbols_of c) j 0) place = ap (λ x. steps_at floor l from x place) e in
      (omega (arith, p.left), omega (arith, p.left, p.goes_on, part_length p))

  -- after the last symbol the whole right side is read
  pub part_all : {ch' : List ℕ} {next from j : ℕ} → Part s q floor l c to at ch ch' next from j → length (symbols_of c) ≤ j →
      steps_read floor l c 0 c.subject to ≤ chain_places → Wrote (ReadBy s q floor c to) at (steps_read floor l c 0 c.subject to) ch ch' next
  part_all {from = from} {j = j} p h short =
      let all : j ≡ length (symbols_of c) = omega (arith, p.symbols) in
      let none : drop j (symbols_of c) ≡ [] = ap (λ n. drop n (symbols_of c)) all ∙ drop-length (symbols_of c) in
      let word : take j (symbols_of c) ≡ symbols_of c = ap (λ n. take n (symbols_of c)) all ∙ take-length (symbols_of c) in
      let read : List ℕ → ℕ = λ w. reading (question_by (Steps floor) 0) (held (Steps floor) l) from w to in
      let rest : steps_read floor l c j from to ≡ read [] = ap read none in
      let end = steps_nothing (question_by Minutes 0) (held (Steps floor) l) from to (omega (arith, p.left)) in
      record {
        list = p.list;
        long = omega (arith, p.left, end.1);
        holds = subst (λ a. ReadsOf s q floor c (symbols_of c) a p.list) end.0 (subst (λ u. ReadsOf s q floor c u from p.list) word p.holds);
        next = omega (arith, p.goes_on, p.left, end.1);
        written = p.written;
      }
