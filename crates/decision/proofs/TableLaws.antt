-- Laws of entries and their numbers, and of the table that a list holds.
use mathlib.Core.Path.{◌≡◌, refl, sym, ap, ◌∙◌, subst}
use mathlib.Core.Bool.{Bool, true, false, cond, ◌&&◌}
use mathlib.Core.Logic.{◌⊎◌, inl, inr, ⊎_elim, by_cases}
use mathlib.Core.List.{List}
use Prim.Native.Nat.{ℕ, ◌+◌, ◌-◌, ◌*◌, ◌/◌, ◌%◌, ◌<◌, ◌≤◌}
use native.Mathlib.Omega.{arith}
use native.Mathlib.Decide.{ℕ_discrete}
use borrow.Author.Tests.{ltb-true, ltb-false, leb-true, eqb-true, lt-ltb, le-ltb, le-leb, eq-eqb}
use lib.Dec.{leb, ltb, eqb}
use lib.ListN.{length, get_or, take, drop, set}
use lib.Seq.{length-take-le, get_or-take, get_or-drop, ext_get_or, get_or-set_same, get_or-set_other}
use Rattle.std.specs.Prelude.{Option, Some, None}
use Rattle.std.specs.Option.{unwrap_or}
use Rattle.wac.specs.Limits.{keys, identifiers, access, end_place, named_entries, entries}
use Rattle.std.proofs.lemmas.Bool.{and_parts}
use Rattle.wac.proofs.RoundTrip.{length_listed, get_d_listed}
use Rattle.rewriting.specs.Entries.{Mark, Arrival, Entry}
use Rattle.rewriting.specs.Passes.{Table}
use Rattle.rewriting.specs.Tables.{Held}
use Rattle.rewriting.proofs.Tests.{by_test}
use Rattle.rewriting.proofs.Held.{held_same}
use Rattle.decision.specs.Lens.{weighing_of, question_by}
use Rattle.decision.specs.Table.{is_entry, arrivals_of, number, entry_number, NumberOf, key_of, symbol_of, arrival_of, table_of, row_of}
use Rattle.decision.specs.Engine.{Within, held}
use Rattle.decision.specs.declared.lens.Lens.{Lens}

-- the test says exactly what an entry is
pub entry_of_lem : (k s a : ℕ) → is_entry k s a ≡ true → Entry keys k s a
unfolding is_entry
entry_of_lem k s a e =
    let both = and_parts _ _ e in
    (ltb-true k keys both.0, turn (ltb s identifiers) refl both.1)
  where
    turn : (b : Bool) → ltb s identifiers ≡ b → cond b (ltb a keys) (leb s access && eqb a end_place) ≡ true → Arrival keys s a
    turn true t h = inl (ltb-true s identifiers t, ltb-true a keys h)
    turn false t h =
        let both = and_parts _ _ h in
        let low = ltb-false s identifiers t in
        let high = leb-true s access both.0 in
        inr (by_cases (ℕ_discrete s 10) inl (λ n. inr (omega arith)), eqb-true a end_place both.1)

-- a mark is 10 or 11
mark_low : (s : ℕ) → Mark s → 10 ≤ s
mark_low s (inl e) = omega arith
mark_low s (inr e) = omega arith

mark_high : (s : ℕ) → Mark s → s ≤ 11
mark_high s (inl e) = omega arith
mark_high s (inr e) = omega arith

pub is_entry_lem : (k s a : ℕ) → Entry keys k s a → is_entry k s a ≡ true
unfolding is_entry
is_entry_lem k s a e = rw (lt-ltb k keys e.0) (⊎_elim
    (λ n. rw (lt-ltb s identifiers n.0) (lt-ltb a keys n.1))
    (λ m. rw (le-ltb s identifiers (mark_low s m.0), le-leb s access (mark_high s m.0), eq-eqb a end_place m.1))
    e.1)

-- a symbol's entries arrive at its places, and at no others
module _ (k s a : ℕ) where
  pub arrives : is_entry k s a ≡ true → ((arrivals_of s).start ≤ a) × (a < (arrivals_of s).end)
  unfolding arrivals_of
  arrives t = ⊎_elim
      (λ n. rw (lt-ltb s identifiers n.0) (omega arith, n.1))
      (λ m. rw (le-ltb s identifiers (mark_low s m.0), m.1) (omega arith, omega arith))
      (entry_of_lem k s a t).1

  pub arrives_back : k < keys → s ≤ access → (arrivals_of s).start ≤ a → a < (arrivals_of s).end → is_entry k s a ≡ true
  unfolding arrivals_of
  arrives_back h high = turn (ltb s identifiers) refl
    where
      turn : (b : Bool) → ltb s identifiers ≡ b → cond b 0 end_place ≤ a → a < cond b keys (end_place + 1) → is_entry k s a ≡ true
      turn true e low past = is_entry_lem k s a (h, inl (ltb-true s identifiers e, past))
      turn false e low past =
          let more = ltb-false s identifiers e in
          is_entry_lem k s a (h, inr (by_cases (ℕ_discrete s 10) inl (λ n. inr (omega arith)), omega arith))

-- an entry of an identifier arrives at a key, and one of a mark at the end place
pub name_entry : (k s a : ℕ) → is_entry k s a ≡ true → s < identifiers → (k < keys) × (a < keys)
name_entry k s a t h =
    let e = entry_of_lem k s a t in
    (e.0, ⊎_elim (λ n. n.1) (λ m. absurd (omega (arith, mark_low s m.0))) e.1)

pub mark_entry : (k s a : ℕ) → is_entry k s a ≡ true → identifiers ≤ s → (k < keys) × (s ≤ access) × (a ≡ end_place)
mark_entry k s a t h =
    let e = entry_of_lem k s a t in
    ⊎_elim (λ n. absurd (omega (arith, n.0))) (λ m. (e.0, mark_high s m.0, m.1)) e.1

-- the number of an entry of an identifier, and of a mark
pub number_named : (k s a : ℕ) → s < identifiers → number k s a ≡ (k * 10 + s) * 16 + a
unfolding number
number_named k s a h = rw (lt-ltb s identifiers h)

pub number_mark : (k s a : ℕ) → identifiers ≤ s → number k s a ≡ 2560 + (s - 10) * 16 + k
unfolding number
number_mark k s a h = rw (le-ltb s identifiers h)

module _ (e : ℕ) where
  key_named : e < named_entries → key_of e ≡ e / 16 / 10
  unfolding key_of
  key_named h = rw (lt-ltb e named_entries h)

  key_mark : named_entries ≤ e → key_of e ≡ e % 16
  unfolding key_of
  key_mark h = rw (le-ltb e named_entries h)

  symbol_named : e < named_entries → symbol_of e ≡ e / 16 % 10
  unfolding symbol_of
  symbol_named h = rw (lt-ltb e named_entries h)

  symbol_mark : named_entries ≤ e → symbol_of e ≡ 10 + (e - 2560) / 16
  unfolding symbol_of
  symbol_mark h = rw (le-ltb e named_entries h)

  arrival_named : e < named_entries → arrival_of e ≡ e % 16
  unfolding arrival_of
  arrival_named h = rw (lt-ltb e named_entries h)

  arrival_mark : named_entries ≤ e → arrival_of e ≡ 16
  unfolding arrival_of
  arrival_mark h = rw (le-ltb e named_entries h)

-- the number of an entry, with the two sorts of entry
module _ (k s a : ℕ) where
  pub data Numbered : Type 0 where
    named : k < 16 → s < 10 → a < 16 → number k s a ≡ (k * 10 + s) * 16 + a → Numbered
    marked : k < 16 → 10 ≤ s → s ≤ 11 → a ≡ 16 → number k s a ≡ 2560 + (s - 10) * 16 + k → Numbered

  pub numbered : is_entry k s a ≡ true → Numbered
  numbered t =
      let e = entry_of_lem k s a t in
      ⊎_elim
      (λ n. named e.0 n.0 n.1 (number_named k s a n.0))
      (λ m. marked e.0 (mark_low s m.0) (mark_high s m.0) m.1 (number_mark k s a (mark_low s m.0)))
      e.1

  pub number_low : is_entry k s a ≡ true → number k s a < entries
  number_low t = turn (numbered t)
    where
      turn : Numbered → number k s a < entries
      turn (named h i j n) = omega arith
      turn (marked h i j l n) = omega arith

  pub key_back : is_entry k s a ≡ true → key_of (number k s a) ≡ k
  key_back t = turn (numbered t)
    where
      turn : Numbered → key_of (number k s a) ≡ k
      turn (named h i j n) = key_named (number k s a) (omega arith) ∙ omega arith
      turn (marked h i j l n) = key_mark (number k s a) (omega arith) ∙ omega arith

  pub symbol_back : is_entry k s a ≡ true → symbol_of (number k s a) ≡ s
  symbol_back t = turn (numbered t)
    where
      turn : Numbered → symbol_of (number k s a) ≡ s
      turn (named h i j n) = symbol_named (number k s a) (omega arith) ∙ omega arith
      turn (marked h i j l n) = symbol_mark (number k s a) (omega arith) ∙ omega arith

  pub arrival_back : is_entry k s a ≡ true → arrival_of (number k s a) ≡ a
  arrival_back t = turn (numbered t)
    where
      turn : Numbered → arrival_of (number k s a) ≡ a
      turn (named h i j n) = arrival_named (number k s a) (omega arith) ∙ omega arith
      turn (marked h i j l n) = arrival_mark (number k s a) (omega arith) ∙ omega arith

-- the entry of a number, by the two sorts of number
sorts : (e : ℕ) → (e < named_entries) ⊎ (named_entries ≤ e)
sorts e = by_cases (ℕ_discrete (e / 2560) 0) (λ z. inl (omega arith)) (λ n. inr (omega arith))

module _ (e : ℕ) (low : e < entries) where
  pub entry_back : is_entry (key_of e) (symbol_of e) (arrival_of e) ≡ true
  entry_back = is_entry_lem _ _ _ (⊎_elim
      (λ h. rw (key_named e h, symbol_named e h, arrival_named e h) (omega arith, inl (omega arith, omega arith)))
      (λ h. rw (key_mark e h, symbol_mark e h, arrival_mark e h) (omega arith, inr (by_cases (ℕ_discrete (10 + (e - 2560) / 16) 10) inl (λ n. inr (omega arith)), refl)))
      (sorts e))

  pub number_back : number (key_of e) (symbol_of e) (arrival_of e) ≡ e
  number_back = ⊎_elim
      (λ h. (
      let k = key_named e h in
      let s = symbol_named e h in
      let a = arrival_named e h in
      let n = number_named (key_of e) (symbol_of e) (arrival_of e) (omega arith) in
      omega arith))
      (λ h. (
      let k = key_mark e h in
      let s = symbol_mark e h in
      let n = number_mark (key_of e) (symbol_of e) (arrival_of e) (omega arith) in
      omega arith))
      (sorts e)

-- what comes back for an entry, with 2,592 for none, is the number of `entry_number`
pub number_given : (k s a : ℕ) (r : Option ℕ) → NumberOf k s a r → unwrap_or r entries ≡ entry_number k s a
number_given k s a (Some n) e = rw e.0 e.1
number_given k s a None e = rw e

-- entries of one number are one entry
pub number_same : (k s a k' s' a' : ℕ) → is_entry k s a ≡ true → is_entry k' s' a' ≡ true → number k s a ≡ number k' s' a' → (k ≡ k') × (s ≡ s') × (a ≡ a')
number_same k s a k' s' a' t t' e = (
  sym (key_back k s a t) ∙ ap key_of e ∙ key_back k' s' a' t',
  sym (symbol_back k s a t) ∙ ap symbol_of e ∙ symbol_back k' s' a' t',
  sym (arrival_back k s a t) ∙ ap arrival_of e ∙ arrival_back k' s' a' t',
)

-- a store at an entry is read there, and changes no other entry
module _ (l : List ℕ) (long : entries ≤ length l) (k s a : ℕ) (t : is_entry k s a ≡ true) (v : ℕ) where
  pub set_here : get_or (set l (number k s a) v) (number k s a) 0 ≡ v
  set_here = let low = number_low k s a t in get_or-set_same l (number k s a) v 0 (omega arith)

  pub set_there : (k' s' a' : ℕ) → is_entry k' s' a' ≡ true → (k ≡ k' → s ≡ s' → a ≡ a' → ⊥) → get_or (set l (number k s a) v) (number k' s' a') 0 ≡ get_or l (number k' s' a') 0
  set_there k' s' a' t' other = get_or-set_other l (number k s a) (number k' s' a') v 0 (λ e.
      let same = number_same k s a k' s' a' t t' (sym e) in
      other same.0 same.1 same.2)

-- the list that holds a table: its weights at the entries
module _ (t : Table) where
  pub length_row : length (row_of t) ≡ entries
  unfolding row_of
  length_row = length_listed entries _

  row_number : (e : ℕ) → e < entries → get_or (row_of t) e 0 ≡ t (key_of e) (symbol_of e) (arrival_of e)
  unfolding row_of
  row_number e h = get_d_listed entries (λ e. t (key_of e) (symbol_of e) (arrival_of e)) e 0 h

  pub row_entry : (k s a : ℕ) → is_entry k s a ≡ true → get_or (row_of t) (number k s a) 0 ≡ t k s a
  row_entry k s a h = row_number (number k s a) (number_low k s a h) ∙ rw (key_back k s a h, symbol_back k s a h, arrival_back k s a h)

  module _ (l : List ℕ) where
    -- a list agrees with the table at every entry exactly if its first 2,592 places are the table's list
    pub row_same : entries ≤ length l → ((k s a : ℕ) → is_entry k s a ≡ true → get_or l (number k s a) 0 ≡ t k s a) → take entries l ≡ row_of t
    row_same long same = ext_get_or 0 (take entries l) (row_of t) (length-take-le entries l long ∙ sym length_row) (λ i h.
        let low : i < entries = omega (arith, length-take-le entries l long) in
        get_or-take entries l i 0 low ∙ ap (λ n. get_or l n 0) (sym (number_back i low)) ∙ same _ _ _ (entry_back i low) ∙ sym (row_number i low))

    pub row_at : take entries l ≡ row_of t → (k s a : ℕ) → is_entry k s a ≡ true → get_or l (number k s a) 0 ≡ t k s a
    row_at e k s a h = sym (get_or-take entries l (number k s a) 0 (number_low k s a h)) ∙ ap (λ r. get_or r (number k s a) 0) e ∙ row_entry k s a h

-- the table that a list holds has the list's weights at the entries
pub held_at : (lens : Lens) (l : List ℕ) (k s a : ℕ) → is_entry k s a ≡ true → held lens l k s a ≡ get_or l (number k s a) 0
unfolding table_of
held_at lens l k s a h = rw h

-- and is a table as lent places hold it
pub list_held : (lens : Lens) (asker : ℕ) (l : List ℕ) → Within lens l → Held (question_by lens asker) (held lens l)
unfolding table_of
list_held lens asker l within = record {
  fits = λ k s a. by_test (λ x. x ≤ (weighing_of lens).cap) (is_entry k s a) (λ e. within.fits (number k s a)) (λ e. (weighing_of lens).laws.none_fits);
  elsewhere = λ k s a. by_test (λ x. Entry keys k s a ⊎ (x ≡ (weighing_of lens).none)) (is_entry k s a) (λ e. inl (entry_of_lem k s a e)) (λ e. inr refl);
}

-- a list whose entries are within the cap is, if the rest is that of one within
pub within_entries : (lens : Lens) (l₀ l : List ℕ) → Within lens l₀ → length l ≡ length l₀ → drop entries l ≡ drop entries l₀ →
    ((k s a : ℕ) → is_entry k s a ≡ true → get_or l (number k s a) 0 ≤ (weighing_of lens).cap) → Within lens l
within_entries lens l₀ l within long beyond fits = record {
  long = let w = within.long in omega arith;
  fits = λ e. by_cases (ℕ_discrete (e / 2592) 0)
      (λ z. let low : e < entries = omega arith in
      subst (λ n. get_or l n 0 ≤ (weighing_of lens).cap) (number_back e low) (fits _ _ _ (entry_back e low)))
      (λ n. let past : entries + (e - entries) ≡ e = omega arith in
      let same : get_or l e 0 ≡ get_or l₀ e 0 = ap (λ i. get_or l i 0) (sym past) ∙ sym (get_or-drop entries l (e - entries) 0) ∙ ap (λ r. get_or r (e - entries) 0) beyond ∙ get_or-drop entries l₀ (e - entries) 0 ∙ ap (λ i. get_or l₀ i 0) past in
      rw same (within.fits e));
}

module _ (lens : Lens) (asker : ℕ) (t : Table) (t-held : Held (question_by lens asker) t) (l : List ℕ) (row : take entries l ≡ row_of t) where
  -- a list that begins with a table's list holds that table
  pub held_row : Within lens l → held lens l ≡ t
  held_row within = held_same (question_by lens asker) (list_held lens asker l within) t-held
      (λ k s a e. let h = is_entry_lem k s a e in held_at lens l k s a h ∙ row_at t l row k s a h)

  -- and keeps within the cap if the rest does
  pub within_row : (l₀ : List ℕ) → Within lens l₀ → length l ≡ length l₀ → drop entries l ≡ drop entries l₀ → Within lens l
  within_row l₀ within long beyond = within_entries lens l₀ l within long beyond (λ k s a h. rw (row_at t l row k s a h) (t-held.fits k s a))
