-- Entries: what an entry is, which rules certificates have, and which chain brings an entry about (document 01, "The certificate
-- file", "Entries and passes").
use Rattle.std.specs.Prelude.{◌≡◌, ◌⊎◌, true, List, [], ◌∷◌, ◌++◌, ℕ, ◌<◌, ◌≤◌}
use Rattle.rewriting.specs.Rewriting.{Rule, Rules, Question, identifiers, delegate, access}

-- A mark is 10 or 11.
abbrev pub Mark : ℕ → Type 0
Mark s = (s ≡ delegate) ⊎ (s ≡ access)

-- Where a symbol arrives: an identifier at one of the K keys, a mark at the end place K.
abbrev pub Arrival : ℕ → ℕ → ℕ → Type 0
Arrival K s a = ((s < identifiers) × (a < K)) ⊎ (Mark s × (a ≡ K))

-- An entry says that one of the K keys reads a symbol and arrives.
abbrev pub Entry : ℕ → ℕ → ℕ → ℕ → Type 0
Entry K k s a = (k < K) × Arrival K s a

-- Identifiers only.
abbrev pub Names : List ℕ → Type 0
Names [] = Unit {0}
Names (s ∷ w) = (s < identifiers) × Names w

-- Identifiers, and then a closing mark.
abbrev pub Closes : List ℕ → Type 0
Closes [] = ⊥
Closes (s ∷ w) = ((s < identifiers) × Closes w) ⊎ (Mark s × (w ≡ []))

-- A certificate's rule over K keys. A name certificate reads an identifier and writes identifiers; an authorization reads the mark
-- 10 and writes identifiers and a closing mark.
pub record Certificate (K : ℕ) (r : Rule) : Type 0 where
  pub issuer : r.from < K
  pub subject : r.to < K
  pub sides : ((r.reads < identifiers) × Names r.writes) ⊎ ((r.reads ≡ delegate) × Closes r.writes)

-- The rules are certificates over the question's keys, their weights fit the weighing, and the asker is a key.
pub record Lawful (Q : Question) (R : Rules) : Type 0 where
  pub certificates : (i : ℕ) → i < R.count → Certificate Q.keys (R.rule i)
  pub weights_fit : (i : ℕ) → R.weight i ≤ Q.weighing.cap
  pub asker_is_key : Q.asker < Q.keys

-- Certificate number i is there, usable, and has the key k and the symbol s on its left.
pub record Fires (R : Rules) (i k s : ℕ) : Type 0 where
  pub there : i < R.count
  pub usable : R.live i ≡ true
  pub issuer : (R.rule i).from ≡ k
  pub symbol : (R.rule i).reads ≡ s

-- Reading trees: the key k reads the symbol s (Brings) or a list of symbols (Reads) and arrives at the place a by a chain. The
-- asker's marks arrive at the end by the empty chain; otherwise a certificate comes first and then what its subject reads.
mutual
  pub data Brings (Q : Question) (R : Rules) : ℕ → ℕ → ℕ → List ℕ → Type 0 where
    asked : {s : ℕ} → Mark s → Brings Q R Q.asker s Q.keys []
    by : {k s a : ℕ} {ch : List ℕ} (i : ℕ) → Fires R i k s → Reads Q R (R.rule i).to (R.rule i).writes a ch → Brings Q R k s a (i ∷ ch)

  pub data Reads (Q : Question) (R : Rules) : ℕ → List ℕ → ℕ → List ℕ → Type 0 where
    stays : {k : ℕ} → Reads Q R k [] k []
    goes : {k s p a : ℕ} {w c d : List ℕ} → Brings Q R k s p c → Reads Q R p w a d → Reads Q R k (s ∷ w) a (c ++ d)
