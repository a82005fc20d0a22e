-- Rewriting by certificates, chains, and the best chain (document 000; document 01, "Rewriting and usable certificates").
use Rattle.std.specs.Prelude.{◌≡◌, ◌⊎◌, Bool, true, cond, ◌&&◌, List, [], ◌∷◌, ◌++◌, ℕ, ◌<◌, ltb, eqb}
use Rattle.std.proofs.Math.Option.{Option, none, some, bind}
use Rattle.rewriting.specs.Weighing.{Weighing, AtMost}

-- How many identifiers there are: the symbols 0 to 9.
abbrev pub identifiers : ℕ
identifiers = 10

-- The mark "may delegate", the open box.
abbrev pub delegate : ℕ
delegate = 10

-- The mark "access only", the filled box.
abbrev pub access : ℕ
access = 11

-- What one certificate rewrites: the issuer `from` with the symbol `reads` becomes the subject key `to` with the symbols `writes`.
pub record Rule : Type 0 where
  pub from : ℕ
  pub reads : ℕ
  pub to : ℕ
  pub writes : List ℕ

-- Certificates numbered from 0 up to `count`: what each rewrites, whether it is usable, and what it weighs.
pub record Rules : Type 0 where
  pub count : ℕ
  pub rule : ℕ → Rule
  pub live : ℕ → Bool
  pub weight : ℕ → ℕ

-- A configuration: a key and a list of symbols.
pub record Config : Type 0 where
  pub key : ℕ
  pub word : List ℕ

-- A certificate applies if its issuer is the key and its left symbol is the first of the list; the result is the subject key, with
-- the subject's symbols and then the rest of the old list.
unfoldable pub applied : Rule → ℕ → List ℕ → Option Config
applied r k [] = none
applied r k (s ∷ w) =
    cond (eqb r.from k && eqb r.reads s) (some (record { key = r.to; word = r.writes ++ w })) none

-- Certificate number i applied to a configuration, if there is one of that number and it is usable.
unfoldable pub step : Rules → ℕ → Config → Option Config
step R i c = cond (ltb i R.count && R.live i) (applied (R.rule i) c.key c.word) none

-- Certificates applied in turn, by their numbers.
unfoldable pub run : Rules → List ℕ → Config → Option Config
run R [] c = some c
run R (i ∷ ch) c = bind (step R i c) (run R ch)

-- A key with a list of one symbol.
abbrev pub at : ℕ → ℕ → Config
at k s = record { key = k; word = s ∷ [] }

-- A chain: certificate numbers applied in turn, starting from the owner with the list [10] and ending at the asker with [10] or [11].
abbrev pub Chain : Rules → ℕ → ℕ → List ℕ → Type 0
Chain R owner asker ch =
    (run R ch (at owner delegate) ≡ some (at asker delegate)) ⊎ (run R ch (at owner delegate) ≡ some (at asker access))

-- The weight of a chain: of its certificates together; of the empty chain the whole.
unfoldable pub weighed : Weighing → Rules → List ℕ → ℕ
weighed W R [] = W.whole
weighed W R (i ∷ ch) = W.along (R.weight i) (weighed W R ch)

-- No usable certificate weighs none.
abbrev pub Weighty : Weighing → Rules → Type 0
Weighty W R = (i : ℕ) → i < R.count → R.live i ≡ true → R.weight i ≡ W.none → ⊥

-- m is the best weight of the chains of the kind P: one of them weighs m, and none weighs more.
pub record BestOf (W : Weighing) (R : Rules) (P : List ℕ → Type 0) (m : ℕ) : Type 0 where
  pub chain : List ℕ
  pub leads : P chain
  pub weighs : weighed W R chain ≡ m
  pub none_better : (ch : List ℕ) → P ch → AtMost W (weighed W R ch) m

-- The answer for the chains of the kind P: their best weight; or none, where none of them weighs anything.
abbrev pub Answer : Weighing → Rules → (List ℕ → Type 0) → ℕ → Type 0
Answer W R P m = BestOf W R P m ⊎ ((m ≡ W.none) × ((ch : List ℕ) → P ch → weighed W R ch ≡ W.none))

-- What is asked of certificates: by which weighing, over how many keys (numbered from 0; the number itself is the end place), and
-- for which key. The owner is no part of it: one table of entries answers for every owner.
pub record Question : Type 0 where
  pub weighing : Weighing
  pub keys : ℕ
  pub asker : ℕ

-- m is the best weight of a chain from the owner to the asker.
abbrev pub Best : Question → Rules → ℕ → ℕ → Type 0
Best Q R owner m = BestOf Q.weighing R (Chain R owner Q.asker) m

-- m decides for the owner: it is none and there is no chain to the asker, or it is not none and is the best weight of one.
abbrev pub Decides : Question → Rules → ℕ → ℕ → Type 0
Decides Q R owner m =
    ((m ≡ Q.weighing.none) × ((ch : List ℕ) → Chain R owner Q.asker ch → ⊥)) ⊎ ((m ≡ Q.weighing.none → ⊥) × Best Q R owner m)
