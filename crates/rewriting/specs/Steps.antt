-- Steps: the fewest certificates of a chain, and of a best chain (document 01, "Entries and passes").
use Rattle.std.specs.Prelude.{◌≡◌, ◌⊎◌, ◌&&◌, List, ℕ, ◌≤◌, ◌<◌, eqb, length}
use Rattle.rewriting.specs.Weighing.{Weighing, steps, uncounted}
use Rattle.rewriting.specs.Rewriting.{Rules, Question, Chain, weighed}

-- n is the fewest certificates of a chain of the kind P; 201 stands for "none, or more than 200".
pub record Fewest (P : List ℕ → Type 0) (n : ℕ) : Type 0 where
  pub counted : (n ≡ uncounted) ⊎ ((n < uncounted) × (ch : List ℕ) × P ch × (length ch ≡ n))
  pub none_shorter : (ch : List ℕ) → P ch → n ≤ length ch

-- The chains from the owner to the asker that weigh m.
abbrev pub Weighs : Question → Rules → ℕ → ℕ → List ℕ → Type 0
Weighs Q R owner m ch = Chain R owner Q.asker ch × (weighed Q.weighing R ch ≡ m)

-- The same question by steps.
abbrev pub by_steps : Question → Question
by_steps Q = record { weighing = steps; keys = Q.keys; asker = Q.asker }

-- The certificates that weigh at least m (in minutes: with not-after ≥ m), each of them one step.
unfoldable pub kept : Weighing → ℕ → Rules → Rules
kept W m R = record {
  count = R.count;
  rule = R.rule;
  live = λ i. R.live i && eqb (W.best m (R.weight i)) (R.weight i);
  weight = λ i. 1;
}
