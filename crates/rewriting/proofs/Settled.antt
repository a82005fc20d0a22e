-- What a settled table says: of every entry, of every owner, and in steps.
use Prim.Native.Nat.{ℕ}
use Rattle.rewriting.specs.Weighing.{ByWeakest}
use Rattle.rewriting.specs.Rewriting.{Rules, Question, Answer, Best, Weighty, Decides, delegate}
use Rattle.rewriting.specs.Entries.{Lawful, Brings}
use Rattle.rewriting.specs.Passes.{Table, passes, Settled}
use Rattle.rewriting.specs.Tables.{Last}
use Rattle.rewriting.specs.Steps.{Fewest, Weighs, by_steps, kept}
use Rattle.rewriting.proofs.Answers.{answer_decides}
use Rattle.rewriting.proofs.LastTable.{settled_last, last_entry, last_answer}
use Rattle.rewriting.proofs.Steps.{kept_lawful, answer_fewest, fewest_best}

module _ {Q : Question} {R : Rules} (ok : Lawful Q R) (n : ℕ) where
  module _ (settled : Settled Q R n) where
    -- Every entry is the answer for what brings it about.
    pub settled_entry : (k s a : ℕ) → Answer Q.weighing R (Brings Q R k s a) (passes Q R n k s a)
    settled_entry = last_entry ok (settled_last ok n settled)

    -- By the weakest, the owner's mark 10 decides: it is none and there is no chain, or it is the best weight of a chain.
    pub settled_decides : ByWeakest Q.weighing → Weighty Q.weighing R → (owner : ℕ) →
        Decides Q R owner (passes Q R n owner delegate Q.keys)
    settled_decides weakest weighty owner = answer_decides Q R weakest weighty owner (last_answer ok (settled_last ok n settled) owner)

  module _ (m : ℕ) (settled : Settled (by_steps Q) (kept Q.weighing m R) n) where
    -- The table of steps over the certificates that weigh at least m.
    abbrev counts : Table
    counts = passes (by_steps Q) (kept Q.weighing m R) n

    last : Last (by_steps Q) (kept Q.weighing m R) counts
    last = settled_last (kept_lawful ok Q.weighing m) n settled

    -- Every entry of it is the fewest of these certificates that bring the entry about,
    pub settled_steps : (k s a : ℕ) → Fewest (Brings (by_steps Q) (kept Q.weighing m R) k s a) (counts k s a)
    settled_steps k s a = answer_fewest Q.weighing m R (last_entry (kept_lawful ok Q.weighing m) last k s a)

    -- and where m is the owner's best weight, the owner's mark 10 is the fewest certificates of a best chain.
    pub settled_fewest : ByWeakest Q.weighing → (owner : ℕ) → Best Q R owner m → Fewest (Weighs Q R owner m) (counts owner delegate Q.keys)
    settled_fewest weakest owner best = fewest_best ok weakest owner best (last_answer (kept_lawful ok Q.weighing m) last owner)
