-- What the functions that write out the chain say: document 01, "Entries and passes", "each entry's own certificate first and then the entries its subject reads".
use Rattle.std.specs.Prelude.{◌≡◌, Bool, ◌&&◌, List, ℕ, suc, ◌+◌, ◌<◌, eqb, length, drop}
use Rattle.std.proofs.lemmas.List.Edits.{sets}
use Rattle.wac.specs.Limits.{keys}
use Rattle.wac.specs.File.{cert_at}
use Rattle.wac.specs.declared.cert.Cert.{Cert}
use Rattle.rewriting.specs.Entries.{Fires, Brings, Reads}
use Rattle.rewriting.specs.Passes.{reading, fires}
use Rattle.rewriting.specs.Tables.{Last}
use Rattle.decision.specs.Usable.{symbols_of}
use Rattle.decision.specs.Lens.{question_by, rules_by}
use Rattle.decision.specs.Engine.{Accepted, Within, held}
use Rattle.decision.specs.declared.request.Request.{Request}
use Rattle.decision.specs.declared.lens.Lens.TheVariants.{Steps}

-- the steps that a list gives an entry
abbrev pub steps_at : ℕ → List ℕ → ℕ → ℕ → ℕ → ℕ
steps_at floor l k s a = held (Steps floor) l k s a

-- the fewest steps in which a certificate's right side, from its symbol j on, is read from one place to another
abbrev pub steps_read : ℕ → List ℕ → Cert → ℕ → ℕ → ℕ → ℕ
steps_read floor l c j from to = reading (question_by (Steps floor) 0) (held (Steps floor) l) from (drop j (symbols_of c)) to

-- the list holds the last table of steps of a request, over the certificates that end at the minute or later
pub record StepsTable (s : List ℕ) (q : Request) (floor : ℕ) (l : List ℕ) : Type 0 where
  pub accepted : Accepted s
  pub asker : q.asker < keys
  pub within : Within (Steps floor) l
  pub last : Last (question_by (Steps floor) q.asker) (rules_by (Steps floor) s q) (held (Steps floor) l)

-- certificate i brings the entry about by one step more than its subject reads
unfoldable pub brings : List ℕ → Request → ℕ → List ℕ → ℕ → ℕ → ℕ → ℕ → Bool
brings s q floor l i k x a =
    fires (rules_by (Steps floor) s q) i k x
    && eqb (steps_read floor l (cert_at s i) 0 (cert_at s i).subject a + 1) (steps_at floor l k x a)

-- i is the number of a certificate that does so
pub record Bringing (s : List ℕ) (q : Request) (floor : ℕ) (l : List ℕ) (k x a i : ℕ) : Type 0 where
  pub fires : Fires (rules_by (Steps floor) s q) i k x
  pub steps : steps_at floor l k x a ≡ suc (steps_read floor l (cert_at s i) 0 (cert_at s i).subject a)

-- n places were written from `at` on with a list of which P holds, and r is the place after them
pub record Wrote (P : List ℕ → Type 0) (at n : ℕ) (c c' : List ℕ) (r : ℕ) : Type 0 where
  pub list : List ℕ
  pub long : length list ≡ n
  pub holds : P list
  pub next : r ≡ at + n
  pub written : c' ≡ sets c at list

-- the chains that bring an entry about by the certificates that end at the minute or later
abbrev pub Entered : List ℕ → Request → ℕ → ℕ → ℕ → ℕ → List ℕ → Type 0
Entered s q floor k x a ch = Brings (question_by (Steps floor) q.asker) (rules_by (Steps floor) s q) k x a ch

-- the chains by which a certificate's right side is read from its subject to a place
abbrev pub ReadBy : List ℕ → Request → ℕ → Cert → ℕ → List ℕ → Type 0
ReadBy s q floor c a ch = Reads (question_by (Steps floor) q.asker) (rules_by (Steps floor) s q) c.subject (symbols_of c) a ch
