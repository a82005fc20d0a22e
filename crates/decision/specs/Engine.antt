-- What the engine's private functions say of lists: each is a definition of rewriting, at the table that a list holds.
use Rattle.std.specs.Prelude.{◌≡◌, true, cond, ◌&&◌, List, ℕ, ◌≤◌, eqb, length, get_or, take, drop}
use Rattle.wac.specs.Limits.{entries}
use Rattle.wac.specs.Answers.{gives, first_of}
use Rattle.wac.specs.File.{count_of, file_cases}
use Rattle.wac.specs.declared.cert.Cert.{Cert}
use Rattle.rewriting.specs.Passes.{Table, reading, pass, repeated, CountFrom}
use Rattle.decision.specs.Usable.{symbols_of}
use Rattle.decision.specs.Lens.{weighing_of, question_by, rules_by, weight_by}
use Rattle.decision.specs.Table.{is_entry, number, table_of, row_of}
use Rattle.decision.specs.declared.request.Request.{Request}
use Rattle.decision.specs.declared.lens.Lens.{Lens}

-- the file is accepted
abbrev pub Accepted : List ℕ → Type 0
Accepted s = first_of (file_cases s) (count_of s) ≡ gives (count_of s)

-- a list of at least 2,592 weights, each within the cap
pub record Within (lens : Lens) (l : List ℕ) : Type 0 where
  pub long : entries ≤ length l
  pub fits : (e : ℕ) → get_or l e 0 ≤ (weighing_of lens).cap

-- the table that a list holds by a lens
abbrev pub held : Lens → List ℕ → Table
held lens l = table_of (weighing_of lens).none l

-- what a certificate offers an entry that arrives at a place
abbrev pub offered : Lens → List ℕ → Cert → ℕ → ℕ
offered lens old c a = (weighing_of lens).along (weight_by lens c) (reading (question_by lens 0) (held lens old) c.subject (symbols_of c) a)

-- the certificate c was tried: at every entry with its left side the better of the weight before and of what it offers, elsewhere no change
pub record Tried (lens : Lens) (old : List ℕ) (c : Cert) (new new' : List ℕ) : Type 0 where
  pub long : length new' ≡ length new
  pub beyond : drop entries new' ≡ drop entries new
  pub at_entry : (k s a : ℕ) → is_entry k s a ≡ true →
      get_or new' (number k s a) 0 ≡ cond (eqb c.issuer k && eqb c.left s) ((weighing_of lens).best (get_or new (number k s a) 0) (offered lens old c a)) (get_or new (number k s a) 0)

-- one pass over the old table
pub record Passed (lens : Lens) (s : List ℕ) (q : Request) (old new new' : List ℕ) : Type 0 where
  pub long : length new' ≡ length new
  pub beyond : drop entries new' ≡ drop entries new
  pub row : take entries new' ≡ row_of (pass (question_by lens q.asker) (rules_by lens s q) (held lens old))

-- N passes over the table of t, all up to and including the first that changes nothing, lead to t'
pub record SettledFrom (lens : Lens) (s : List ℕ) (q : Request) (t : List ℕ) (N : ℕ) (t' : List ℕ) : Type 0 where
  pub long : length t' ≡ length t
  pub beyond : drop entries t' ≡ drop entries t
  pub count : CountFrom (question_by lens q.asker) (rules_by lens s q) (held lens t) N
  pub row : take entries t' ≡ row_of (repeated (question_by lens q.asker) (rules_by lens s q) (held lens t) N)
