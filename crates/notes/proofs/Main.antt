-- What is proved of two sites, in one place. K is any number of keys, R and T are the two sites' certificates, and J is the last table
-- of both files together: every entry's best minute over the chains of both.
use mathlib.Core.Path.{◌≡◌}
use Prim.Native.Nat.{ℕ, ◌≤◌}
use Rattle.rewriting.specs.Rewriting.{Rules, Question}
use Rattle.rewriting.specs.Entries.{Entry, Lawful}
use Rattle.rewriting.specs.Passes.{Table, bound}
use Rattle.rewriting.specs.Tables.{Last}
use Rattle.rewriting.specs.Together.{together}
use Rattle.rewriting.proofs.LastTable.{sound_below, last_unique}
use Rattle.rewriting.proofs.Together.{together_lawful}
use Rattle.rewriting.proofs.Bound.{last_exists}
use Rattle.notes.specs.Notes.{by_minutes, Note, raise, late, take, Due, Rest}
use Rattle.notes.specs.Line.{In, System, Steps, Reached}
use Rattle.notes.specs.Exchange.{Exchanges}
use Rattle.notes.proofs.Minutes.{at_most_le}
use Rattle.notes.proofs.Sides.{due_named}
use Rattle.notes.proofs.Good.{both_together, both_swap, Good, good, good_swap}
use Rattle.notes.proofs.Resting.{rest_last, stay_steps, side_accepted}
use Rattle.notes.proofs.Formed.{Formed, named_sent, side_formed}
use Rattle.notes.proofs.Rounds.{exchanges_rest}

module _ {K asker : ℕ} {R T : Rules} (r : Lawful (by_minutes K asker) R) (t : Lawful (by_minutes K asker) T) where
  abbrev Q : Question
  Q = by_minutes K asker

  joint : Lawful Q (together R T)
  joint = together_lawful r t

  always : {x : System} → Reached Q R T x → Good Q (together R T) R T x
  always = good (both_together r t)

  -- No site ever holds more than the joint table.
  pub notes_safe : {x : System} {J : Table} → Reached Q R T x → Last Q (together R T) J → (k s a : ℕ) →
      (x.a.ledger.minute k s a ≤ J k s a) × (x.b.ledger.minute k s a ≤ J k s a)
  notes_safe run last k s a =
      let g = always run in
      (at_most_le _ _ (sound_below joint last g.side_a.sound k s a), at_most_le _ _ (sound_below joint last g.side_b.sound k s a))

  -- Where both rest, both hold the joint table.
  pub notes_agree : {x : System} {J : Table} → Reached Q R T x → Rest K x.a.ledger → Rest K x.b.ledger → Last Q (together R T) J →
      (k s a : ℕ) → (x.a.ledger.minute k s a ≡ J k s a) × (x.b.ledger.minute k s a ≡ J k s a)
  notes_agree run a-rests b-rests last k s a =
      let both = both_together r t in
      let g = always run in (
        last_unique joint (rest_last both g a-rests b-rests) last k s a,
        last_unique joint (rest_last (both_swap both) (good_swap g) b-rests a-rests) last k s a,
      )

  -- Once both rest they stay at rest, whatever they do and whatever notes still come.
  pub notes_stay : {x y : System} → Reached Q R T x → Rest K x.a.ledger → Rest K x.b.ledger → Steps Q R T x y →
      Rest K y.a.ledger × Rest K y.b.ledger
  notes_stay run a-rests b-rests on = stay_steps (both_together r t) (always run) on a-rests b-rests

  -- From any state, as many full exchanges as the bound, each begun by either site, bring both to rest, whatever else happens
  -- before, between and within them.
  pub notes_rest : {x y : System} → Reached Q R T x → (n : ℕ) → bound K ≤ n → Exchanges Q R T x n y → Rest K y.a.ledger × Rest K y.b.ledger
  notes_rest run n h e = exchanges_rest (both_together r t) (last_exists joint).1 (always run) h e

  -- No note that one site wrote is ever late at the other.
  pub notes_accepted : {x : System} → Reached Q R T x →
      ((n : Note) → In n x.b.wrote → (take n x.a.ledger).answer ≡ late → ⊥) ×
      ((n : Note) → In n x.a.wrote → (take n x.b.ledger).answer ≡ late → ⊥)
  notes_accepted run = let g = always run in (side_accepted g.side_b, side_accepted g.side_a)

  -- Every note that a site wrote names an entry of an identifier or of mark 10, and a minute that is not 0,
  pub notes_formed : {x : System} → Reached Q R T x →
      ((n : Note) → In n x.a.wrote → Formed K n) × ((n : Note) → In n x.b.wrote → Formed K n)
  notes_formed run = let g = always run in (side_formed joint g.side_a, side_formed joint g.side_b)

  -- and so does the note of an entry that waits to be sent.
  pub due_formed : {x : System} → Reached Q R T x → (k s a : ℕ) → Entry K k s a →
      (Due x.a.ledger k s a → Formed K (raise k s a (x.a.ledger.minute k s a))) ×
      (Due x.b.ledger k s a → Formed K (raise k s a (x.b.ledger.minute k s a)))
  due_formed run k s a e =
      let both = both_together r t in
      let g = always run in (
        λ d. named_sent joint (due_named both.first g.side_a k s a e d),
        λ d. named_sent joint (due_named both.second g.side_b k s a e d),
      )
