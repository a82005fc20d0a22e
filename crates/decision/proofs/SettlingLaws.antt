-- Laws of passes until one changes nothing: what the loop of passes keeps, that it ends, and what it leaves.
use mathlib.Core.Path.{◌≡◌, refl, sym, ap, ◌∙◌, subst}
use mathlib.Core.Logic.{⊎_elim, by_cases}
use mathlib.Core.List.{List, [], ◌∷◌}
use Prim.Native.Nat.{ℕ, zero, suc, ◌+◌, ◌-◌, ◌*◌, ◌<◌, ◌≤◌}
use native.Mathlib.Omega.{arith}
use native.Mathlib.Numerals.{add-one}
use native.Mathlib.Decide.{ℕ_discrete}
use borrow.Author.Count.{below_none, below_more}
use lib.ListN.{length, get_or, take, drop}
use lib.Seq.{length-take-le, take_all}
use Rattle.wac.specs.Limits.{entries}
use Rattle.rewriting.specs.Weighing.{minutes, steps, endless}
use Rattle.rewriting.specs.Rewriting.{Rules, Question}
use Rattle.rewriting.specs.Entries.{Lawful}
use Rattle.rewriting.specs.Passes.{Table, pass, repeated, Still}
use Rattle.rewriting.specs.Tables.{Held}
use Rattle.rewriting.proofs.Held.{repeated_held}
use Rattle.rewriting.proofs.Settling.{ranks, ranks_fall, ranks_most}
use Rattle.decision.specs.Lens.{weighing_of, question_by, rules_by}
use Rattle.decision.specs.Table.{number, row_of}
use Rattle.decision.specs.Engine.{Within, held, Passed, SettledFrom}
use Rattle.decision.specs.declared.request.Request.{Request}
use Rattle.decision.specs.declared.lens.Lens.{Lens}
use Rattle.decision.specs.declared.lens.Lens.TheVariants.{Minutes, Steps}
use Rattle.decision.proofs.TableLaws.{entry_of_lem, is_entry_lem, row_same, row_entry, row_at, held_at, list_held, held_row, within_row}

-- the first 2,592 places of a list within the cap are within
pub within_take : (lens : Lens) (l : List ℕ) → Within lens l → Within lens (take entries l)
within_take lens l within = record {
  long = let w = within.long in omega (arith, length-take-le entries l w);
  fits = λ e. take_fits entries l within.fits e;
}
  where
    take_fits : {cap : ℕ} (n : ℕ) (l : List ℕ) → ((e : ℕ) → get_or l e 0 ≤ cap) → (e : ℕ) → get_or (take n l) e 0 ≤ cap
    take_fits zero l fits e = omega (arith, fits e)
    take_fits (suc n) [] fits e = fits e
    take_fits (suc n) (x ∷ l) fits zero = fits zero
    take_fits (suc n) (x ∷ l) fits (suc e) = take_fits n l (λ i. fits (suc i)) e

-- what the loop of passes keeps: after k passes, each of which changed something
pub record Going (lens : Lens) (s : List ℕ) (q : Request) (t₀ t : List ℕ) (k : ℕ) : Type 0 where
  pub lawful : Lawful (question_by lens q.asker) (rules_by lens s q)
  pub begun : Within lens t₀
  pub long : length t ≡ length t₀
  pub beyond : drop entries t ≡ drop entries t₀
  pub within : Within lens t
  pub row : take entries t ≡ row_of (repeated (question_by lens q.asker) (rules_by lens s q) (held lens t₀) k)
  pub each : (n : ℕ) → n < k → Still (question_by lens q.asker) (rules_by lens s q) (repeated (question_by lens q.asker) (rules_by lens s q) (held lens t₀) n) → ⊥
  pub falls : k + ranks (question_by lens q.asker) (repeated (question_by lens q.asker) (rules_by lens s q) (held lens t₀) k)
      ≤ ranks (question_by lens q.asker) (held lens t₀)

pub going_none : (lens : Lens) (s : List ℕ) (q : Request) (t : List ℕ) → Lawful (question_by lens q.asker) (rules_by lens s q) → Within lens t → Going lens s q t t 0
unfolding repeated
going_none lens s q t ok within = record {
  lawful = ok;
  begun = within;
  long = refl;
  beyond = refl;
  within = within;
  row = row_same (held lens t) t within.long (λ k x a h. sym (held_at lens t k x a h));
  each = below_none _;
  falls = omega arith;
}

-- a weighing's cap is at most the last minute
cap_low : (lens : Lens) → (weighing_of lens).cap ≤ endless
unfolding minutes steps
cap_low Minutes = omega arith
cap_low (Steps floor) = omega arith

module _ {lens : Lens} {s : List ℕ} {q : Request} {t₀ t : List ℕ} {k : ℕ} (g : Going lens s q t₀ t k) where
  abbrev Q : Question
  Q = question_by lens q.asker

  abbrev R : Rules
  R = rules_by lens s q

  -- the table after n passes
  abbrev later : ℕ → Table
  later n = repeated Q R (held lens t₀) n

  later_held : (n : ℕ) → Held Q (later n)
  later_held = repeated_held Q g.lawful (held lens t₀) (list_held lens q.asker t₀ g.begun)

  -- there are few passes
  pub going_few : k ≤ 16 * (10 * 16 + 2) * 4294967295
  going_few = omega (arith, g.falls, ranks_most g.lawful (list_held lens q.asker t₀ g.begun), cap_low lens)

  -- one pass more, from the copy `old` of the table
  module _ {old t' : List ℕ} (copied : old ≡ take entries t) (p : Passed lens s q old t t') where
    old_row : take entries old ≡ row_of (later k)
    old_row = ap (take entries) copied ∙ take_all entries (take entries t) (omega (arith, length-take-le entries t g.within.long)) ∙ g.row

    old_held : held lens old ≡ later k
    old_held = held_row lens q.asker (later k) (later_held k) old old_row (subst (Within lens) (sym copied) (within_take lens t g.within))

    next_row : take entries t' ≡ row_of (pass Q R (later k))
    next_row = p.row ∙ ap (λ u. row_of (pass Q R u)) old_held

    next : take entries t' ≡ row_of (later (k + 1))
    unfolding repeated
    next = rw (add-one k) next_row

    -- the copy is the new table's first places exactly if the pass changed nothing
    same_still : old ≡ take entries t' → Still Q R (later k)
    same_still same k' x a h =
        let i = is_entry_lem k' x a h in
        sym (row_entry (pass Q R (later k)) k' x a i) ∙ ap (λ l. get_or l (number k' x a) 0) (sym next_row ∙ sym same ∙ copied ∙ g.row) ∙ row_entry (later k) k' x a i

    still_same : Still Q R (later k) → old ≡ take entries t'
    still_same still = copied
        ∙ row_same (pass Q R (later k)) t g.within.long (λ k' x a i. row_at (later k) t g.row k' x a i ∙ sym (still k' x a (entry_of_lem k' x a i)))
        ∙ sym next_row

    fall : (old ≡ take entries t' → ⊥) → (k + 1) + ranks Q (later (k + 1)) ≤ ranks Q (held lens t₀)
    unfolding repeated
    fall moved = rw (add-one k) (⊎_elim (λ still. absurd (moved (still_same still))) (λ less. omega (arith, g.falls)) (ranks_fall g.lawful (later_held k)))

    pub going_more : (old ≡ take entries t' → ⊥) → Going lens s q t₀ t' (k + 1)
    going_more moved = record {
      lawful = g.lawful;
      begun = g.begun;
      long = p.long ∙ g.long;
      beyond = p.beyond ∙ g.beyond;
      within = within_row lens q.asker (later (k + 1)) (later_held (k + 1)) t' next t g.within p.long p.beyond;
      row = next;
      each = below_more _ k g.each (λ still. moved (still_same still));
      falls = fall moved;
    }

    -- and the loop comes nearer to its end
    pub going_less : (old ≡ take entries t' → ⊥) → ranks Q (held lens t₀) - (k + 1) < ranks Q (held lens t₀) - k
    going_less moved = omega (arith, fall moved)

    pub settled : old ≡ take entries t' → SettledFrom lens s q t₀ (k + 1) t'
    settled same = record {
      long = p.long ∙ g.long;
      beyond = p.beyond ∙ g.beyond;
      count = record {
        before = k;
        one_more = add-one k;
        still = same_still same;
        first = λ n still. by_cases (ℕ_discrete (k - n) 0) (λ z. omega arith) (λ z. absurd (g.each n (omega arith) still));
      };
      row = next;
    }
