-- `read_formed` meets its contract: the length, and then the fields.
use mathlib.Core.Bool.{Bool, true, false}
use mathlib.Core.Path.{◌≡◌, refl, sym, ap, ◌∙◌}
use mathlib.Core.List.{List}
use Prim.Native.Nat.{ℕ}
use native.Mathlib.Omega.{arith}
use lib.ListN.{length}
use Rattle.std.specs.Prelude.{Option, MatchOption}
use Rattle.std.specs.Bool.{then_some}
use Rattle.sites.specs.Notes.{note_length, note_from, formed, note_ok}
use Rattle.sites.specs.declared.note.Note.{Note}
use Rattle.sites.proofs.SiteLaws.{wrong_length, right_length}
use Rattle.sites.proofs.note.Note.read_formed.Goals as goal

-- 12 bytes say the note that was read, if it is in order
twelve : (b : List ℕ) {n : Note} {o : Option Note} (t : Bool) → length b ≡ note_length → n ≡ note_from b → t ≡ formed n → o ≡ then_some t n →
    MatchOption o (note_ok b ≡ false) (λ note. (note_ok b ≡ true) × (note ≡ note_from b))
twelve b true long says test e = rw e (right_length b long ∙ ap formed (sym says) ∙ sym test, says)
twelve b false long says test e = rw e (right_length b long ∙ ap formed (sym says) ∙ sym test)

pub returns-in_default : goal.returns-in_default
returns-in_default c = wrong_length _ (λ e. omega (arith, e, c.in_default.len_below))

pub returns-in_default-2 : goal.returns-in_default-2
returns-in_default-2 c = wrong_length _ (λ e. omega (arith, e, c.in_default.len_at_least))

pub returns : goal.returns
returns c =
    twelve _ _ (omega (arith, c.in-len12.len_at_least, c.in-len12.len_below)) (rw (c.word_of.ensures, c.word_of-2.ensures) refl) c.is_formed.ensures c.then_some.ensures
