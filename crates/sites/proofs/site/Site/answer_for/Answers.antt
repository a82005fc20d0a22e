-- `answer_for` meets its contract, case by case.
use mathlib.Core.Bool.{true, false}
use mathlib.Core.Path.{◌≡◌, sym, ap, ◌∙◌}
use mathlib.Core.List.{List, []}
use Prim.Native.Nat.{ℕ, ◌≤◌, ◌<◌}
use Rattle.std.specs.Prelude.{Option, Some, None, MatchOption, Result, Err}
use Rattle.std.proofs.lemmas.Option.{MatchOption-at_some, MatchOption-at_none}
use Rattle.std.proofs.lemmas.Result.{err_from_is_err_and}
use Rattle.wac.specs.Answers.{gives, refuses, first_of}
use Rattle.sites.specs.Notes.{note_length, raise_kind, receipt_kind, note_from, formed, note_ok}
use Rattle.sites.specs.Site.{minute_at, entry_of, note_cases}
use Rattle.sites.specs.declared.note.Note.{Note}
use Rattle.sites.specs.declared.site.Site.{Site}
use Rattle.sites.specs.declared.site.NoteRefused.{NoteRefused}
use Rattle.sites.proofs.SiteLaws.{note_whole, few_bytes, no_note, not_live, other_session, taken_raise, later_minute, taken_receipt}
use Rattle.sites.proofs.site.Site.answer_for.Goals as goal

-- what is read of the bytes: the note that they say, in order; or they say none
module _ (b : List ℕ) {o : Option Note} (read : MatchOption o (note_ok b ≡ false) (λ note. (note_ok b ≡ true) × (note ≡ note_from b))) where
  no_said : o ≡ None → note_ok b ≡ false
  no_said e = MatchOption-at_none (note_ok b ≡ false) (λ note. (note_ok b ≡ true) × (note ≡ note_from b)) e read

  module _ {n : Note} (is : o ≡ Some n) where
    said : (note_ok b ≡ true) × (n ≡ note_from b)
    said = MatchOption-at_some (note_ok b ≡ false) (λ note. (note_ok b ≡ true) × (note ≡ note_from b)) n is read

    in_order : formed n ≡ true
    in_order = ap formed said.1 ∙ (note_whole _ said.0).1

    -- and what becomes of it
    module _ (x : Site) {room : ℕ} (long : note_length ≤ room) where
      when_closed : (kind : ℕ) → x.live ≡ false → first_of (note_cases x b room) kind ≡ refuses 26 []
      when_closed kind e = not_live x b room kind long said.0 n said.1 e

      when_stray : (kind : ℕ) → x.live ≡ true → (n.session ≡ x.session → ⊥) → first_of (note_cases x b room) kind ≡ refuses 26 []
      when_stray kind live e = other_session x b room kind long said.0 n said.1 live e

      when_raise : x.live ≡ true → n.session ≡ x.session → raise_kind ≡ n.kind → (n ≡ note_from b) × (first_of (note_cases x b room) n.kind ≡ gives n.kind)
      when_raise live same e = (said.1, taken_raise x b room n.kind long said.0 n said.1 live same (sym e))

      module _ (live : x.live ≡ true) (same : n.session ≡ x.session) {e : ℕ} (at : e ≡ entry_of n) where
        when_late : (kind : ℕ) → receipt_kind ≡ n.kind → minute_at x e < n.minute → first_of (note_cases x b room) kind ≡ refuses 28 []
        when_late kind k l = later_minute x b room kind long said.0 n said.1 live same e at (sym k) l

        when_told : n.minute ≤ minute_at x e → (n ≡ note_from b) × (first_of (note_cases x b room) n.kind ≡ gives n.kind)
        when_told l = (said.1, taken_receipt x b room n.kind long said.0 n said.1 live same e at l)

-- an error says one refusal
same_refusal : {why other : NoteRefused} → ◌≡◌ {A = Result Note NoteRefused} (Err why) (Err other) → why ≡ other
same_refusal e = cc e

pub returns-in_err-room_for_note : goal.returns-in_err-room_for_note
returns-in_err-room_for_note c =
    let p = err_from_is_err_and c.from_residual.result c.from_residual.ensures.1 in
    let short = c.in_err-room_for_note.ensures in
    rw (p.1, p.2, short.0) (few_bytes _ _ _ _ short.1)

pub returns-in_err-said : goal.returns-in_err-said
returns-in_err-said c =
    let p = err_from_is_err_and c.from_residual-in_err-said.result c.from_residual-in_err-said.ensures.1 in
    let none = c.in_err-said.ensures.ok_part in
    rw (p.1, p.2, same_refusal (rw none at c.in_err-said.ensures.value)) (no_note _ _ _ _ c.in_ok-room_for_note.ensures (no_said _ c.read_formed.ensures none))

pub returns-then-not-self : goal.returns-then-not-self
returns-then-not-self c =
    when_closed _ c.read_formed.ensures c.in_ok-said.ensures.ok_part _ c.in_ok-room_for_note.ensures _ c.if-not-self.true

pub returns-then-said-self : goal.returns-then-said-self
returns-then-said-self c =
    when_stray _ c.read_formed.ensures c.in_ok-said.ensures.ok_part _ c.in_ok-room_for_note.ensures _ c.if-not-self.false c.if-said-self.true

pub kind-requires : goal.kind-requires
kind-requires c = in_order _ c.read_formed.ensures c.in_ok-said.ensures.ok_part

pub entry-requires : goal.entry-requires
entry-requires c = in_order _ c.read_formed.ensures c.in_ok-said.ensures.ok_part

pub returns-in-Raise : goal.returns-in-Raise
returns-in-Raise c =
    when_raise _ c.read_formed.ensures c.in_ok-said.ensures.ok_part _ c.in_ok-room_for_note.ensures c.if-not-self.false c.if-said-self.false
    (rw c.in-Raise.is at c.kind.ensures)

pub returns-in-Receipt : goal.returns-in-Receipt
returns-in-Receipt c =
    when_late _ c.read_formed.ensures c.in_ok-said.ensures.ok_part _ c.in_ok-room_for_note.ensures c.if-not-self.false c.if-said-self.false
    c.entry.ensures.0 _ (rw c.in-Receipt.is at c.kind.ensures) c.if-self-entry.true

pub returns-in-Receipt-2 : goal.returns-in-Receipt-2
returns-in-Receipt-2 c =
    when_told _ c.read_formed.ensures c.in_ok-said.ensures.ok_part _ c.in_ok-room_for_note.ensures c.if-not-self.false c.if-said-self.false
    c.entry.ensures.0 c.if-self-entry.false
