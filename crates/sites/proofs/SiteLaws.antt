-- Laws of notes and of sites that the proofs of the functions cite.
use mathlib.Core.Path.{◌≡◌, refl, sym, ap, ◌∙◌, subst}
use mathlib.Core.Bool.{Bool, true, false, cond, not, ◌&&◌}
use mathlib.Core.Logic.{by_cases}
use mathlib.Core.List.{List, [], ◌∷◌}
use Prim.Native.Nat.{ℕ, zero, suc, ◌+◌, ◌-◌, ◌<◌, ◌≤◌}
use native.Mathlib.Nat.{le_refl}
use native.Mathlib.Decide.{ℕ_discrete}
use native.Mathlib.Omega.{arith}
use borrow.Author.Tests.{ltb-true, ltb-false, leb-false, eqb-true, lt-ltb, le-ltb, lt-leb, eq-eqb, ne_eqb, not-false}
use lib.Dec.{leb, ltb, eqb}
use lib.ListN.{length, set, replicate, length-set, length-replicate}
use lib.Seq.{take_all}
use Rattle.std.specs.Prelude.{Option, Some, None, is_some, is_none, Result, Ok, Err, is_ok}
use Rattle.wac.specs.Limits.{keys, delegate, access, end_place, entries, without_end, largest_file}
use Rattle.wac.specs.Answers.{gives, refuses, ◌if◌, first_of}
use Rattle.wac.specs.Ranges.{all_below}
use Rattle.wac.proofs.Cases.{first_none, first_holds, first_fails, first_passed, gives_not_refuses}
use Rattle.std.proofs.Math.Bool.{and-false}
use Rattle.std.proofs.lemmas.Bool.{and_left, and_parts}
use Rattle.wac.proofs.Tests.{and_true, all_below_true, all_below_false}
use Rattle.wac.proofs.FileLaws.{file_kept}
use Rattle.rewriting.specs.Weighing.{minutes}
use Rattle.decision.specs.Table.{is_entry, number, NumberOf}
use Rattle.decision.specs.Engine.{Accepted}
use Rattle.decision.specs.Question.{answered_as, Settles, Settles.refused, Settles.settled}
use Rattle.decision.specs.declared.request.Request.{Request}
use Rattle.decision.specs.declared.lens.Lens.TheVariants.{Minutes}
use Rattle.decision.specs.declared.question.Refused.{Refused}
use Rattle.decision.proofs.PassingLaws.{started}
use Rattle.sites.specs.Notes.{note_length, raise_kind, receipt_kind, CodesKind, note_from, formed, note_ok}
use Rattle.sites.specs.Site.{start_of, minute_at, receipted_at, entry_of, note_cases, DueAt, NextDue, waiting, next_of, send_cases, Sends, restful}
use Rattle.sites.specs.declared.note.Note.{Note}
use Rattle.sites.specs.declared.site.NoteRefused.TheVariants.{Room}
use Rattle.sites.specs.declared.site.Site.{Site}
use Rattle.sites.specs.declared.note.NoteKind.{NoteKind}
use Rattle.sites.specs.declared.note.NoteKind.TheVariants.{Raise, Receipt}
use Rattle.sites.specs.declared.note.NoKind.{NoKind}
use Rattle.sites.proofs.NoteLaws.{formed_fields}

-- the number of an entry is some exactly where there is such an entry
pub number_test : (k s a : ℕ) (o : Option ℕ) → NumberOf k s a o → is_some o ≡ is_entry k s a
number_test k s a (Some n) e = sym e.0
number_test k s a None e = sym e

-- a note in order, by the tests that it passes
module _ (n : Note) where
  -- by its tests in turn, the kind's by the kind that has its code
  pub formed_by : (r : Result NoteKind NoKind) → CodesKind n.kind r →
      formed n ≡ (is_ok r && (not (eqb n.minute 0) && (ltb n.symbol access && is_entry n.key n.symbol n.arrival)))
  unfolding formed
  formed_by (Ok Raise) e = rw (← e)
  formed_by (Ok Receipt) e = rw (← e)
  formed_by (Err k) e = rw (ne_eqb _ _ e.0, ne_eqb _ _ e.1)

  -- a note in order that is no raise is a receipt
  pub other_kind : formed n ≡ true → (n.kind ≡ raise_kind → ⊥) → n.kind ≡ receipt_kind
  other_kind ok h = eqb-true n.kind receipt_kind (rw (ne_eqb n.kind raise_kind h) at (formed_fields n ok).kind)

-- bytes that say a note in order
pub note_whole : (b : List ℕ) → note_ok b ≡ true → (length b ≡ note_length) × (formed (note_from b) ≡ true)
unfolding note_ok
note_whole b ok = let both = and_parts _ _ ok in (eqb-true _ _ both.0, both.1)

pub wrong_length : (b : List ℕ) → (length b ≡ note_length → ⊥) → note_ok b ≡ false
unfolding note_ok
wrong_length b n = and_left _ _ (ne_eqb _ _ n)

pub right_length : (b : List ℕ) → length b ≡ note_length → note_ok b ≡ formed (note_from b)
unfolding note_ok
right_length b e = and_true _ _ (eq-eqb _ _ e)

-- what becomes of a note, case by case
module _ (x : Site) (b : List ℕ) (room kind : ℕ) where
  pub few_bytes : room < note_length → first_of (note_cases x b room) kind ≡ refuses 23 []
  unfolding note_cases
  few_bytes h = first_holds _ _ _ (lt-ltb _ _ h)

  module _ (h : note_length ≤ room) where
    pub no_note : note_ok b ≡ false → first_of (note_cases x b room) kind ≡ refuses 27 []
    unfolding note_cases
    no_note e = first_fails _ _ _ (le-ltb _ _ h) ∙ first_holds _ _ _ (ap not e)

    module _ (ok : note_ok b ≡ true) (said : Note) (says : said ≡ note_from b) where
      a_note : first_of (note_cases x b room) kind ≡ first_of ((26 if not (x.live && eqb said.session x.session)) ∷ (28 if eqb said.kind receipt_kind && ltb (minute_at x (entry_of said)) said.minute) ∷ []) kind
      unfolding note_cases
      a_note =
          first_fails _ _ _ (le-ltb _ _ h) ∙ first_fails _ _ _ (ap not ok)
          ∙ ap (λ n. first_of ((26 if not (x.live && eqb n.session x.session)) ∷ (28 if eqb n.kind receipt_kind && ltb (minute_at x (entry_of n)) n.minute) ∷ []) kind) (sym says)

      pub not_live : x.live ≡ false → first_of (note_cases x b room) kind ≡ refuses 26 []
      not_live e = a_note ∙ first_holds _ _ _ (ap not (and_left _ _ e))

      module _ (live : x.live ≡ true) where
        pub other_session : (said.session ≡ x.session → ⊥) → first_of (note_cases x b room) kind ≡ refuses 26 []
        other_session n = a_note ∙ first_holds _ _ _ (ap not (and_true _ _ live ∙ ne_eqb _ _ n))

        module _ (same : said.session ≡ x.session) where
          pub this_session : first_of (note_cases x b room) kind ≡ first_of ((28 if eqb said.kind receipt_kind && ltb (minute_at x (entry_of said)) said.minute) ∷ []) kind
          this_session = a_note ∙ first_fails _ _ _ (ap not (and_true _ _ live ∙ eq-eqb _ _ same))

          pub taken_raise : said.kind ≡ raise_kind → first_of (note_cases x b room) kind ≡ gives kind
          taken_raise e = this_session ∙ first_fails _ _ _ (and_left _ _ (ap (λ n. eqb n receipt_kind) e)) ∙ first_none _

          module _ (e : ℕ) (at : e ≡ entry_of said) where
            pub later_minute : said.kind ≡ receipt_kind → minute_at x e < said.minute → first_of (note_cases x b room) kind ≡ refuses 28 []
            later_minute k l = this_session ∙ first_holds _ _ _ (and_true _ _ (eq-eqb _ _ k) ∙ ap (λ i. ltb (minute_at x i) said.minute) (sym at) ∙ lt-ltb _ _ l)

            pub taken_receipt : said.minute ≤ minute_at x e → first_of (note_cases x b room) kind ≡ gives kind
            taken_receipt l =
                let low = ap (λ i. ltb (minute_at x i) said.minute) (sym at) ∙ le-ltb _ _ l in
                this_session ∙ first_fails _ _ _ (ap (λ t. eqb said.kind receipt_kind && t) low ∙ and-false (eqb said.kind receipt_kind)) ∙ first_none _

  -- a note that is taken has room for its receipt, and is in order
  pub taken_whole : {n : ℕ} → first_of (note_cases x b room) kind ≡ gives n → (note_length ≤ room) × (length b ≡ note_length) × (formed (note_from b) ≡ true)
  unfolding note_cases
  taken_whole e =
      let first = first_passed _ _ _ e in
      let whole = note_whole b (not-false _ (first_passed _ _ _ first.1).0) in
      (ltb-false _ _ first.0, whole.0, whole.1)

-- a list of 0 that is without end at the asker's two marks is the start
module _ (asker : ℕ) (h : asker < keys) where
  pub start_set : (l : List ℕ) (n m : ℕ) → l ≡ replicate entries 0 → n ≡ number asker delegate end_place → m ≡ number asker access end_place →
      set (set l n without_end) m without_end ≡ start_of asker
  unfolding minutes
  start_set l n m zeros d e =
      let long : length l ≡ entries = ap length zeros ∙ length-replicate {A = ℕ} entries 0 in
      let low : length (set (set l n without_end) m without_end) ≤ entries = simp length-set (omega arith) in
      sym (take_all entries (set (set l n without_end) m without_end) low)
      ∙ (started Minutes asker h l (omega arith) (take_all entries l (omega arith) ∙ zeros) n m without_end d e refl).0

-- an accepted file is no longer than the largest
pub file_low : (s : List ℕ) → Accepted s → length s ≤ largest_file
file_low s e =
    let framed = (file_kept s e).0 in
    let few = framed.few in
    let sized = framed.sized in
    omega arith

-- a table that is refused stays as it was
pub settle_stays : {s : List ℕ} {q : Request} {r : Result ℕ Refused} {t t' : List ℕ} (why : Refused) → Settles s q r t t' → r ≡ Err why → Settles s q (Err why) t t
settle_stays why (refused n vs case e same) f = refused n vs case (ap answered_as (sym f) ∙ e) refl
settle_stays why (settled case N held e) f = absurd (gives_not_refuses (sym e ∙ ap answered_as f))

-- the next entry that waits
module _ (x : Site) where
  -- there is one of them, or none
  next_unique : {from : ℕ} (e d : ℕ) → e < entries → d < entries → NextDue x from e → NextDue x from d → e ≡ d
  next_unique e d low low' next next' = turn (ltb e d) refl (ltb d e) refl
    where
      turn : (t : Bool) → ltb e d ≡ t → (t' : Bool) → ltb d e ≡ t' → e ≡ d
      turn true h t' h' = let due = next.due low in absurd (next'.before e due.0 (ltb-true _ _ h) low due.1)
      turn false h true h' = let due = next'.due low' in absurd (next.before d due.0 (ltb-true _ _ h') low' due.1)
      turn false h false h' = omega (arith, ltb-false e d h, ltb-false d e h')

  not_none : {from : ℕ} (e d : ℕ) → e < entries → entries ≤ d → NextDue x from e → NextDue x from d → ⊥
  not_none e d low high next next' = let due = next.due low in next'.before e due.0 (omega arith) low due.1

  -- an entry that does not wait is passed over
  pass_over : {from e : ℕ} → (DueAt x from → ⊥) → NextDue x (from + 1) e → NextDue x from e
  pass_over {from} idle next = record {
    before = λ d low below range due. by_cases (ℕ_discrete d from)
        (λ same. idle (subst (DueAt x) same due))
        (λ other. next.before d (omega arith) below range due);
    due = λ low. (let d = next.due low in (omega (arith, d.0), d.1));
  }

  -- what is next is the lowest entry that waits
  abbrev pub Known : ℕ → Option ℕ → Type 0
  Known from (Some e) = (e < entries) × NextDue x from e
  Known from None = NextDue x from entries

  known_over : (from : ℕ) (o : Option ℕ) → (DueAt x from → ⊥) → Known (from + 1) o → Known from o
  known_over from (Some e) idle known = (known.0, pass_over idle known.1)
  known_over from None idle known = pass_over idle known

  waiting_known : (n from : ℕ) → n ≡ entries - from → Known from (waiting x from n)
  unfolding waiting
  waiting_known zero from h = record { before = λ d low below range due. omega arith; due = λ low. absurd (omega arith) }
  waiting_known (suc n) from h = turn (ltb (receipted_at x from) (minute_at x from)) refl (waiting_known n (from + 1) (omega arith))
    where
      turn : (t : Bool) → ltb (receipted_at x from) (minute_at x from) ≡ t → Known (from + 1) (waiting x (from + 1) n) →
          Known from (cond t (Some from) (waiting x (from + 1) n))
      turn true e rest = (omega arith, record { before = λ d low below range due. omega arith; due = λ low. (le_refl from, ltb-true _ _ e) })
      turn false e rest = known_over from (waiting x (from + 1) n) (λ due. omega (arith, ltb-false (receipted_at x from) (minute_at x from) e)) rest

  pub next_known : (from : ℕ) (o : Option ℕ) → next_of x from ≡ o → Known from o
  next_known from o e = subst (Known from) e (waiting_known (entries - from) from refl)

  -- and the lowest entry that waits is next
  pub next_some : {from e : ℕ} → e < entries → NextDue x from e → next_of x from ≡ Some e
  next_some {from} {e} low next = turn (next_of x from) (next_known from _ refl)
    where
      turn : (o : Option ℕ) → Known from o → o ≡ Some e
      turn (Some d) known = ap Some (next_unique d e known.0 low known.1 next)
      turn None known = absurd (not_none e entries low (le_refl _) next known)

  pub next_none : {from e : ℕ} → entries ≤ e → NextDue x from e → next_of x from ≡ None
  next_none {from} {e} high next = turn (next_of x from) (next_known from _ refl)
    where
      turn : (o : Option ℕ) → Known from o → o ≡ None
      turn (Some d) known = absurd (not_none d e known.0 high known.1 next)
      turn None known = refl

  -- and with room it is given
  pub send_given : (from : ℕ) (l : List ℕ) {o : Option ℕ} → note_length ≤ length l → next_of x from ≡ o → gives o ≡ first_of (send_cases (length l)) (next_of x from)
  send_given from l room next = ap gives (sym next) ∙ sym (first_fails _ _ _ (le-ltb _ _ room) ∙ first_none _)

  -- under 12 lent bytes sending is refused, and they stay
  pub send_short : {from : ℕ} {l : List ℕ} → length l < note_length → Sends x from l (Err Room) l
  send_short short = record { answer = sym (first_holds _ _ _ (lt-ltb _ _ short)); bytes = refl }

  -- an entry that waits is next, one that does not is passed over, and after the last there is none
  pub next_here : (from : ℕ) → from < entries → DueAt x from → next_of x from ≡ Some from
  unfolding waiting
  next_here from low due = let n : entries - from ≡ suc (entries - (from + 1)) = omega arith in rw (n, lt-ltb _ _ due)

  pub next_over : (from : ℕ) → from < entries → minute_at x from ≤ receipted_at x from → next_of x from ≡ next_of x (from + 1)
  unfolding waiting
  next_over from low told = let n : entries - from ≡ suc (entries - (from + 1)) = omega arith in rw (n, le-ltb _ _ told)

  pub next_past : (from : ℕ) → entries ≤ from → next_of x from ≡ None
  unfolding waiting
  next_past from high = let n : entries - from ≡ 0 = omega arith in rw n

  -- a site that has to work does not rest, and one that has worked rests exactly if no entry is next
  pub not_idle : x.idle ≡ false → restful x ≡ false
  unfolding restful
  not_idle e = and_left _ _ e

  pub idle_rest : x.idle ≡ true → is_none (next_of x 0) ≡ restful x
  unfolding restful
  idle_rest idle = turn (next_of x 0) (next_known 0 (next_of x 0) refl) ∙ sym (and_true _ _ idle)
    where
      told : (d : ℕ) (t : Bool) → leb (minute_at x d) (receipted_at x d) ≡ t → (receipted_at x d < minute_at x d → ⊥) → t ≡ true
      told d true e h = refl
      told d false e h = absurd (h (leb-false _ _ e))

      turn : (o : Option ℕ) → Known 0 o → is_none o ≡ all_below entries (λ d. leb (minute_at x d) (receipted_at x d))
      turn (Some e) known = sym (all_below_false entries _ e known.0 (lt-leb _ _ (known.1.due known.0).1))
      turn None known = sym (all_below_true entries _ (λ d l. told d _ refl (known.before d (omega arith) l l)))

-- a note that is taken has room for its receipt, and is in order
pub taken_room : (x : Site) (b : List ℕ) {room : ℕ} {n : Note} → (n ≡ note_from b) × (first_of (note_cases x b room) n.kind ≡ gives n.kind) → note_length ≤ room
taken_room x b {room} {n} both = (taken_whole x b room n.kind both.1).0

pub taken_formed : (x : Site) (b : List ℕ) (room : ℕ) {n : Note} → (n ≡ note_from b) × (first_of (note_cases x b room) n.kind ≡ gives n.kind) → formed n ≡ true
taken_formed x b room {n} both = ap formed both.0 ∙ (taken_whole x b room n.kind both.1).2

-- a note that is read is in order
pub note_formed : (b : List ℕ) {n : Note} → n ≡ note_from b → note_ok b ≡ true → formed n ≡ true
note_formed b {n} e ok = ap formed e ∙ (note_whole b ok).1
