-- The program's own exchange is one of the theorem's: what it sends in turn gives every entry its turn.
use mathlib.Core.Path.{◌≡◌, refl, sym, ap, subst, ◌∙◌}
use mathlib.Core.List.{List}
use Prim.Native.Nat.{ℕ, ◌+◌, ◌≤◌}
use native.Mathlib.Omega.{arith}
use lib.ListN.{length, take}
use lib.Seq.{take_all, length-sets}
use Rattle.std.specs.Prelude.{Some, None, Result, Ok, Err}
use Rattle.wac.specs.Limits.{entries}
use Rattle.decision.specs.declared.request.Request.{Request}
use Rattle.sites.specs.Notes.{note_length, note_from, note_bytes}
use Rattle.sites.specs.Site.{Works, Takes, Sends, raise_of, receipt_of, bytes_after}
use Rattle.sites.specs.declared.note.Note.{Note}
use Rattle.sites.specs.declared.note.NoteKind.{NoteKind}
use Rattle.sites.specs.declared.note.NoteKind.TheVariants.{Raise, Receipt}
use Rattle.sites.specs.declared.site.Taking.{Taking}
use Rattle.sites.specs.Line.{System, swapped, Reached}
use Rattle.sites.specs.Exchange.{a_works}
use Rattle.sites.specs.declared.site.Site.{Site}
use Rattle.sites.specs.declared.site.NoteRefused.{NoteRefused}
use Rattle.sites.proofs.Running.{reached_on, reached_swap, half_steps}
use Rattle.sites.proofs.Turning.{Turned, turned_work, turned_reached, turned_nothing, turned_half, next_raised, turned_note, Delivered, delivered}
use Rattle.exchange.specs.Mail.{blank}
use Rattle.exchange.specs.Acts.{swapped_desk, Worked, Returned, Exchanged, SentNext, At, HalfDone, FullDone}
use Rattle.exchange.specs.declared.desk.Desk.{Desk}
use Rattle.exchange.specs.declared.desk.Done.{Done}
use Rattle.exchange.specs.declared.desk.Sent.{Sent}

-- from every state reached in which the first site's work leads to the desk w: after the entries below `from` had their turns the sites are those of d
abbrev pub Turning : Desk → Desk → ℕ → Type 0
Turning w d from = (f g : List ℕ) (q : Request) (session : ℕ) (x : System) → Reached f g q session x → Works x.a.site w.first → x.b.site ≡ w.second →
    (y : System) × At y d × Turned session x y from

-- when the first site has worked, none has had its turn,
pub turning_begins : (w : Desk) → Turning w w 0
turning_begins w f g q session x r works same = (a_works w.first x, record { a = refl; b = same }, turned_work works)

-- what is written fills the 12 lent bytes and no more,
sent_whole : {x : Site} {from e : ℕ} {l : List ℕ} → Sends x from blank (Ok (Some e)) l → take note_length l ≡ l
sent_whole {x} {from} {e} {l} sends = take_all note_length l (omega (arith, ap length sends.bytes ∙ length-sets blank 0 (note_bytes (raise_of x e))))

bytes_length : (t : Result NoteKind NoteRefused) (l : List ℕ) (n : Note) → length (bytes_after t l n) ≡ length l
bytes_length (Ok Raise) l n = length-sets l 0 (note_bytes (receipt_of n))
bytes_length (Ok Receipt) l n = refl
bytes_length (Err why) l n = refl

taken_whole : {x : Site} {b l : List ℕ} {t : Taking} → Takes x b blank t l → take note_length l ≡ l
taken_whole {b = b} {l = l} {t = t} takes =
    take_all note_length l (omega (arith, ap length takes.bytes ∙ bytes_length t.answer blank (note_from b)))

room : note_length ≤ length blank
room = omega arith

-- A note that goes to the other site in a state reached is a raise there, and its receipt comes back.
receipt_back : {f g : List ℕ} {q : Request} {session from e : ℕ} {y : System} {d d' : Desk} {bytes : List ℕ} → Reached f g q session y → At y d →
    Sends y.a.site from blank (Ok (Some e)) bytes → (ex : Exchanged d bytes d') → Returned (Ok Raise) ex.receipt d.first d'.first
receipt_back {d = d} {d'} {bytes} reached at sends ex = subst (λ t. Returned t ex.receipt d.first d'.first)
    (next_raised reached sends (sent_whole sends) room (subst (λ s. Takes s bytes blank (record { answer = ex.answer; site = d'.second }) ex.receipt) (sym at.b) ex.there))
    ex.back

-- So a note there and its receipt back is delivered,
note_delivered : {from e : ℕ} {y : System} {d d' : Desk} {bytes : List ℕ} → At y d → Sends y.a.site from blank (Ok (Some e)) bytes → (ex : Exchanged d bytes d') →
    Returned (Ok Raise) ex.receipt d.first d'.first → Delivered y.a.site y.b.site from e bytes ex.receipt d'.first d'.second
note_delivered {y = y} {d} {d'} {bytes} at sends ex (answer, back, takes) = record {
  lent = blank;
  written = bytes;
  sends = sends;
  note_is = sent_whole sends;
  b_lent = blank;
  b_written = ex.receipt;
  b_taking = record { answer = ex.answer; site = d'.second };
  b_room = room;
  b_takes = subst (λ s. Takes s bytes blank (record { answer = ex.answer; site = d'.second }) ex.receipt) (sym at.b) ex.there;
  b_after = refl;
  receipt_is = taken_whole ex.there;
  a_lent = blank;
  a_written = back;
  a_taking = record { answer = answer; site = d'.first };
  a_room = room;
  a_takes = subst (λ s. Takes s ex.receipt blank (record { answer = answer; site = d'.first }) back) (sym at.a) takes;
  a_after = refl;
}

-- then one more has had its turn,
note_turned : {f g : List ℕ} {q : Request} {session from e n : ℕ} {x y : System} {d d' : Desk} {bytes : List ℕ} → Reached f g q session x → At y d → Turned session x y from →
    Sends d.first from blank (Ok (Some e)) bytes → Exchanged d bytes d' → n ≡ e + 1 → (z : System) × At z d' × Turned session x z n
note_turned {from = from} {e} {x = x} {y} {d} {d'} {bytes} reached at turned sends ex next =
    let sends : Sends y.a.site from blank (Ok (Some e)) bytes = subst (λ s. Sends s from blank (Ok (Some e)) bytes) (sym at.a) sends in (
      delivered y bytes ex.receipt d'.first d'.second,
      record { a = refl; b = refl },
      subst (Turned _ x _) (sym next) (turned_note reached turned (note_delivered at sends ex (receipt_back (turned_reached reached turned) at sends ex))),
    )

pub turning_next : (w d : Desk) {from : ℕ} {s : Sent} → Turning w d from → SentNext d from (Some s) → Turning w s.desk s.next
turning_next w d t (e, bytes, sends, ex, next) f g q session x reached works same =
    let (y, at, turned) = t f g q session x reached works same in note_turned reached at turned sends ex next

-- when the first site has none left, all had theirs,
pub turning_last : (w d : Desk) {from : ℕ} → Turning w d from → SentNext d from None → Turning w d entries
turning_last w d {from} t (bytes, sends) f g q session x reached works same =
    let (y, at, turned) = t f g q session x reached works same in
    (y, at, turned_nothing turned (subst (λ s. Sends s from blank (Ok None) bytes) (sym at.a) sends))

-- and when all have, it is a half of the theorem's.
pub turning_done : (d d' : Desk) {from : ℕ} {r : Done} → entries ≤ from → Worked d r → Turning r.desk d' from → HalfDone d d'
turning_done d d' all worked t f g q session x reached at =
    let (y, there, turned) = t f g q session x reached (rw (at.a, worked.desk) worked.works) (at.b ∙ sym (ap (λ e. e.second) worked.desk)) in
    (y, there, turned_half all turned)

-- Two halves, the second the other way round, are a full exchange.
pub halves_full : (d d' d'' : Desk) → HalfDone d d' → HalfDone (swapped_desk d') d'' → FullDone d (swapped_desk d'')
halves_full d d' d'' there back f g q session x reached at =
    let (y, middle, half) = there f g q session x reached at in
    let (z, end, other) = back g f q session (swapped y) (reached_swap (reached_on reached (half_steps half))) (record { a = middle.b; b = middle.a }) in
    (swapped z, record { a = end.b; b = end.a }, record { middle = y; there = half; back = other })
