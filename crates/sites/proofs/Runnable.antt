-- A full exchange can always be run: from every state reached there is one.
use mathlib.Core.Path.{◌≡◌, refl, sym, ap, ◌∙◌, subst₂}
use mathlib.Core.List.{List, ◌++◌}
use Prim.Native.Nat.{ℕ, zero, suc, ◌+◌, ◌≤◌}
use native.Mathlib.Nat.{le_refl}
use native.Mathlib.Omega.{arith}
use lib.ListN.{length, drop, replicate, length-append, length-drop}
use lib.Seq.{take_at, drop_at}
use Rattle.std.specs.Prelude.{Option, Some, None, Ok}
use Rattle.wac.specs.Limits.{entries}
use Rattle.rewriting.specs.Passes.{Table, repeated, CountFrom}
use Rattle.rewriting.proofs.Settling.{settles}
use Rattle.decision.specs.Usable.{rules_of}
use Rattle.decision.specs.Table.{row_of}
use Rattle.decision.specs.Engine.{held, SettledFrom}
use Rattle.decision.specs.Question.{asked, Settles}
use Rattle.decision.specs.declared.request.Request.{Request}
use Rattle.decision.specs.declared.lens.Lens.TheVariants.{Minutes}
use Rattle.decision.proofs.AskLaws.{settle_given}
use Rattle.decision.proofs.TableLaws.{length_row, list_held}
use Rattle.sites.specs.Notes.{note_length, note_from, note_bytes}
use Rattle.sites.specs.Site.{worked_site, Works, site_after, bytes_after, Takes, receipt_of, raise_of, next_of, bytes_sent, Sends}
use Rattle.sites.specs.Line.{System, swapped, Reached}
use Rattle.sites.specs.Exchange.{Half, Full}
use Rattle.sites.specs.declared.site.Site.{Site}
use Rattle.sites.specs.declared.note.NoteKind.TheVariants.{Raise, Receipt}
use Rattle.sites.proofs.SiteLaws.{send_given}
use Rattle.sites.proofs.Ledgers.{Standing}
use Rattle.sites.proofs.SendingLaws.{sent_note_of}
use Rattle.sites.proofs.Following.{InOrder, begun_order, followed}
use Rattle.sites.proofs.Running.{half_steps, reached_on, reached_swap}
use Rattle.sites.proofs.Turning.{Turned, turned_work, turned_reached, turned_nothing, turned_half, raise_given, raise_reply, receipt_given, Delivered, turned_note}

-- working has a result
module _ {s : List ℕ} {q : Request} {session : ℕ} (order : InOrder s q) {x : Site} (st : Standing s q session x) where
  row_settles : (t : Table) (N : ℕ) → CountFrom (asked q) (rules_of s q) (held Minutes x.minutes) N → t ≡ repeated (asked q) (rules_of s q) (held Minutes x.minutes) N →
      SettledFrom Minutes s q x.minutes N (row_of t ++ drop entries x.minutes)
  row_settles t N count same = record {
    long = length-append (row_of t) (drop entries x.minutes) ∙ omega (arith, length_row t, length-drop entries x.minutes, st.minutes.long);
    beyond = drop_at (row_of t) (drop entries x.minutes) entries (length_row t);
    count = count;
    row = take_at (row_of t) (drop entries x.minutes) entries (length_row t) ∙ ap row_of same;
  }

  work_runs : (x' : Site) × Works x x'
  work_runs =
      let count = settles order.lawful (list_held Minutes q.asker x.minutes st.minutes) in
      let t = repeated (asked q) (rules_of s q) (held Minutes x.minutes) count.0 in
      let after = row_of t ++ drop entries x.minutes in
      let given = settle_given s q (length x.minutes) order.admitted st.minutes.long in (
        worked_site x after,
        Works.worked count.0 after (subst₂ (λ f r. Settles f r (Ok count.0) x.minutes after) (sym st.file) (sym st.request)
            (Settles.settled given count.0 (row_settles t count.0 count.1 refl) refl)) refl,
      )

-- the lent bytes of a note
lent : List ℕ
lent = replicate note_length 0

lent_room : note_length ≤ length lent
unfolding lent
lent_room = le_refl _

-- one note there and its receipt back, where an entry waits
module _ {f g : List ℕ} {q : Request} {session : ℕ} {y : System} (r : Reached f g q session y) (from e : ℕ) (next : next_of y.a.site from ≡ Some e) where
  abbrev note : List ℕ
  note = note_bytes (raise_of y.a.site e)

  abbrev reply : List ℕ
  reply = note_bytes (receipt_of (raise_of y.a.site e))

  sends : Sends y.a.site from lent (Ok (Some e)) (bytes_sent (Ok (Some e)) y.a.site lent)
  sends = record { answer = send_given y.a.site from lent lent_room next; bytes = refl }

  pub above : from ≤ e
  above = let n = sent_note_of sends in (n.next.due n.low).0

  delivery : Delivered y.a.site y.b.site from e note reply (site_after (Ok Receipt) y.a.site (note_from reply)) (site_after (Ok Raise) y.b.site (note_from note))
  delivery =
      let n = sent_note_of sends in
      let due = (n.next.due n.low).1 in
      let taken : Takes y.b.site note lent (record { answer = Ok Raise; site = site_after (Ok Raise) y.b.site (note_from note) }) (bytes_after (Ok Raise) lent (note_from note)) =
      record { answer = raise_given r e n.low due (length lent) lent_room; site = refl; bytes = refl } in
      record {
        lent = lent;
        written = bytes_sent (Ok (Some e)) y.a.site lent;
        sends = sends;
        note_is = n.bytes;
        b_lent = lent;
        b_written = bytes_after (Ok Raise) lent (note_from note);
        b_taking = record { answer = Ok Raise; site = site_after (Ok Raise) y.b.site (note_from note) };
        b_room = lent_room;
        b_takes = taken;
        b_after = refl;
        receipt_is = raise_reply r e n.low due lent_room taken;
        a_lent = lent;
        a_written = lent;
        a_taking = record { answer = Ok Receipt; site = site_after (Ok Receipt) y.a.site (note_from reply) };
        a_room = lent_room;
        a_takes = record { answer = receipt_given r e n.low due (length lent) lent_room; site = refl; bytes = refl };
        a_after = refl;
      }

-- the turns of all entries that are left: where one waits its note goes there and the receipt comes back, else all have had theirs
module _ {f g : List ℕ} {q : Request} {session : ℕ} {x : System} (r : Reached f g q session x) where
  abbrev Halved : Type 0
  Halved = (z : System) × Half session x z

  one_turn : {y : System} {from : ℕ} (o : Option ℕ) → next_of y.a.site from ≡ o → Turned session x y from →
      ((z : System) (e : ℕ) → from ≤ e → Turned session x z (e + 1) → Halved) → Halved
  one_turn {y} {from} (Some e) next t rest =
      let k = turned_reached r t in
      rest _ e (above k from e next) (turned_note r t (delivery k from e next))
  one_turn {y} {from} None next t rest =
      (y, turned_half (le_refl _) (turned_nothing {l = lent} t (record { answer = send_given y.a.site from lent lent_room next; bytes = refl })))

  turns_run : (n : ℕ) (y : System) (from : ℕ) → entries ≤ n + from → Turned session x y from → Halved
  turns_run zero y from h t = (y, turned_half (omega arith) t)
  turns_run (suc n) y from h t = one_turn (next_of y.a.site from) refl t (λ z e up on. turns_run n z (e + 1) (omega arith) on)

  half_runs : Halved
  half_runs =
      let w = work_runs (begun_order r.begun_a) (followed r).a_stands in
      turns_run entries _ 0 (omega arith) (turned_work w.1)

pub full_runs : {f g : List ℕ} {q : Request} {session : ℕ} {x : System} → Reached f g q session x → (y : System) × Full session x y
full_runs r =
    let one = half_runs r in
    let two = half_runs (reached_swap (reached_on r (half_steps one.1))) in
    (swapped two.0, record { middle = one.0; there = one.1; back = two.1 })
