-- The notes that a site writes are those of the entries that wait, and a site rests if its tables do.
use mathlib.Core.Path.{◌≡◌, refl, sym, ap, ◌∙◌, subst}
use mathlib.Core.Bool.{true}
use mathlib.Core.List.{List}
use Prim.Native.Nat.{ℕ, ◌≤◌, ◌<◌}
use native.Mathlib.Omega.{arith}
use borrow.Author.Tests.{le-leb, leb-true, ltb-false}
use lib.Dec.{leb}
use lib.ListN.{length, take}
use Rattle.std.specs.Prelude.{Option, Some, None, Result, Ok, Err}
use Rattle.wac.specs.Limits.{keys, entries, delegate, without_end}
use Rattle.wac.specs.Answers.{gives, first_of}
use Rattle.wac.proofs.Cases.{first_none, first_passed, gives_injective, gives_not_refuses}
use Rattle.std.proofs.lemmas.Bool.{and_parts}
use Rattle.wac.proofs.Tests.{all_below_true, all_below_at}
use Rattle.rewriting.specs.Weighing.{minutes}
use Rattle.rewriting.specs.Entries.{Entry}
use Rattle.decision.specs.Table.{number, key_of, symbol_of, arrival_of}
use Rattle.decision.specs.declared.request.Request.{Request}
use Rattle.decision.proofs.TableLaws.{entry_of_lem, is_entry_lem, number_low, entry_back}
use Rattle.notes.specs.Notes as rules
use Rattle.sites.specs.Notes.{note_length, note_from, note_bytes}
use Rattle.sites.specs.Site.{minute_at, receipted_at, DueAt, NextDue, receipt_of, raise_of, next_of, send_cases, Sends, restful}
use Rattle.sites.specs.declared.site.Site.{Site}
use Rattle.sites.specs.declared.site.NoteRefused.{NoteRefused}
use Rattle.sites.proofs.SiteLaws.{Known, next_known, send_given}
use Rattle.sites.proofs.NoteLaws.{note_taken, Fields}
use Rattle.sites.proofs.Ledgers.{ledger, note_of, said_by, Standing, Honest, written_says, written_honest, table_at, table_number}

-- a site rests exactly if its tables do
module _ (x : Site) where
  pub rest_tables : restful x ≡ true → rules.Rest keys (ledger x)
  unfolding restful
  rest_tables h =
      let both = and_parts _ _ h in
      record {
        quiet = both.0;
        all = λ k s a e.
            let t = is_entry_lem k s a e in
            let at = leb-true (minute_at x (number k s a)) (receipted_at x (number k s a)) (all_below_at entries (λ e. leb (minute_at x e) (receipted_at x e)) both.1 (number k s a) (number_low k s a t)) in
            omega (arith, at, table_at x.minutes k s a t, table_at x.receipted k s a t);
      }

  pub tables_rest : rules.Rest keys (ledger x) → restful x ≡ true
  unfolding restful
  tables_rest r = rw r.quiet (all_below_true entries _ (λ e low.
      le-leb (minute_at x e) (receipted_at x e)
      (omega (arith, r.all _ _ _ (entry_of_lem _ _ _ (entry_back e low)), table_number x.minutes e low, table_number x.receipted e low))))

-- an entry that waits in a site waits in its tables
pub due_tables : (x : Site) (e : ℕ) → e < entries → DueAt x e → rules.Due (ledger x) (key_of e) (symbol_of e) (arrival_of e)
due_tables x e low d = omega (arith, d, table_number x.minutes e low, table_number x.receipted e low)

-- the note that stands in the lent bytes is that of the lowest entry that waits
pub record SentNote (x : Site) (from e : ℕ) (l : List ℕ) : Type 0 where
  pub low : e < entries
  pub next : NextDue x from e
  pub bytes : take note_length l ≡ note_bytes (raise_of x e)

-- what is sent is what is next
given_next : (x : Site) (from : ℕ) (l : List ℕ) (o : Option ℕ) → gives o ≡ first_of (send_cases (length l)) (next_of x from) →
    (note_length ≤ length l) × Known x from o
given_next x from l o e =
    let p = first_passed _ _ _ (sym e) in
    (ltb-false _ _ p.0, next_known x from o (gives_injective (sym (first_none _) ∙ p.1)))

pub sent_note_of : {x : Site} {from e : ℕ} {l l' : List ℕ} → Sends x from l (Ok (Some e)) l' → SentNote x from e l'
sent_note_of {x} {from} {e} {l} sends =
    let (room, known) = given_next x from l (Some e) sends.answer in
    record { low = known.0; next = known.1; bytes = ap (take note_length) sends.bytes ∙ note_taken l (raise_of x e) room }

-- so it is of an entry at or above the one that was given
pub sent_above : {x : Site} {from e : ℕ} {l l' : List ℕ} {r : Result (Option ℕ) NoteRefused} → Sends x from l r l' → r ≡ Ok (Some e) → (from ≤ e) × (e < entries)
sent_above {x} {from} {l = l} {l' = l'} sends same =
    let n = sent_note_of (subst (λ r. Sends x from l r l') same sends) in
    ((n.next.due n.low).0, n.low)

pub sent_none_of : {x : Site} {from : ℕ} {l l' : List ℕ} → Sends x from l (Ok None) l' → NextDue x from entries
sent_none_of {x} {from} {l} sends = (given_next x from l None sends.answer).1

-- with room sending is not refused
pub never_short : {x : Site} {from : ℕ} {why : NoteRefused} {l l' : List ℕ} → note_length ≤ length l → Sends x from l (Err why) l' → ⊥
never_short {x} {from} {l} room sends = gives_not_refuses (send_given x from l room refl ∙ sym sends.answer)

-- only identifiers and mark 10 wait
abbrev pub Sendable : Site → Type 0
Sendable x = (k s a : ℕ) → Entry keys k s a → rules.Due (ledger x) k s a → s ≤ delegate

-- the note of an entry that waits is honest, and says what the rules send
module _ {s : List ℕ} {q : Request} {session : ℕ} (word : session ≤ without_end) {x : Site} (st : Standing s q session x) (sendable : Sendable x) (e : ℕ) (low : e < entries) (due : DueAt x e) where
  raise_fields : Fields (raise_of x e)
  raise_fields = record {
    kind = refl;
    some = λ z. omega arith;
    symbol = omega (arith, sendable _ _ _ (entry_of_lem _ _ _ (entry_back e low)) (due_tables x e low due));
    entry = entry_back e low;
  }

  reply_fields : Fields (receipt_of (raise_of x e))
  reply_fields = record { kind = refl; some = raise_fields.some; symbol = raise_fields.symbol; entry = raise_fields.entry }

  raise_fits : minute_at x e ≤ without_end
  unfolding minutes
  raise_fits = st.minutes.fits e

  pub raise_read : note_from (note_bytes (raise_of x e)) ≡ raise_of x e
  raise_read = written_says session word (raise_of x e) raise_fields raise_fits st.of_session

  pub raise_honest : Honest session (note_bytes (raise_of x e))
  raise_honest = written_honest session word (raise_of x e) raise_fields raise_fits st.of_session

  pub raise_says : note_of (note_bytes (raise_of x e)) ≡ rules.raise (key_of e) (symbol_of e) (arrival_of e) ((ledger x).minute (key_of e) (symbol_of e) (arrival_of e))
  raise_says = ap said_by raise_read ∙ ap (rules.raise (key_of e) (symbol_of e) (arrival_of e)) (sym (table_number x.minutes e low))

  -- and so is its receipt
  pub reply_read : note_from (note_bytes (receipt_of (raise_of x e))) ≡ receipt_of (raise_of x e)
  reply_read = written_says session word (receipt_of (raise_of x e)) reply_fields raise_fits st.of_session

  pub reply_honest : Honest session (note_bytes (receipt_of (raise_of x e)))
  reply_honest = written_honest session word (receipt_of (raise_of x e)) reply_fields raise_fits st.of_session
