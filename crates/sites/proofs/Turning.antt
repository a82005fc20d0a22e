-- One half note by note, as a program runs it: a works; then, as long as an entry waits, its next note is written, b takes it, and a takes
-- the receipt before the next note is looked for. What is so run is a half.
use mathlib.Core.Path.{◌≡◌, refl, sym, ap, ◌∙◌, subst}
use mathlib.Core.Logic.{by_cases}
use mathlib.Core.List.{List, [], ◌∷◌, Memᴰ}
use Prim.Native.Nat.{ℕ, ◌+◌, ◌≤◌, ◌<◌}
use native.Mathlib.Nat.{le_refl}
use native.Mathlib.Omega.{arith}
use native.Mathlib.Decide.{dec_lt, ℕ_discrete}
use lib.ListN.{length, take}
use Rattle.std.specs.Prelude.{Some, None, Result, Ok}
use Rattle.wac.specs.Limits.{entries}
use Rattle.wac.specs.Answers.{gives, first_of}
use Rattle.decision.specs.declared.request.Request.{Request}
use Rattle.decision.proofs.TableLaws.{entry_back, number_back}
use Rattle.sites.specs.Notes.{note_length, note_from, note_bytes}
use Rattle.sites.specs.Site.{Works, minute_at, entry_of, receipt_of, taken_as, note_cases, bytes_after, Takes, DueAt, raise_of, Sends}
use Rattle.sites.specs.Line.{receipt_in, Act, System, Step, Steps, joined, Reached}
use Rattle.sites.specs.Exchange.{accepted, taken_a, taken_b, Turn, a_works, Half}
use Rattle.sites.specs.declared.note.Note.{Note}
use Rattle.sites.specs.declared.site.Site.{Site}
use Rattle.sites.specs.declared.note.NoteKind.{NoteKind}
use Rattle.sites.specs.declared.site.NoteRefused.{NoteRefused}
use Rattle.sites.specs.declared.note.NoteKind.TheVariants.{Raise, Receipt}
use Rattle.sites.specs.declared.site.Taking.{Taking}
use Rattle.sites.proofs.SiteLaws.{taken_raise, taken_receipt}
use Rattle.sites.proofs.Unique.{taken_apart}
use Rattle.sites.proofs.NoteLaws.{note_taken}
use Rattle.sites.proofs.SendingLaws.{Sendable, sent_note_of, sent_none_of, raise_read, raise_honest, reply_read, reply_honest}
use Rattle.sites.proofs.Following.{begun_order, Followed, followed, first_sendable}
use Rattle.sites.proofs.Running.{turn_stays, reached_on}

-- a has worked in the state x, and on the run from there to y every entry below `from` has had its turn
pub record Turned (session : ℕ) (x y : System) (from : ℕ) : Type 0 where
  pub worked : Site
  pub work : Works x.a.site worked
  pub run : Steps session (a_works worked x) y
  pub had : (e : ℕ) → e < from → e < entries → Turn run e

-- it begins when a has worked
pub turned_work : {session : ℕ} {x : System} {w : Site} → Works x.a.site w → Turned session x (a_works w x) 0
turned_work {w = w} work = record { worked = w; work = work; run = Steps.none; had = λ e below low. absurd (omega arith) }

-- it is a run, so its end is reached
pub turned_steps : {session from : ℕ} {x y : System} → Turned session x y from → Steps session x y
turned_steps t = joined (Steps.more Steps.none (Step.step_a (Act.act_work t.worked t.work))) t.run

pub turned_reached : {f g : List ℕ} {q : Request} {session from : ℕ} {x y : System} → Reached f g q session x → Turned session x y from →
    Reached f g q session y
turned_reached r t = reached_on r (turned_steps t)

-- b takes the note of an entry of a, as a held it in the state y, and a takes the receipt
abbrev Told : {session : ℕ} {y z : System} → Steps session y z → ℕ → Type 0
Told {y = y} on e =
    Memᴰ (note_bytes (raise_of y.a.site e)) (taken_b on) × Memᴰ (note_bytes (receipt_of (raise_of y.a.site e))) (taken_a on)

-- an entry has its turn where a run goes on so if it waits,
turn_told : {session : ℕ} {x y z : System} (run : Steps session x y) (on : Steps session y z) {e : ℕ} → (DueAt y.a.site e → Told on e) →
    Turn (joined run on) e
turn_told {y = y} run on told = record { point = y; before = run; after = on; parts = refl; told = told }

-- and at the end of a run if it does not wait there
turn_idle : {session : ℕ} {x y : System} (run : Steps session x y) {e : ℕ} → (DueAt y.a.site e → ⊥) → Turn run e
unfolding joined
turn_idle run idle = turn_told run Steps.none (λ due. absurd (idle due))

-- when there is no next note, every entry has had its turn
pub turned_nothing : {session from : ℕ} {x y : System} {l l' : List ℕ} → Turned session x y from → Sends y.a.site from l (Ok None) l' →
    Turned session x y entries
turned_nothing {from = from} t sends = record {
  worked = t.worked;
  work = t.work;
  run = t.run;
  had = λ e below low. by_cases (dec_lt e from)
      (λ before. t.had e before low)
      (λ past. turn_idle t.run ((sent_none_of sends).before e (omega arith) low low));
}

-- when every entry has had its turn, it is a half
pub turned_half : {session from : ℕ} {x y : System} → entries ≤ from → Turned session x y from → Half session x y
turned_half {x = x} all t = record {
  from = x;
  before = Steps.none;
  worked = t.worked;
  work = t.work;
  after = t.run;
  turns = λ e low. t.had e (omega arith) low;
}

-- the note of an entry that waits, and its receipt, in a state reached
module _ {f g : List ℕ} {q : Request} {session : ℕ} {y : System} (r : Reached f g q session y) (e : ℕ) (low : e < entries) (due : DueAt y.a.site e) where
  abbrev sent : Note
  sent = raise_of y.a.site e

  state : Followed f g q session y
  state = followed r

  sendable : Sendable y.a.site
  sendable = first_sendable (begun_order r.begun_a) (begun_order r.begun_b) y.a y.b state.reached

  -- the note is taken as a raise, wherever there is room for its receipt,
  pub raise_given : (room : ℕ) → note_length ≤ room → taken_as (Ok Raise) ≡ first_of (note_cases y.b.site (note_bytes sent) room) (note_from (note_bytes sent)).kind
  raise_given room enough =
      let read = raise_read r.word state.a_stands sendable e low due in
      let honest = raise_honest r.word state.a_stands sendable e low due in
      let kind = ap (λ (n : Note). n.kind) read in
      ap gives (sym kind) ∙ sym (taken_raise y.b.site (note_bytes sent) room _ enough honest.ok (note_from (note_bytes sent)) refl
      state.b_stands.live (honest.of_session ∙ sym state.b_stands.of_session) kind)

  -- and its receipt as a receipt
  own_entry : entry_of (receipt_of sent) ≡ e
  own_entry = rw (entry_back e low) (number_back e low)

  pub receipt_given : (room : ℕ) → note_length ≤ room →
      taken_as (Ok Receipt) ≡ first_of (note_cases y.a.site (note_bytes (receipt_of sent)) room) (note_from (note_bytes (receipt_of sent))).kind
  receipt_given room enough =
      let b = note_bytes (receipt_of sent) in
      let read = reply_read r.word state.a_stands sendable e low due in
      let honest = reply_honest r.word state.a_stands sendable e low due in
      let held = subst (λ (n : Note). n.minute ≤ minute_at y.a.site e) (sym read) (le_refl _) in
      ap gives (sym (ap (λ (n : Note). n.kind) read)) ∙ sym (taken_receipt y.a.site b room _ enough honest.ok (note_from b) refl
      state.a_stands.live (honest.of_session ∙ sym state.a_stands.of_session) e (sym (ap entry_of read ∙ own_entry)) held)

  -- so whatever takes the note answers so, and what it writes is the receipt
  pub raise_answer : {l l' : List ℕ} {t : Taking} → note_length ≤ length l → Takes y.b.site (note_bytes sent) l t l' → t.answer ≡ Ok Raise
  raise_answer {l} {t = t} room takes = taken_apart t.answer (Ok Raise) (takes.answer ∙ sym (raise_given (length l) room))

  pub raise_reply : {l l' : List ℕ} {t : Taking} → note_length ≤ length l → Takes y.b.site (note_bytes sent) l t l' → take note_length l' ≡ note_bytes (receipt_of sent)
  raise_reply {l} room takes =
      let read = raise_read r.word state.a_stands sendable e low due in
      ap (take note_length) (takes.bytes ∙ ap (λ a. bytes_after a l (note_from (note_bytes sent))) (raise_answer room takes))
      ∙ note_taken l (receipt_of (note_from (note_bytes sent))) room ∙ ap (λ n. note_bytes (receipt_of n)) read

  pub receipt_answer : {l l' : List ℕ} {t : Taking} → note_length ≤ length l → Takes y.a.site (note_bytes (receipt_of sent)) l t l' → t.answer ≡ Ok Receipt
  receipt_answer {l} {t = t} room takes = taken_apart t.answer (Ok Receipt) (takes.answer ∙ sym (receipt_given (length l) room))

-- so the next note is taken as a raise
pub next_raised : {f g : List ℕ} {q : Request} {session : ℕ} {y : System} {from e : ℕ} {l l' note m m' : List ℕ} {t : Taking} →
    Reached f g q session y → Sends y.a.site from l (Ok (Some e)) l' → take note_length l' ≡ note →
    note_length ≤ length m → Takes y.b.site note m t m' → t.answer ≡ Ok Raise
next_raised {y = y} {e = e} {m = m} {m'} {t} r sends same room takes =
    let n = sent_note_of sends in
    raise_answer r e n.low (n.next.due n.low).1 room
    (subst (λ n. Takes y.b.site n m t m') (sym same ∙ n.bytes) takes)

-- one note there and its receipt back: the next note of a from `from` on, of entry e; b takes it; a takes the receipt
pub record Delivered (a b : Site) (from e : ℕ) (note receipt : List ℕ) (a' b' : Site) : Type 0 where
  pub lent : List ℕ
  pub written : List ℕ
  pub sends : Sends a from lent (Ok (Some e)) written
  pub note_is : take note_length written ≡ note
  pub b_lent : List ℕ
  pub b_written : List ℕ
  pub b_taking : Taking
  pub b_room : note_length ≤ length b_lent
  pub b_takes : Takes b note b_lent b_taking b_written
  pub b_after : b_taking.site ≡ b'
  pub receipt_is : take note_length b_written ≡ receipt
  pub a_lent : List ℕ
  pub a_written : List ℕ
  pub a_taking : Taking
  pub a_room : note_length ≤ length a_lent
  pub a_takes : Takes a receipt a_lent a_taking a_written
  pub a_after : a_taking.site ≡ a'

-- both sites after it
abbrev pub delivered : System → List ℕ → List ℕ → Site → Site → System
delivered y note receipt a b = record { a = record { site = a; wrote = note ∷ y.a.wrote }; b = record { site = b; wrote = receipt ∷ y.b.wrote } }

module _ {f g : List ℕ} {q : Request} {session : ℕ} {y : System} (r : Reached f g q session y) {from e : ℕ} {note receipt : List ℕ} {a' b' : Site}
    (d : Delivered y.a.site y.b.site from e note receipt a' b') where
  low : e < entries
  low = (sent_note_of d.sends).low

  due : DueAt y.a.site e
  due = ((sent_note_of d.sends).next.due low).1

  note_bytes_lem : note ≡ note_bytes (raise_of y.a.site e)
  note_bytes_lem = sym d.note_is ∙ (sent_note_of d.sends).bytes

  there : Takes y.b.site (note_bytes (raise_of y.a.site e)) d.b_lent d.b_taking d.b_written
  there = subst (λ n. Takes y.b.site n d.b_lent d.b_taking d.b_written) note_bytes_lem d.b_takes

  receipt_bytes : receipt ≡ note_bytes (receipt_of (raise_of y.a.site e))
  receipt_bytes = sym d.receipt_is ∙ raise_reply r e low due d.b_room there

  back : Takes y.a.site (note_bytes (receipt_of (raise_of y.a.site e))) d.a_lent d.a_taking d.a_written
  back = subst (λ n. Takes y.a.site n d.a_lent d.a_taking d.a_written) receipt_bytes d.a_takes

  -- b takes the note as a raise, and a the receipt as a receipt
  pub b_answers : d.b_taking.answer ≡ Ok Raise
  b_answers = next_raised r d.sends d.note_is d.b_room d.b_takes

  pub a_answers : d.a_taking.answer ≡ Ok Receipt
  a_answers = receipt_answer r e low due d.a_room back

  -- a run on which b takes the note and a takes the receipt
  abbrev Passing : System → Type 0
  Passing z = (on : Steps session y z) × Memᴰ note (taken_b on) × Memᴰ receipt (taken_a on)

  abbrev end : Result NoteKind NoteRefused → Result NoteKind NoteRefused → System
  end t s = record {
    a = record { site = d.a_taking.site; wrote = receipt_in s d.a_written (take note_length d.written ∷ y.a.wrote) };
    b = record { site = d.b_taking.site; wrote = receipt_in t d.b_written y.b.wrote };
  }

  passing : Passing (end d.b_taking.answer d.a_taking.answer)
  unfolding taken_a taken_b
  passing = (
    Steps.more (Steps.more (Steps.more Steps.none (Step.step_a (Act.act_write from e d.lent d.written d.sends)))
        (Step.step_b (Act.act_take note d.b_lent d.b_written d.b_taking (Memᴰ.head (sym d.note_is)) d.b_takes)))
        (Step.step_a (Act.act_take receipt d.a_lent d.a_written d.a_taking
        (subst (λ t. Memᴰ receipt (receipt_in t d.b_written y.b.wrote)) (sym b_answers) (Memᴰ.head (sym d.receipt_is))) d.a_takes)),
    subst (λ t. Memᴰ note (accepted t note [])) (sym b_answers) (Memᴰ.head refl),
    subst (λ t. Memᴰ receipt (accepted t receipt [])) (sym a_answers) (Memᴰ.head refl),
  )

  ends : end d.b_taking.answer d.a_taking.answer ≡ delivered y note receipt a' b'
  ends = ap (λ t. end t d.a_taking.answer) b_answers ∙ ap (end (Ok Raise)) a_answers
      ∙ (λ i. delivered y (d.note_is i) (d.receipt_is i) (d.a_after i) (d.b_after i))

  delivers : Passing (delivered y note receipt a' b')
  delivers = subst Passing ends passing

-- with one note more, every entry up to its own has had its turn
pub turned_note : {f g : List ℕ} {q : Request} {session from e : ℕ} {x y : System} {note receipt : List ℕ} {a' b' : Site} → Reached f g q session x →
    Turned session x y from → Delivered y.a.site y.b.site from e note receipt a' b' → Turned session x (delivered y note receipt a' b') (e + 1)
turned_note {from = from} {e} r t d =
    let k = turned_reached r t in
    let (on, b-took, a-took) = delivers k d in
    record {
      worked = t.worked;
      work = t.work;
      run = joined t.run on;
      had = λ i below low. by_cases (dec_lt i from)
          (λ before. turn_stays (t.had i before low) on)
          (λ past. by_cases (ℕ_discrete i e)
          (λ same. subst (Turn (joined t.run on)) (sym same) (turn_told t.run on (λ due. (
            subst (λ n. Memᴰ n (taken_b on)) (note_bytes_lem k d) b-took,
            subst (λ n. Memᴰ n (taken_a on)) (receipt_bytes k d) a-took,
          ))))
          (λ other. turn_told t.run on (λ due. absurd ((sent_note_of d.sends).next.before i (omega arith) (omega arith) low due))));
    }
