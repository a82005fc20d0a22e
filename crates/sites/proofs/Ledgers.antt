-- What the functions make of a site is what the note rules make of its tables: opening, working, taking a note, writing one, rest.
use mathlib.Core.Path.{◌≡◌, refl, sym, ap, ◌∙◌, subst, subst₂, fun_ext}
use mathlib.Core.Bool.{Bool, true, false, cond, ◌&&◌, true≢false}
use mathlib.Core.Logic.{⊎_elim}
use mathlib.Core.List.Memᴰ
use mathlib.Core.List.{List, [], ◌∷◌, ◌++◌, map, Memᴰ}
use Prim.Native.Nat.{ℕ, ◌≤◌, ◌<◌, max}
use native.Mathlib.Omega.{arith}
use borrow.Author.Tests.{eqb-true, eq-eqb, ne_eqb, ltb-true, ltb-false, le-ltb, le-leb, lt-leb}
use lib.Dec.{leb, ltb, eqb}
use lib.ListN.{length, get_or, set, length-set}
use Rattle.std.specs.Prelude.{Result, Ok, Err}
use Rattle.wac.specs.Limits.{entries, without_end}
use Rattle.wac.specs.Answers.{gives, refuses, ◌if◌, first_of}
use Rattle.wac.specs.File.{count_of, file_cases}
use Rattle.wac.proofs.Cases.{first_none, first_fails, first_passed, first_given, gives_injective, gives_not_refuses}
use Rattle.std.proofs.lemmas.Bool.{and_parts}
use Rattle.wac.proofs.Tests.{and_true}
use Rattle.rewriting.specs.Weighing.{minutes}
use Rattle.rewriting.specs.Entries.{Lawful}
use Rattle.rewriting.specs.Passes.{repeated}
use Rattle.rewriting.specs.Tables.{Held}
use Rattle.rewriting.proofs.Tests.{by_test}
use Rattle.rewriting.proofs.Held.{repeated_held}
use Rattle.decision.specs.Lens.{question_by}
use Rattle.decision.specs.Usable.{rules_of}
use Rattle.decision.specs.Table.{is_entry, number, key_of, symbol_of, arrival_of, table_of}
use Rattle.decision.specs.Engine.{Within, SettledFrom}
use Rattle.decision.specs.Question.{request_cases, settle_cases, Settles, asked}
use Rattle.decision.specs.declared.request.Request.{Request}
use Rattle.decision.specs.declared.lens.Lens.TheVariants.{Minutes}
use Rattle.decision.proofs.TableLaws.{entry_back, number_back, set_here, set_there, list_held, held_row, within_row}
use Rattle.decision.proofs.PassingLaws.{within_set}
use Rattle.notes.specs.Notes as rules
use Rattle.notes.specs.Line as line
use Rattle.sites.specs.Notes.{note_length, raise_kind, receipt_kind, note_from, note_bytes, formed, note_ok}
use Rattle.sites.specs.Site.{file_of, worked_site, Works, minute_at, raised_site, receipted_site, entry_of, receipt_of, taken_as, note_cases, site_after, bytes_after}
use Rattle.sites.specs.Line.{receipt_in}
use Rattle.sites.specs.declared.note.Note.{Note}
use Rattle.sites.specs.declared.site.Site.{Site}
use Rattle.sites.specs.declared.site.NoteRefused.{NoteRefused}
use Rattle.sites.specs.declared.note.NoteKind.{NoteKind}
use Rattle.sites.specs.declared.note.NoteKind.TheVariants.{Raise, Receipt}
use Rattle.sites.proofs.SiteLaws.{note_whole, this_session}
use Rattle.sites.proofs.NoteLaws.{note_read_back, note_taken, Fields, formed_fields, fields_formed}

-- the tables that a site keeps
abbrev pub ledger : Site → rules.Ledger
ledger x = record { minute = table_of 0 x.minutes; receipted = table_of 0 x.receipted; idle = x.idle }

-- the note of the rules that a note says
abbrev pub said_by : Note → rules.Note
said_by n = cond (eqb n.kind raise_kind) (rules.raise n.key n.symbol n.arrival n.minute) (rules.receipt n.key n.symbol n.arrival n.minute)

-- and that bytes say
abbrev pub note_of : List ℕ → rules.Note
note_of b = said_by (note_from b)

-- what a site keeps as long as it stands: its file, request and session number, and lists long enough
pub record Standing (s : List ℕ) (q : Request) (session : ℕ) (x : Site) : Type 0 where
  pub file : file_of x ≡ s
  pub request : x.request ≡ q
  pub of_session : x.session ≡ session
  pub live : x.live ≡ true
  pub minutes : Within Minutes x.minutes
  pub receipted : entries ≤ length x.receipted

-- a note of this session, as sites write it
pub record Honest (session : ℕ) (b : List ℕ) : Type 0 where
  pub ok : note_ok b ≡ true
  pub of_session : (note_from b).session ≡ session
  pub fits : (note_from b).minute ≤ without_end

-- a store of the greater at an entry
module _ (l : List ℕ) (long : entries ≤ length l) (k s a : ℕ) (here : is_entry k s a ≡ true) (m : ℕ) where
  abbrev raised_list : List ℕ
  raised_list = set l (number k s a) (max (get_or l (number k s a) 0) m)

  -- the same entry by three tests
  same_entry : (x y z : ℕ) → (eqb x k && (eqb y s && eqb z a)) ≡ true → (x ≡ k) × (y ≡ s) × (z ≡ a)
  same_entry x y z e =
      let one = and_parts _ _ e in
      let two = and_parts _ _ one.1 in
      (eqb-true x k one.0, eqb-true y s two.0, eqb-true z a two.1)

  other_entry : (x y z : ℕ) → (eqb x k && (eqb y s && eqb z a)) ≡ false → k ≡ x → s ≡ y → a ≡ z → ⊥
  other_entry x y z e p q r = true≢false (sym (rw (eq-eqb x k (sym p), eq-eqb y s (sym q), eq-eqb z a (sym r))) ∙ e)

  store_at : (x y z : ℕ) → is_entry x y z ≡ true → get_or raised_list (number x y z) 0 ≡ cond (eqb x k && (eqb y s && eqb z a)) (max (get_or l (number x y z) 0) m) (get_or l (number x y z) 0)
  store_at x y z t = by_test (λ v. get_or raised_list (number x y z) 0 ≡ v) (eqb x k && (eqb y s && eqb z a))
      (λ e. (let same = same_entry x y z e in rw (same.0, same.1, same.2) (set_here l long k s a here _)))
      (λ e. set_there l long k s a here _ x y z t (other_entry x y z e))

  -- is what the rules put into the table
  pub store_put : table_of 0 raised_list ≡ rules.put (table_of 0 l) k s a m
  unfolding table_of rules.put
  store_put = fun_ext (λ x. fun_ext (λ y. fun_ext (λ z. turn x y z (is_entry x y z) refl)))
    where
      turn : (x y z : ℕ) (b : Bool) → is_entry x y z ≡ b → cond b (get_or raised_list (number x y z) 0) 0 ≡
          cond (eqb x k && (eqb y s && eqb z a)) (max (cond b (get_or l (number x y z) 0) 0) m) (cond b (get_or l (number x y z) 0) 0)
      turn x y z true t = store_at x y z t
      turn x y z false t = by_test (λ v. 0 ≡ v) (eqb x k && (eqb y s && eqb z a))
          (λ e. (let same = same_entry x y z e in absurd (true≢false (sym here ∙ rw (← same.0, ← same.1, ← same.2) t))))
          (λ e. refl)

-- the minute of an entry is what its table has there
pub table_at : (l : List ℕ) (k s a : ℕ) → is_entry k s a ≡ true → table_of 0 l k s a ≡ get_or l (number k s a) 0
unfolding table_of
table_at l k s a t = rw t

pub table_number : (l : List ℕ) (e : ℕ) → e < entries → table_of 0 l (key_of e) (symbol_of e) (arrival_of e) ≡ get_or l e 0
table_number l e h = table_at l _ _ _ (entry_back e h) ∙ ap (λ n. get_or l n 0) (number_back e h)

-- ---- working

module _ (s : List ℕ) (q : Request) (ok : Lawful (question_by Minutes q.asker) (rules_of s q))
    (admitted : first_of (file_cases s ++ request_cases q) (count_of s) ≡ gives (count_of s)) where
  settles_given : (l : List ℕ) → entries ≤ length l → first_of (settle_cases s q (length l)) (count_of s) ≡ gives (count_of s)
  unfolding settle_cases
  settles_given l long = first_given (file_cases s ++ request_cases q) _ (count_of s) (count_of s) admitted ∙ first_fails _ _ _ (le-ltb _ _ long) ∙ first_none _

  -- passes over the site's own file are the rules' work
  settled_works : {session : ℕ} {x x' : Site} (ms : List ℕ) (N : ℕ) → Standing s q session x → SettledFrom Minutes s q x.minutes N ms → x' ≡ worked_site x ms →
      rules.Works (asked q) (rules_of s q) (ledger x) (ledger x') × Standing s q session x'
  unfolding minutes
  settled_works {x} ms N st from e = rw e (
    record { passes = N; count = from.count; minute = held_row Minutes q.asker _ after ms from.row within; receipted = refl; idle = refl },
    record { file = st.file; request = st.request; of_session = st.of_session; live = st.live; minutes = within; receipted = st.receipted },
  )
    where
      after : Held (asked q) (repeated (asked q) (rules_of s q) (table_of 0 x.minutes) N)
      after = repeated_held (asked q) ok (table_of 0 x.minutes) (list_held Minutes q.asker x.minutes st.minutes) N

      within : Within Minutes ms
      within = within_row Minutes q.asker _ after ms from.row x.minutes st.minutes from.long from.beyond

  -- working a site is the rules' work
  pub site_works : {session : ℕ} {x x' : Site} → Standing s q session x → Works x x' → rules.Works (asked q) (rules_of s q) (ledger x) (ledger x') × Standing s q session x'
  site_works st (Works.worked N ms (Settles.refused n vs case e same) at) = absurd (gives_not_refuses e)
  site_works {x = x} st (Works.worked N ms (Settles.settled case M from e) at) =
      settled_works ms M st (subst₂ (λ f r. SettledFrom Minutes f r x.minutes M ms) st.file st.request from) at
  site_works st (Works.refused why (Settles.settled case M from e) at) = absurd (gives_not_refuses (sym e))
  site_works {x = x} st (Works.refused why (Settles.refused n vs case e same) at) =
      absurd (gives_not_refuses (sym (settles_given x.minutes st.minutes.long) ∙ subst₂ (λ f r. first_of (settle_cases f r (length x.minutes)) (count_of f) ≡ refuses n vs) st.file st.request case))

-- ---- taking a note

-- a note's kind, by what became of it
raise_said : (n : Note) → n.kind ≡ raise_kind → said_by n ≡ rules.raise n.key n.symbol n.arrival n.minute
raise_said n e = rw (eq-eqb n.kind raise_kind e)

receipt_said : (n : Note) → n.kind ≡ receipt_kind → said_by n ≡ rules.receipt n.key n.symbol n.arrival n.minute
receipt_said n e = rw (ne_eqb n.kind raise_kind (λ z. omega arith))

-- a raise and a receipt of an entry are what the rules make of the tables
module _ {s : List ℕ} {q : Request} {session : ℕ} {x : Site} (st : Standing s q session x) (n : Note) (here : is_entry n.key n.symbol n.arrival ≡ true) where
  entry_here : entry_of n ≡ number n.key n.symbol n.arrival
  entry_here = rw here

  minute_here : minute_at x (entry_of n) ≡ table_of 0 x.minutes n.key n.symbol n.arrival
  minute_here = ap (minute_at x) entry_here ∙ sym (table_at x.minutes n.key n.symbol n.arrival here)

  stored_put : (l : List ℕ) → entries ≤ length l → table_of 0 (set l (entry_of n) (max (get_or l (entry_of n) 0) n.minute)) ≡ rules.put (table_of 0 l) n.key n.symbol n.arrival n.minute
  stored_put l long = subst (λ e. table_of 0 (set l e (max (get_or l e 0) n.minute)) ≡ rules.put (table_of 0 l) n.key n.symbol n.arrival n.minute) (sym entry_here)
      (store_put l long n.key n.symbol n.arrival here n.minute)

  raise_ledger : ledger (raised_site x (entry_of n) n.minute) ≡ rules.raised n.key n.symbol n.arrival n.minute (ledger x)
  raise_ledger = λ i. record {
    minute = stored_put x.minutes st.minutes.long i;
    receipted = stored_put x.receipted st.receipted i;
    idle = leb n.minute (minute_here i) && x.idle;
  }

  receipt_ledger : ledger (receipted_site x (entry_of n) n.minute) ≡ rules.acknowledged n.key n.symbol n.arrival n.minute (ledger x)
  receipt_ledger = λ i. record { minute = table_of 0 x.minutes; receipted = stored_put x.receipted st.receipted i; idle = x.idle }

  -- and the site stands after them
  module _ (fits : n.minute ≤ without_end) where
    raise_stands : Standing s q session (raised_site x (entry_of n) n.minute)
    unfolding minutes
    raise_stands = record {
      file = st.file;
      request = st.request;
      of_session = st.of_session;
      live = st.live;
      minutes = within_set Minutes x.minutes st.minutes (entry_of n) _ (omega (arith, st.minutes.fits (entry_of n)));
      receipted = let long = st.receipted in simp length-set long;
    }

    receipt_stands : Standing s q session (receipted_site x (entry_of n) n.minute)
    receipt_stands = record {
      file = st.file;
      request = st.request;
      of_session = st.of_session;
      live = st.live;
      minutes = st.minutes;
      receipted = let long = st.receipted in simp length-set long;
    }

-- every note of a list is honest
abbrev pub AllHonest : ℕ → List (List ℕ) → Type 0
AllHonest session w = (b : List ℕ) → Memᴰ b w → Honest session b

pub honest_more : {session : ℕ} {b : List ℕ} {w : List (List ℕ)} → Honest session b → AllHonest session w → AllHonest session (b ∷ w)
honest_more {session} {b} h all c m = ⊎_elim (λ e. subst (Honest session) (sym e) h) (all c) (Memᴰ.cases_cons m)

-- the bytes of a note with its fields in range are an honest note, and say it
module _ (session : ℕ) (word : session ≤ without_end) (n : Note) (f : Fields n) (fits : n.minute ≤ without_end) (own : n.session ≡ session) where
  pub written_says : note_from (note_bytes n) ≡ n
  written_says = note_read_back n (omega arith) fits

  pub written_honest : Honest session (note_bytes n)
  unfolding note_ok
  written_honest = record {
    ok = ap formed written_says ∙ fields_formed n f;
    of_session = ap (λ (n : Note). n.session) written_says ∙ own;
    fits = subst (λ (n : Note). n.minute ≤ without_end) (sym written_says) fits;
  }

-- a note taken with room for a receipt: the site stands, its tables are what the rules make of them, and so is what it writes
pub record Follows (s : List ℕ) (q : Request) (session : ℕ) (x : Site) (b : List ℕ) (t : Result NoteKind NoteRefused) (x' : Site) (l : List ℕ) : Type 0 where
  pub stands : Standing s q session x'
  pub tables : ledger x' ≡ (rules.take (note_of b) (ledger x)).ledger
  pub writes : (w : List (List ℕ)) → map note_of (receipt_in t l w) ≡ line.written (rules.take (note_of b) (ledger x)).answer (map note_of w)
  pub honest : (w : List (List ℕ)) → AllHonest session w → AllHonest session (receipt_in t l w)
  pub refused : (why : NoteRefused) → t ≡ Err why → (rules.take (note_of b) (ledger x)).answer ≡ rules.late

module _ {s : List ℕ} {q : Request} {session : ℕ} (word : session ≤ without_end) {x : Site} (st : Standing s q session x) {b : List ℕ} (h : Honest session b) (l : List ℕ) (room : note_length ≤ length l) where
  abbrev said : Note
  said = note_from b

  fields : Fields said
  fields = formed_fields said (note_whole b h.ok).1

  abbrev is_late : Bool
  is_late = eqb said.kind receipt_kind && ltb (minute_at x (entry_of said)) said.minute

  -- of the refusals only the last can hold
  only_late : first_of (note_cases x b (length l)) said.kind ≡ first_of ((28 if is_late) ∷ []) said.kind
  only_late =
      this_session x b (length l) said.kind room h.ok said refl st.live (h.of_session ∙ sym st.of_session)

  given_late : {v : ℕ} → gives v ≡ first_of (note_cases x b (length l)) said.kind → (is_late ≡ false) × (said.kind ≡ v)
  given_late e =
      let p = first_passed (28 if is_late) [] said.kind (sym (e ∙ only_late)) in
      (p.0, gives_injective (sym (first_none said.kind) ∙ p.1))

  refused_late : {n : ℕ} {vs : List ℕ} → refuses n vs ≡ first_of (note_cases x b (length l)) said.kind → is_late ≡ true
  refused_late {n} {vs} e = turn is_late refl
    where
      turn : (t : Bool) → is_late ≡ t → t ≡ true
      turn true e' = refl
      turn false e' = absurd (gives_not_refuses (sym (first_none said.kind) ∙ sym (first_fails (28 if is_late) [] said.kind e') ∙ sym only_late ∙ sym e))

  minute_said : minute_at x (entry_of said) ≡ (ledger x).minute said.key said.symbol said.arrival
  minute_said = minute_here st said fields.entry

  -- whether a receipt is late is what the rules test
  on_time_of : is_late ≡ false → said.kind ≡ receipt_kind → leb said.minute ((ledger x).minute said.key said.symbol said.arrival) ≡ true
  on_time_of early kind =
      let held = ltb-false (minute_at x (entry_of said)) said.minute (sym (and_true _ _ (eq-eqb said.kind receipt_kind kind)) ∙ early) in
      le-leb _ _ (subst (λ v. said.minute ≤ v) minute_said held)

  after_late : ltb (minute_at x (entry_of said)) said.minute ≡ true → leb said.minute ((ledger x).minute said.key said.symbol said.arrival) ≡ false
  after_late late = lt-leb _ _ (subst (λ v. v < said.minute) minute_said (ltb-true _ _ late))

  -- a site takes a note as the rules say
  pub follows : (t : Result NoteKind NoteRefused) → taken_as t ≡ first_of (note_cases x b (length l)) said.kind → {x' : Site} → x' ≡ site_after t x said → {l' : List ℕ} → l' ≡ bytes_after t l said →
      Follows s q session x b t x' l'
  unfolding rules.take
  follows (Ok Raise) answer at bytes = rw (at, bytes) (
      let kind = (given_late answer).1 in
      let taken = note_taken l (receipt_of said) room in
      let back = written_says session word (receipt_of said) reply h.fits h.of_session in
      record {
        stands = raise_stands st said fields.entry h.fits;
        tables = rw (raise_said said kind) (raise_ledger st said fields.entry);
        writes = λ w. rw (raise_said said kind) (ap (λ n. n ∷ map note_of w) (ap note_of taken ∙ ap said_by back));
        honest = λ w. honest_more (rw taken (written_honest session word (receipt_of said) reply h.fits h.of_session));
        refused = λ why e. absurd (grind arith);
      })
    where
      reply : Fields (receipt_of said)
      reply = record { kind = refl; some = fields.some; symbol = fields.symbol; entry = fields.entry }
  follows (Ok Receipt) answer at bytes = rw (at, bytes) (
      let g = given_late answer in
      let on-time = on_time_of g.0 g.1 in
      record {
        stands = receipt_stands st said fields.entry h.fits;
        tables = rw (receipt_said said g.1, on-time) (receipt_ledger st said fields.entry);
        writes = λ w. rw (receipt_said said g.1, on-time) refl;
        honest = λ w all. all;
        refused = λ why e. absurd (grind arith);
      })
  follows (Err why) answer at bytes = rw (at, bytes) (
      let late = and_parts _ _ (refused_late answer) in
      let kind = eqb-true said.kind receipt_kind late.0 in
      let after = after_late late.1 in
      record {
        stands = st;
        tables = rw (receipt_said said kind, after) refl;
        writes = λ w. rw (receipt_said said kind, after) refl;
        honest = λ w all. all;
        refused = λ why e. rw (receipt_said said kind, after) refl;
      })
