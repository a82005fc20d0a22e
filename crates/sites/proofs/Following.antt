-- Two sites on the line do what the note rules say of their tables, so what is proved of the rules holds of them.
use mathlib.Core.Path.{◌≡◌, refl, sym, ap, ◌∙◌, subst}
use mathlib.Core.Bool.{Bool, true, false, not, ◌&&◌}
use mathlib.Core.Logic.{◌⊎◌, inl, inr, ⊎_elim, by_cases}
use mathlib.Core.List.Memᴰ
use mathlib.Core.List.{List, [], ◌∷◌, ◌++◌, map, Memᴰ}
use Prim.Native.Nat.{ℕ, ◌≤◌, min}
use native.Mathlib.Omega.{arith}
use native.Mathlib.Decide.{dec_lt}
use borrow.Author.Tests.{ne_eqb, le-ltb}
use lib.Dec.{ltb, eqb}
use lib.ListN.{length, take, drop, replicate}
use lib.Seq.{take_at, take_all}
use Rattle.std.specs.Prelude.{⊤, Result, Ok, Err}
use Rattle.wac.specs.Limits.{entries, without_end, largest_file}
use Rattle.wac.specs.Answers.{gives, refuses, first_of}
use Rattle.wac.specs.File.{count_of, file_cases}
use Rattle.wac.proofs.Cases.{first_holds, first_fails, gives_not_refuses}
use Rattle.wac.proofs.FileLaws.{file_kept}
use Rattle.rewriting.specs.Weighing.{minutes}
use Rattle.rewriting.specs.Rewriting.{Rules, Question}
use Rattle.rewriting.specs.Entries.{Lawful}
use Rattle.rewriting.specs.Passes.{start}
use Rattle.rewriting.specs.Tables.{Held}
use Rattle.rewriting.proofs.Sound.{sound_held, start_sound}
use Rattle.decision.specs.Usable.{rules_of}
use Rattle.decision.specs.Table.{key_of, symbol_of, arrival_of, row_of}
use Rattle.decision.specs.Engine.{Within}
use Rattle.decision.specs.Question.{request_cases, Ready, asked}
use Rattle.decision.specs.declared.request.Request.{Request}
use Rattle.decision.specs.declared.lens.Lens.TheVariants.{Minutes}
use Rattle.decision.specs.declared.question.Refused.{Refused}
use Rattle.decision.proofs.AskLaws.{admitted_ready}
use Rattle.decision.proofs.RulesLaws.{rules_lawful}
use Rattle.decision.proofs.QuestionLaws.{within_exact}
use Rattle.decision.proofs.TableLaws.{entry_of_lem, entry_back, length_row, held_row}
use Rattle.notes.specs.Notes as rules
use Rattle.notes.specs.Line as line
use Rattle.notes.specs.Line.{swap}
use Rattle.notes.proofs.Running.{steps_swap}
use Rattle.notes.proofs.Main.{due_formed}
use Rattle.sites.specs.Notes.{note_length, note_from, note_ok}
use Rattle.sites.specs.Site.{opened_site, Opens, file_of, taken_as, note_cases, site_after, bytes_after, Takes}
use Rattle.sites.specs.Line.{Party, receipt_in, Act, System, Step, Steps, Begun, Reached}
use Rattle.sites.specs.declared.note.Note.{Note}
use Rattle.sites.specs.declared.site.Site.{Site}
use Rattle.sites.specs.declared.site.Opening.{Opening}
use Rattle.sites.specs.declared.note.NoteKind.{NoteKind}
use Rattle.sites.specs.declared.site.NoteRefused.{NoteRefused}
use Rattle.sites.specs.declared.note.NoteKind.TheVariants.{Raise, Receipt}
use Rattle.sites.specs.declared.site.Taking.{Taking}
use Rattle.sites.proofs.SiteLaws.{few_bytes}
use Rattle.sites.proofs.Ledgers.{ledger, note_of, Standing, Honest, AllHonest, honest_more, site_works, follows}
use Rattle.sites.proofs.SendingLaws.{due_tables, sent_note_of, Sendable, raise_honest, raise_says}

-- a site and its notes, as the rules see them
abbrev pub party : Party → line.Party
party p = record { ledger = ledger p.site; wrote = map note_of p.wrote }

abbrev pub system : System → line.System
system x = record { a = party x.a; b = party x.b }

-- a file and a request in order
pub record InOrder (s : List ℕ) (q : Request) : Type 0 where
  pub lawful : Lawful (asked q) (rules_of s q)
  pub admitted : first_of (file_cases s ++ request_cases q) (count_of s) ≡ gives (count_of s)

-- a note that is refused changes nothing
module _ (x : Site) (n : Note) (l : List ℕ) (w : List (List ℕ)) where
  pub refused_stays : (t : Result NoteKind NoteRefused) {m : ℕ} {vs : List ℕ} → taken_as t ≡ refuses m vs → (site_after t x n ≡ x) × (receipt_in t l w ≡ w) × (bytes_after t l n ≡ l)
  refused_stays (Ok Raise) e = absurd (gives_not_refuses e)
  refused_stays (Ok Receipt) e = absurd (gives_not_refuses e)
  refused_stays (Err why) e = (refl, refl, refl)

-- bytes that are no note of the site's session are refused
pub foreign_refused : (x : Site) (b l : List ℕ) → (note_ok b ≡ true → (x.live && eqb (note_from b).session x.session) ≡ false) →
    (n : ℕ) × (first_of (note_cases x b (length l)) (note_from b).kind ≡ refuses n [])
unfolding note_cases
foreign_refused x b l foreign = by_cases (dec_lt (length l) note_length)
    (λ short. (23, few_bytes x b (length l) (note_from b).kind short))
    (λ room. turn (note_ok b) refl (le-ltb (length l) note_length (omega arith)))
  where
    turn : (t : Bool) → note_ok b ≡ t → ltb (length l) note_length ≡ false → (n : ℕ) × (first_of (note_cases x b (length l)) (note_from b).kind ≡ refuses n [])
    turn false bad room = (27, first_fails _ _ _ room ∙ first_holds _ _ _ (ap not bad))
    turn true ok room = (26, first_fails _ _ _ room ∙ first_fails _ _ _ (ap not ok) ∙ first_holds _ _ _ (ap not (foreign ok)))

-- what a site's act leaves: it stands, its notes are honest, and its tables and notes are as they were or as the rules' act leaves them
record Acted (s : List ℕ) (q : Request) (session : ℕ) (theirs : List (List ℕ)) (p p' : Party) : Type 0 where
  stands : Standing s q session p'.site
  honest : AllHonest session p'.wrote
  acts : (party p ≡ party p') ⊎ line.Act (asked q) (rules_of s q) (map note_of theirs) (party p) (party p')

module _ {s : List ℕ} {q : Request} {session : ℕ} (word : session ≤ without_end) (order : InOrder s q) {theirs : List (List ℕ)} (others : AllHonest session theirs)
    {p : Party} (st : Standing s q session p.site) (own : AllHonest session p.wrote) where
  unchanged : {p' : Party} → p'.site ≡ p.site → p'.wrote ≡ p.wrote → Acted s q session theirs p p'
  unchanged {p'} same-site same-notes = record {
    stands = subst (Standing s q session) (sym same-site) st;
    honest = subst (AllHonest session) (sym same-notes) own;
    acts = (let at = sym same-site in let notes = sym same-notes in inl (λ i. record { ledger = ledger (at i); wrote = map note_of (notes i) }));
  }

  refused : {b l l' : List ℕ} {r : Taking} {m : ℕ} {vs : List ℕ} → Takes p.site b l r l' → first_of (note_cases p.site b (length l)) (note_from b).kind ≡ refuses m vs →
      Acted s q session theirs p (record { site = r.site; wrote = receipt_in r.answer l' p.wrote })
  refused {b} {l} {l'} {r} takes e =
      let stays = refused_stays p.site (note_from b) l' p.wrote r.answer (takes.answer ∙ e) in
      unchanged (takes.site ∙ stays.0) stays.1

  act_follows : Sendable p.site → {p' : Party} → Act session theirs p p' → Acted s q session theirs p p'
  act_follows sendable (Act.act_work x works) =
      let w = site_works s q order.lawful order.admitted st works in
      record { stands = w.1; honest = own; acts = inr (line.act_work (ledger x) w.0) }
  act_follows sendable (Act.act_write from e l l' sends) =
      let n = sent_note_of sends in
      let due = (n.next.due n.low).1 in
      let here = entry_of_lem _ _ _ (entry_back e n.low) in
      record {
        stands = st;
        honest = honest_more (subst (Honest session) (sym n.bytes) (raise_honest word st sendable e n.low due)) own;
        acts = inr (subst (λ (m : rules.Note). line.Act (asked q) (rules_of s q) (map note_of theirs) (party p) (record { ledger = ledger p.site; wrote = m ∷ map note_of p.wrote }))
            (sym (ap note_of n.bytes ∙ raise_says word st sendable e n.low due))
            (line.act_send (key_of e) (symbol_of e) (arrival_of e) here (due_tables p.site e n.low due)));
      }
  act_follows sendable (Act.act_take b l l' r m takes) = by_cases (dec_lt (length l) note_length)
      (λ short. refused takes (few_bytes p.site b (length l) (note_from b).kind short))
      (λ room.
      let f = follows word st (others b m) l (omega arith) r.answer takes.answer takes.site takes.bytes in
      record {
        stands = f.stands;
        honest = f.honest p.wrote own;
        acts = (let back : line.receives (note_of b) (party p) ≡ party (record { site = r.site; wrote = receipt_in r.answer l' p.wrote }) = sym (λ i. record { ledger = f.tables i; wrote = f.writes p.wrote i }) in
            inr (subst (line.Act (asked q) (rules_of s q) (map note_of theirs) (party p)) back (line.act_take (note_of b) (Memᴰ.map note_of m))));
      })
  act_follows sendable (Act.act_stray b l l' r stray takes) = refused takes (foreign_refused p.site b l (λ ok. (let other = ne_eqb _ _ (λ same. stray ok (same ∙ st.of_session)) in rw (st.live, other) refl))).1

-- what is known of two sites on the line: both stand, all notes are honest, and their tables are a state of the rules
pub record Followed (f g : List ℕ) (q : Request) (session : ℕ) (x : System) : Type 0 where
  pub a_stands : Standing f q session x.a.site
  pub b_stands : Standing g q session x.b.site
  pub a_honest : AllHonest session x.a.wrote
  pub b_honest : AllHonest session x.b.wrote
  pub reached : line.Reached (asked q) (rules_of f q) (rules_of g q) (system x)

-- the two sides are alike
pub followed_swap : {f g : List ℕ} {q : Request} {session : ℕ} {a b : Party} → Followed f g q session (record { a = a; b = b }) → Followed g f q session (record { a = b; b = a })
followed_swap k = record { a_stands = k.b_stands; b_stands = k.a_stands; a_honest = k.b_honest; b_honest = k.a_honest; reached = steps_swap k.reached }

-- what the first site holds is sent only where the rules send it
pub first_sendable : {f g : List ℕ} {q : Request} → InOrder f q → InOrder g q → (a b : Party) → line.Reached (asked q) (rules_of f q) (rules_of g q) (record { a = party a; b = party b }) → Sendable a.site
first_sendable f_order g_order a b r k s p e d = ((due_formed f_order.lawful g_order.lawful r k s p e).0 d).symbol

-- an act of the rules, or none
abbrev Moves : Question → Rules → Rules → line.System → line.System → Type 0
Moves Q R T x y = (x ≡ y) ⊎ line.Step Q R T x y

moves_on : {Q : Question} {R T : Rules} {x y z : line.System} → line.Steps Q R T x y → Moves Q R T y z → line.Steps Q R T x z
moves_on {Q} {R} {T} {x} on = ⊎_elim (λ same. subst (line.Steps Q R T x) same on) (λ step. line.more on step)

moves_swap : {Q : Question} {R T : Rules} {x y : line.System} → Moves Q R T x y → Moves Q T R (swap x) (swap y)
moves_swap (inl same) = inl (ap swap same)
moves_swap (inr (line.step_a act)) = inr (line.step_b act)
moves_swap (inr (line.step_b act)) = inr (line.step_a act)

first_follows : {f g : List ℕ} {q : Request} {session : ℕ} → session ≤ without_end → InOrder f q → InOrder g q → {a b p : Party} →
    Followed f g q session (record { a = a; b = b }) → Act session b.wrote a p →
    Followed f g q session (record { a = p; b = b }) × Moves (asked q) (rules_of f q) (rules_of g q) (record { a = party a; b = party b }) (record { a = party p; b = party b })
first_follows {f} {g} {q} word f_order g_order {a} {b} {p} k act =
    let d = act_follows word f_order k.b_honest k.a_stands k.a_honest (first_sendable f_order g_order a b k.reached) act in
    let moves : Moves (asked q) (rules_of f q) (rules_of g q) (record { a = party a; b = party b }) (record { a = party p; b = party b }) =
    ⊎_elim (λ same. inl (ap (λ p. record { a = p; b = party b }) same)) (λ act. inr (line.step_a act)) d.acts in
    (record { a_stands = d.stands; b_stands = k.b_stands; a_honest = d.honest; b_honest = k.b_honest; reached = moves_on k.reached moves }, moves)

module _ {f g : List ℕ} {q : Request} {session : ℕ} (word : session ≤ without_end) (f_order : InOrder f q) (g_order : InOrder g q) where
  follow_step : {x y : System} → Followed f g q session x → Step session x y → Followed f g q session y × Moves (asked q) (rules_of f q) (rules_of g q) (system x) (system y)
  follow_step k (Step.step_a act) = first_follows word f_order g_order k act
  follow_step k (Step.step_b act) = let d = first_follows word g_order f_order (followed_swap k) act in (followed_swap d.0, moves_swap d.1)

  pub follow_steps : {x y : System} → Followed f g q session x → Steps session x y → Followed f g q session y × line.Steps (asked q) (rules_of f q) (rules_of g q) (system x) (system y)
  follow_steps k Steps.none = (k, line.none)
  follow_steps k (Steps.more on step) =
      let before = follow_steps k on in
      let d = follow_step before.0 step in
      (d.0, moves_on before.1 d.1)

-- ---- opening

ready_not : {why : Refused} → ◌≡◌ {A = Result ⊤ Refused} (Ok tt) (Err why) → ⊥
ready_not e = grind arith

-- a site that is ready was opened with a file and a request in order, and stands
module _ {s : List ℕ} {q : Request} {session : ℕ} {p : Party} (begun : Begun s q session p) where
  opened_of : (first_of (file_cases s ++ request_cases q) (count_of s) ≡ gives (count_of s)) × (p.site ≡ opened_site s q session)
  opened_of = turn begun.opening refl
    where
      turn : {r : Opening} → Opens s q session r → r.answer ≡ Ok tt → (first_of (file_cases s ++ request_cases q) (count_of s) ≡ gives (count_of s)) × (r.site ≡ opened_site s q session)
      turn (Opens.refused why case e) ready = absurd (ready_not (sym ready ∙ ap (λ (r : Opening). r.answer) e))
      turn (Opens.opened case e) ready = (case, ap (λ (r : Opening). r.site) e)

  ready : Ready s q (count_of s)
  ready = admitted_ready s q opened_of.0

  pub begun_order : InOrder s q
  begun_order = record { lawful = rules_lawful Minutes s q begun.bytes ready.accepted ready.asker; admitted = opened_of.0 }

  -- the start's list
  start_held : Held (asked q) (start (asked q))
  start_held = sound_held begun_order.lawful (start_sound begun_order.lawful)

  start_row : take entries (row_of (start (asked q))) ≡ row_of (start (asked q))
  start_row = take_all entries (row_of (start (asked q))) (omega (arith, length_row (start (asked q))))

  start_within : Within Minutes (row_of (start (asked q)))
  start_within = within_exact Minutes q.asker (start (asked q)) start_held (row_of (start (asked q))) (length_row (start (asked q))) start_row

  -- its file is the one with which it was opened
  own_file : file_of (opened_site s q session) ≡ s
  unfolding opened_site
  own_file =
      let sized = (file_kept s ready.accepted).0 in
      let few : min (length s) largest_file ≡ length s = omega (arith, sized.few, sized.sized) in
      ap (λ n. take n (s ++ drop (length s) (replicate largest_file 0))) few ∙ take_at s _ (length s) refl

  pub begun_stands : Standing s q session p.site
  unfolding opened_site
  begun_stands = subst (Standing s q session) (sym opened_of.1) (record {
    file = own_file;
    request = refl;
    of_session = refl;
    live = refl;
    minutes = start_within;
    receipted = omega (arith, length_row (start (asked q)));
  })

  -- and its tables are the rules' start
  pub begun_fresh : party p ≡ line.fresh (asked q)
  unfolding opened_site minutes
  begun_fresh =
      let at-start = held_row Minutes q.asker (start (asked q)) start_held (row_of (start (asked q))) start_row start_within in
      (λ i. record { ledger = ledger (opened_of.1 i); wrote = map note_of (begun.silent i) }) ∙ (λ i. record { ledger = record { minute = at-start i; receipted = at-start i; idle = false }; wrote = [] })

-- what is known of every state of the line
pub followed : {f g : List ℕ} {q : Request} {session : ℕ} {x : System} → Reached f g q session x → Followed f g q session x
followed {f} {g} {q} {session} r =
    (follow_steps r.word (begun_order r.begun_a) (begun_order r.begun_b) (record {
      a_stands = begun_stands r.begun_a;
      b_stands = begun_stands r.begun_b;
      a_honest = λ b m. absurd (Memᴰ.not-nil (subst (Memᴰ b) r.begun_a.silent m));
      b_honest = λ b m. absurd (Memᴰ.not-nil (subst (Memᴰ b) r.begun_b.silent m));
      reached = rw (begun_fresh r.begun_a, begun_fresh r.begun_b) line.none;
    }) r.steps).0
