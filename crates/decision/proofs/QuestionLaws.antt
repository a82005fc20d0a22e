-- Laws of the question: what the settled tables say, in terms of chains.
use mathlib.Core.Path.{◌≡◌, refl, sym, ap, ◌∙◌, subst}
use mathlib.Core.Logic.{⊎_elim, by_cases}
use mathlib.Core.Bool.{true, cond}
use mathlib.Core.List.{List, []}
use Prim.Native.Nat.{ℕ, ◌<◌, ◌≤◌}
use native.Mathlib.Decide.{dec_lt}
use native.Mathlib.Omega.{arith}
use borrow.Author.Tests.{leb-true}
use lib.Dec.{leb, eqb}
use lib.ListN.{length, get_or, take, drop, replicate, drop_of_length-le, get_or-eq_default}
use Rattle.std.specs.Prelude.{Result, Ok}
use Rattle.wac.specs.Limits.{keys, entries, chain_places, authorization_kind}
use Rattle.wac.specs.Bytes.{AreBytes}
use Rattle.wac.specs.File.{cert_at}
use Rattle.std.proofs.lemmas.Bool.{and_parts}
use Rattle.rewriting.specs.Weighing.{minutes, uncounted}
use Rattle.rewriting.specs.Rewriting.{Rules, Question, Weighty, Decides, delegate}
use Rattle.rewriting.specs.Entries.{Lawful, Brings}
use Rattle.rewriting.specs.Steps.{Fewest, Weighs, by_steps, kept}
use Rattle.rewriting.specs.Passes.{Table, start, passes, repeated, Settled, PassCount, CountFrom}
use Rattle.rewriting.specs.Tables.{Held}
use Rattle.rewriting.proofs.Order.{minutes_by_weakest}
use Rattle.rewriting.proofs.Sound.{sound_held, start_sound}
use Rattle.rewriting.proofs.Held.{repeated_held, stays_still}
use Rattle.rewriting.proofs.LastTable.{settled_last}
use Rattle.rewriting.proofs.Trees.{chain_brings}
use Rattle.rewriting.proofs.Steps.{kept_lawful, kept_best}
use Rattle.rewriting.proofs.Settled.{settled_decides, settled_steps, settled_fewest}
use Rattle.decision.specs.Usable.{includes, in_force, usable, rules_of}
use Rattle.decision.specs.Lens.{weighing_of, question_by, rules_by}
use Rattle.decision.specs.Table.{row_of}
use Rattle.decision.specs.Engine.{Accepted, Within, held, SettledFrom}
use Rattle.decision.specs.Writing.{steps_at, StepsTable, Wrote, Entered}
use Rattle.decision.specs.Question.{asked, Ready, Granting, MinutesHeld, StepsHeld, Counted, Counted.counted, Counted.uncountable, Answered, Answered.granted, Answered.denied}
use Rattle.decision.specs.declared.request.Request.{Request}
use Rattle.decision.specs.declared.lens.Lens.{Lens}
use Rattle.decision.specs.declared.lens.Lens.TheVariants.{Minutes, Steps}
use Rattle.decision.specs.declared.question.Refused.{Refused}
use Rattle.decision.specs.declared.question.Verdict.{Verdict}
use Rattle.decision.specs.declared.question.Verdict.TheVariants as verdicts
use Rattle.decision.proofs.WritingLaws.{at_fits}
use Rattle.decision.proofs.RulesLaws.{rules_lawful}
use Rattle.decision.proofs.TableLaws.{entry_back, number_back, row_at, held_at, held_row}

-- a usable certificate ends at the request's minute or later, so it weighs something
pub rules_weighty : (s : List ℕ) (q : Request) → (q.at ≡ 0 → ⊥) → Weighty minutes (rules_of s q)
unfolding rules_of usable in_force minutes
rules_weighty s q some i there live none =
    let force = (and_parts (in_force q.at (cert_at s i)) (cond (eqb (cert_at s i).kind authorization_kind) (includes (cert_at s i).rights q.rights) true) live).0 in
    let dates = and_parts (leb (cert_at s i).not_before q.at) (leb q.at (cert_at s i).not_after) force in
    let ends = leb-true q.at (cert_at s i).not_after dates.1 in
    some (omega arith)

-- 2,592 places that are a table's list are within the cap
pub within_exact : (lens : Lens) (asker : ℕ) (t : Table) → Held (question_by lens asker) t → (l : List ℕ) → length l ≡ entries → take entries l ≡ row_of t → Within lens l
within_exact lens asker t t-held l long row = record {
  long = omega arith;
  fits = λ e. by_cases (dec_lt e entries)
      (λ low. subst (λ n. get_or l n 0 ≤ (weighing_of lens).cap) (number_back e low) (rw (row_at t l row _ _ _ (entry_back e low)) (t-held.fits _ _ _)))
      (λ high. rw (get_or-eq_default l 0 {n = e} (omega arith)) (omega arith));
}

module _ (lens : Lens) (s : List ℕ) (q : Request) (bytes : AreBytes s) (ok : Accepted s) (asker : q.asker < keys) where
  abbrev Q : Question
  Q = question_by lens q.asker

  abbrev R : Rules
  R = rules_by lens s q

  lawful : Lawful Q R
  lawful = rules_lawful lens s q bytes ok asker

  start_held : Held Q (start Q)
  start_held = sound_held lawful (start_sound lawful)

  -- the start is within the cap
  pub start_within : (l : List ℕ) → length l ≡ entries → take entries l ≡ row_of (start Q) → Within lens l
  start_within = within_exact lens q.asker (start Q) start_held

-- what is known once passes over the start have settled
pub record Done (lens : Lens) (s : List ℕ) (q : Request) (N : ℕ) (l : List ℕ) : Type 0 where
  pub before : ℕ
  pub settled : Settled (question_by lens q.asker) (rules_by lens s q) before
  pub count : PassCount (question_by lens q.asker) (rules_by lens s q) N
  pub row : take entries l ≡ row_of (passes (question_by lens q.asker) (rules_by lens s q) N)
  pub within : Within lens l
  pub table : held lens l ≡ passes (question_by lens q.asker) (rules_by lens s q) before

module _ (lens : Lens) (s : List ℕ) (q : Request) (bytes : AreBytes s) (ok : Accepted s) (asker : q.asker < keys) where
  pub settled_done : (l l' : List ℕ) (N : ℕ) → length l ≡ entries → take entries l ≡ row_of (start (question_by lens q.asker)) → SettledFrom lens s q l N l' → Done lens s q N l'
  settled_done l l' N long row h =
      let T = question_by lens q.asker in
      let C = rules_by lens s q in
      let fine = lawful lens s q bytes ok asker in
      let begun = start_held lens s q bytes ok asker in
      let start-table = held_row lens q.asker (start T) begun l row (start_within lens s q bytes ok asker l long row) in
      let count = subst (λ t. CountFrom T C t N) start-table h.count in
      let last_row = h.row ∙ ap (λ t. row_of (repeated T C t N)) start-table in
      let kept = repeated_held T fine (start T) begun N in
      let within = within_exact lens q.asker (passes T C N) kept l' (h.long ∙ long) last_row in
      record {
        before = count.before;
        settled = count.still;
        count = count;
        row = last_row;
        within = within;
        table = held_row lens q.asker (passes T C N) kept l' last_row within
            ∙ stays_still T fine (start T) begun count.before count.still N (omega (arith, count.one_more));
      }

-- nothing stands beyond 2,592 places
past : (l : List ℕ) → length l ≡ entries → drop entries l ≡ []
past l e = drop_of_length-le l {i = entries} (omega arith)

-- the steps of a granted question
module _ {s : List ℕ} {q : Request} (bytes : AreBytes s) {count W : ℕ} (g : Granting s q count W) where
  abbrev by_minutes_lem : Lawful (asked q) (rules_of s q)
  by_minutes_lem = rules_lawful Minutes s q bytes g.ready.accepted g.ready.asker

  -- the start is within the cap
  pub steps_start : {l : List ℕ} → length l ≡ entries → take entries l ≡ row_of (start (question_by (Steps W) q.asker)) → Within (Steps W) l
  steps_start {l} = start_within (Steps W) s q bytes g.ready.accepted g.ready.asker l

  -- what is written out for the owner's mark 10 is a best chain
  pub entered_weighs : (ch : List ℕ) → Entered s q W q.owner delegate keys ch → Weighs (asked q) (rules_of s q) q.owner W ch
  entered_weighs ch e =
      (kept_best by_minutes_lem minutes_by_weakest q.owner g.best ch).0 ((chain_brings (kept_lawful by_minutes_lem minutes W) q.owner ch).1 e)

  module _ (l : List ℕ) {l₁ l₂ : List ℕ} (long : length l ≡ entries) (same : length l₁ ≡ length l) (row : take entries l₁ ≡ row_of (start (question_by (Steps W) q.asker))) {N : ℕ} (settled : SettledFrom (Steps W) s q l₁ N l₂) where
    done : Done (Steps W) s q N l₂
    done = settled_done (Steps W) s q bytes g.ready.accepted g.ready.asker l₁ l₂ N (same ∙ long) row settled

    -- the list holds the last table of steps
    pub steps_table : StepsTable s q W l₂
    steps_table = record {
      accepted = g.ready.accepted;
      asker = g.ready.asker;
      within = done.within;
      last = rw done.table (settled_last (kept_lawful by_minutes_lem minutes W) done.before done.settled);
    }

    -- its entries are the fewest certificates that bring them about
    steps_held : StepsHeld s q W l l₂
    steps_held = record {
      fewest = λ k x a h. subst (Fewest (Brings (by_steps (asked q)) (kept minutes W (rules_of s q)) k x a))
          (sym (ap (λ t. t k x a) done.table) ∙ held_at (Steps W) l₂ k x a h) (settled_steps by_minutes_lem done.before W done.settled k x a);
      long = settled.long ∙ same;
      beyond = past l₂ (settled.long ∙ same ∙ long) ∙ sym (past l long);
    }

    -- and the owner's mark 10 the fewest of a best chain
    fewest_owner : Fewest (Weighs (asked q) (rules_of s q) q.owner W) (steps_at W l₂ q.owner delegate keys)
    fewest_owner = rw (ap (λ t. t q.owner delegate keys) done.table) (settled_fewest by_minutes_lem done.before W done.settled minutes_by_weakest q.owner g.best)

    -- every best chain has more than 200 steps
    pub counted_long : {P n : ℕ} {ch : List ℕ} → n ≡ steps_at W l₂ q.owner delegate keys → chain_places < n → Counted s q W P (Ok (verdicts.GrantedLong W P)) l l₂ ch ch
    counted_long e h =
        let top = at_fits W l₂ q.owner delegate keys done.within in
        let most : steps_at W l₂ q.owner delegate keys ≡ uncounted = omega arith in
        uncountable (rw most at fewest_owner) refl steps_held refl

    -- a shortest best chain is written out
    pub counted_short : {P n : ℕ} {ch ch' : List ℕ} {r : ℕ} → n ≡ steps_at W l₂ q.owner delegate keys → n ≤ chain_places →
        Wrote (Entered s q W q.owner delegate keys) 0 (steps_at W l₂ q.owner delegate keys) ch ch' r → Counted s q W P (Ok (verdicts.Granted W n P)) l l₂ ch ch'
    counted_short {n = n} e h w =
        counted n w.list h (record { best = g.best; weighs = entered_weighs w.list w.holds; long = w.long ∙ sym e; fewest = rw e fewest_owner }) w.written steps_held refl

-- the minutes of a question in order
module _ {s : List ℕ} {q : Request} (bytes : AreBytes s) {count : ℕ} (ready : Ready s q count) where
  -- the start is within the cap
  pub minutes_start : {l : List ℕ} → length l ≡ entries → take entries l ≡ row_of (start (question_by Minutes q.asker)) → Within Minutes l
  minutes_start {l} = start_within Minutes s q bytes ready.accepted ready.asker l

  module _ (l : List ℕ) {l₁ l₂ : List ℕ} (long : length l ≡ entries) (same : length l₁ ≡ length l) (row : take entries l₁ ≡ row_of (start (question_by Minutes q.asker))) {N : ℕ} (settled : SettledFrom Minutes s q l₁ N l₂) where
    at_last : Done Minutes s q N l₂
    at_last = settled_done Minutes s q bytes ready.accepted ready.asker l₁ l₂ N (same ∙ long) row settled

    minutes_held : MinutesHeld s q N l l₂
    minutes_held = record { count = at_last.count; row = at_last.row; beyond = cc (past l₂ (settled.long ∙ same ∙ long), past l long) }

    -- the owner's mark 10 decides
    owner_decides : {m : ℕ} → m ≡ held Minutes l₂ q.owner delegate keys → Decides (asked q) (rules_of s q) q.owner m
    owner_decides e =
        rw (e ∙ ap (λ t. t q.owner delegate keys) at_last.table)
        (settled_decides (rules_lawful Minutes s q bytes ready.accepted ready.asker) at_last.before at_last.settled minutes_by_weakest
        (rules_weighty s q ready.minute) q.owner)

    -- no chain
    pub answered_none : {m : ℕ} → m ≡ held Minutes l₂ q.owner delegate keys → m ≡ 0 → {t t' ch : List ℕ} →
        (take entries t' ≡ replicate entries uncounted) × (drop entries t' ≡ drop entries t) → Answered s q (Ok (verdicts.NoChain N)) l l₂ t t' ch ch
    unfolding minutes
    answered_none e z steps = ⊎_elim (λ d. denied N d.1 minutes_held steps.0 steps.1 refl refl) (λ d. absurd (d.0 z)) (owner_decides e)

    -- a minute
    pub granting : {m : ℕ} → m ≡ held Minutes l₂ q.owner delegate keys → (m ≡ 0 → ⊥) → Granting s q count m
    unfolding minutes
    granting e some = ⊎_elim (λ d. absurd (some d.0)) (λ d. record { ready = ready; best = d.1 }) (owner_decides e)

    pub answered_granted : {m : ℕ} → m ≡ held Minutes l₂ q.owner delegate keys → (m ≡ 0 → ⊥) → {r : Result Verdict Refused} {t t' ch ch' : List ℕ} →
        Counted s q m N r t t' ch ch' → Answered s q r l l₂ t t' ch ch'
    answered_granted {m} e some c = granted m N some (granting e some).best minutes_held c
