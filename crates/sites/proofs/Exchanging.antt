-- Full exchanges of two sites are full exchanges of the rules on their tables.
use mathlib.Core.Path.{◌≡◌, sym, ap, ◌∙◌, subst}
use mathlib.Core.Logic.{◌⊎◌, inl, inr, ⊎_elim, by_cases}
use mathlib.Core.List.Memᴰ
use mathlib.Core.List.{List, Memᴰ}
use Prim.Native.Nat.{ℕ, ◌≤◌, ◌<◌}
use native.Mathlib.Nat.{le_trans}
use native.Mathlib.Omega.{arith}
use native.Mathlib.Decide.{dec_lt}
use lib.ListN.{length}
use Rattle.std.specs.Prelude.{Result, Ok, Err}
use Rattle.wac.specs.Limits.{keys, entries, without_end}
use Rattle.wac.specs.Answers.{refuses}
use Rattle.wac.proofs.Cases.{gives_not_refuses}
use Rattle.rewriting.specs.Entries.{Entry}
use Rattle.decision.specs.Usable.{rules_of}
use Rattle.decision.specs.Table.{key_of, symbol_of, arrival_of, number}
use Rattle.decision.specs.Question.{asked}
use Rattle.decision.specs.declared.request.Request.{Request}
use Rattle.decision.proofs.TableLaws.{entry_of_lem, is_entry_lem, number_low, entry_back, key_back, symbol_back, arrival_back}
use Rattle.notes.specs.Notes as rules
use Rattle.notes.specs.Exchange as exchange
use Rattle.notes.proofs.Taking.{receipt_noted}
use Rattle.notes.proofs.Growing.{Grew, steps_grew}
use Rattle.sites.specs.Notes.{note_length, note_from, note_bytes}
use Rattle.sites.specs.Site.{taken_as, Takes, DueAt, minute_at, receipted_at, raise_of, receipt_of}
use Rattle.sites.specs.Line.{Act, System, Step, Steps}
use Rattle.sites.specs.Exchange.{accepted, taken_a, Turn, Half, Full, Exchanges}
use Rattle.sites.specs.declared.site.Site.{Site}
use Rattle.sites.specs.declared.note.NoteKind.{NoteKind}
use Rattle.sites.specs.declared.site.NoteRefused.{NoteRefused}
use Rattle.sites.specs.declared.note.NoteKind.TheVariants.{Raise, Receipt}
use Rattle.sites.proofs.SiteLaws.{few_bytes}
use Rattle.sites.proofs.Ledgers.{ledger, note_of, said_by, table_number, site_works, follows}
use Rattle.sites.proofs.SendingLaws.{reply_read}
use Rattle.sites.proofs.Following.{system, InOrder, Followed, followed_swap, first_sendable, follow_steps}

-- a note taken in an act was taken before, or is the one that was brought and not refused
accepted_in : (t : Result NoteKind NoteRefused) {b c : List ℕ} {ns : List (List ℕ)} → Memᴰ c (accepted t b ns) → Memᴰ c ns ⊎ ((c ≡ b) × ((n : ℕ) (vs : List ℕ) → taken_as t ≡ refuses n vs → ⊥))
accepted_in (Ok Raise) j = ⊎_elim (λ e. inr (e, λ n vs. gives_not_refuses)) inl (Memᴰ.cases_cons j)
accepted_in (Ok Receipt) j = ⊎_elim (λ e. inr (e, λ n vs. gives_not_refuses)) inl (Memᴰ.cases_cons j)
accepted_in (Err why) j = inl j

module _ {f g : List ℕ} {q : Request} {session : ℕ} (word : session ≤ without_end) (f_order : InOrder f q) (g_order : InOrder g q) where
  -- what a site holds only grows
  grew : {x y : System} → Followed f g q session x → Steps session x y → Grew keys (ledger x.a.site) (ledger y.a.site)
  grew k on = steps_grew (follow_steps word f_order g_order k on).1

  after : {x y : System} → Followed f g q session x → Steps session x y → Followed f g q session y
  after k on = (follow_steps word f_order g_order k on).0

  -- a receipt that a takes, for a minute that it held before, is receipted after
  module _ {x : System} (k : Followed f g q session x) {n s p m : ℕ} (e : Entry keys n s p) (held : m ≤ (ledger x.a.site).minute n s p) (c : List ℕ) (says : note_of c ≡ rules.receipt n s p m) where
    brought : {y : System} (on : Steps session x y) {b l l' : List ℕ} {t : Result NoteKind NoteRefused} {z : Site} → c ≡ b → Memᴰ b y.b.wrote → Takes y.a.site b l (record { answer = t; site = z }) l' →
        ((n : ℕ) (vs : List ℕ) → taken_as t ≡ refuses n vs → ⊥) → m ≤ (ledger z).receipted n s p
    brought {y} on {b} {l} {t = t} same j takes fine = by_cases (dec_lt (length l) note_length)
        (λ short. absurd (fine _ _ (takes.answer ∙ few_bytes y.a.site b (length l) (note_from b).kind short)))
        (λ room.
        let here = after k on in
        let d = follows word here.a_stands (here.b_honest b j) l (omega arith) t takes.answer takes.site takes.bytes in
        let noted = receipt_noted n s p m (ledger y.a.site) (le_trans held ((grew k on).minutes n s p e)) in
        subst (λ (l : rules.Ledger). m ≤ l.receipted n s p) (sym d.tables)
        (subst (λ (o : rules.Note). m ≤ (rules.take o (ledger y.a.site)).ledger.receipted n s p) (sym says ∙ ap note_of same) noted))

    taken_receipt : {y : System} (on : Steps session x y) → Memᴰ c (taken_a on) → m ≤ (ledger y.a.site).receipted n s p
    unfolding taken_a
    taken_receipt Steps.none j = absurd (Memᴰ.not-nil j)
    taken_receipt (Steps.more on (Step.step_a (Act.act_work z works))) j =
        le_trans (taken_receipt on j) ((grew (after k on) (Steps.more Steps.none (Step.step_a (Act.act_work z works)))).receipts n s p e)
    taken_receipt (Steps.more on (Step.step_a (Act.act_write from d l l' sends))) j = taken_receipt on j
    taken_receipt (Steps.more on (Step.step_a (Act.act_take b l l' r i takes))) j = ⊎_elim
        (λ j. le_trans (taken_receipt on j) ((grew (after k on) (Steps.more Steps.none (Step.step_a (Act.act_take b l l' r i takes)))).receipts n s p e))
        (λ new. brought on new.0 i takes new.1)
        (accepted_in r.answer j)
    taken_receipt (Steps.more on (Step.step_a (Act.act_stray b l l' r stray takes))) j =
        le_trans (taken_receipt on j) ((grew (after k on) (Steps.more Steps.none (Step.step_a (Act.act_stray b l l' r stray takes)))).receipts n s p e)
    taken_receipt (Steps.more on (Step.step_b act)) j = taken_receipt on j

  -- when an entry has had its turn, what a held of it before is receipted
  module _ {x y : System} (k : Followed f g q session x) {run : Steps session x y} (e : ℕ) (low : e < entries) (t : Turn run e) where
    come : Followed f g q session t.point
    come = after k t.before

    here : Entry keys (key_of e) (symbol_of e) (arrival_of e)
    here = entry_of_lem _ _ _ (entry_back e low)

    receipt_says : DueAt t.point.a.site e →
        note_of (note_bytes (receipt_of (raise_of t.point.a.site e))) ≡ rules.receipt (key_of e) (symbol_of e) (arrival_of e) (minute_at t.point.a.site e)
    receipt_says due =
        let sendable = first_sendable f_order g_order t.point.a t.point.b come.reached in
        ap said_by (reply_read word come.a_stands sendable e low due)

    turn_done : (ledger x.a.site).minute (key_of e) (symbol_of e) (arrival_of e) ≤ (ledger y.a.site).receipted (key_of e) (symbol_of e) (arrival_of e)
    turn_done =
        let minute = table_number t.point.a.site.minutes e low in
        let receipted = table_number t.point.a.site.receipted e low in
        le_trans ((grew k t.before).minutes _ _ _ here) (by_cases (dec_lt (receipted_at t.point.a.site e) (minute_at t.point.a.site e))
        (λ due. (let done = taken_receipt come here (omega arith) _ (receipt_says due) t.after (t.told due).1 in omega arith))
        (λ not. (let done = (grew come t.after).receipts _ _ _ here in omega arith)))

  -- a half is a half of the rules
  pub half_rules : {x y : System} → Followed f g q session x → Half session x y → exchange.Half (asked q) (rules_of f q) (rules_of g q) (system x) (system y)
  half_rules {x} {y} k h =
      let there = after k h.before in
      let begun = after there (Steps.more Steps.none (Step.step_a (Act.act_work h.worked h.work))) in
      record {
        from = system h.from;
        before = (follow_steps word f_order g_order k h.before).1;
        worked = ledger h.worked;
        work = (site_works f q f_order.lawful f_order.admitted there.a_stands h.work).0;
        after = (follow_steps word f_order g_order begun h.after).1;
        all = λ n s p e.
            let t = is_entry_lem n s p e in
            let low = number_low n s p t in
            rw (key_back n s p t, symbol_back n s p t, arrival_back n s p t) at (turn_done begun (number n s p) low (h.turns (number n s p) low));
      }

  pub half_followed : {x y : System} → Followed f g q session x → Half session x y → Followed f g q session y
  half_followed k h =
      let there = after k h.before in
      after (after there (Steps.more Steps.none (Step.step_a (Act.act_work h.worked h.work)))) h.after

-- so are a full exchange and any number of them
module _ {q : Request} {session : ℕ} (word : session ≤ without_end) where
  full_rules : {f g : List ℕ} → InOrder f q → InOrder g q → {x y : System} → Followed f g q session x → Full session x y →
      exchange.Full (asked q) (rules_of f q) (rules_of g q) (system x) (system y) × Followed f g q session y
  full_rules f_order g_order k e =
      let middle = followed_swap (half_followed word f_order g_order k e.there) in (
        record { middle = system e.middle; there = half_rules word f_order g_order k e.there; back = half_rules word g_order f_order middle e.back },
        followed_swap (half_followed word g_order f_order middle e.back),
      )

  pub exchanges_rules : {f g : List ℕ} → InOrder f q → InOrder g q → {x y : System} {n : ℕ} → Followed f g q session x → Exchanges session x n y →
      exchange.Exchanges (asked q) (rules_of f q) (rules_of g q) (system x) n (system y) × Followed f g q session y
  exchanges_rules f_order g_order k Exchanges.begin = (exchange.begin, k)
  exchanges_rules f_order g_order k (Exchanges.from_a on e) =
      let before = exchanges_rules f_order g_order k on in
      let one = full_rules f_order g_order before.1 e in
      (exchange.from_a before.0 one.0, one.1)
  exchanges_rules f_order g_order k (Exchanges.from_b on e) =
      let before = exchanges_rules f_order g_order k on in
      let one = full_rules g_order f_order (followed_swap before.1) e in
      (exchange.from_b before.0 one.0, followed_swap one.1)
