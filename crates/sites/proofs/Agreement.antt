-- What is proved of two sites: demand 3, of the functions' own results and down to the notes' bytes.
use mathlib.Core.Path.{◌≡◌, refl, sym, ap, ◌∙◌, subst}
use mathlib.Core.Logic.{inl, inr}
use mathlib.Core.Bool.{true, not, true≢false}
use mathlib.Core.List.Memᴰ
use mathlib.Core.List.{List, Memᴰ}
use Prim.Native.Nat.{ℕ, zero, suc, ◌≤◌}
use native.Mathlib.Omega.{arith}
use borrow.Author.Tests.{eq-eqb, ne_eqb}
use lib.ListN.{length}
use Rattle.std.specs.Prelude.{Err}
use Rattle.wac.specs.Limits.{keys, delegate, end_place}
use Rattle.rewriting.specs.Weighing.{minutes}
use Rattle.rewriting.specs.Entries.{Lawful}
use Rattle.rewriting.specs.Passes.{Table, bound}
use Rattle.rewriting.proofs.Order.{minutes_by_weakest}
use Rattle.rewriting.proofs.Answers.{answer_decides, decides_unique}
use Rattle.rewriting.proofs.LastTable.{last_answer}
use Rattle.rewriting.proofs.Bound.{last_exists}
use Rattle.rewriting.proofs.Together.{together_lawful, together_weighty}
use Rattle.decision.specs.Usable.{rules_of}
use Rattle.decision.specs.Table.{table_of}
use Rattle.decision.specs.Question.{asked}
use Rattle.decision.specs.declared.request.Request.{Request}
use Rattle.decision.proofs.AskLaws.{admitted_ready}
use Rattle.decision.proofs.QuestionLaws.{rules_weighty}
use Rattle.notes.proofs.Main.{notes_safe, notes_agree, notes_stay, notes_rest, notes_accepted}
use Rattle.sites.specs.Notes.{note_length}
use Rattle.sites.specs.Site.{Takes, restful, showing}
use Rattle.sites.specs.Line.{System, Steps, Reached, both_files, JointMinute, JointChain, Settled, Agreed}
use Rattle.sites.specs.Exchange.{Exchanges}
use Rattle.sites.specs.declared.site.Site.{Site}
use Rattle.sites.specs.declared.site.NoteRefused.{NoteRefused}
use Rattle.sites.specs.declared.site.Taking.{Taking}
use Rattle.sites.proofs.Ledgers.{ledger, note_of, Standing, follows}
use Rattle.sites.proofs.SendingLaws.{rest_tables, tables_rest}
use Rattle.sites.proofs.Following.{InOrder, begun_order, Followed, followed, follow_steps}
use Rattle.sites.proofs.Running.{exchanges_steps, reached_on, reached_swap}
use Rattle.sites.proofs.Exchanging.{exchanges_rules}
use Rattle.sites.proofs.Runnable.{full_runs}

-- what a site shows is its tables' minute
shown_tables : {s : List ℕ} {q : Request} {session : ℕ} {x : Site} → Standing s q session x → (showing x).minute ≡ (ledger x).minute q.owner delegate end_place
unfolding showing
shown_tables {x = x} st = ap (λ (q : Request). table_of 0 x.minutes q.owner delegate end_place) st.request

-- a site refuses none of these notes
abbrev pub Accepts : Site → List (List ℕ) → Type 0
Accepts x w = (b l l' : List ℕ) (r : Taking) (why : NoteRefused) → Memᴰ b w → note_length ≤ length l → Takes x b l r l' → r.answer ≡ Err why → ⊥

module _ {f g : List ℕ} {q : Request} {session : ℕ} {x : System} (r : Reached f g q session x) where
  f_order : InOrder f q
  f_order = begun_order r.begun_a

  g_order : InOrder g q
  g_order = begun_order r.begun_b

  state : Followed f g q session x
  state = followed r

  both : Lawful (asked q) (both_files f g q)
  both = together_lawful f_order.lawful g_order.lawful

  abbrev joint : Table
  joint = (last_exists both).0

  -- the joint table gives the joint minute
  joint_minute : JointMinute f g q (joint q.owner delegate end_place)
  joint_minute =
      let some = (admitted_ready f q f_order.admitted).minute in
      answer_decides (asked q) (both_files f g q) minutes_by_weakest
      (together_weighty minutes (rules_of f q) (rules_of g q) (rules_weighty f q some) (rules_weighty g q some))
      q.owner (last_answer both (last_exists both).1 q.owner)

  -- so there is a joint minute.
  pub joint_exists : (m : ℕ) × JointMinute f g q m
  joint_exists = (joint q.owner delegate end_place, joint_minute)

  -- 1. At no moment does either site show a later minute than demand 2 gives over both files together.
  pub never_later : (m : ℕ) → JointMinute f g q m → ((showing x.a.site).minute ≤ m) × ((showing x.b.site).minute ≤ m)
  never_later m decides =
      let safe = notes_safe f_order.lawful g_order.lawful state.reached (last_exists both).1 q.owner delegate end_place in
      let same = decides_unique (asked q) (both_files f g q) q.owner decides joint_minute in
      (omega (arith, shown_tables state.a_stands, safe.0), omega (arith, shown_tables state.b_stands, safe.1))

  -- 2. Whenever both report rest, both show exactly that minute, or that nothing is granted,
  pub rest_agrees : restful x.a.site ≡ true → restful x.b.site ≡ true → JointMinute f g q (showing x.a.site).minute × JointMinute f g q (showing x.b.site).minute
  rest_agrees a b =
      let same = notes_agree f_order.lawful g_order.lawful state.reached (rest_tables x.a.site a) (rest_tables x.b.site b) (last_exists both).1 q.owner delegate end_place in (
        subst (JointMinute f g q) (sym (shown_tables state.a_stands ∙ same.0)) joint_minute,
        subst (JointMinute f g q) (sym (shown_tables state.b_stands ∙ same.1)) joint_minute,
      )

  -- and in every later state both still rest, and so show it.
  pub rest_stays : {y : System} → restful x.a.site ≡ true → restful x.b.site ≡ true → Steps session x y → (restful y.a.site ≡ true) × (restful y.b.site ≡ true)
  rest_stays {y} a b on =
      let later = follow_steps r.word f_order g_order state on in
      let rest = notes_stay f_order.lawful g_order.lawful state.reached (rest_tables x.a.site a) (rest_tables x.b.site b) later.1 in
      (tables_rest y.a.site rest.0, tables_rest y.b.site rest.1)

  -- 3. 2,576 full exchanges in a row without loss bring both to rest, whichever site begins each and whatever else happens on the line before,
  -- between and within them.
  pub exchanges_rest : {n : ℕ} {y : System} → bound keys ≤ n → Exchanges session x n y → (restful y.a.site ≡ true) × (restful y.b.site ≡ true)
  exchanges_rest {n} {y} h e =
      let rest = notes_rest f_order.lawful g_order.lawful state.reached n h (exchanges_rules r.word f_order g_order state e).0 in
      (tables_rest y.a.site rest.0, tables_rest y.b.site rest.1)

  -- A note that the second site wrote is never refused by the first.
  first_accepts : Accepts x.a.site x.b.wrote
  first_accepts b l l' t why m room takes e =
      let k = follows r.word state.a_stands (state.b_honest b m) l room t.answer takes.answer takes.site takes.bytes in
      (notes_accepted f_order.lawful g_order.lawful state.reached).0 (note_of b) (Memᴰ.map note_of m) (k.refused why e)

-- with 16 keys the bound is 2,576
pub bound_is : bound keys ≡ 2576
bound_is = refl

-- Both still show that minute in every later state.
pub later_agrees : {f g : List ℕ} {q : Request} {session : ℕ} {x y : System} → Reached f g q session x → restful x.a.site ≡ true → restful x.b.site ≡ true → Steps session x y →
    JointMinute f g q (showing y.a.site).minute × JointMinute f g q (showing y.b.site).minute
later_agrees r a b on = let rest = rest_stays r a b on in rest_agrees (reached_on r on) rest.0 rest.1

-- "Granted": what a site shows as granted it shows as not 0,
granted_some : (x : Site) → (showing x).granted ≡ true → (showing x).minute ≡ 0 → ⊥
unfolding showing
granted_some x e none = true≢false (sym e ∙ ap not (eq-eqb _ _ none))

some_granted : (x : Site) → ((showing x).minute ≡ 0 → ⊥) → (showing x).granted ≡ true
unfolding showing
some_granted x some = ap not (ne_eqb _ _ some)

-- and the joint minute is not 0 exactly if there is a chain
module _ (f g : List ℕ) (q : Request) where
  minute_chain : {m : ℕ} → JointMinute f g q m → (m ≡ 0 → ⊥) → JointChain f g q
  unfolding minutes
  minute_chain (inl never) some = absurd (some never.0)
  minute_chain (inr best) some = (best.1.chain, best.1.leads)

  chain_minute : {m : ℕ} → JointMinute f g q m → JointChain f g q → m ≡ 0 → ⊥
  unfolding minutes
  chain_minute (inl never) chain none = never.1 chain.0 chain.1
  chain_minute (inr best) chain none = best.0 none

-- Each site shows "granted" only if there is a chain over both files,
pub granted_chain : {f g : List ℕ} {q : Request} {session : ℕ} {x : System} → Reached f g q session x →
    ((showing x.a.site).granted ≡ true → JointChain f g q) × ((showing x.b.site).granted ≡ true → JointChain f g q)
granted_chain {f} {g} {q} {x = x} r =
    let joint = joint_exists r in
    let low = never_later r joint.0 joint.1 in (
      λ e. minute_chain f g q joint.1 (λ none. granted_some x.a.site e (omega (arith, low.0))),
      λ e. minute_chain f g q joint.1 (λ none. granted_some x.b.site e (omega (arith, low.1))),
    )

-- and where both rest, exactly then.
settled : (f g : List ℕ) (q : Request) (x : Site) → restful x ≡ true → JointMinute f g q (showing x).minute → Settled f g q x
settled f g q x rests shows = record {
  rests = rests;
  shows = shows;
  grants = (λ e. minute_chain f g q shows (granted_some x e), λ chain. some_granted x (chain_minute f g q shows chain));
}

pub rest_settles : {f g : List ℕ} {q : Request} {session : ℕ} {x : System} → Reached f g q session x → restful x.a.site ≡ true → restful x.b.site ≡ true → Agreed f g q x
rest_settles {f} {g} {q} {x = x} r a b =
    let shows = rest_agrees r a b in
    record { a = settled f g q x.a.site a shows.0; b = settled f g q x.b.site b shows.1 }

-- Full exchanges are steps of the line, and the state after them is reached.
pub exchanges_reach : {f g : List ℕ} {q : Request} {session n : ℕ} {x y : System} → Reached f g q session x → Exchanges session x n y →
    Steps session x y × Reached f g q session y
exchanges_reach r e = (exchanges_steps e, reached_on r (exchanges_steps e))

-- From every state reached any number of them can be run.
pub exchanges_run : {f g : List ℕ} {q : Request} {session : ℕ} {x : System} → Reached f g q session x → (n : ℕ) → (y : System) × Exchanges session x n y
exchanges_run {x = x} r zero = (x, Exchanges.begin)
exchanges_run r (suc n) =
    let before = exchanges_run r n in
    let one = full_runs (exchanges_reach r before.1).1 in
    (one.0, Exchanges.from_a before.1 one.1)

-- Demand 3 in one: from any state reached, after 2,576 full exchanges or more, and in every later state, both rest, show exactly the joint
-- minute, and show "granted" exactly if there is a chain.
pub exchanges_agree : {f g : List ℕ} {q : Request} {session n : ℕ} {x y z : System} → Reached f g q session x → bound keys ≤ n → Exchanges session x n y → Steps session y z →
    Agreed f g q z
exchanges_agree r h e on =
    let rest = exchanges_rest r h e in
    let there = (exchanges_reach r e).1 in
    let still = rest_stays there rest.0 rest.1 on in
    rest_settles (reached_on there on) still.0 still.1

-- 4. An honest note is never refused: one that the other site wrote, where there is room for its receipt.
pub never_refused : {f g : List ℕ} {q : Request} {session : ℕ} {x : System} → Reached f g q session x → Accepts x.a.site x.b.wrote × Accepts x.b.site x.a.wrote
never_refused r = (first_accepts r, first_accepts (reached_swap r))
