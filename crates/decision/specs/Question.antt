-- The question: its refusals, its answers and what the lent places then hold, in terms of chains: document 01, "Entries and passes" and "What comes back".
use Rattle.std.specs.Prelude.{◌≡◌, Bool, true, false, List, [], ◌∷◌, ◌++◌, ℕ, ◌<◌, ◌≤◌, leb, ltb, eqb, length, get_or, take, drop, replicate, Result, Ok, Err}
use Rattle.std.proofs.lemmas.List.Edits.{sets}
use Rattle.wac.specs.Limits.{keys, all_rights, entries, chain_places}
use Rattle.wac.specs.Answers.{Answer, gives, refuses, Case, ◌if◌, first_of, number_of, values_of}
use Rattle.wac.specs.File.{count_of, file_cases}
use Rattle.rewriting.specs.Weighing.{minutes, uncounted}
use Rattle.rewriting.specs.Rewriting.{Question, Chain, Best}
use Rattle.rewriting.specs.Entries.{Brings}
use Rattle.rewriting.specs.Passes.{passes, PassCount}
use Rattle.rewriting.specs.Steps.{Fewest, Weighs, by_steps, kept}
use Rattle.decision.specs.Usable.{rules_of}
use Rattle.decision.specs.Lens.{question_by}
use Rattle.decision.specs.Table.{is_entry, number, row_of}
use Rattle.decision.specs.Engine.{Accepted, SettledFrom}
use Rattle.decision.specs.declared.request.Request.{Request}
use Rattle.decision.specs.declared.lens.Lens.TheVariants.{Minutes}
use Rattle.decision.specs.declared.question.Refused.{Refused}
use Rattle.decision.specs.declared.question.Refused.TheVariants.{File, Keys, Rights, Minute, Places}
use Rattle.decision.specs.declared.question.Verdict.{Verdict}
use Rattle.decision.specs.declared.question.Verdict.TheVariants as verdicts

-- the refusals of a request: 20 owner or asker above 15, 21 rights 0 or above 15, 22 T is 0
unfoldable pub request_cases : Request → List Case
request_cases q =
    (20 if leb keys q.owner)
    ∷ (20 if leb keys q.asker)
    ∷ (21 if eqb q.rights 0)
    ∷ (21 if ltb all_rights q.rights)
    ∷ (22 if eqb q.at 0)
    ∷ []

-- the number of each refusal
abbrev pub refusal_number : Refused → ℕ
refusal_number (File why) = number_of why
refusal_number Keys = 20
refusal_number Rights = 21
refusal_number Minute = 22
refusal_number Places = 23

-- the values that each refusal returns: those of the file's
abbrev pub refusal_values : Refused → List ℕ
refusal_values (File why) = values_of why
refusal_values Keys = []
refusal_values Rights = []
refusal_values Minute = []
refusal_values Places = []

-- what a refusal comes back as
abbrev pub refused_as : {A : Type 0} → Refused → Answer A
refused_as why = refuses (refusal_number why) (refusal_values why)

-- what a call comes back as: its value, or its refusal
abbrev pub answered_as : {A : Type 0} → Result A Refused → Answer A
answered_as (Ok a) = gives a
answered_as (Err why) = refused_as why

-- r is whether the file and the request are in order: the file's refusals first
abbrev pub Admits : List ℕ → Request → Result ℕ Refused → Type 0
Admits s q r = answered_as r ≡ first_of (file_cases s ++ request_cases q) (count_of s)

-- the request that a question's numbers make
abbrev pub request_of : ℕ → ℕ → ℕ → ℕ → Request
request_of owner asker rights at = record { owner = owner; asker = asker; rights = rights; at = at }

-- a question that no refusal stops
pub record Ready (s : List ℕ) (q : Request) (count : ℕ) : Type 0 where
  pub accepted : Accepted s
  pub counted : count ≡ count_of s
  pub owner : q.owner < keys
  pub asker : q.asker < keys
  pub minute : q.at ≡ 0 → ⊥

-- the question by minutes, and its certificates
abbrev pub asked : Request → Question
asked q = question_by Minutes q.asker

-- what a verdict comes back as: document 01's number and values
pub record Reply : Type 0 where
  pub number : ℕ
  pub values : List ℕ

-- a number with its values
abbrev pub reply : ℕ → List ℕ → Reply
reply number values = record { number = number; values = values }

-- the number and the values of each verdict
abbrev pub reply_of : Result Verdict Refused → Reply
reply_of (Ok (verdicts.Granted minute steps passes)) = reply 0 (minute ∷ steps ∷ passes ∷ [])
reply_of (Ok (verdicts.NoChain passes)) = reply 1 (passes ∷ [])
reply_of (Ok (verdicts.GrantedLong minute passes)) = reply 2 (minute ∷ passes ∷ [])
reply_of (Err why) = reply (refusal_number why) (refusal_values why)

-- the minutes' places after an answer 0, 1 or 2: those of the last of N passes; places beyond stay
pub record MinutesHeld (s : List ℕ) (q : Request) (N : ℕ) (minutes minutes' : List ℕ) : Type 0 where
  pub count : PassCount (asked q) (rules_of s q) N
  pub row : take entries minutes' ≡ row_of (passes (asked q) (rules_of s q) N)
  pub beyond : drop entries minutes' ≡ drop entries minutes

-- the steps' places after an answer 0 or 2: of each entry the fewest certificates with not-after ≥ W that bring it about, 201 for none or more than 200; places beyond stay
pub record StepsHeld (s : List ℕ) (q : Request) (W : ℕ) (steps steps' : List ℕ) : Type 0 where
  pub fewest : (k x a : ℕ) → is_entry k x a ≡ true → Fewest (Brings (by_steps (asked q)) (kept minutes W (rules_of s q)) k x a) (get_or steps' (number k x a) 0)
  pub long : length steps' ≡ length steps
  pub beyond : drop entries steps' ≡ drop entries steps

-- ch is a shortest best chain: W is the latest minute of a chain, ch has it and n certificates, and no chain that has it
-- has fewer
pub record ShortestBest (s : List ℕ) (q : Request) (W n : ℕ) (ch : List ℕ) : Type 0 where
  pub best : Best (asked q) (rules_of s q) q.owner W
  pub weighs : Weighs (asked q) (rules_of s q) q.owner W ch
  pub long : length ch ≡ n
  pub fewest : Fewest (Weighs (asked q) (rules_of s q) q.owner W) n

-- granted until W by a question of N passes: 0 and a shortest best chain is written, other places stay; or 2 and every
-- place stays
pub data Counted (s : List ℕ) (q : Request) (W N : ℕ) (r : Result Verdict Refused) (steps steps' chain chain' : List ℕ) : Type 0 where
  counted : (n : ℕ) (ch : List ℕ) → n ≤ chain_places → ShortestBest s q W n ch → chain' ≡ sets chain 0 ch →
      StepsHeld s q W steps steps' → reply_of r ≡ reply 0 (W ∷ n ∷ N ∷ []) → Counted s q W N r steps steps' chain chain'
  uncountable : Fewest (Weighs (asked q) (rules_of s q) q.owner W) uncounted → chain' ≡ chain →
      StepsHeld s q W steps steps' → reply_of r ≡ reply 2 (W ∷ N ∷ []) → Counted s q W N r steps steps' chain chain'

-- a question in order: granted, W being the latest minute over all chains; or there is no chain, and 1
pub data Answered (s : List ℕ) (q : Request) (r : Result Verdict Refused) (minutes minutes' steps steps' chain chain' : List ℕ) : Type 0 where
  granted : (W N : ℕ) → (W ≡ 0 → ⊥) → Best (asked q) (rules_of s q) q.owner W → MinutesHeld s q N minutes minutes' →
      Counted s q W N r steps steps' chain chain' → Answered s q r minutes minutes' steps steps' chain chain'
  denied : (N : ℕ) → ((ch : List ℕ) → Chain (rules_of s q) q.owner q.asker ch → ⊥) → MinutesHeld s q N minutes minutes' →
      take entries steps' ≡ replicate entries uncounted → drop entries steps' ≡ drop entries steps → chain' ≡ chain →
      reply_of r ≡ reply 1 (N ∷ []) → Answered s q r minutes minutes' steps steps' chain chain'

-- W is the latest minute of a question in order
pub record Granting (s : List ℕ) (q : Request) (count W : ℕ) : Type 0 where
  pub ready : Ready s q count
  pub best : Best (asked q) (rules_of s q) q.owner W

-- the refusals of a question: the file's, the request's, the lent places'
unfoldable pub ask_cases : List ℕ → Request → ℕ → ℕ → ℕ → List Case
ask_cases s q minutes steps chain =
    (file_cases s ++ request_cases q)
    ++ (23 if ltb minutes entries)
    ∷ (23 if ltb steps entries)
    ∷ (23 if ltb chain chain_places)
    ∷ []

-- the question: refused by the first case that holds, and then every lent place is as it was; or answered
pub data Judged (s : List ℕ) (q : Request) (r : Result Verdict Refused) (minutes minutes' steps steps' chain chain' : List ℕ) : Type 0 where
  refused : (n : ℕ) (vs : List ℕ) →
      first_of (ask_cases s q (length minutes) (length steps) (length chain)) (count_of s) ≡ refuses n vs →
      reply_of r ≡ reply n vs → minutes' ≡ minutes → steps' ≡ steps → chain' ≡ chain →
      Judged s q r minutes minutes' steps steps' chain chain'
  answered : first_of (ask_cases s q (length minutes) (length steps) (length chain)) (count_of s) ≡ gives (count_of s) →
      Answered s q r minutes minutes' steps steps' chain chain' →
      Judged s q r minutes minutes' steps steps' chain chain'

-- the record's number that a refusal returns, 0 where it returns none
abbrev pub refusal_record : Refused → ℕ
refusal_record why = get_or (refusal_values why) 0 0

-- what the read screen and the stock list come back as: what is shown, or the refusal's number alone
abbrev pub shown_as : {A : Type 0} → Result A ℕ → Answer A
shown_as (Ok shown) = gives shown
shown_as (Err number) = refuses number []

-- the read screen: refused as the question is, and then only the number; yes if there is a chain, no if there is none
pub data Shows (s : List ℕ) (q : Request) (a : Answer Bool) : Type 0 where
  refused : (n : ℕ) (vs : List ℕ) → first_of (file_cases s ++ request_cases q) (count_of s) ≡ refuses n vs →
      a ≡ refuses n [] → Shows s q a
  yes : first_of (file_cases s ++ request_cases q) (count_of s) ≡ gives (count_of s) →
      (ch : List ℕ) → Chain (rules_of s q) q.owner q.asker ch → a ≡ gives true → Shows s q a
  no : first_of (file_cases s ++ request_cases q) (count_of s) ≡ gives (count_of s) →
      ((ch : List ℕ) → Chain (rules_of s q) q.owner q.asker ch → ⊥) → a ≡ gives false → Shows s q a

-- the stock list: refused as the question is, and then only the number, and no list; or for each key what the read
-- screen shows
pub data Stocks (s : List ℕ) (owner at : ℕ) (r : Result (List Bool) ℕ) : Type 0 where
  refused : (n : ℕ) (vs : List ℕ) →
      first_of (file_cases s ++ request_cases (request_of owner 0 2 at)) (count_of s) ≡ refuses n vs →
      shown_as r ≡ refuses n [] → Stocks s owner at r
  given : (shown : List Bool) → ((k : ℕ) → k < keys → Shows s (request_of owner k 2 at) (gives (get_or shown k false))) →
      length shown ≡ keys → shown_as r ≡ gives shown → Stocks s owner at r

-- the refusals of settling a given table: the file's, the request's, the table's
unfoldable pub settle_cases : List ℕ → Request → ℕ → List Case
settle_cases s q table = (file_cases s ++ request_cases q) ++ (23 if ltb table entries) ∷ []

-- settling a given table: refused by the first case that holds, and then nothing changes; or the table after the passes
-- of the definition, up to and including the first that changes nothing
pub data Settles (s : List ℕ) (q : Request) (r : Result ℕ Refused) (table table' : List ℕ) : Type 0 where
  refused : (n : ℕ) (vs : List ℕ) → first_of (settle_cases s q (length table)) (count_of s) ≡ refuses n vs →
      answered_as r ≡ refuses n vs → table' ≡ table → Settles s q r table table'
  settled : first_of (settle_cases s q (length table)) (count_of s) ≡ gives (count_of s) →
      (N : ℕ) → SettledFrom Minutes s q table N table' → answered_as r ≡ gives N → Settles s q r table table'
