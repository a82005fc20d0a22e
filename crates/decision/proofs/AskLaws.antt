-- Laws of the question's refusals, and of answers in the first 2,592 of the lent places.
use mathlib.Core.Path.{◌≡◌, refl, sym, ap, ◌∙◌, subst}
use mathlib.Core.Bool.{Bool, true, false, cond, not}
use mathlib.Core.List.{List, [], ◌∷◌, ◌++◌, append-nil}
use Prim.Native.Nat.{ℕ, zero, suc, ◌+◌, ◌<◌, ◌≤◌}
use native.Mathlib.Omega.{arith}
use lib.Dec.{leb, ltb, eqb}
use borrow.Author.Tests.{lt-leb, lt-ltb, le-ltb, ltb-false, leb-false, eqb-true, eqb-false}
use lib.ListN.{length, get_or, set, replicate, length-set, take, drop, length-append, length-drop, get_or-append}
use lib.Seq.{get_or-set_same, get_or-set_other, take_at, drop_at, take_all}
use Rattle.std.specs.Prelude.{Result, Ok, Err}
use Rattle.wac.specs.Limits.{keys, all_rights, entries, chain_places}
use Rattle.wac.specs.Answers.{Answer, gives, refuses, ◌if◌, first_of}
use Rattle.wac.specs.File.{count_of, file_cases}
use Rattle.wac.proofs.Cases.{first_none, first_holds, first_fails, first_passed, first_refused, first_given, first_both, first_alone, gives_injective, gives_not_refuses}
use Rattle.rewriting.specs.Weighing.{minutes}
use Rattle.rewriting.specs.Steps.{Fewest}
use Rattle.decision.specs.Engine.{Within}
use Rattle.decision.specs.Table.{number}
use Rattle.decision.specs.Question.{request_cases, ask_cases, settle_cases, refusal_number, refused_as, request_of, Ready, Reply, reply_of, shown_as, MinutesHeld, StepsHeld, Counted, Counted.counted, Counted.uncountable, Answered, Answered.granted, Answered.denied, Judged, Judged.refused, Judged.answered, Shows}
use Rattle.decision.specs.declared.request.Request.{Request}
use Rattle.decision.specs.declared.lens.Lens.TheVariants.{Minutes}
use Rattle.decision.specs.declared.question.Refused.{Refused}
use Rattle.decision.specs.declared.question.Refused.TheVariants.{Places}
use Rattle.decision.specs.declared.question.Verdict.{Verdict}
use Rattle.decision.specs.declared.question.Verdict.TheVariants as verdicts
use Rattle.decision.proofs.TableLaws.{number_low}
use Rattle.decision.proofs.Replies.{number_from}
use Rattle.decision.proofs.Refusals.{admit_proper}

-- a request's refusals are the same whatever is given where there is none
module _ (q : Request) {A : Type 0} (a : A) where
  pub request_refused : {n : ℕ} {vs : List ℕ} → ◌≡◌ {A = Answer (Unit {0})} (first_of (request_cases q) tt) (refuses n vs) → first_of (request_cases q) a ≡ refuses n vs
  request_refused e = ap (λ cases. first_of cases a) (sym (append-nil (request_cases q))) ∙ first_refused (request_cases q) [] tt a e

  pub request_given : {x : Unit {0}} → ◌≡◌ {A = Answer (Unit {0})} (first_of (request_cases q) tt) (gives x) → first_of (request_cases q) a ≡ gives a
  request_given e = ap (λ cases. first_of cases a) (sym (append-nil (request_cases q))) ∙ first_given (request_cases q) [] tt a e ∙ first_none a

module _ (s : List ℕ) (q : Request) where
  -- a file and a request in order
  pub admitted_ready : {n : ℕ} → first_of (file_cases s ++ request_cases q) (count_of s) ≡ gives n → Ready s q n
  unfolding request_cases
  admitted_ready e =
      let both = first_both (file_cases s) _ (count_of s) (count_of s) e in
      let owner = first_passed _ _ _ both.1 in
      let asker = first_passed _ _ _ owner.1 in
      let some = first_passed _ _ _ asker.1 in
      let all = first_passed _ _ _ some.1 in
      let minute = first_passed _ _ _ all.1 in
      record {
        accepted = both.0;
        counted = sym (gives_injective (sym (first_none _) ∙ minute.1));
        owner = leb-false _ _ owner.0;
        asker = leb-false _ _ asker.0;
        minute = eqb-false _ _ minute.0;
      }

  module _ (m t c : ℕ) where
    -- refused before the places are looked at
    pub ask_refused : (why : Refused) → first_of (file_cases s ++ request_cases q) (count_of s) ≡ refused_as why → first_of (ask_cases s q m t c) (count_of s) ≡ refused_as why
    unfolding ask_cases
    ask_refused why e = first_refused (file_cases s ++ request_cases q) _ (count_of s) (count_of s) e

    module _ {n : ℕ} (e : first_of (file_cases s ++ request_cases q) (count_of s) ≡ gives n) where
      -- too few places for minutes, for steps, for the chain
      pub few_minutes : m < entries → first_of (ask_cases s q m t c) (count_of s) ≡ refused_as Places
      unfolding ask_cases
      few_minutes h = first_given (file_cases s ++ request_cases q) _ (count_of s) (count_of s) e ∙ first_holds _ _ _ (lt-ltb _ _ h)

      pub few_steps : entries ≤ m → t < entries → first_of (ask_cases s q m t c) (count_of s) ≡ refused_as Places
      unfolding ask_cases
      few_steps g h =
          first_given (file_cases s ++ request_cases q) _ (count_of s) (count_of s) e ∙ first_fails _ _ _ (le-ltb _ _ g) ∙ first_holds _ _ _ (lt-ltb _ _ h)

      pub few_chain : entries ≤ m → entries ≤ t → c < chain_places → first_of (ask_cases s q m t c) (count_of s) ≡ refused_as Places
      unfolding ask_cases
      few_chain g h k =
          first_given (file_cases s ++ request_cases q) _ (count_of s) (count_of s) e
          ∙ first_fails _ _ _ (le-ltb _ _ g) ∙ first_fails _ _ _ (le-ltb _ _ h) ∙ first_holds _ _ _ (lt-ltb _ _ k)

      -- nothing refuses
      pub ask_given : entries ≤ m → entries ≤ t → chain_places ≤ c → first_of (ask_cases s q m t c) (count_of s) ≡ gives (count_of s)
      unfolding ask_cases
      ask_given g h k =
          first_given (file_cases s ++ request_cases q) _ (count_of s) (count_of s) e
          ∙ first_fails _ _ _ (le-ltb _ _ g) ∙ first_fails _ _ _ (le-ltb _ _ h) ∙ first_fails _ _ _ (le-ltb _ _ k) ∙ first_none _

  -- a question that is not refused was lent places enough
  pub places_enough : {m t c n : ℕ} → first_of (ask_cases s q m t c) (count_of s) ≡ gives n → (entries ≤ m) × (entries ≤ t) × (chain_places ≤ c)
  unfolding ask_cases
  places_enough e =
      let minutes = first_passed _ _ _ (first_both (file_cases s ++ request_cases q) _ (count_of s) (count_of s) e).1 in
      let steps = first_passed _ _ _ minutes.1 in
      let chain = first_passed _ _ _ steps.1 in
      (ltb-false _ _ minutes.0, ltb-false _ _ steps.0, ltb-false _ _ chain.0)

  module _ (t : ℕ) where
    -- a given table: refused before its places are counted, refused for too few, not refused
    pub settle_refused : (why : Refused) → first_of (file_cases s ++ request_cases q) (count_of s) ≡ refused_as why → first_of (settle_cases s q t) (count_of s) ≡ refused_as why
    unfolding settle_cases
    settle_refused why e = first_refused (file_cases s ++ request_cases q) _ (count_of s) (count_of s) e

    module _ {n : ℕ} (e : first_of (file_cases s ++ request_cases q) (count_of s) ≡ gives n) where
      pub few_places : t < entries → first_of (settle_cases s q t) (count_of s) ≡ refused_as Places
      unfolding settle_cases
      few_places h = first_given (file_cases s ++ request_cases q) _ (count_of s) (count_of s) e ∙ first_holds _ _ _ (lt-ltb _ _ h)

      pub settle_given : entries ≤ t → first_of (settle_cases s q t) (count_of s) ≡ gives (count_of s)
      unfolding settle_cases
      settle_given g = first_given (file_cases s ++ request_cases q) _ (count_of s) (count_of s) e ∙ first_fails _ _ _ (le-ltb _ _ g) ∙ first_none _

-- the first places changed, and those beyond not
module _ (l l₂ : List ℕ) (whole : entries ≤ length l) (long : length l₂ ≡ entries) where
  back_first : take entries (l₂ ++ drop entries l) ≡ take entries l₂
  back_first = take_at l₂ (drop entries l) entries long ∙ sym (take_all entries l₂ (omega arith))

  back_beyond : drop entries (l₂ ++ drop entries l) ≡ drop entries l
  back_beyond = drop_at l₂ (drop entries l) entries long

  back_long : length (l₂ ++ drop entries l) ≡ length l
  back_long = length-append l₂ (drop entries l) ∙ omega (arith, length-drop entries l)

module _ (s : List ℕ) (q : Request) (m m₂ t t₂ : List ℕ) (m-whole : entries ≤ length m) (t-whole : entries ≤ length t) (m-long : length m₂ ≡ entries) (t-long : length t₂ ≡ entries) where
  minutes_back : {N : ℕ} → MinutesHeld s q N (take entries m) m₂ → MinutesHeld s q N m (m₂ ++ drop entries m)
  minutes_back h = record { count = h.count; row = back_first m m₂ m-whole m-long ∙ h.row; beyond = cc (back_beyond m m₂ m-whole m-long) }

  steps_back : {W : ℕ} → StepsHeld s q W (take entries t) t₂ → StepsHeld s q W t (t₂ ++ drop entries t)
  steps_back h = record {
    fewest = λ k x a e. subst (Fewest _) (sym (get_or-append t₂ (drop entries t) 0 (number k x a) (rw t-long (number_low k x a e)))) (h.fewest k x a e);
    long = back_long t t₂ t-whole t-long;
    beyond = back_beyond t t₂ t-whole t-long;
  }

  counted_back : {W N : ℕ} {r : Result Verdict Refused} {c c' : List ℕ} → Counted s q W N r (take entries t) t₂ c c' → Counted s q W N r t (t₂ ++ drop entries t) c c'
  counted_back (counted n ch low best same held e) = counted n ch low best same (steps_back held) e
  counted_back (uncountable few same held e) = uncountable few same (steps_back held) e

  -- an answer in the first places is an answer in all
  pub answered_back : {r : Result Verdict Refused} {c c' : List ℕ} → Answered s q r (take entries m) m₂ (take entries t) t₂ c c' → Answered s q r m (m₂ ++ drop entries m) t (t₂ ++ drop entries t) c c'
  answered_back (granted W N some best held rest) = granted W N some best (minutes_back held) (counted_back rest)
  answered_back (denied N no-chain held all beyond same e) = denied N no-chain (minutes_back held) (back_first t t₂ t-whole t-long ∙ all) (back_beyond t t₂ t-whole t-long) same e

-- what the read screen shows of each verdict
abbrev pub shown_of : Result Verdict Refused → Result Bool ℕ
shown_of (Ok (verdicts.Granted minute steps passes)) = Ok true
shown_of (Ok (verdicts.NoChain passes)) = Ok false
shown_of (Ok (verdicts.GrantedLong minute passes)) = Ok true
shown_of (Err why) = Err (refusal_number why)

-- what the read screen makes of a reply
screen : Reply → Answer Bool
screen r = cond (ltb r.number 10) (gives (not (eqb r.number 1))) (refuses r.number [])

shown_screen : (r : Result Verdict Refused) → shown_as (shown_of r) ≡ screen (reply_of r)
unfolding screen
shown_screen (Ok (verdicts.Granted minute steps passes)) = refl
shown_screen (Ok (verdicts.NoChain passes)) = refl
shown_screen (Ok (verdicts.GrantedLong minute passes)) = refl
shown_screen (Err why) = rw (le-ltb _ _ (number_from why))

-- with places enough lent, the question's verdict shown is what the read screen shows
module _ (s : List ℕ) (q : Request) (m m' t t' c c' : List ℕ) (m-long : entries ≤ length m) (t-long : entries ≤ length t) (c-long : chain_places ≤ length c) where
  pub no_places : first_of (ask_cases s q (length m) (length t) (length c)) (count_of s) ≡ first_of (file_cases s ++ request_cases q) (count_of s)
  unfolding ask_cases
  no_places =
      first_alone (file_cases s ++ request_cases q) _ (count_of s)
      (first_fails _ _ _ (le-ltb _ _ m-long) ∙ first_fails _ _ _ (le-ltb _ _ t-long) ∙ first_fails _ _ _ (le-ltb _ _ c-long) ∙ first_none _)

  shown_by : (r : Result Verdict Refused) (x : Reply) → reply_of r ≡ x → shown_as (shown_of r) ≡ screen x
  shown_by r x e = shown_screen r ∙ ap screen e

  shown_counted : {W N : ℕ} {r : Result Verdict Refused} → Counted s q W N r t t' c c' → shown_as (shown_of r) ≡ gives true
  unfolding screen
  shown_counted {r = r} (counted n ch low best same held e) = shown_by r _ e
  shown_counted {r = r} (uncountable few same held e) = shown_by r _ e

  pub verdict_shown : {r : Result Verdict Refused} → Judged s q r m m' t t' c c' → Shows s q (shown_as (shown_of r))
  unfolding screen
  verdict_shown {r} (refused n vs case e at-m at-t at_c) =
      let plain = sym no_places ∙ case in
      Shows.refused n vs plain (shown_by r _ e ∙ rw (le-ltb n 10 (admit_proper s q plain).from))
  verdict_shown (answered case (granted W N some best held rest)) = Shows.yes (sym no_places ∙ case) best.chain best.leads (shown_counted rest)
  verdict_shown {r} (answered case (denied N no-chain held all beyond same e)) = Shows.no (sym no_places ∙ case) no-chain (shown_by r _ e)

  -- so is what it makes of a verdict that is the same
  pub verdict_screen : {r r' : Result Verdict Refused} → Judged s q r m m' t t' c c' → r ≡ r' → Shows s q (shown_as (shown_of r'))
  verdict_screen j e = subst (λ x. Shows s q (shown_as (shown_of x))) e (verdict_shown j)

-- what the read screen shows on a refusal is the question's
pub shown_refused : {s : List ℕ} {q : Request} {n : ℕ} → Shows s q (refuses n []) → (vs : List ℕ) × (first_of (file_cases s ++ request_cases q) (count_of s) ≡ refuses n vs)
shown_refused (Shows.refused n vs case e) = (vs, cc)
shown_refused (Shows.yes case ch leads e) = absurd (gives_not_refuses (sym e))
shown_refused (Shows.no case none e) = absurd (gives_not_refuses (sym e))

-- what is shown of a key is shown under any number that is the same
pub shows_for : {s : List ℕ} {owner at v : ℕ} (k : ℕ) {a : Answer Bool} → v ≡ k → Shows s (request_of owner v 2 at) a → Shows s (request_of owner k 2 at) a
shows_for {s} {owner} {at} k {a} e shown = subst (λ x. Shows s (request_of owner x 2 at) a) e shown

-- a refusal is the same for every asker that is a key
pub asker_alike : (s : List ℕ) (owner asker rights at : ℕ) → asker < keys →
    first_of (file_cases s ++ request_cases (request_of owner asker rights at)) (count_of s) ≡ first_of (file_cases s ++ request_cases (request_of owner 0 rights at)) (count_of s)
unfolding request_cases
asker_alike s owner asker rights at h =
    ap (λ b. first_of (file_cases s ++ (20 if leb keys owner) ∷ (20 if b) ∷ (21 if eqb rights 0) ∷ (21 if ltb all_rights rights) ∷ (22 if eqb at 0) ∷ []) (count_of s)) (lt-leb keys asker h)

-- any numbers of 32 bits are within the minutes' cap
pub minutes_within : (l : List ℕ) → entries ≤ length l → ((i : ℕ) → get_or l i 0 < 4294967296) → Within Minutes l
unfolding minutes
minutes_within l long fits = record { long = long; fits = λ i. omega (arith, fits i) }

-- the stock list so far: the keys below n shown, the others no
pub record Stocking (s : List ℕ) (owner at n : ℕ) (l : List Bool) : Type 0 where
  pub low : n ≤ keys
  pub long : length l ≡ keys
  pub shown : (k : ℕ) → k < n → Shows s (request_of owner k 2 at) (gives (get_or l k false))
  pub later : (k : ℕ) → n ≤ k → get_or l k false ≡ false

-- no key shown yet
pub stocking_start : (s : List ℕ) (owner at : ℕ) → Stocking s owner at 0 (replicate keys false)
stocking_start s owner at = record {
  low = omega arith;
  long = refl;
  shown = λ k below. absurd (omega arith);
  later = λ k above. all keys k;
}
  where
    all : (n k : ℕ) → get_or (replicate n false) k false ≡ false
    all zero k = refl
    all (suc n) zero = refl
    all (suc n) (suc k) = all n k

module _ (s : List ℕ) (owner at n : ℕ) (l : List Bool) (h : Stocking s owner at n l) (low : n < keys) where
  -- the next key shown, and no other changed
  stocking_next : (l' : List Bool) → length l' ≡ length l → ((k : ℕ) → (k ≡ n → ⊥) → get_or l' k false ≡ get_or l k false) →
      Shows s (request_of owner n 2 at) (gives (get_or l' n false)) → Stocking s owner at (n + 1) l'
  stocking_next l' same-long same here = record {
    low = omega arith;
    long = same-long ∙ h.long;
    shown = λ k below. turn k below (eqb k n) refl;
    later = λ k above. same k (omega arith) ∙ h.later k (omega arith);
  }
    where
      turn : (k : ℕ) → k < n + 1 → (b : Bool) → eqb k n ≡ b → Shows s (request_of owner k 2 at) (gives (get_or l' k false))
      turn k below true e = subst (λ k. Shows s (request_of owner k 2 at) (gives (get_or l' k false))) (sym (eqb-true k n e)) here
      turn k below false e = let apart = eqb-false k n e in rw (same k apart) (h.shown k (omega arith))

  -- what is shown is set
  pub stocking_set : (b : Bool) → Shows s (request_of owner n 2 at) (gives b) → Stocking s owner at (n + 1) (set l n b)
  stocking_set b here =
      stocking_next (set l n b) (length-set l n b) (λ k apart. get_or-set_other l n k b false apart)
      (rw (get_or-set_same l n b false (omega (arith, h.long))) here)
