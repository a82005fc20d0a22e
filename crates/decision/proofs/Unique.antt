-- Two results that meet a contract are the same, but for which of the shortest best chains is written.
use mathlib.Core.Path.{◌≡◌, refl, sym, ap, ◌∙◌, subst}
use mathlib.Core.Bool.{Bool, true, false}
use mathlib.Core.List.{List, [], ◌∷◌, ◌++◌}
use mathlib.Core.Logic.{inl}
use Prim.Native.Nat.{ℕ, ◌+◌, ◌-◌, ◌<◌, ◌≤◌}
use native.Mathlib.Omega.{arith}
use lib.Dec.{ltb}
use lib.ListN.{length, get_or, take, drop, take-append-drop}
use lib.Seq.{get_or-drop, ext_get_or, sets, sets-eq, take_at, drop_at}
use borrow.Author.Tests.{ltb-true, ltb-false}
use Rattle.std.specs.Prelude.{Result}
use Rattle.wac.specs.Limits.{entries, chain_places}
use Rattle.wac.specs.Answers.{Answer, gives, refuses, first_of}
use Rattle.wac.specs.File.{count_of, file_cases}
use Rattle.wac.proofs.Cases.{gives_not_refuses, gives_injective}
use Rattle.rewriting.proofs.Answers.{answer_unique}
use Rattle.rewriting.proofs.Settling.{count_unique}
use Rattle.rewriting.proofs.Steps.{fewest_unique}
use Rattle.decision.specs.Question.{request_cases, Admits, Reply, reply, reply_of, shown_as, MinutesHeld, StepsHeld, ShortestBest, Counted, Counted.counted, Counted.uncountable, Answered, Answered.granted, Answered.denied, Judged, Judged.refused, Judged.answered, Shows, Stocks, Settles}
use Rattle.decision.specs.declared.request.Request.{Request}
use Rattle.decision.specs.declared.question.Refused.{Refused}
use Rattle.decision.specs.declared.question.Verdict.{Verdict}
use Rattle.decision.proofs.TableLaws.{entry_back, number_back}
use Rattle.decision.proofs.Replies.{reply_unique, answered_as_unique, shown_unique}
use Rattle.decision.proofs.Refusals.{ask_proper}
use Rattle.decision.proofs.AskLaws.{places_enough}

-- `admit`: one answer, one result
pub admit_unique : (s : List ℕ) (q : Request) (r r' : Result ℕ Refused) → Admits s q r → Admits s q r' → r ≡ r'
admit_unique s q r r' e f = answered_as_unique r r' (e ∙ sym f)

-- lists with the same first places and the same places beyond are the same
same_parts : (l l' : List ℕ) → take entries l ≡ take entries l' → drop entries l ≡ drop entries l' → l ≡ l'
same_parts l l' e f = sym (take-append-drop entries l) ∙ ap (λ a. a ++ drop entries l) e ∙ ap (λ b. take entries l' ++ b) f ∙ take-append-drop entries l'

-- lists of one length with the same numbers at every entry and the same places beyond are the same
same_entries : (l l' : List ℕ) → length l ≡ length l' → ((e : ℕ) → e < entries → get_or l e 0 ≡ get_or l' e 0) → drop entries l ≡ drop entries l' → l ≡ l'
same_entries l l' long same beyond = ext_get_or 0 l l' long (λ i low. turn i (ltb i entries) refl)
  where
    turn : (i : ℕ) (b : Bool) → ltb i entries ≡ b → get_or l i 0 ≡ get_or l' i 0
    turn i true e = same i (ltb-true i entries e)
    turn i false e =
        let high = ltb-false i entries e in
        let at : entries + (i - entries) ≡ i = omega arith in
        ap (λ i. get_or l i 0) (sym at) ∙ sym (get_or-drop entries l (i - entries) 0) ∙ ap (λ l. get_or l (i - entries) 0) beyond ∙ get_or-drop entries l' (i - entries) 0 ∙ ap (λ i. get_or l' i 0) at

-- one refusal, one number with its values
same_refusal : {A : Type 0} {n n' : ℕ} {vs vs' : List ℕ} → ◌≡◌ {A = Answer A} (refuses n vs) (refuses n' vs') → reply n vs ≡ reply n' vs'
same_refusal e = cc

-- two results agree on the chain's places: on all of them, unless the answer is 0; then on all but the first n, which hold a shortest
-- best chain in both
pub data ChainsAgree (s : List ℕ) (q : Request) (x : Reply) (c₁ c₂ : List ℕ) : Type 0 where
  everywhere : (x.number ≡ 0 → ⊥) → c₁ ≡ c₂ → ChainsAgree s q x c₁ c₂
  but_first : (W n N : ℕ) → x ≡ reply 0 (W ∷ n ∷ N ∷ []) → ShortestBest s q W n (take n c₁) → ShortestBest s q W n (take n c₂) →
      drop n c₁ ≡ drop n c₂ → ChainsAgree s q x c₁ c₂

module _ {s : List ℕ} {q : Request} where
  minutes_unique : {N N' : ℕ} {m m₁ m₂ : List ℕ} → MinutesHeld s q N m m₁ → MinutesHeld s q N' m m₂ → (N ≡ N') × (m₁ ≡ m₂)
  minutes_unique {m₁ = m₁} {m₂ = m₂} h g =
      let same = count_unique h.count g.count in
      (same, same_parts m₁ m₂ (h.row ∙ rw same refl ∙ sym g.row) (h.beyond ∙ sym g.beyond))

  steps_unique : {W : ℕ} {t t₁ t₂ : List ℕ} → StepsHeld s q W t t₁ → StepsHeld s q W t t₂ → t₁ ≡ t₂
  steps_unique {t₁ = t₁} {t₂ = t₂} h g =
      same_entries t₁ t₂ (h.long ∙ sym g.long)
      (λ e low.
      let entry = entry_back e low in
      subst (λ n. get_or t₁ n 0 ≡ get_or t₂ n 0) (number_back e low) (fewest_unique (h.fewest _ _ _ entry) (g.fewest _ _ _ entry)))
      (h.beyond ∙ sym g.beyond)

  -- after answer 0 the first n places are the chain, and the others are as they were
  pub chain_written : {W n : ℕ} {ch c' : List ℕ} (c : List ℕ) → chain_places ≤ length c → n ≤ chain_places → ShortestBest s q W n ch → c' ≡ sets c 0 ch →
      ShortestBest s q W n (take n c') × (drop n c' ≡ drop n c)
  chain_written {W} {n} {ch} {c'} c wide low best e =
      let long = best.long in
      let all : c' ≡ ch ++ drop n c = e ∙ sets-eq ch c 0 (omega arith) ∙ ap (λ k. ch ++ drop k c) {x = 0 + length ch} {y = n} (omega arith) in
      (rw (all, take_at ch (drop n c) n long) best, rw (all, drop_at ch (drop n c) n long))

  counted_unique : {W N : ℕ} {r r' : Result Verdict Refused} {t t₁ t₂ c c₁ c₂ : List ℕ} → chain_places ≤ length c → Counted s q W N r t t₁ c c₁ → Counted s q W N r' t t₂ c c₂ →
      (reply_of r ≡ reply_of r') × (t₁ ≡ t₂) × ChainsAgree s q (reply_of r) c₁ c₂
  counted_unique {W} {N} {r' = r'} {t = t} {t₂ = t₂} {c = c} {c₁} {c₂} wide (counted n ch low best same held e) (counted n' ch' low' best' same' held' e') =
      let alike = fewest_unique best'.fewest best.fewest in
      let one = chain_written c wide low best same in
      let other = chain_written c wide low (subst (λ n. ShortestBest s q W n ch') alike best') same' in
      (e ∙ ap (λ n. reply 0 (W ∷ n ∷ N ∷ [])) (sym alike) ∙ sym e', steps_unique held held', but_first W n N e one.0 other.0 (one.1 ∙ sym other.1))
  counted_unique wide (counted n ch low best same held e) (uncountable few' same' held' e') = absurd (let k = fewest_unique best.fewest few' in omega arith)
  counted_unique wide (uncountable few same held e) (counted n ch low best same' held' e') = absurd (let k = fewest_unique few best.fewest in omega arith)
  counted_unique wide (uncountable few same held e) (uncountable few' same' held' e') =
      (e ∙ sym e', steps_unique held held', everywhere (λ z. let k = ap (λ x. x.number) e in omega arith) (same ∙ sym same'))

  answered_unique : {r r' : Result Verdict Refused} {m m₁ m₂ t t₁ t₂ c c₁ c₂ : List ℕ} → chain_places ≤ length c → Answered s q r m m₁ t t₁ c c₁ → Answered s q r' m m₂ t t₂ c c₂ →
      (reply_of r ≡ reply_of r') × (m₁ ≡ m₂) × (t₁ ≡ t₂) × ChainsAgree s q (reply_of r) c₁ c₂
  answered_unique {r} {r'} {t = t} {t₁} {t₂} {c} {c₁} {c₂} wide (granted W N some best held rest) (granted W' N' some' best' held' rest') =
      let same = minutes_unique held held' in
      let latest : W' ≡ W = answer_unique (inl best') (inl best) in
      let both = counted_unique wide rest (subst (λ n. Counted s q W n r' t t₂ c c₂) (sym same.0) (subst (λ w. Counted s q w N' r' t t₂ c c₂) latest rest')) in
      (both.0, same.1, both.1, both.2)
  answered_unique wide (granted W N some best held rest) (denied N' none held' all beyond same e) = absurd (none best.chain best.leads)
  answered_unique wide (denied N none held all beyond same e) (granted W N' some best held' rest) = absurd (none best.chain best.leads)
  answered_unique {t₁ = t₁} {t₂} wide (denied N none held all beyond same e) (denied N' none' held' all' beyond' same' e') =
      let minutes-same = minutes_unique held held' in (
        e ∙ ap (λ n. reply 1 (n ∷ [])) minutes-same.0 ∙ sym e',
        minutes-same.1,
        same_parts t₁ t₂ (all ∙ sym all') (beyond ∙ sym beyond'),
        everywhere (λ z. let k = ap (λ x. x.number) e in omega arith) (same ∙ sym same'),
      )

  -- `ask` and `ask_short`: one verdict, one list of minutes, one of steps, and chains that agree
  pub judged_unique : {r r' : Result Verdict Refused} {m m₁ m₂ t t₁ t₂ c c₁ c₂ : List ℕ} → Judged s q r m m₁ t t₁ c c₁ → Judged s q r' m m₂ t t₂ c c₂ →
      (r ≡ r') × (m₁ ≡ m₂) × (t₁ ≡ t₂) × ChainsAgree s q (reply_of r) c₁ c₂
  judged_unique {r} {r'} {m = m} {t = t} {c = c} (refused n vs case e at-m at-t at_c) (refused n' vs' case' e' at-m' at-t' at-c') =
      let from = (ask_proper s q (length m) (length t) (length c) case).from in
      let why : reply n vs ≡ reply n' vs' = same_refusal (sym case ∙ case') in (
        reply_unique r r' (e ∙ why ∙ sym e'),
        at-m ∙ sym at-m',
        at-t ∙ sym at-t',
        everywhere (λ z. let k = ap (λ x. x.number) e in omega arith) (at_c ∙ sym at-c'),
      )
  judged_unique (refused n vs case e at-m at-t at_c) (answered case' rest) = absurd (gives_not_refuses (sym case' ∙ case))
  judged_unique (answered case rest) (refused n vs case' e at-m at-t at_c) = absurd (gives_not_refuses (sym case ∙ case'))
  judged_unique {r} {r'} (answered case rest) (answered case' rest') =
      let both = answered_unique (places_enough s q case).2 rest rest' in
      (reply_unique r r' both.0, both.1, both.2, both.3)

  -- the read screen: one answer
  pub shows_alike : {a a' : Answer Bool} → Shows s q a → Shows s q a' → a ≡ a'
  shows_alike (Shows.refused n vs case e) (Shows.refused n' vs' case' e') = e ∙ ap (λ x. refuses x.number []) (same_refusal (sym case ∙ case')) ∙ sym e'
  shows_alike (Shows.refused n vs case e) (Shows.yes case' ch leads e') = absurd (gives_not_refuses (sym case' ∙ case))
  shows_alike (Shows.refused n vs case e) (Shows.no case' none e') = absurd (gives_not_refuses (sym case' ∙ case))
  shows_alike (Shows.yes case ch leads e) (Shows.refused n vs case' e') = absurd (gives_not_refuses (sym case ∙ case'))
  shows_alike (Shows.yes case ch leads e) (Shows.yes case' ch' leads' e') = e ∙ sym e'
  shows_alike (Shows.yes case ch leads e) (Shows.no case' none e') = absurd (none ch leads)
  shows_alike (Shows.no case none e) (Shows.refused n vs case' e') = absurd (gives_not_refuses (sym case ∙ case'))
  shows_alike (Shows.no case none e) (Shows.yes case' ch leads e') = absurd (none ch leads)
  shows_alike (Shows.no case none e) (Shows.no case' none' e') = e ∙ sym e'

  -- `may`: one showing
  pub shows_unique : (r r' : Result Bool ℕ) → Shows s q (shown_as r) → Shows s q (shown_as r') → r ≡ r'
  shows_unique r r' h g = shown_unique r r' (shows_alike h g)

  -- `settle`: one number of passes, one table
  pub settles_unique : {r r' : Result ℕ Refused} {t t₁ t₂ : List ℕ} → Settles s q r t t₁ → Settles s q r' t t₂ → (r ≡ r') × (t₁ ≡ t₂)
  settles_unique {r} {r'} (Settles.refused n vs case e same) (Settles.refused n' vs' case' e' same') = (answered_as_unique r r' (e ∙ sym case ∙ case' ∙ sym e'), same ∙ sym same')
  settles_unique (Settles.refused n vs case e same) (Settles.settled case' N held e') = absurd (gives_not_refuses (sym case' ∙ case))
  settles_unique (Settles.settled case N held e) (Settles.refused n vs case' e' same) = absurd (gives_not_refuses (sym case ∙ case'))
  settles_unique {r} {r'} {t₁ = t₁} {t₂} (Settles.settled case N held e) (Settles.settled case' N' held' e') =
      let same = count_unique held.count held'.count in
      (answered_as_unique r r' (e ∙ ap gives same ∙ sym e'), same_parts t₁ t₂ (held.row ∙ rw same refl ∙ sym held'.row) (held.beyond ∙ sym held'.beyond))

-- a refusal gives no yes or no
not_shown : {s : List ℕ} {q : Request} {b : Bool} {n : ℕ} {vs : List ℕ} → first_of (file_cases s ++ request_cases q) (count_of s) ≡ refuses n vs → Shows s q (gives b) → ⊥
not_shown case (Shows.refused n vs case' e) = gives_not_refuses e
not_shown case (Shows.yes case' ch leads e) = gives_not_refuses (sym case' ∙ case)
not_shown case (Shows.no case' none e) = gives_not_refuses (sym case' ∙ case)

-- `stock`: one list
pub stocks_unique : {s : List ℕ} {owner at : ℕ} (r r' : Result (List Bool) ℕ) → Stocks s owner at r → Stocks s owner at r' → r ≡ r'
stocks_unique r r' (Stocks.refused n vs case e) (Stocks.refused n' vs' case' e') =
    shown_unique r r' (e ∙ ap (λ x. refuses x.number []) (same_refusal (sym case ∙ case')) ∙ sym e')
stocks_unique r r' (Stocks.refused n vs case e) (Stocks.given shown each long e') = absurd (not_shown case (each 0 (omega arith)))
stocks_unique r r' (Stocks.given shown each long e) (Stocks.refused n vs case e') = absurd (not_shown case (each 0 (omega arith)))
stocks_unique r r' (Stocks.given shown each long e) (Stocks.given shown' each' long' e') =
    let same = ext_get_or false shown shown' (long ∙ sym long') (λ k low. gives_injective (shows_alike (each k (omega arith)) (each' k (omega arith)))) in
    shown_unique r r' (e ∙ ap gives same ∙ sym e')
