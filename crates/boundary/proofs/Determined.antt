-- A code loses nothing: the code of an exported function of the decision determines what came back, whatever was asked of which file.
use mathlib.Core.Path.{◌≡◌, sym, ap, ◌∙◌}
use mathlib.Core.Bool.{Bool, true, false, cond}
use mathlib.Core.List.{List, []}
use Prim.Native.Nat.{ℕ, ◌<◌, ◌≤◌}
use native.Mathlib.Omega.{arith}
use native.Mathlib.Nat.{zero-add}
use lib.ListN.{length, get_or}
use lib.Seq.{ext_get_or}
use Rattle.std.specs.Prelude.{Result, Ok, Err}
use Rattle.wac.specs.Limits.{keys, without_end}
use Rattle.wac.specs.Bytes.{AreBytes}
use Rattle.wac.specs.Answers.{Answer, gives, refuses}
use Rattle.decision.specs.Question.{reply, reply_of, refusal_number, refusal_values, refusal_record, request_of, shown_as, answered_as, Shows, Stocks}
use Rattle.decision.specs.declared.request.Request.{Request}
use Rattle.decision.specs.declared.question.Refused.{Refused}
use Rattle.decision.proofs.Replies.{number_from}
use Rattle.decision.proofs.Refusals.{admit_proper}
use Rattle.decision.proofs.Bounds.{BoundedSettling, judged_passes, settles_passes}
use Rattle.boundary.specs.Questions.{bits, answer_code, settling_code, AskCoded, MayCoded, StockCoded, SettleCoded}
use Rattle.boundary.proofs.BitsLaws.{bit_le_one, bit_apart, bits_whole, bits_apart}
use Rattle.boundary.proofs.Codes.{code_apart}
use Rattle.boundary.proofs.CodesQuestions.{long_apart, built, refused_told, verdict_apart}

-- `decision_ask` and `decision_short`: one code, one reply
pub ask_determined : {s s' : List ℕ} {q q' : Request} {r : ℕ} {m m₁ t t₁ c c₁ m' m₁' t' t₁' c' c₁' : List ℕ} → AreBytes s → AreBytes s' →
    (h : AskCoded s q r m m₁ t t₁ c c₁) (g : AskCoded s' q' r m' m₁' t' t₁' c' c₁') → reply_of h.verdict ≡ reply_of g.verdict
ask_determined bytes bytes' h g =
    verdict_apart h.verdict g.verdict (judged_passes bytes h.judged) (judged_passes bytes' g.judged) (sym h.answer ∙ g.answer)

-- settlings within their bounds with one code come back as one answer
settling_apart : (r r' : Result ℕ Refused) → BoundedSettling r → BoundedSettling r' → settling_code (answered_as r) ≡ settling_code (answered_as r') → answered_as r ≡ answered_as r'
settling_apart (Ok N) (Ok N') low low' e = ap gives (long_apart {a = 0} {a' = 0} {v = N} {v' = N'} (omega arith) (omega arith) e).1
settling_apart (Ok N) (Err why) low low' e =
    let same = (long_apart {a = 0} {a' = refusal_number why} {v = N} {v' = refusal_record why} (omega arith) (omega arith) e).0 in absurd (omega (arith, number_from why))
settling_apart (Err why) (Ok N) low low' e =
    let same = (long_apart {a = refusal_number why} {a' = 0} {v = refusal_record why} {v' = N} (omega arith) (omega arith) e).0 in absurd (omega (arith, number_from why))
settling_apart (Err why) (Err why') low low' e =
    let same = long_apart {a = refusal_number why} {a' = refusal_number why'} {v = refusal_record why} {v' = refusal_record why'} (omega arith) (omega arith) e in
    let x : reply (refusal_number why) (refusal_values why) ≡ reply (refusal_number why') (refusal_values why') =
    sym (refused_told why).back
    ∙ ap (λ n. built n 0 0 (refusal_record why)) same.0
    ∙ ap (built (refusal_number why') 0 0) same.1
    ∙ (refused_told why').back in
    ap (λ x. refuses x.number x.values) x

-- `decision_settle`: one code, one answer
pub settle_determined : {s s' : List ℕ} {q q' : Request} {r : ℕ} {t t₁ t' t₁' : List ℕ} → AreBytes s → AreBytes s' →
    ((i : ℕ) → get_or t i 0 ≤ without_end) → ((i : ℕ) → get_or t' i 0 ≤ without_end) →
    (h : SettleCoded s q r t t₁) (g : SettleCoded s' q' r t' t₁') → answered_as h.settling ≡ answered_as g.settling
settle_determined bytes bytes' fits fits' h g =
    settling_apart h.settling g.settling (settles_passes bytes fits h.settled) (settles_passes bytes' fits' g.settled) (sym h.answer ∙ g.answer)

-- an answer that gives something of which P holds, or refuses by a number alone
data Lone {A : Type 0} (P : A → Type 0) (a : Answer A) : Type 0 where
  told : (x : A) → P x → a ≡ gives x → Lone P a
  refused : (n : ℕ) → 10 ≤ n → a ≡ refuses n [] → Lone P a

-- where the numbers of what is given are small and tell it apart, the code tells answers apart
module _ {A : Type 0} (P : A → Type 0) (value : A → ℕ) (low : (x : A) → P x → value x < 65536) (apart : (x y : A) → P x → P y → value x ≡ value y → x ≡ y) where
  lone_apart : (a a' : Answer A) → Lone P a → Lone P a' → answer_code value a ≡ answer_code value a' → a ≡ a'
  lone_apart a a' (told x p e) (told y p' e') same =
      e ∙ ap gives (apart x y p p' (code_apart {n = 0} {n' = 0} (low x p) (low y p') (sym (ap (answer_code value) e) ∙ same ∙ ap (answer_code value) e')).1) ∙ sym e'
  lone_apart a a' (told x p e) (refused n from e') same =
      let z = (code_apart {n = 0} {n' = n} {v = value x} {v' = 0} (low x p) (omega arith) (sym (ap (answer_code value) e) ∙ same ∙ ap (answer_code value) e')).0 in absurd (omega arith)
  lone_apart a a' (refused n from e) (told y p' e') same =
      let z = (code_apart {n = n} {n' = 0} {v = 0} {v' = value y} (omega arith) (low y p') (sym (ap (answer_code value) e) ∙ same ∙ ap (answer_code value) e')).0 in absurd (omega arith)
  lone_apart a a' (refused n from e) (refused n' from' e') same =
      e ∙ ap (λ n. refuses n []) (code_apart {n = n} {n' = n'} {v = 0} {v' = 0} (omega arith) (omega arith) (sym (ap (answer_code value) e) ∙ same ∙ ap (answer_code value) e')).0 ∙ sym e'

shown_lone : {s : List ℕ} {q : Request} {a : Answer Bool} → Shows s q a → Lone (λ b. Unit {0}) a
shown_lone {s} {q} (Shows.refused n vs case e) = refused n (admit_proper s q case).from e
shown_lone (Shows.yes case ch leads e) = told true tt e
shown_lone (Shows.no case none e) = told false tt e

-- `decision_may`: one code, one answer
pub may_determined : {s s' : List ℕ} {q q' : Request} {r : ℕ} (h : MayCoded s q r) (g : MayCoded s' q' r) → shown_as h.shown ≡ shown_as g.shown
may_determined h g =
    lone_apart (λ b. Unit {0}) (λ b. cond b 1 0) (λ b p. omega (arith, bit_le_one b)) (λ b b' p p' e. (bit_apart b b' {x = 0} {x' = 0} (omega arith)).0) _ _ (shown_lone h.judged) (shown_lone g.judged) (sym h.answer ∙ g.answer)

-- a list of one yes or no for each key
abbrev EachKey : List Bool → Type 0
EachKey shown = length shown ≡ keys

stock_lone : {s : List ℕ} {owner at : ℕ} (r : Result (List Bool) ℕ) → Stocks s owner at r → Lone EachKey (shown_as r)
stock_lone {s} {owner} {at} r (Stocks.refused n vs case e) = refused n (admit_proper s (request_of owner 0 2 at) case).from e
stock_lone r (Stocks.given shown each long e) = told shown long e

stock_apart : (l l' : List Bool) → EachKey l → EachKey l' → bits l 0 keys ≡ bits l' 0 keys → l ≡ l'
stock_apart l l' long long' e = ext_get_or false l l' (long ∙ sym long') (λ i low. rw (zero-add i) at (bits_apart l l' 0 keys e i (omega arith)))

-- `decision_stock`: one code, one answer
pub stock_determined : {s s' : List ℕ} {owner owner' at at' r : ℕ} (h : StockCoded s owner at r) (g : StockCoded s' owner' at' r) →
    shown_as h.list ≡ shown_as g.list
stock_determined h g =
    lone_apart EachKey (λ l. bits l 0 keys) (λ l long. bits_whole l 0 keys (omega arith)) stock_apart _ _
    (stock_lone h.list h.judged) (stock_lone g.list g.judged) (sym h.answer ∙ g.answer)
