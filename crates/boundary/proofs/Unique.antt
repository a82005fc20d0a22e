-- Two answers that meet the statement of an exported function of the decision are the same, and leave the same minutes and steps, and the same chain but for which shortest best chain it is.
use mathlib.Core.Path.{◌≡◌, sym, ap, ◌∙◌}
use mathlib.Core.List.{List}
use Prim.Native.Nat.{ℕ}
use Rattle.boundary.specs.Questions.{verdict_code, shown_code, stocked_code, settling_code, AskCoded, MayCoded, StockCoded, SettleCoded}
use Rattle.decision.specs.declared.request.Request.{Request}
use Rattle.decision.specs.Question.{reply_of, shown_as, answered_as}
use Rattle.decision.proofs.Unique.{ChainsAgree, judged_unique, shows_alike, stocks_unique, settles_unique}

module _ {s : List ℕ} {q : Request} {r r' : ℕ} where
  -- `decision_ask` and `decision_short`: the chain's places agree too, but for a shortest best chain
  pub ask_unique : {m m₁ m₂ t t₁ t₂ c c₁ c₂ : List ℕ} (h : AskCoded s q r m m₁ t t₁ c c₁) → AskCoded s q r' m m₂ t t₂ c c₂ →
      (r ≡ r') × (m₁ ≡ m₂) × (t₁ ≡ t₂) × ChainsAgree s q (reply_of h.verdict) c₁ c₂
  ask_unique h g =
      let same = judged_unique h.judged g.judged in
      (h.answer ∙ ap verdict_code same.0 ∙ sym g.answer, same.1, same.2, same.3)

  -- `decision_may`
  pub may_unique : MayCoded s q r → MayCoded s q r' → r ≡ r'
  may_unique h g = h.answer ∙ ap shown_code (shows_alike h.judged g.judged) ∙ sym g.answer

  -- `decision_settle`
  pub settle_unique : {t t₁ t₂ : List ℕ} → SettleCoded s q r t t₁ → SettleCoded s q r' t t₂ → (r ≡ r') × (t₁ ≡ t₂)
  settle_unique h g =
      let same = settles_unique h.settled g.settled in
      (h.answer ∙ ap (λ a. settling_code (answered_as a)) same.0 ∙ sym g.answer, same.1)

-- `decision_stock`
pub stock_unique : {s : List ℕ} {owner at r r' : ℕ} → StockCoded s owner at r → StockCoded s owner at r' → r ≡ r'
stock_unique h g =
    h.answer ∙ ap (λ l. stocked_code (shown_as l)) (stocks_unique h.list g.list h.judged g.judged) ∙ sym g.answer
