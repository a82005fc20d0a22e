use mathlib.Core.Path.{refl, sym, ◌∙◌}
use native.Mathlib.Omega.{arith}
use Rattle.std.proofs.lemmas.Result.{err_from_is_err_and}
use Rattle.decision.specs.Question.{Stocks.refused, Stocks.given}
use Rattle.decision.proofs.AskLaws.{stocking_start, stocking_set, shown_refused, shows_for, asker_alike}
use Rattle.decision.proofs.question.stock.Goals as goal

pub loop-key-init : goal.loop-key-init
loop-key-init c = stocking_start c.args.file.now c.args.owner c.args.at

pub returns-in_err-keys : goal.returns-in_err-keys
returns-in_err-keys c =
    let a = c.args in
    let case = shown_refused (shows_for c.loop-key.key (omega (arith, c.loop-key-test.true)) c.in_err-keys.ensures) in
    let exit = err_from_is_err_and c.from_residual.result c.from_residual.ensures.1 in
    rw (exit.1, exit.2) (refused _ case.0 (sym (asker_alike a.file.now a.owner c.loop-key.key 2 a.at c.loop-key-test.true) ∙ case.1) refl)

pub loop-key-preserved : goal.loop-key-preserved
loop-key-preserved c =
    let a = c.args in
    stocking_set a.file.now a.owner a.at c.loop-key.key c.loop-key.keys c.loop-key.invariant c.loop-key-test.true _
    (shows_for c.loop-key.key (omega (arith, c.loop-key-test.true)) c.in_ok-keys.ensures)

pub returns : goal.returns
returns c =
    given _ (λ k low. c.loop-key.invariant.shown k (omega (arith, c.loop-key-test.false))) c.loop-key.invariant.long refl
