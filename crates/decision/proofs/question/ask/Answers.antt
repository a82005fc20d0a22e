-- `ask` meets its contract: refused before any place is written; else judged in the first places lent.
use mathlib.Core.Path.{refl, sym, ◌∙◌}
use native.Mathlib.Omega.{arith}
use lib.ListN.{length}
use lib.Seq.{length-take-le}
use Rattle.std.proofs.lemmas.Result.{err_from_is_err_and}
use Rattle.wac.specs.Limits.{entries}
use Rattle.decision.specs.Question.{Judged.refused, Judged.answered}
use Rattle.decision.proofs.AskLaws.{admitted_ready, ask_refused, few_minutes, few_steps, few_chain, ask_given, answered_back}
use Rattle.decision.proofs.question.ask.Goals as goal

pub returns-in_err-count : goal.returns-in_err-count
returns-in_err-count c =
    let args = c.args in
    let exit = err_from_is_err_and c.from_residual.result c.from_residual.ensures.1 in
    rw (exit.1, exit.2)
    (refused _ _ (ask_refused args.file.now _ (length args.minutes.now) (length args.steps.now) (length args.chain.now) _ (sym c.in_err-count.ensures)) refl refl refl refl)

pub returns-then-minutes-lt-ENTRIES : goal.returns-then-minutes-lt-ENTRIES
returns-then-minutes-lt-ENTRIES c =
    let args = c.args in
    refused _ _ (few_minutes args.file.now _ (length args.minutes.now) (length args.steps.now) (length args.chain.now) (sym c.in_ok-count.ensures) c.if-minutes-lt-ENTRIES.true) refl refl refl refl

pub returns-then-steps-lt-ENTRIES : goal.returns-then-steps-lt-ENTRIES
returns-then-steps-lt-ENTRIES c =
    let args = c.args in
    refused _ _ (few_steps args.file.now _ (length args.minutes.now) (length args.steps.now) (length args.chain.now) (sym c.in_ok-count.ensures) c.if-minutes-lt-ENTRIES.false c.if-steps-lt-ENTRIES.true) refl refl refl refl

pub returns-then-chain-lt-CHAIN_PLACES : goal.returns-then-chain-lt-CHAIN_PLACES
returns-then-chain-lt-CHAIN_PLACES c =
    let args = c.args in
    refused _ _ (few_chain args.file.now _ (length args.minutes.now) (length args.steps.now) (length args.chain.now) (sym c.in_ok-count.ensures) c.if-minutes-lt-ENTRIES.false c.if-steps-lt-ENTRIES.false (omega (arith, c.if-chain-lt-CHAIN_PLACES.true))) refl refl refl refl

pub invariant_of-inquiry : goal.invariant_of-inquiry
invariant_of-inquiry c = record { bytes = λ i. (c.type_inv.file i).fits; ready = admitted_ready c.args.file.now _ (sym c.in_ok-count.ensures) }

pub judge-verdict-requires : goal.judge-verdict-requires
judge-verdict-requires c =
    let args = c.args in (
      length-take-le entries args.minutes.now c.if-minutes-lt-ENTRIES.false,
      length-take-le entries args.steps.now c.if-steps-lt-ENTRIES.false,
      c.if-chain-lt-CHAIN_PLACES.false,
    )

pub returns : goal.returns
returns c =
    let args = c.args in
    let minutes-whole = c.if-minutes-lt-ENTRIES.false in
    let steps-whole = c.if-steps-lt-ENTRIES.false in
    answered
    (ask_given args.file.now _ (length args.minutes.now) (length args.steps.now) (length args.chain.now) (sym c.in_ok-count.ensures) minutes-whole steps-whole c.if-chain-lt-CHAIN_PLACES.false)
    (answered_back args.file.now _ args.minutes.now _ args.steps.now _ minutes-whole steps-whole
    (c.judge-verdict.auto.minutes ∙ length-take-le entries args.minutes.now minutes-whole)
    (c.judge-verdict.auto.steps ∙ length-take-le entries args.steps.now steps-whole)
    c.judge-verdict.ensures)
