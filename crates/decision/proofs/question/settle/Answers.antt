-- `settle` meets its contract: refused before any place is written; else the passes of the definition.
use mathlib.Core.Path.{refl, sym}
use lib.ListN.{length}
use borrow.Author.Rules.{rules}
use Rattle.std.proofs.lemmas.Result.{err_from_is_err_and}
use Rattle.decision.specs.Question.{Settles.refused, Settles.settled}
use Rattle.decision.proofs.AskLaws.{admitted_ready, settle_refused, few_places, settle_given, minutes_within}
use Rattle.decision.proofs.question.settle.Goals as goal

pub returns-in_err-count : goal.returns-in_err-count
returns-in_err-count c =
    let args = c.args in
    let exit = err_from_is_err_and c.from_residual.result c.from_residual.ensures.1 in
    rw (exit.1, exit.2) (refused _ _ (settle_refused args.file.now args.request (length args.table.now) _ (sym c.in_err-count.ensures)) refl refl)

pub returns-then-table-lt-ENTRIES : goal.returns-then-table-lt-ENTRIES
returns-then-table-lt-ENTRIES c =
    let args = c.args in
    refused _ _ (few_places args.file.now args.request (length args.table.now) (sym c.in_ok-count.ensures) c.if-table-lt-ENTRIES.true) refl refl

pub invariant_of-inquiry : goal.invariant_of-inquiry
invariant_of-inquiry c = record { bytes = λ i. (c.type_inv.file i).fits; ready = admitted_ready c.args.file.now c.args.request (sym c.in_ok-count.ensures) }

pub settle_by-requires : goal.settle_by-requires
settle_by-requires c = minutes_within _ c.if-table-lt-ENTRIES.false (λ i. search rules)

pub returns : goal.returns
returns c =
    let args = c.args in
    settled (settle_given args.file.now args.request (length args.table.now) (sym c.in_ok-count.ensures) c.if-table-lt-ENTRIES.false) _ c.settle_by.ensures refl
