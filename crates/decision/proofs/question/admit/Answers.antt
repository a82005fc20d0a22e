-- `admit` meets its contract: the file, then the request.
use mathlib.Core.Path.{sym, ap, ◌∙◌}
use Rattle.std.proofs.lemmas.Result.{err_from_is_err_and}
use Rattle.wac.specs.Answers.{gives}
use Rattle.wac.specs.File.{count_of, file_cases}
use Rattle.wac.proofs.Cases.{first_refused, first_given}
use Rattle.wac.proofs.FileLaws.{file_kept}
use Rattle.decision.proofs.AskLaws.{request_refused, request_given}
use Rattle.decision.proofs.question.admit.Goals as goal

pub returns-in_err-count : goal.returns-in_err-count
returns-in_err-count c =
    let s = c.args.file.now in
    let exit = err_from_is_err_and c.from_residual.result c.from_residual.ensures.1 in
    rw (exit.1, exit.2) (sym (first_refused (file_cases s) _ (count_of s) (count_of s) (sym c.in_err-count.ensures)))

pub returns-in_err-admit_request : goal.returns-in_err-admit_request
returns-in_err-admit_request c =
    let s = c.args.file.now in
    let exit = err_from_is_err_and c.from_residual-in_err-admit_request.result c.from_residual-in_err-admit_request.ensures.1 in
    rw (exit.1, exit.2)
    (sym
    (first_given (file_cases s) _ (count_of s) (count_of s) (sym c.in_ok-count.ensures)
    ∙ request_refused c.args.request _ (sym c.in_err-admit_request.ensures)))

pub returns : goal.returns
returns c =
    let s = c.args.file.now in
    ap gives (sym (file_kept s (sym c.in_ok-count.ensures)).1)
    ∙ sym
    (first_given (file_cases s) _ (count_of s) (count_of s) (sym c.in_ok-count.ensures)
    ∙ request_given c.args.request _ (sym c.in_ok-admit_request.ensures))
