-- `judge` meets its contract: the minutes settle; no chain, or the steps of a granted question.
use mathlib.Core.Path.{◌∙◌}
use Rattle.decision.specs.declared.lens.Lens.TheVariants.{Minutes}
use Rattle.decision.proofs.QuestionLaws.{minutes_start, settled_done, granting, answered_none, answered_granted}
use Rattle.decision.proofs.question.judge.Goals as goal

pub settle_by-passes-requires : goal.settle_by-passes-requires
settle_by-passes-requires c =
    let x = c.args.inquiry in
    minutes_start x.bytes x.ready (c.start_by.auto.table ∙ c.requires.0) c.start_by.ensures.0

pub invariant_of-settled : goal.invariant_of-settled
invariant_of-settled c =
    let x = c.args.inquiry in
    let begun = c.start_by in
    record { within = (settled_done Minutes x.file.now x.request x.bytes x.ready.accepted x.ready.asker begun.new.table _ _ (begun.auto.table ∙ c.requires.0) begun.ensures.0 c.settle_by-passes.ensures).within }

pub returns-then-minute-eq0 : goal.returns-then-minute-eq0
returns-then-minute-eq0 c =
    let x = c.args.inquiry in
    let begun = c.start_by in
    answered_none x.bytes x.ready c.args.minutes.now c.requires.0 begun.auto.table begun.ensures.0 c.settle_by-passes.ensures (rw c.owner_entry.ensures at c.weight_at-minute.ensures) c.if-minute-eq0.true c.fill.ensures

pub judge_steps-requires : goal.judge_steps-requires
judge_steps-requires c =
    let x = c.args.inquiry in
    let begun = c.start_by in (
      granting x.bytes x.ready c.args.minutes.now c.requires.0 begun.auto.table begun.ensures.0 c.settle_by-passes.ensures (rw c.owner_entry.ensures at c.weight_at-minute.ensures) c.if-minute-eq0.false,
      c.requires.1,
      c.requires.2,
    )

pub returns : goal.returns
returns c =
    let x = c.args.inquiry in
    let begun = c.start_by in
    answered_granted x.bytes x.ready c.args.minutes.now c.requires.0 begun.auto.table begun.ensures.0 c.settle_by-passes.ensures
    (rw c.owner_entry.ensures at c.weight_at-minute.ensures) c.if-minute-eq0.false c.judge_steps.ensures
