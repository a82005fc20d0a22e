-- `judge_steps` meets its contract: the steps settle, and the chain is written out where it has at most 200.
use mathlib.Core.Path.{◌∙◌}
use native.Mathlib.Nat.{le_of_suc-le-suc}
use native.Mathlib.Omega.{arith}
use Rattle.std.proofs.lemmas.Grind.{merely}
use Rattle.decision.proofs.QuestionLaws.{steps_start, steps_table, counted_long, counted_short}
use Rattle.decision.proofs.question.judge_steps.Goals as goal

pub settle_by-requires : goal.settle_by-requires
settle_by-requires c = steps_start c.args.inquiry.bytes c.requires.0 (c.start_by.auto.table ∙ c.requires.1) c.start_by.ensures.0

pub invariant_of-last : goal.invariant_of-last
invariant_of-last c =
    let pre = c.requires in
    let begun = c.start_by in
    let table = steps_table c.args.inquiry.bytes pre.0 c.args.steps.now pre.1 begun.auto.table begun.ensures.0 c.settle_by.ensures in
    record { within = table.within; last = merely table }

pub returns-then-fewest-ge-UNCOUNTED : goal.returns-then-fewest-ge-UNCOUNTED
returns-then-fewest-ge-UNCOUNTED c =
    let pre = c.requires in
    let begun = c.start_by in
    counted_long c.args.inquiry.bytes pre.0 c.args.steps.now pre.1 begun.auto.table begun.ensures.0 c.settle_by.ensures (rw c.owner_entry-entry.ensures at c.steps_at-fewest.ensures) c.if-fewest-ge-UNCOUNTED.true

pub expand_entry-requires : goal.expand_entry-requires
expand_entry-requires c =
    let pre = c.requires in
    let short = rw c.steps_at-fewest.ensures at (le_of_suc-le-suc c.if-fewest-ge-UNCOUNTED.false) in
    (short, omega arith)

pub returns : goal.returns
returns c =
    let pre = c.requires in
    let begun = c.start_by in
    counted_short c.args.inquiry.bytes pre.0 c.args.steps.now pre.1 begun.auto.table begun.ensures.0 c.settle_by.ensures
    (rw c.owner_entry-entry.ensures at c.steps_at-fewest.ensures) (le_of_suc-le-suc c.if-fewest-ge-UNCOUNTED.false) (rw c.owner_entry-entry.ensures at c.expand_entry.ensures)
