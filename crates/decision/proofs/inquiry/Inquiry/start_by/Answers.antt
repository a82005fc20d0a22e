-- `start_by` meets its contract: the table is filled with none, and the asker's two marks get the whole.
use mathlib.Core.Logic.{inl, inr}
use mathlib.Core.Path.{refl, ◌∙◌}
use native.Mathlib.Omega.{arith}
use Rattle.decision.proofs.PassingLaws.{asker_entry, started}
use Rattle.decision.proofs.inquiry.Inquiry.start_by.Goals as goal

pub number-requires : goal.number-requires
number-requires c = rw c.from.ensures (asker_entry _ 10 c.args.self.now.ready.asker (inl refl))

pub number-requires-2 : goal.number-requires-2
number-requires-2 c = rw c.from.ensures (asker_entry _ 11 c.args.self.now.ready.asker (inr refl))

pub returns : goal.returns
returns c =
    let a = c.args in
    let f = c.fill in
    let none = c.none.ensures in
    let both = started a.lens a.self.now.request.asker a.self.now.ready.asker f.new.table (omega (arith, f.auto.table, c.requires)) (rw none at f.ensures.0)
    c.number.result c.number-2.result c.whole-whole.result
    (rw c.from.ensures at c.number.ensures.0) (rw c.from.ensures at c.number-2.ensures.0) c.whole-whole.ensures in
    (both.0, both.1 ∙ f.ensures.1)
