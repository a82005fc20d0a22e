-- `read_side` meets its contract: one symbol is one entry, more are read from the first on.
use mathlib.Core.Path.{sym, ap, ◌∙◌}
use Rattle.decision.specs.Usable.{symbols_of}
use Rattle.decision.specs.Engine.{held}
use Rattle.decision.proofs.ReadingLaws.{fine, read_last}
use Rattle.decision.proofs.row.Row.read_side.Goals as goal

pub returns-then-symbols_in-eq1 : goal.returns-then-symbols_in-eq1
returns-then-symbols_in-eq1 c =
    let x = c.args in
    let row = x.self.now in
    c.weight_at.ensures
    ∙ ap (λ s. held row.lens row.table.now x.from s x.to) c.symbol_at.ensures
    ∙ sym (read_last _ _ (fine row) (symbols_of x.side.now.cert) 0 x.from x.to (sym c.symbols_in.ensures.0 ∙ c.if-symbols_in-eq1.true))
