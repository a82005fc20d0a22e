-- `write` meets its contract: where there is room the text is put.
use Rattle.std.proofs.Common.{refl, arith}
use Rattle.lines.specs.Act.{written}
use Rattle.lines.proofs.text.Text.write.Goals as goal

pub returns : goal.returns
returns c = written (omega arith) _ c.put.ensures refl
