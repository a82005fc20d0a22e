-- What is written so far are the fields of the numbers passed.
use Rattle.std.proofs.Common.{◌≡◌, ◌++◌, map, take}
use Rattle.lines.specs.Text.{fields}
use Rattle.lines.proofs.text.Text.put_numbers.Given as goal

abbrev pub invariant-loop-n : goal.invariant-loop-n
invariant-loop-n g l = l.self ≡ l.initial.self ++ fields (map g.N.Numeral.value (take l.n-index l.numbers))
