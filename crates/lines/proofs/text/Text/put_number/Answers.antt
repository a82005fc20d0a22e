-- `put_number` meets its contract: a space, and the digits that the library's function gives.
use Rattle.std.proofs.Common.{◌<◌, length, ap, ◌∙◌, arith, append_assoc, length-append}
use Rattle.lines.proofs.TextLaws.{fewest_decimal}
use Rattle.lines.proofs.text.Text.put_number.Goals as goal

pub put_word-requires-2 : goal.put_word-requires-2
put_word-requires-2 c =
    let d = c.decimal-count.ensures in
    let low : c.args.n < 18446744073709551616 = omega arith in
    let is = d.digits ∙ fewest_decimal low d.len in
    rw (c.put_word.ensures.text, length-append) (omega (arith, ap length is))

pub returns-clause-text : goal.returns-clause-text
returns-clause-text c =
    let d = c.decimal-count.ensures in
    let low : c.args.n < 18446744073709551616 = omega arith in
    let is = d.digits ∙ fewest_decimal low d.len in
    rw (c.put_word-2.ensures.text, c.put_word.ensures.text, is, append_assoc)
