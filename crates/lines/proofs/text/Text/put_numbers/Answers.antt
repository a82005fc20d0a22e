-- `put_numbers` meets its contract: the fields passed, with the next, are no longer than all of them.
use Rattle.std.proofs.Common.{◌<◌, length, take, ap, arith, length-append}
use Rattle.std.proofs.lemmas.List.Folds.{flat_map-map, length-flat_map-take}
use Rattle.lines.specs.Text.{decimal, field}
use Rattle.lines.proofs.text.Text.put_numbers.Goals as goal

pub put_number-requires : goal.put_number-requires
put_number-requires g c =
    let value = g.N.Numeral.value in
    let numbers = c.args.numbers.now in
    let i = c.loop-n.n-index in
    let low : i < length numbers = omega arith in
    rw (c.loop-n.invariant, length-append, flat_map-map field value (take i numbers))
    (omega (
      arith,
      length-flat_map-take (λ x. field (value x)) numbers i c.n-item.result low,
      ap length (flat_map-map field value numbers),
      ap (λ x. length (decimal (value x))) c.n-item.is,
      ap (λ n. length (decimal n)) c.widened.ensures,
    ))
