-- `granted_line` meets its contract: the certificates of a chain take at most 4 bytes each.
use Rattle.std.proofs.Common.{List, ℕ, ◌*◌, ◌<◌, ◌≤◌, length, get_or, map, take, arith}
use Rattle.std.proofs.lemmas.Grind.{common_steps}
use Rattle.std.proofs.lemmas.List.{map-id}
use Rattle.lines.specs.Text.{fields}
use Rattle.lines.proofs.TextLaws.{decimal_most, fields_bytes}
use Rattle.lines.proofs.question.granted_line.Goals as goal

chain_most : (n : ℕ) (chain : List ℕ) → ((i : ℕ) → get_or chain i 0 < 256) → length (fields (map (λ (k : ℕ). k) (take n chain))) ≤ 4 * length chain
chain_most n chain low = rw (map-id (take n chain)) (fields_bytes n chain low)

pub put_numbers-requires-2 : goal.put_numbers-requires-2
put_numbers-requires-2 c =
    let chain = chain_most c.min-count.result c.args.chain.now (λ i. omega (arith, c.type_inv.chain i)) in grind (arith, common_steps, decimal_most, chain)

pub put_word-requires-2 : goal.put_word-requires-2
put_word-requires-2 c =
    let chain = chain_most c.min-count.result c.args.chain.now (λ i. omega (arith, c.type_inv.chain i)) in grind (arith, common_steps, decimal_most, chain)
