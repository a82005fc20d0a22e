use mathlib.Core.Path.{◌≡◌, sym, ap, ◌∙◌}
use mathlib.Core.Bool.{false}
use Prim.Native.Nat.{◌+◌, ◌-◌}
use native.Mathlib.Omega.{arith}
use lib.ListN.{get_or}
use Rattle.boundary.specs.Questions.{bits}
use Rattle.boundary.proofs.BitsLaws.{bit_of, bit_le_one, bits_none, bits_more, bits_half}
use Rattle.boundary.proofs.questions.bits_of.Goals as goal

pub loop-key-init : goal.loop-key-init
loop-key-init c = sym (bits_none _ 16)

pub overflow_mul-sum : goal.overflow_mul-sum
overflow_mul-sum c = omega (arith, bits_half c.args.list c.loop-key.key (16 - c.loop-key.key) (omega arith))

pub overflow_add-sum : goal.overflow_add-sum
overflow_add-sum c =
    let yes = get_or c.args.list (c.loop-key.key - 1) false in
    record { fits = omega (arith, bits_half c.args.list c.loop-key.key (16 - c.loop-key.key) (omega arith), bit_of yes, bit_le_one yes) }

pub loop-key-preserved : goal.loop-key-preserved
loop-key-preserved c =
    let places = c.args.list in
    let key = c.loop-key.key in
    let more = bits_more places (key - 1) 16 (omega arith) in
    let next : bits places (key - 1 + 1) (16 - (key - 1 + 1)) ≡ bits places key (16 - key) = ap (λ k. bits places k (16 - k)) {x = key - 1 + 1} {y = key} (omega arith) in
    omega (arith, more, next, bit_of (get_or places (key - 1) false))

pub returns : goal.returns
returns c = c.loop-key.invariant ∙ ap (λ k. bits c.args.list k (16 - k)) {x = c.loop-key.key} {y = 0} (omega arith)
