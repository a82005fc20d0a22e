-- `fill` meets its contract: the part that is filled, and what is beyond it.
use Rattle.std.proofs.Common.{◌≡◌, ◌∙◌, drop, replicate, ap}
use Rattle.std.proofs.lemmas.List.{take_at, drop_at, length-take-le}
use Rattle.decision.proofs.passing.fill.Goals as goal

pub returns : goal.returns
returns c =
    let t = c.args.table.now in
    let f = c.fill in
    let long = length-take-le 2592 t c.requires in
    let filled : f.new.self ≡ replicate 2592 c.args.weight = f.ensures.after (λ y same. same) ∙ ap (λ n. replicate n c.args.weight) long in
    (take_at f.new.self (drop 2592 t) 2592 (f.ensures.len ∙ long) ∙ filled, drop_at f.new.self (drop 2592 t) 2592 (f.ensures.len ∙ long))
