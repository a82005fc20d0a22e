use Rattle.std.proofs.Common.{◌∙◌, sym, ap, subst, arith}
use Rattle.decision.proofs.PassingLaws.{Trying, left_symbol, trying_none, trying_skip, trying_more, tried_all}
use Rattle.decision.proofs.TableLaws.{arrives, arrives_back}
use Rattle.decision.proofs.row.Row.try_cert.Goals as goal

pub loop-place-init : goal.loop-place-init
loop-place-init c =
    let a = c.args in
    let same = c.into_iter-place-iterator.ensures.into_iter_gives ∙ (rw c.from.ensures at c.arrivals_of-place-items.ensures) in
    let begins = ap (λ r. r.start) same in
    let none = trying_none a.self.now.lens a.self.now.table.now a.cert a.new.now c.requires.0 in
    record {
      ends = ap (λ r. r.end) same;
      begins = omega (arith, begins);
      tried = trying_skip none _ (omega arith) (λ x h t. absurd (omega (arith, begins, (arrives _ _ x t).0)));
    }

pub try_at-requires : goal.try_at-requires
try_at-requires c =
    let ok = c.requires.1 in
    let i = c.loop-place.invariant in
    let next = c.in-Some.ensures.steps.1 in
    (i.tried.within, ok, arrives_back _ _ _ ok.issuer (left_symbol _ ok) (omega (arith, i.begins, next)) (omega (arith, i.ends, next)))

pub loop-place-preserved : goal.loop-place-preserved
loop-place-preserved c =
    let a = c.args in
    let ok = c.requires.1 in
    let i = c.loop-place.invariant in
    let steps = c.in-Some.ensures.steps in
    let here = arrives_back a.cert.issuer a.cert.left c.in-Some.place ok.issuer (left_symbol _ ok) (omega (arith, i.begins, steps.1)) (omega (arith, i.ends, steps.1)) in
    let Until = Trying a.self.now.lens a.self.now.table.now a.cert a.new.now in
    record {
      ends = steps.0 ∙ i.ends;
      begins = omega (arith, i.begins, steps.1);
      tried = subst (Until c.try_at.new.new) (omega (arith, steps.1)) (trying_more (subst (Until c.loop-place.new) (sym steps.1.1) i.tried) a.self.now.within ok here c.try_at.ensures);
    }

pub returns : goal.returns
returns c =
    let i = c.loop-place.invariant in
    tried_all i.tried (λ x t. omega (arith, i.ends, c.in-None.ensures.steps.1, (arrives _ _ x t).1))
