use Rattle.std.proofs.Common.{◌≡◌, ◌∙◌, sym, subst, take, arith, true≢false}
use Rattle.std.proofs.lemmas.Bool.Decides.{Decides-eqb}
use Rattle.std.proofs.lemmas.List.{length-take-le}
use Rattle.std.proofs.lemmas.Slice.Eq.{slice_eq-Decides}
use Rattle.wac.specs.Limits.{entries}
use Rattle.decision.specs.Engine.{Within}
use Rattle.decision.proofs.RulesLaws.{inquiry_lawful}
use Rattle.decision.proofs.SettlingLaws.{going_none, going_few, going_less, going_more, settled, within_take}
use Rattle.decision.proofs.inquiry.Inquiry.settle_by.Goals as goal
use Rattle.decision.proofs.inquiry.Inquiry.settle_by.Goals.{Else-eq}

pub loop-lens-init : goal.loop-lens-init
loop-lens-init c =
    let a = c.args in
    going_none _ _ _ _ (inquiry_lawful a.self.now a.lens) c.requires

pub invariant_of-pass_over : goal.invariant_of-pass_over
invariant_of-pass_over c =
    let h = c.loop-lens in
    record { within = subst (Within c.args.lens) (sym c.copy_from_slice.ensures.after) (within_take c.args.lens h.table h.invariant.within) }

pub overflow_add-passes : goal.overflow_add-passes
overflow_add-passes c = omega (arith, going_few c.loop-lens.invariant)

pub slice_bounds-eq-end-in-loop-lens-2 : goal.slice_bounds-eq-end-in-loop-lens-2
slice_bounds-eq-end-in-loop-lens-2 c = sym (length-take-le 2592 c.pass_over.new.new (omega (arith, c.pass_over.ensures.long, c.loop-lens.invariant.within.long)))

pub returns-then-eq : goal.returns-then-eq
returns-then-eq c =
    let same = slice_eq-Decides Decides-eqb _ _ _ c.eq.ensures in
    settled c.loop-lens.invariant c.copy_from_slice.ensures.after c.pass_over.ensures (same.0 c.if-eq.true)

-- the pass changed something
moved : (c : Else-eq) → c.copy_from_slice.new.self ≡ take entries c.pass_over.new.new → ⊥
moved c e =
    let same = slice_eq-Decides Decides-eqb _ _ _ c.eq.ensures in
    true≢false (sym (same.1 e) ∙ c.if-eq.false)

pub loop-lens-smaller : goal.loop-lens-smaller
loop-lens-smaller c = going_less c.loop-lens.invariant c.copy_from_slice.ensures.after c.pass_over.ensures (moved c)

pub loop-lens-preserved : goal.loop-lens-preserved
loop-lens-preserved c = going_more c.loop-lens.invariant c.copy_from_slice.ensures.after c.pass_over.ensures (moved c)
