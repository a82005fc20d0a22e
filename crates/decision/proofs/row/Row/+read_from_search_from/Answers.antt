-- `read_from` and `search_from` meet their contracts: the lemmas on readings, and on the best of the places passed.
use mathlib.Core.Path.{◌≡◌, sym, ap, ap₂, ◌∙◌}
use native.Mathlib.Omega.{arith}
use lib.ListN.{get_or}
use Rattle.rewriting.proofs.Held.{reading_fits}
use Rattle.decision.specs.Usable.{symbols_of}
use Rattle.decision.specs.Lens.{weighing_of, question_by}
use Rattle.decision.specs.Engine.{held}
use Rattle.decision.proofs.Choices.{when_true, when_false}
use borrow.Author.Tests.{eq-eqb, ne_eqb}
use Rattle.decision.proofs.ReadingLaws.{fine, symbols_few, up_to, up_to_over, up_to_same, up_to_more, through, through_fits, through_lost, read_past, read_symbol, read_last}
use Rattle.decision.proofs.row.Row.+read_from_search_from.Goals.{search_from-then-first-none, search_from-else-first-none}
use Rattle.decision.proofs.row.Row.+read_from_search_from.Goals as goal

pub read_from-returns-then-from-to : goal.read_from-returns-then-from-to
read_from-returns-then-from-to t c =
    let x = c.args in
    c.whole.ensures
    ∙ sym
    (read_past (question_by x.self.now.lens 0) (held x.self.now.lens x.self.now.table.now) (fine x.self.now) (symbols_of x.side.now.cert) x.j x.from x.to (rw c.symbols_in-symbols.ensures.0 at c.if-symbols-j.true)
    ∙ when_true _ _ _ (eq-eqb _ _ c.if-from-to.true))

pub read_from-returns-then-symbols-j : goal.read_from-returns-then-symbols-j
read_from-returns-then-symbols-j t c =
    let x = c.args in
    c.none.ensures
    ∙ sym
    (read_past (question_by x.self.now.lens 0) (held x.self.now.lens x.self.now.table.now) (fine x.self.now) (symbols_of x.side.now.cert) x.j x.from x.to (rw c.symbols_in-symbols.ensures.0 at c.if-symbols-j.true)
    ∙ when_false _ _ _ (ne_eqb _ _ c.if-from-to.false))

pub read_from-returns-then-symbols-j-2 : goal.read_from-returns-then-symbols-j-2
read_from-returns-then-symbols-j-2 t c =
    let x = c.args in
    c.weight_at.ensures
    ∙ ap (λ s. held x.self.now.lens x.self.now.table.now x.from s x.to) c.symbol_at.ensures
    ∙ sym (read_last (question_by x.self.now.lens 0) (held x.self.now.lens x.self.now.table.now) (fine x.self.now) (symbols_of x.side.now.cert) x.j x.from x.to (omega arith))

pub search_from-loop-place-init : goal.search_from-loop-place-init
unfolding up_to
search_from-loop-place-init t c = c.none-none.ensures

pub search_from-overflow_add-j : goal.search_from-overflow_add-j
search_from-overflow_add-j t c = omega (arith, symbols_few c.args.side.now.cert)

pub search_from-joined-requires : goal.search_from-joined-requires
search_from-joined-requires t c =
    let fine = fine c.args.self.now in
    (rw c.weight_at-first.ensures (fine.fits _ _ _), rw c.read_from-rest.ensures (reading_fits _ _ fine _ _ _))

pub search_from-loop-place-preserved : goal.search_from-loop-place-preserved
search_from-loop-place-preserved t c =
    let x = c.args in
    let f = through (question_by x.self.now.lens 0) (held x.self.now.lens x.self.now.table.now) (symbols_of x.side.now.cert) x.j x.from x.to in
    let fine = fine x.self.now in
    let fits = through_fits (question_by x.self.now.lens 0) (held x.self.now.lens x.self.now.table.now) fine (symbols_of x.side.now.cert) x.j x.from x.to in
    let loop = c.loop-place in
    let first : c.weight_at-first.result ≡ held x.self.now.lens x.self.now.table.now x.from (get_or (symbols_of x.side.now.cert) x.j 0) loop.place =
    c.weight_at-first.ensures ∙ ap (λ s. held x.self.now.lens x.self.now.table.now x.from s loop.place) c.symbol_at-symbol.ensures in
    elim c.if-first-none.branch [
      | search_from-then-first-none w ↦
          w.best-is
          ∙ w.better-best.ensures
          ∙ ap₂ (weighing_of x.self.now.lens).best loop.invariant (w.joined.ensures ∙ ap₂ (weighing_of x.self.now.lens).along first w.read_from-rest.ensures)
          ∙ sym (up_to_more (weighing_of x.self.now.lens) f fits loop.place)
      | search_from-else-first-none w ↦
          w.best-is
          ∙ loop.invariant
          ∙ sym
          (up_to_same (weighing_of x.self.now.lens) f fits loop.place
          (through_lost _ _ fine (symbols_of x.side.now.cert) x.j x.from x.to loop.place (sym first ∙ w.if-first-none.false ∙ c.none-none.ensures)))
    ]

pub search_from-returns : goal.search_from-returns
search_from-returns t c =
    let x = c.args in
    let fine = fine x.self.now in
    let fits = through_fits (question_by x.self.now.lens 0) (held x.self.now.lens x.self.now.table.now) fine (symbols_of x.side.now.cert) x.j x.from x.to in
    let end : c.loop-place.place ≡ 17 = omega arith in
    c.loop-place.invariant
    ∙ ap (λ n. up_to (weighing_of x.self.now.lens) n (through (question_by x.self.now.lens 0) (held x.self.now.lens x.self.now.table.now) (symbols_of x.side.now.cert) x.j x.from x.to)) end
    ∙ up_to_over (weighing_of x.self.now.lens) _ fits 16
    ∙ sym (read_symbol (question_by x.self.now.lens 0) (held x.self.now.lens x.self.now.table.now) fine (symbols_of x.side.now.cert) x.j x.from x.to (omega arith))
