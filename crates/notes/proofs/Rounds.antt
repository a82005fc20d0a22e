-- The bound on full exchanges: each leaves one entry fewer that lacks its last weight, so after as many as the bound both
-- sites rest, whatever else happened meanwhile.
use Prim.Native.Nat.{ℕ, ◌≤◌, ◌-◌}
use native.Mathlib.Nat.{le_trans}
use native.Mathlib.Omega.{arith}
use Rattle.rewriting.specs.Weighing.{minutes}
use Rattle.rewriting.specs.Rewriting.{Rules, Question}
use Rattle.rewriting.specs.Passes.{Table, pass, bound}
use Rattle.rewriting.specs.Tables.{Same, Below, Last}
use Rattle.rewriting.proofs.Order.{at_most_trans}
use Rattle.rewriting.proofs.Sound.{sound_held}
use Rattle.rewriting.proofs.Held.{pass_below}
use Rattle.rewriting.proofs.Bound.{lacking, lacking_most, lacking_step, lacking_none}
use Rattle.notes.specs.Notes.{by_minutes, Rest}
use Rattle.notes.specs.Line.{Party, System, swap, none}
use Rattle.notes.specs.Exchange.{Full, Exchanges, begin, from_a, from_b}
use Rattle.notes.proofs.Minutes.{Under, under_below}
use Rattle.notes.proofs.Sides.{Side}
use Rattle.notes.proofs.Good.{Both, both_swap, Good, good_swap, good_steps}
use Rattle.notes.proofs.Running.{steps_swap, half_steps, full_steps, exchanges_steps}
use Rattle.notes.proofs.Growing.{steps_grew}
use Rattle.notes.proofs.Halves.{after, half_passed, half_grew, half_told, half_rest}

-- How many entries of a site lack their weight in J.
abbrev lacks : Question → Table → Party → ℕ
lacks Q J p = lacking Q J p.ledger.minute

module _ {K asker : ℕ} {B R T : Rules} (both : Both (by_minutes K asker) B R T) {J : Table} (last : Last (by_minutes K asker) B J) where
  abbrev Q : Question
  Q = by_minutes K asker

  module _ {x z : System} (g : Good Q B R T x) (f : Full Q R T x z) where
    middle : Good Q B T R (swap f.middle)
    middle = good_swap (after both last g f.there)

    end : Good Q B R T z
    end = good_steps both (full_steps f) g

    -- What the first site held at first, the second holds when it begins to work.
    came : Under K f.there.worked.minute f.back.from.a.ledger.minute
    came k s a e = le_trans (half_told both last g f.there k s a e) ((steps_grew f.back.before).minutes k s a e)

    -- What the second site has worked out has at least a pass of both files over what the first held.
    passed : Below Q (pass Q B x.a.ledger.minute) f.back.worked.minute
    passed =
        let ok = both.first.whole in
        let low = sound_held ok g.side_a.sound in
        let one = good_steps both f.there.before g in
        let two = good_steps (both_swap both) f.back.before middle in
        let second = half_passed (both_swap both) last middle f.back in
        both.above _ _
        (λ k s a e. at_most_trans minutes
        (pass_below Q low (sound_held ok one.side_a.sound) R (under_below asker _ _ (steps_grew f.there.before).minutes) k s a e)
        (at_most_trans minutes ((half_passed both last g f.there).passed k s a e)
        (at_most_trans minutes (under_below asker _ _ came k s a e) (second.keeps k s a e))))
        (λ k s a e. at_most_trans minutes
        (pass_below Q low (sound_held ok two.side_a.sound) T
        (under_below asker _ _ (λ k s a e. le_trans (half_grew both last g f.there k s a e) (came k s a e))) k s a e)
        (second.passed k s a e))

    fewer : {S : Rules} {p q : Party} → Side Q B S p q → Under K f.back.worked.minute p.ledger.minute → lacks Q J p ≤ lacks Q J x.a - 1
    fewer S up = lacking_step both.first.whole last g.side_a.sound (under_below asker _ _ g.side_a.started) S.sound
        (λ k s a e. at_most_trans minutes (passed k s a e) (under_below asker _ _ up k s a e))

    -- A full exchange leaves both sites one fewer than the first site had, while any lacks.
    full_lacks : (lacks Q J z.a ≤ lacks Q J x.a - 1) × (lacks Q J z.b ≤ lacks Q J x.a - 1)
    full_lacks = (
      fewer end.side_a (half_told (both_swap both) last middle f.back),
      fewer end.side_b (steps_grew f.back.after).minutes,
    )

    -- From the last table on, it brings both to rest.
    full_rest : Same Q x.a.ledger.minute J → Rest K z.a.ledger × Rest K z.b.ledger
    full_rest same =
        let full : Under K J x.a.ledger.minute = λ k s a e. omega (arith, same k s a e) in (
          half_rest both last g f.there full (steps_swap (half_steps f.back)),
          half_rest (both_swap both) last middle f.back
              (λ k s a e. le_trans (full k s a e) (le_trans (half_grew both last g f.there k s a e) (half_told both last g f.there k s a e))) none,
        )

module _ {K asker : ℕ} {B R T : Rules} (both : Both (by_minutes K asker) B R T) {J : Table} (last : Last (by_minutes K asker) B J)
    {x : System} (g : Good (by_minutes K asker) B R T x) where
  most : {S : Rules} {p q : Party} → Side (by_minutes K asker) B S p q → lacks (by_minutes K asker) J p ≤ bound K - 1
  most S = omega (arith, lacking_most both.first.whole last S.sound (under_below asker _ _ S.started))

  so_far : {n : ℕ} {y : System} → Exchanges (by_minutes K asker) R T x n y → Good (by_minutes K asker) B R T y
  so_far r = good_steps both (exchanges_steps r) g

  -- The sites after n full exchanges lack as many fewer.
  exchanges_lack : {n : ℕ} {y : System} → Exchanges (by_minutes K asker) R T x n y →
      (lacks (by_minutes K asker) J y.a ≤ bound K - 1 - n) × (lacks (by_minutes K asker) J y.b ≤ bound K - 1 - n)
  exchanges_lack begin = omega (arith, most g.side_a, most g.side_b)
  exchanges_lack (from_a r f) = omega (arith, exchanges_lack r, full_lacks both last (so_far r) f)
  exchanges_lack (from_b r f) = omega (arith, exchanges_lack r, full_lacks (both_swap both) last (good_swap (so_far r)) f)

  -- After as many as the bound both rest.
  pub exchanges_rest : {n : ℕ} {y : System} → bound K ≤ n → Exchanges (by_minutes K asker) R T x n y → Rest K y.a.ledger × Rest K y.b.ledger
  exchanges_rest h begin = absurd (omega (arith, lacking_most both.first.whole last g.side_a.sound (under_below asker _ _ g.side_a.started)))
  exchanges_rest h (from_a {y = y} r f) = full_rest both last (so_far r) f
      (lacking_none (by_minutes K asker) J y.a.ledger.minute (omega (arith, exchanges_lack r)))
  exchanges_rest h (from_b {y = y} r f) =
      let rests = full_rest (both_swap both) last (good_swap (so_far r)) f
      (lacking_none (by_minutes K asker) J y.b.ledger.minute (omega (arith, exchanges_lack r))) in
      (rests.1, rests.0)
