-- A copy of a certificate, in another file or under another number, does what the certificate does.
use mathlib.Core.Path.{◌≡◌, refl, ap, ◌∙◌}
use Prim.Native.Nat.{ℕ}
use Rattle.rewriting.specs.Rewriting.{Rule, Rules, Question}
use Rattle.rewriting.specs.Entries.{Fires}
use Rattle.rewriting.specs.Passes.{Table, reading, brought}
use Rattle.rewriting.specs.Together.{Copy, Among}

-- Every certificate is its own copy.
pub among_itself : (R : Rules) → Among R R
among_itself R i there usable = record { number = i; there = there; usable = usable; same_rule = refl; same_weight = refl }

-- A copy fires where the certificate fires, and brings what it brings.
module _ {R T : Rules} {i : ℕ} (c : Copy R T i) where
  pub copy_fires : {k s : ℕ} → Fires R i k s → Fires T c.number k s
  copy_fires f = record {
    there = c.there;
    usable = c.usable;
    issuer = ap (λ (r : Rule). r.from) c.same_rule ∙ f.issuer;
    symbol = ap (λ (r : Rule). r.reads) c.same_rule ∙ f.symbol;
  }

  pub copy_brings : (Q : Question) (t : Table) (a : ℕ) → brought Q T t a c.number ≡ brought Q R t a i
  unfolding brought
  copy_brings Q t a = λ x. Q.weighing.along (c.same_weight x) (reading Q t (c.same_rule x).to (c.same_rule x).writes a)
