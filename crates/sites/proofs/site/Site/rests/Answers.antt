-- `rests` meets its contract: it has worked, and no entry is due.
use mathlib.Core.Bool.{Bool, true, false, not}
use mathlib.Core.Path.{◌≡◌, refl, sym, ap, ◌∙◌}
use Prim.Native.Nat.{ℕ}
use native.Mathlib.Omega.{arith}
use Rattle.std.specs.Prelude.{Option, Some, None, is_some, is_none}
use Rattle.sites.proofs.SiteLaws.{not_idle, idle_rest}
use Rattle.sites.proofs.site.Site.rests.Goals as goal

-- there is none where it is not so that there is one
none_told : (o : Option ℕ) (none : Bool) → is_some o ≡ not none → none ≡ is_none o
none_told (Some e) true told = absurd (cc)
none_told (Some e) false told = refl
none_told None true told = refl
none_told None false told = absurd (cc)

pub returns-then-self : goal.returns-then-self
returns-then-self c =
    let rests = none_told _ _ c.is_none.ensures ∙ ap is_none c.next_due.ensures ∙ idle_rest _ c.if-self.true in
    grind arith

pub returns-else-self : goal.returns-else-self
returns-else-self c = c.if-self.false ∙ sym (not_idle _ c.if-self.false)
