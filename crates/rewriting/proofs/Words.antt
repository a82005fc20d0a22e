-- Where words lead: identifiers from a key to a key, identifiers with a closing mark to the end. So what certificates make is an entry.
use mathlib.Core.Path.{◌≡◌, sym, ◌∙◌}
use mathlib.Core.Logic.{inl, inr, ⊎_elim}
use mathlib.Core.List.{List, [], ◌∷◌}
use Prim.Native.Nat.{ℕ, ◌<◌, ◌≤◌}
use native.Mathlib.Omega.{arith}
use Rattle.rewriting.specs.Rewriting.{Rules, identifiers}
use Rattle.rewriting.specs.Entries.{Mark, Arrival, Entry, Names, Closes, Certificate, Fires}

-- A mark is no identifier.
mark_no_name : {s : ℕ} → Mark s → s < identifiers → ⊥
mark_no_name (inl e) h = omega arith
mark_no_name (inr e) h = omega arith

-- An entry arrives at a key or at the end.
pub arrival_place : {K s a : ℕ} → Arrival K s a → a ≤ K
arrival_place (inl h) = omega arith
arrival_place (inr h) = omega arith

-- The word w, read from a key, leads to a.
abbrev pub Leads : ℕ → List ℕ → ℕ → Type 0
Leads K w a = (Names w → a < K) × (Closes w → a ≡ K)

-- A symbol leads to a place, and from there the rest leads on.
pub leads_on : {K s p a : ℕ} {w : List ℕ} → Arrival K s p → (p < K → Leads K w a) → (w ≡ [] → p ≡ K → a ≡ K) → Leads K (s ∷ w) a
leads_on (inl h) next end = (
  λ n. (next h.1).0 n.1,
  ⊎_elim (λ c. (next h.1).1 c.1) (λ m. absurd (mark_no_name m.0 h.0)),
)
leads_on (inr h) next end = (
  λ n. absurd (mark_no_name h.0 n.0),
  ⊎_elim (λ c. absurd (mark_no_name h.0 c.0)) (λ m. end m.1 h.1),
)

-- Where a certificate's right side leads, its left side has an entry.
pub leads_entry : {R : Rules} {K i k s a : ℕ} → Fires R i k s → Certificate K (R.rule i) → Leads K (R.rule i).writes a → Entry K k s a
leads_entry f c leads = (
  rw f.issuer at c.issuer,
  ⊎_elim (λ h. inl (rw f.symbol at h.0, leads.0 h.1)) (λ h. inr (inl (sym f.symbol ∙ h.0), leads.1 h.1)) c.sides,
)
