-- What a refusal returns: its number is 10 or more, and a record's number is one of 128.
use mathlib.Core.Path.{◌≡◌, refl, sym, ◌∙◌}
use mathlib.Core.Logic.{◌⊎◌, inl, inr, ⊎_elim}
use mathlib.Core.Bool.{Bool, true, false, ◌&&◌}
use mathlib.Core.List.{List, [], ◌∷◌, ◌++◌}
use Prim.Native.Nat.{ℕ, ◌<◌, ◌≤◌}
use native.Mathlib.Omega.{arith}
use lib.Dec.{leb, ltb}
use lib.ListN.{get_or}
use borrow.Author.Tests.{leb-true, ltb-true}
use Rattle.wac.specs.Limits.{certificates}
use Rattle.wac.specs.Answers.{Answer, gives, refuses, Case, ◌of◌if◌, first_of}
use Rattle.wac.specs.File.{count_of, frame_cases, file_cases, lowest_bad}
use Rattle.wac.proofs.Cases.{first_none, first_holds, first_fails, first_refused, first_given, gives_not_refuses}
use Rattle.std.proofs.lemmas.Bool.{and_parts}
use Rattle.wac.proofs.FileLaws.{frame_accepted}
use Rattle.decision.specs.Question.{request_cases, ask_cases, settle_cases}
use Rattle.decision.specs.declared.request.Request.{Request}

-- a refusal's number and values are small
pub record Proper (n : ℕ) (vs : List ℕ) : Type 0 where
  pub from : 10 ≤ n
  pub record_low : get_or vs 0 0 < certificates

-- equal refusals are proper alike
proper_same : {A : Type 0} {k n : ℕ} {us vs : List ℕ} → ◌≡◌ {A = Answer A} (refuses k us) (refuses n vs) → Proper k us → Proper n vs
proper_same {k = k} {n} {us} {vs} e p =
    let number : k ≡ n = cc in
    let values : us ≡ vs = cc in
    record { from = omega arith; record_low = rw values at p.record_low }

-- every case has a number from 10 on, and returns none but small numbers
plain? : List Case → Bool
plain? [] = true
plain? (c ∷ cases) = leb 10 c.number && ltb (get_or c.values 0 0) certificates && plain? cases

module _ {A : Type 0} {n : ℕ} {vs : List ℕ} where
  -- the first of such cases
  plain_proper : (cases : List Case) (a : A) → plain? cases ≡ true → first_of cases a ≡ refuses n vs → Proper n vs
  unfolding plain?
  plain_proper [] a p e = absurd (gives_not_refuses (sym (first_none a) ∙ e))
  plain_proper (c ∷ cases) a p e =
      let parts = and_parts (leb 10 c.number && ltb (get_or c.values 0 0) certificates) (plain? cases) p in
      turn c.holds refl (and_parts (leb 10 c.number) _ parts.0) (plain_proper cases a parts.1)
    where
      turn : (b : Bool) → c.holds ≡ b → (leb 10 c.number ≡ true) × (ltb (get_or c.values 0 0) certificates ≡ true) →
          (first_of cases a ≡ refuses n vs → Proper n vs) → Proper n vs
      turn true h fine next = proper_same (sym (first_holds c cases a h) ∙ e) (record { from = leb-true _ _ fine.0; record_low = ltb-true _ _ fine.1 })
      turn false h fine next = next (sym (first_fails c cases a h) ∙ e)

  -- refused by the first cases, or by those after them
  first_split : {B : Type 0} (cases more : List Case) (a : A) (b : B) → first_of (cases ++ more) b ≡ refuses n vs →
      (first_of cases a ≡ refuses n vs) ⊎ ((x : A) × (first_of cases a ≡ gives x) × (first_of more b ≡ refuses n vs))
  first_split cases more a b e = turn (first_of cases a) refl
    where
      turn : (x : Answer A) → first_of cases a ≡ x → (first_of cases a ≡ refuses n vs) ⊎ ((x : A) × (first_of cases a ≡ gives x) × (first_of more b ≡ refuses n vs))
      turn (gives y) h = inr (y, h, sym (first_given cases more a b h) ∙ e)
      turn (refuses k us) h = let same = sym (first_refused cases more a b h) ∙ e in inl cc

module _ (s : List ℕ) {n : ℕ} {vs : List ℕ} where
  -- a file's refusal
  file_proper : first_of (file_cases s) (count_of s) ≡ refuses n vs → Proper n vs
  unfolding file_cases frame_cases plain?
  file_proper e = ⊎_elim (plain_proper (frame_cases s) (count_of s) refl) bad (first_split (frame_cases s) _ (count_of s) (count_of s) e)
    where
      bad : (x : ℕ) × (first_of (frame_cases s) (count_of s) ≡ gives x) × (first_of ((15 of lowest_bad s (count_of s) if ltb (lowest_bad s (count_of s)) (count_of s)) ∷ []) (count_of s) ≡ refuses n vs) → Proper n vs
      bad g = turn (ltb (lowest_bad s (count_of s)) (count_of s)) refl (frame_accepted s g.1).0.few
        where
          turn : (b : Bool) → ltb (lowest_bad s (count_of s)) (count_of s) ≡ b → count_of s ≤ certificates → Proper n vs
          turn true h few = proper_same (sym (first_holds _ _ _ h) ∙ g.2) (record { from = omega arith; record_low = omega (arith, ltb-true (lowest_bad s (count_of s)) (count_of s) h) })
          turn false h few = absurd (gives_not_refuses (sym (first_fails _ _ _ h ∙ first_none _) ∙ g.2))

  module _ (q : Request) where
    -- a refusal of the file or the request
    pub admit_proper : first_of (file_cases s ++ request_cases q) (count_of s) ≡ refuses n vs → Proper n vs
    unfolding request_cases plain?
    admit_proper e =
        ⊎_elim file_proper (λ g. plain_proper (request_cases q) (count_of s) refl g.2) (first_split (file_cases s) (request_cases q) (count_of s) (count_of s) e)

    -- a refusal of a question, and of settling a table
    pub ask_proper : (m t c : ℕ) → first_of (ask_cases s q m t c) (count_of s) ≡ refuses n vs → Proper n vs
    unfolding ask_cases plain?
    ask_proper m t c e =
        ⊎_elim admit_proper (λ g. plain_proper _ (count_of s) refl g.2) (first_split (file_cases s ++ request_cases q) _ (count_of s) (count_of s) e)

    pub settle_proper : (t : ℕ) → first_of (settle_cases s q t) (count_of s) ≡ refuses n vs → Proper n vs
    unfolding settle_cases plain?
    settle_proper t e =
        ⊎_elim admit_proper (λ g. plain_proper _ (count_of s) refl g.2) (first_split (file_cases s ++ request_cases q) _ (count_of s) (count_of s) e)
