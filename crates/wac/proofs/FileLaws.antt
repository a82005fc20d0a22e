-- Laws of the file's frame and of a whole file's check.
use mathlib.Core.Path.{◌≡◌, sym, ap, ◌∙◌}
use mathlib.Core.Bool.{true, not}
use mathlib.Core.List.{List, [], ◌∷◌}
use mathlib.Core.Logic.{◌↔◌}
use Prim.Native.Nat.{ℕ, ◌<◌, ◌≤◌}
use native.Mathlib.Nat.{le_of_eq}
use native.Mathlib.Omega.{arith}
use borrow.Author.Tests.{lt-ltb, le-ltb, eq-eqb, ltb-false, eqb-true}
use lib.ListN.{length}
use Rattle.wac.specs.Limits.{header_bytes}
use Rattle.wac.specs.Bytes.{AreBytes}
use Rattle.wac.specs.Answers.{gives, refuses, first_of}
use Rattle.wac.specs.Ranges.{record_ok}
use Rattle.wac.specs.File.{frame_cases, file_cases, count_of, place_of, record_at, cert_at, lowest_bad, Framed, LawfulFile}
use Rattle.wac.proofs.Cases.{first_none, first_holds, first_fails, first_passed, first_refused, first_given, first_both, gives_injective}
use Rattle.std.proofs.lemmas.Bool.{not-false}
use Rattle.wac.proofs.Tests.{lowest_none, lowest_passed}
use Rattle.wac.proofs.RecordLaws.{drop_bytes, bytes_dated, kept_lawful, lawful_kept}

module _ (s : List ℕ) where
  -- a frame that is accepted is in order, and its count is given
  pub frame_accepted : {n : ℕ} → first_of (frame_cases s) (count_of s) ≡ gives n → Framed s × (count_of s ≡ n)
  unfolding frame_cases
  frame_accepted e =
      let a = first_passed _ _ _ e in
      let b = first_passed _ _ _ a.1 in
      let c = first_passed _ _ _ b.1 in
      let d = first_passed _ _ _ c.1 in
      let f = first_passed _ _ _ d.1 in (
        record {
          mark = not-false _ b.0;
          versioned = eqb-true _ _ (not-false _ c.0);
          few = ltb-false _ _ d.0;
          sized = eqb-true _ _ (not-false _ f.0);
        },
        gives_injective (sym (first_none _) ∙ f.1),
      )

  -- a file whose frame is refused is refused alike
  pub file_refused : {n : ℕ} {vs : List ℕ} → first_of (frame_cases s) (count_of s) ≡ refuses n vs → first_of (file_cases s) (count_of s) ≡ refuses n vs
  unfolding file_cases
  file_refused e = first_refused (frame_cases s) _ (count_of s) (count_of s) e

  -- a framed file with a record against the table is refused with the lowest such record
  pub file_against : {n : ℕ} → first_of (frame_cases s) (count_of s) ≡ gives n → lowest_bad s n < n → first_of (file_cases s) (count_of s) ≡ refuses 15 (lowest_bad s n ∷ [])
  unfolding file_cases
  file_against e l =
      let same = (frame_accepted e).1 in
      let less : lowest_bad s (count_of s) < count_of s = rw same l in
      first_given (frame_cases s) _ (count_of s) (count_of s) e
      ∙ first_holds _ _ _ (lt-ltb _ _ less)
      ∙ ap (λ k. refuses 15 (lowest_bad s k ∷ [])) same

  -- a framed file with no such record is accepted with its count
  pub file_accepted : {n : ℕ} → first_of (frame_cases s) (count_of s) ≡ gives n → n ≤ lowest_bad s n → first_of (file_cases s) (count_of s) ≡ gives n
  unfolding file_cases
  file_accepted e l =
      let same = (frame_accepted e).1 in
      let none : count_of s ≤ lowest_bad s (count_of s) = rw same l in
      first_given (frame_cases s) _ (count_of s) (count_of s) e
      ∙ first_fails _ _ _ (le-ltb _ _ none)
      ∙ first_none _
      ∙ ap gives same

  -- a file that is accepted is framed, its count is given, and every record keeps to the table
  pub file_kept : {n : ℕ} → first_of (file_cases s) (count_of s) ≡ gives n → Framed s × (count_of s ≡ n) × ((i : ℕ) → i < count_of s → record_ok (record_at s i) ≡ true)
  unfolding file_cases lowest_bad
  file_kept e =
      let both = first_both (frame_cases s) _ (count_of s) (count_of s) e in
      let last = first_passed _ _ _ both.1 in (
        (frame_accepted both.0).0,
        gives_injective (sym (first_none _) ∙ last.1),
        λ i l. not-false _ (lowest_passed (count_of s) _ (ltb-false _ _ last.0) i l),
      )

  -- a frame in order is accepted with its count
  pub framed_accepted : Framed s → first_of (frame_cases s) (count_of s) ≡ gives (count_of s)
  unfolding frame_cases
  framed_accepted framed =
      let sized = framed.sized in
      let long : header_bytes ≤ length s = omega arith in
      first_fails _ _ _ (le-ltb _ _ long)
      ∙ first_fails _ _ _ (ap not framed.mark)
      ∙ first_fails _ _ _ (ap not (eq-eqb _ _ framed.versioned))
      ∙ first_fails _ _ _ (le-ltb _ _ framed.few)
      ∙ first_fails _ _ _ (ap not (eq-eqb _ _ sized))
      ∙ first_none _

  -- a lawful file is accepted with its count
  pub lawful_accepted : LawfulFile s → first_of (file_cases s) (count_of s) ≡ gives (count_of s)
  unfolding lowest_bad cert_at
  lawful_accepted h =
      let none = lowest_none (count_of s) (λ i. not (record_ok (record_at s i))) (λ i l. ap not (lawful_kept (record_at s i) (h.lawful i l))) in
      file_accepted (framed_accepted h.framed) (le_of_eq (sym none))

  -- `check` accepts exactly the lawful files, with their count
  pub accepted_iff_lawful : AreBytes s → (n : ℕ) → (first_of (file_cases s) (count_of s) ≡ gives n) ↔ (LawfulFile s × (count_of s ≡ n))
  unfolding cert_at
  accepted_iff_lawful bytes n = (to, λ h. lawful_accepted h.0 ∙ ap gives h.1)
    where
      to : first_of (file_cases s) (count_of s) ≡ gives n → LawfulFile s × (count_of s ≡ n)
      to e =
          let kept = file_kept e in
          (record { framed = kept.0; lawful = λ i l. kept_lawful (record_at s i) (bytes_dated (record_at s i) (drop_bytes s (place_of i) bytes)) (kept.2 i l) }, kept.1)
