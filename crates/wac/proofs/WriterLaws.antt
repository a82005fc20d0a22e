-- Laws of the appending writer.
use mathlib.Core.Path.{◌≡◌, sym, ap, ◌∙◌}
use mathlib.Core.Bool.{true}
use mathlib.Core.List.{List, []}
use Prim.Native.Nat.{ℕ, ◌+◌, ◌-◌, ◌<◌, ◌≤◌}
use native.Mathlib.Omega.{arith}
use borrow.Author.Tests.{lt-ltb, le-ltb, ltb-false, eqb-false}
use lib.ListN.{length, take, length-take}
use lib.Seq.{get_or-take}
use Rattle.wac.specs.Limits.{certificates, header_bytes, record_bytes}
use Rattle.wac.specs.Answers.{gives, refuses, first_of}
use Rattle.wac.specs.Ranges.{record_ok}
use Rattle.wac.specs.Record.{bytes_of}
use Rattle.wac.specs.File.{count_of, file_cases}
use Rattle.wac.specs.Writer.{cert_cases, append_cases}
use Rattle.wac.specs.declared.cert.Cert.{Cert}
use Rattle.wac.proofs.Cases.{first_none, first_holds, first_fails, first_passed, first_refused, first_given, first_both, gives_injective}
use Rattle.std.proofs.lemmas.Bool.{not-false}
use Rattle.wac.proofs.FileLaws.{file_kept}

module _ (b : List ℕ) (used : ℕ) (c : Cert) where
  -- a used length past the buffer is refused
  pub append_past : length b < used → first_of (append_cases b used c) (used + record_bytes) ≡ refuses 16 []
  unfolding append_cases
  append_past h = first_holds _ _ _ (lt-ltb _ _ h)

  -- a used part that is refused is refused alike
  pub append_refused : used ≤ length b → {n : ℕ} {vs : List ℕ} → first_of (file_cases (take used b)) (count_of (take used b)) ≡ refuses n vs → first_of (append_cases b used c) (used + record_bytes) ≡ refuses n vs
  unfolding append_cases
  append_refused h e = first_fails _ _ _ (le-ltb _ _ h) ∙ first_refused (file_cases (take used b)) _ (count_of (take used b)) (used + record_bytes) e

  -- a used part that is accepted leaves the new certificate's refusals
  pub append_given : used ≤ length b → {n : ℕ} → first_of (file_cases (take used b)) (count_of (take used b)) ≡ gives n →
      first_of (append_cases b used c) (used + record_bytes) ≡ first_of (cert_cases (length b) used n c) (used + record_bytes)
  unfolding append_cases
  append_given h e =
      first_fails _ _ _ (le-ltb _ _ h)
      ∙ first_given (file_cases (take used b)) _ (count_of (take used b)) (used + record_bytes) e
      ∙ ap (λ k. first_of (cert_cases (length b) used k c) (used + record_bytes)) (file_kept (take used b) e).1

-- what is known where appending is not refused
pub record Appendable (b : List ℕ) (used : ℕ) (c : Cert) : Type 0 where
  pub accepted : first_of (file_cases (take used b)) (count_of (take used b)) ≡ gives (count_of (take used b))
  pub kept : record_ok (bytes_of c) ≡ true
  pub count : count_of (take used b) ≡ count_of b
  pub not_full : count_of b < certificates
  pub long : header_bytes ≤ used
  pub room : used + record_bytes ≤ length b

module _ (b : List ℕ) (used : ℕ) (c : Cert) where
  -- the new used length is 18 more
  pub append_accepted : {n : ℕ} → first_of (append_cases b used c) (used + record_bytes) ≡ gives n → Appendable b used c × (used + record_bytes ≡ n)
  unfolding append_cases cert_cases
  append_accepted {n} e =
      let past = first_passed _ _ _ e in
      let both = first_both (file_cases (take used b)) _ (count_of (take used b)) (used + record_bytes) past.1 in
      let full = first_passed _ _ _ both.1 in
      let against = first_passed _ _ _ full.1 in
      let room = first_passed _ _ _ against.1 in
      let framed = (file_kept (take used b) both.0).0 in
      let within : used ≤ length b = ltb-false _ _ past.0 in
      let size = length-take used b in
      let sized = framed.sized in
      let long : header_bytes ≤ used = omega arith in
      let same : count_of (take used b) ≡ count_of b = get_or-take used b 5 0 (omega arith) in
      let few = framed.few in
      let other : count_of (take used b) ≡ certificates → ⊥ = eqb-false _ _ full.0 in
      let left : record_bytes ≤ length b - used = ltb-false _ _ room.0 in (
        record {
          accepted = both.0;
          kept = not-false _ against.0;
          count = same;
          not_full = omega arith;
          long = long;
          room = omega arith;
        },
        gives_injective (sym (first_none _) ∙ room.1),
      )
