-- Laws of reading a record alone, and of a view: what it fetches and counts is what the check of the whole file and the number say.
use mathlib.Core.Path.{◌≡◌, refl, sym, ap, ◌∙◌, subst}
use mathlib.Core.Bool.{Bool, true, false, not}
use mathlib.Core.List.{List, [], ◌∷◌}
use Prim.Native.Nat.{ℕ, ◌<◌}
use borrow.Author.Tests.{lt-leb, leb-false}
use denote.Ref.{Bor}
use lib.Dec.{leb}
use Rattle.std.specs.Prelude.{Result, Ok, Err}
use Rattle.wac.specs.Bytes.{AreBytes}
use Rattle.wac.specs.Answers.{Answer, gives, refuses, ◌if◌, first_of, comes_back}
use Rattle.wac.specs.Record.{Lawful}
use Rattle.wac.specs.File.{count_of, place_of, record_at, cert_at, frame_cases, file_cases}
use Rattle.wac.specs.View.{number_cases, alone_cases, fetch_cases, after, InRanges, ViewOf, FetchedBy, FetchedFrom}
use Rattle.wac.specs.declared.refusal.Refusal.{Refusal}
use Rattle.wac.specs.declared.cert.Cert.{Cert}
use Rattle.wac.specs.declared.view.View.{View}
use Rattle.wac.proofs.Cases.{first_none, first_holds, first_fails, first_passed, first_refused, first_given, first_both, gives_injective}
use Rattle.std.proofs.lemmas.Bool.{not-false}
use Rattle.wac.proofs.FileLaws.{frame_accepted, framed_accepted, file_kept}
use Rattle.wac.proofs.RecordLaws.{drop_bytes, bytes_dated, kept_lawful}

module _ (s : List ℕ) (n : ℕ) where
  -- a file whose frame is refused is refused alike
  pub alone_refused : {m : ℕ} {vs : List ℕ} → first_of (frame_cases s) (count_of s) ≡ refuses m vs → first_of (alone_cases s n) (cert_at s n) ≡ refuses m vs
  unfolding alone_cases
  alone_refused e = first_refused (frame_cases s) _ (count_of s) (cert_at s n) e

  -- a framed file leaves the number's refusals
  pub alone_given : {k : ℕ} → first_of (frame_cases s) (count_of s) ≡ gives k → first_of (alone_cases s n) (cert_at s n) ≡ first_of (number_cases s k n) (cert_at s n)
  unfolding alone_cases
  alone_given e =
      first_given (frame_cases s) _ (count_of s) (cert_at s n) e
      ∙ ap (λ k. first_of (number_cases s k n) (cert_at s n)) (frame_accepted s e).1

  -- what is read is in its ranges
  pub alone_ranges : AreBytes s → (r : Result Cert Refusal) → comes_back r ≡ first_of (alone_cases s n) (cert_at s n) → InRanges (comes_back r)
  unfolding alone_cases number_cases cert_at
  alone_ranges bytes (Err why) e = tt
  alone_ranges bytes (Ok c) e =
      let both = first_both (frame_cases s) _ (count_of s) (cert_at s n) (sym e) in
      let number = first_passed _ _ _ both.1 in
      let kept = first_passed _ _ _ number.1 in
      subst Lawful (gives_injective (sym (first_none _) ∙ kept.1))
      (kept_lawful (record_at s n) (bytes_dated (record_at s n) (drop_bytes s (place_of n) bytes)) (not-false _ kept.0))

  -- in an accepted file each record below the count is read
  pub alone_below : {k : ℕ} → first_of (file_cases s) (count_of s) ≡ gives k → n < count_of s → first_of (alone_cases s n) (cert_at s n) ≡ gives (cert_at s n)
  unfolding number_cases
  alone_below e below =
      let kept = file_kept s e in
      alone_given (framed_accepted s kept.0)
      ∙ first_fails _ _ _ (lt-leb (count_of s) n below)
      ∙ first_fails _ _ _ (ap not (kept.2 n below))
      ∙ first_none _

  -- the check of the whole file and then the record alone: the file's refusals, then 24
  checked_then : (a : Answer ℕ) → first_of (file_cases s) (count_of s) ≡ a → after a (first_of (alone_cases s n) (cert_at s n)) ≡ first_of (fetch_cases s n) (cert_at s n)
  unfolding fetch_cases number_cases
  checked_then (refuses m vs) e = sym (first_refused (file_cases s) _ (count_of s) (cert_at s n) e)
  checked_then (gives k) e = turn (leb (count_of s) n) refl ∙ sym (first_given (file_cases s) _ (count_of s) (cert_at s n) e)
    where
      turn : (b : Bool) → leb (count_of s) n ≡ b → first_of (alone_cases s n) (cert_at s n) ≡ first_of ((24 if leb (count_of s) n) ∷ []) (cert_at s n)
      turn true past = alone_given (framed_accepted s (file_kept s e).0) ∙ first_holds _ _ _ past ∙ sym (first_holds _ _ _ past)
      turn false below = alone_below e (leb-false _ _ below) ∙ sym (first_fails _ _ _ below ∙ first_none _)

module _ (lent : Bor (List ℕ)) (v : View) (of : ViewOf lent v) where
  -- by the view of a file each certificate is fetched as the whole file says: 10 to 15, then 24
  pub view_fetches : (n : ℕ) (r : Result Cert Refusal) → FetchedBy v.kept v.file.now n r → FetchedFrom lent.now n r
  view_fetches n r by = record {
    answer =
        by.answer
        ∙ ap (λ x. after (comes_back v.kept) (first_of (alone_cases x.now n) (cert_at x.now n))) of.file
        ∙ checked_then lent.now n (comes_back v.kept) (sym of.kept);
    ranges = by.ranges;
  }

  -- and counted as its check does
  pub view_counts : (r : Result ℕ Refusal) → r ≡ v.kept → comes_back r ≡ first_of (file_cases lent.now) (count_of lent.now)
  view_counts r e = ap comes_back e ∙ of.kept
