-- `wac_fetch` meets its contract: what the view's check refuses, the lent places, then what the view fetches.
use mathlib.Core.Path.{◌≡◌, sym, ap, ◌∙◌}
use mathlib.Core.List.{List, []}
use Prim.Native.Nat.{ℕ, ◌<◌, ◌≤◌}
use borrow.Author.Tests.{lt-ltb, le-ltb}
use Rattle.boundary.specs.Coded.{fields, lent_cases, cert_coded, filled}
use Rattle.wac.specs.Answers.{gives, refuses, first_of, comes_back}
use Rattle.wac.specs.File.{count_of, cert_at, file_cases}
use Rattle.wac.specs.View.{fetch_cases}
use Rattle.wac.proofs.ViewLaws.{view_counts, view_fetches}
use Rattle.wac.proofs.Cases.{first_holds, first_fails, first_refused, first_given}
use Rattle.boundary.proofs.wac_fetch.Goals as goal

module _ (s : List ℕ) (n places : ℕ) where
  -- a file that is refused is refused alike
  lent-refused : {m : ℕ} {vs : List ℕ} → first_of (file_cases s) (count_of s) ≡ refuses m vs → first_of (lent_cases s n places) (cert_at s n) ≡ refuses m vs
  unfolding lent_cases
  lent-refused e = first_refused (file_cases s) _ (count_of s) (cert_at s n) e

  -- an accepted file and too few places
  lent-few : {k : ℕ} → first_of (file_cases s) (count_of s) ≡ gives k → places < fields → first_of (lent_cases s n places) (cert_at s n) ≡ refuses 23 []
  unfolding lent_cases
  lent-few e l = first_given (file_cases s) _ (count_of s) (cert_at s n) e ∙ first_holds _ _ _ (lt-ltb _ _ l)

  -- an accepted file and enough places leave what fetching says
  lent-fetched : {k : ℕ} → first_of (file_cases s) (count_of s) ≡ gives k → fields ≤ places → first_of (lent_cases s n places) (cert_at s n) ≡ first_of (fetch_cases s n) (cert_at s n)
  unfolding lent_cases fetch_cases
  lent-fetched e l =
      first_given (file_cases s) _ (count_of s) (cert_at s n) e
      ∙ first_fails _ _ _ (le-ltb _ _ l)
      ∙ sym (first_given (file_cases s) _ (count_of s) (cert_at s n) e)

pub returns-in-Err : goal.returns-in-Err
returns-in-Err c =
    let lent = c.args.lent.now in
    let refused = sym (view_counts _ _ c.of-view.ensures c.count.result c.count.ensures) ∙ ap comes_back c.in-Err.is in
    let found = lent-refused _ _ _ refused in
    record { answer = c.refusal_code.ensures ∙ sym (ap cert_coded found); places = sym (ap (λ a. filled a lent) found) }

pub returns-then-lent-lt-FIELDS : goal.returns-then-lent-lt-FIELDS
returns-then-lent-lt-FIELDS c =
    let lent = c.args.lent.now in
    let accepted = sym (view_counts _ _ c.of-view.ensures c.count.result c.count.ensures) ∙ ap comes_back c.in_default.is in
    let found = lent-few _ _ _ accepted c.if-lent-lt-FIELDS.true in
    record { answer = c.code_of.ensures ∙ sym (ap cert_coded found); places = sym (ap (λ a. filled a lent) found) }

pub returns-in-Ok : goal.returns-in-Ok
returns-in-Ok c =
    let lent = c.args.lent.now in
    let accepted = sym (view_counts _ _ c.of-view.ensures c.count.result c.count.ensures) ∙ ap comes_back c.in_default.is in
    let fetched = (view_fetches _ _ c.of-view.ensures c.args.n c.fetch.result c.fetch.ensures).answer in
    let found = lent-fetched _ _ _ accepted c.if-lent-lt-FIELDS.false ∙ sym fetched ∙ ap comes_back c.in-Ok.is in
    record { answer = c.code_of-in-Ok.ensures ∙ sym (ap cert_coded found); places = c.fill.ensures ∙ sym (ap (λ a. filled a lent) found) }

pub returns-in-Err-fetch : goal.returns-in-Err-fetch
returns-in-Err-fetch c =
    let lent = c.args.lent.now in
    let accepted = sym (view_counts _ _ c.of-view.ensures c.count.result c.count.ensures) ∙ ap comes_back c.in_default.is in
    let fetched = (view_fetches _ _ c.of-view.ensures c.args.n c.fetch.result c.fetch.ensures).answer in
    let found = lent-fetched _ _ _ accepted c.if-lent-lt-FIELDS.false ∙ sym fetched ∙ ap comes_back c.in-Err-fetch.is in
    record { answer = c.refusal_code-in-Err-fetch.ensures ∙ sym (ap cert_coded found); places = sym (ap (λ a. filled a lent) found) }
