-- Two results that meet a contract are the same. Where a contract is an equation for the result there is nothing to show; these are the others.
use mathlib.Core.Path.{◌≡◌, refl, sym, ap, ◌∙◌}
use mathlib.Core.Bool.{cond}
use mathlib.Core.List.{List}
use Prim.Native.Nat.{ℕ}
use denote.Ref.{Bor}
use lib.Dec.{eqb}
use lib.ListN.{get_or}
use Rattle.std.specs.Prelude.{Result, Ok, Err}
use Rattle.wac.specs.Answers.{Answer, gives, refuses, number_of, values_of, comes_back}
use Rattle.wac.specs.View.{ReadAlone, ViewOf, FetchedBy, FetchedFrom}
use Rattle.wac.specs.Writer.{AppendedTo}
use Rattle.wac.specs.declared.cert.Cert.{Cert}
use Rattle.wac.specs.declared.refusal.Refusal.{Refusal}
use Rattle.wac.specs.declared.refusal.Refusal.TheVariants.{Short, NotWac, Version, TooMany, Length, Against, Room, NoSuch}
use Rattle.wac.specs.declared.view.View.{View}

-- what has a way back is told apart by what it goes to
pub told_apart : {A B : Type 0} (f : A → B) (back : B → A) → ((a : A) → back (f a) ≡ a) → (a b : A) → f a ≡ f b → a ≡ b
told_apart f back same a b e = sym (same a) ∙ ap back e ∙ same b

-- the refusal of a number, with the record's number where it has one
pub refusal_of : ℕ → List ℕ → Refusal
refusal_of n vs =
    cond (eqb n 10) Short
    (cond (eqb n 11) NotWac
    (cond (eqb n 12) Version
    (cond (eqb n 13) TooMany (cond (eqb n 14) Length (cond (eqb n 15) (Against (get_or vs 0 0)) (cond (eqb n 16) Room NoSuch))))))

pub refusal_back : (why : Refusal) → refusal_of (number_of why) (values_of why) ≡ why
unfolding refusal_of
refusal_back Short = refl
refusal_back NotWac = refl
refusal_back Version = refl
refusal_back TooMany = refl
refusal_back Length = refl
refusal_back (Against i) = refl
refusal_back Room = refl
refusal_back NoSuch = refl

result_of : {A : Type 0} → Answer A → Result A Refusal
result_of (gives a) = Ok a
result_of (refuses n vs) = Err (refusal_of n vs)

result_back : {A : Type 0} (r : Result A Refusal) → result_of (comes_back r) ≡ r
unfolding result_of
result_back (Ok a) = refl
result_back (Err why) = ap Err (refusal_back why)

-- what comes back determines the result
pub back_unique : {A : Type 0} (r q : Result A Refusal) → comes_back r ≡ comes_back q → r ≡ q
back_unique r q e = told_apart comes_back result_of result_back r q e

-- `check`: one answer, one result
pub check_unique : (r q : Result ℕ Refusal) (a : Answer ℕ) → comes_back r ≡ a → comes_back q ≡ a → r ≡ q
check_unique r q a e f = back_unique r q (e ∙ sym f)

-- `View::of`: one view
pub view_unique : (lent : Bor (List ℕ)) (v w : View) → ViewOf lent v → ViewOf lent w → v ≡ w
view_unique lent v w e f =
    let file : v.file ≡ w.file = e.file ∙ sym f.file in
    let kept : v.kept ≡ w.kept = check_unique v.kept w.kept _ e.kept f.kept in
    λ i. record { file = file i; kept = kept i }

-- `record_alone`: one result
pub alone_unique : (s : List ℕ) (n : ℕ) (r q : Result Cert Refusal) → ReadAlone s n r → ReadAlone s n q → r ≡ q
alone_unique s n r q e f = back_unique r q (e.answer ∙ sym f.answer)

-- `fetch_in`: one result
pub fetch_unique : (s : List ℕ) (n : ℕ) (r q : Result Cert Refusal) → FetchedFrom s n r → FetchedFrom s n q → r ≡ q
fetch_unique s n r q e f = back_unique r q (e.answer ∙ sym f.answer)

-- `View::fetch`: one result, whatever the view holds
pub fetched_by_unique : (kept : Result ℕ Refusal) (s : List ℕ) (n : ℕ) (r q : Result Cert Refusal) → FetchedBy kept s n r → FetchedBy kept s n q → r ≡ q
fetched_by_unique kept s n r q e f = back_unique r q (e.answer ∙ sym f.answer)

-- `append`: one result, and one buffer
pub append_unique : (b : List ℕ) (used : ℕ) (c : Cert) (r q : Result ℕ Refusal) (b' b'' : List ℕ) → AppendedTo b used c r b' → AppendedTo b used c q b'' → (r ≡ q) × (b' ≡ b'')
append_unique b used c r q b' b'' e f = (back_unique r q (e.answer ∙ sym f.answer), e.buffer ∙ sym f.buffer)
