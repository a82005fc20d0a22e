-- A code determines the answer: neither the number nor the value that comes with it is lost.
use mathlib.Core.Path.{◌≡◌, refl, sym, ap, ◌∙◌}
use mathlib.Core.Bool.{Bool, true, false, cond, not}
use mathlib.Core.List.{List, [], ◌∷◌, ◌++◌}
use Prim.Native.Nat.{ℕ, ◌+◌, ◌<◌}
use native.Mathlib.Omega.{arith}
use lib.Dec.{eqb, leb, ltb}
use lib.ListN.{length, get_or, take}
use lib.Seq.{length-take-le}
use Rattle.wac.specs.Limits.{record_bytes}
use Rattle.wac.specs.Bytes.{AreBytes}
use Rattle.wac.specs.Answers.{Answer, gives, refuses, Case, ◌if◌, ◌of◌if◌, first_of}
use Rattle.wac.specs.Ranges.{record_ok}
use Rattle.wac.specs.File.{count_of, record_at, cert_at, lowest_bad, frame_cases, file_cases}
use Rattle.wac.specs.Writer.{cert_cases, append_cases}
use Rattle.wac.specs.declared.cert.Cert.{Cert}
use Rattle.wac.proofs.Tests.{lowest_most}
use Rattle.wac.proofs.RecordLaws.{take_bytes}
use Rattle.wac.proofs.FileLaws.{file_kept}
use Rattle.wac.proofs.WriterLaws.{append_accepted}
use Rattle.wac.proofs.Unique.{told_apart}
use Rattle.boundary.specs.Coded.{code, coded, cert_coded, cert_of, fields, fields_of, filled, lent_cases, FetchCoded, AppendCoded}

-- a code tells its number and its value, where the value is below 65,536
pub code_apart : {n n' v v' : ℕ} → v < 65536 → v' < 65536 → code n v ≡ code n' v' → (n ≡ n') × (v ≡ v')
code_apart l l' e = (omega arith, omega arith)

-- the values that a number returns, of the one in the code: 15 returns a record, the others nothing
pub valued : ℕ → ℕ → List ℕ
valued n v = cond (eqb n 15) (v ∷ []) []

-- a refusal that its code tells
pub record Tells (n : ℕ) (vs : List ℕ) : Type 0 where
  pub refused : n ≡ 0 → ⊥
  pub few : vs ≡ valued n (get_or vs 0 0)
  pub small : get_or vs 0 0 < 65536

-- an answer that its code tells, where P holds of what is given
abbrev pub Told : {A : Type 0} → (A → Type 0) → Answer A → Type 0
Told P (gives a) = P a
Told P (refuses n vs) = Tells n vs

-- a number that is given is below 65,536; a certificate is not in the code
abbrev pub Small : ℕ → Type 0
Small v = v < 65536

abbrev pub Any : Cert → Type 0
Any c = Unit {0}

-- two refusals with one code are one
refusals_apart : {A : Type 0} {n n' : ℕ} {vs vs' : List ℕ} → Tells n vs → Tells n' vs' → code n (get_or vs 0 0) ≡ code n' (get_or vs' 0 0) → ◌≡◌ {A = Answer A} (refuses n vs) (refuses n' vs')
refusals_apart {n} {n'} {vs} {vs'} h g e =
    let both = code_apart h.small g.small e in
    let same : vs ≡ vs' = h.few ∙ ap (λ m. valued m (get_or vs 0 0)) both.0 ∙ ap (valued n') both.1 ∙ sym g.few in
    ap (λ m. refuses m vs) both.0 ∙ ap (refuses n') same

-- two answers with one code are one
pub coded_apart : (a b : Answer ℕ) → Told Small a → Told Small b → coded a ≡ coded b → a ≡ b
coded_apart (gives v) (gives w) h g e = ap gives (code_apart {n = 0} {n' = 0} h g e).1
coded_apart (gives v) (refuses n vs) h g e = absurd (g.refused (sym (code_apart {n = 0} h g.small e).0))
coded_apart (refuses n vs) (gives w) h g e = absurd (h.refused (code_apart {n' = 0} h.small g e).0)
coded_apart (refuses n vs) (refuses m ws) h g e = refusals_apart h g e

-- a certificate is told by its fields
fields_apart : (c d : Cert) → fields_of c ≡ fields_of d → c ≡ d
fields_apart = told_apart fields_of (λ l. cert_of (get_or l 0 0) (get_or l 1 0) (get_or l 2 0) (get_or l 3 0) (get_or l 4 0) (get_or l 5 0) (get_or l 6 0) (get_or l 7 0) (get_or l 8 0) (get_or l 9 0) (get_or l 10 0) (get_or l 11 0)) (λ c. refl)

-- two answers with one code and one certificate in the lent places are one
cert_coded_apart : (a b : Answer Cert) (lent more : List ℕ) → Told Any a → Told Any b → cert_coded a ≡ cert_coded b → take fields (filled a lent) ≡ take fields (filled b more) → a ≡ b
cert_coded_apart (gives c) (gives d) lent more h g e places = ap gives (fields_apart c d places)
cert_coded_apart (gives c) (refuses n vs) lent more h g e places = absurd (g.refused (sym (code_apart {n = 0} {v = 0} (omega arith) g.small e).0))
cert_coded_apart (refuses n vs) (gives d) lent more h g e places = absurd (h.refused (code_apart {n' = 0} {v' = 0} h.small (omega arith) e).0)
cert_coded_apart (refuses n vs) (refuses m ws) lent more h g e places = refusals_apart h g e

-- each case of a list is told
abbrev AllTold : List Case → Type 0
AllTold [] = Unit {0}
AllTold (c ∷ cases) = Tells c.number c.values × AllTold cases

both_told : (cases more : List Case) → AllTold cases → AllTold more → AllTold (cases ++ more)
both_told [] more h g = g
both_told (c ∷ cases) more h g = (h.0, both_told cases more h.1 g)

-- so is the first that holds
first_told : {A : Type 0} (P : A → Type 0) (cases : List Case) (a : A) → AllTold cases → (first_of cases a ≡ gives a → P a) → Told P (first_of cases a)
unfolding first_of
first_told P [] a h p = p refl
first_told {A} P (c ∷ cases) a h p = turn c.holds p (first_told P cases a h.1)
  where
    turn : (b : Bool) → (cond b (refuses c.number c.values) (first_of cases a) ≡ gives a → P a) → ((first_of cases a ≡ gives a → P a) → Told P (first_of cases a)) →
        Told P (cond b (refuses c.number c.values) (first_of cases a))
    turn true p next = h.0
    turn false p next = next p

-- a number alone, and 15 with a record
tells_alone : (n : ℕ) → (n ≡ 0 → ⊥) → eqb n 15 ≡ false → Tells n []
unfolding valued
tells_alone n ne other = record { refused = ne; few = rw other; small = omega arith }

tells_record : {i : ℕ} → i < 65536 → Tells 15 (i ∷ [])
unfolding valued
tells_record l = record { refused = λ e. omega arith; few = refl; small = l }

module _ (s : List ℕ) (bytes : AreBytes s) where
  file_told : AllTold (file_cases s)
  unfolding file_cases frame_cases lowest_bad
  file_told =
      both_told (frame_cases s) ((15 of lowest_bad s (count_of s) if ltb (lowest_bad s (count_of s)) (count_of s)) ∷ [])
      (tells_alone 10 (λ e. omega arith) refl, (tells_alone 11 (λ e. omega arith) refl, (tells_alone 12 (λ e. omega arith) refl, (tells_alone 13 (λ e. omega arith) refl, (tells_alone 14 (λ e. omega arith) refl, tt)))))
      (tells_record (omega (arith, lowest_most (count_of s) (λ i. not (record_ok (record_at s i))), bytes 5)), tt)

  checked_told : Told Small (first_of (file_cases s) (count_of s))
  checked_told = first_told Small (file_cases s) (count_of s) file_told (λ e. omega (arith, bytes 5))

-- `wac_check` and `wac_count`: one code, one answer
pub check_told : (s t : List ℕ) → AreBytes s → AreBytes t → coded (first_of (file_cases s) (count_of s)) ≡ coded (first_of (file_cases t) (count_of t)) → first_of (file_cases s) (count_of s) ≡ first_of (file_cases t) (count_of t)
check_told s t h g e = coded_apart _ _ (checked_told s h) (checked_told t g) e

lent_told : (s : List ℕ) (n places : ℕ) → AreBytes s → Told Any (first_of (lent_cases s n places) (cert_at s n))
unfolding lent_cases
lent_told s n places bytes =
    first_told Any (lent_cases s n places) (cert_at s n)
    (both_told (file_cases s) ((23 if ltb places fields) ∷ (24 if leb (count_of s) n) ∷ []) (file_told s bytes) (tells_alone 23 (λ e. omega arith) refl, (tells_alone 24 (λ e. omega arith) refl, tt)))
    (λ e. tt)

-- `wac_fetch`: one code and one certificate in the lent places, one answer
pub fetch_told : {s t : List ℕ} {n m r : ℕ} {lent lent' more more' : List ℕ} → AreBytes s → AreBytes t → FetchCoded s n lent r lent' → FetchCoded t m more r more' → take fields lent' ≡ take fields more' →
    first_of (lent_cases s n (length lent)) (cert_at s n) ≡ first_of (lent_cases t m (length more)) (cert_at t m)
fetch_told {lent} {more} bytes bytes' h g e =
    cert_coded_apart _ _ lent more (lent_told _ _ _ bytes) (lent_told _ _ _ bytes') (sym h.answer ∙ g.answer)
    (ap (take fields) (sym h.places) ∙ e ∙ ap (take fields) g.places)

module _ (b : List ℕ) (bytes : AreBytes b) (used : ℕ) (c : Cert) where
  append_cases_told : AllTold (append_cases b used c)
  unfolding append_cases cert_cases
  append_cases_told = (
    tells_alone 16 (λ e. omega arith) refl,
    both_told (file_cases (take used b)) (cert_cases (length b) used (count_of (take used b)) c) (file_told (take used b) (take_bytes b used bytes))
        (tells_alone 13 (λ e. omega arith) refl, (tells_record (omega (arith, take_bytes b used bytes 5)), (tells_alone 16 (λ e. omega arith) refl, tt))),
  )

  appended_told : Told Small (first_of (append_cases b used c) (used + record_bytes))
  appended_told = first_told Small (append_cases b used c) (used + record_bytes) append_cases_told
      (λ e.
      let ok = (append_accepted b used c e).0 in
      let framed = (file_kept (take used b) ok.accepted).0 in
      omega (arith, framed.few, framed.sized, length-take-le used b (omega (arith, ok.room))))

-- `wac_append`: one code, one answer
pub append_told : {b d b' d' : List ℕ} {used spent r : ℕ} {c e : Cert} → AreBytes b → AreBytes d → AppendCoded b used c r b' → AppendCoded d spent e r d' →
    first_of (append_cases b used c) (used + record_bytes) ≡ first_of (append_cases d spent e) (spent + record_bytes)
append_told bytes bytes' h g = coded_apart _ _ (appended_told _ bytes _ _) (appended_told _ bytes' _ _) (sym h.answer ∙ g.answer)
