-- A case that passes its test is right, and P1 to P10 pass it.
use mathlib.Core.Path.{◌≡◌, refl, sym, ap, ◌∙◌}
use mathlib.Core.Logic.{◌⊎◌, inl, inr, ⊎_elim}
use mathlib.Core.Bool.{Bool, true, false, cond, ◌&&◌, ◌||◌, not, false≢true}
use mathlib.Core.List.{List, [], ◌∷◌, ◌++◌}
use mathlib.Core.Option.{Option, none, some, bind}
use Prim.Native.Nat.{ℕ, zero, suc, ◌-◌}
use native.Mathlib.Omega.{arith}
use lib.Dec.{eqb, leb, ltb}
use lib.ListN.{length}
use borrow.Author.Tests.{eqb-true, leb-true, ltb-true, eq-eqb}
use Rattle.wac.specs.Limits.{keys, chain_places}
use Rattle.wac.specs.Bytes.{AreBytes}
use Rattle.wac.specs.Answers as answers
use Rattle.wac.specs.Answers.{gives, refuses, first_of}
use Rattle.wac.specs.File.{count_of, is_wac, cert_at, lowest, lowest_bad, frame_cases, file_cases, listed, certs_of}
use Rattle.wac.specs.Ranges.{names, authorizations, range_at, spare, byte_ok, all_below, record_ok}
use Rattle.wac.specs.Record.{cert_from}
use Rattle.wac.proofs.Cases.{first_both}
use Rattle.rewriting.specs.Weighing.{minutes, steps}
use Rattle.rewriting.specs.Rewriting.{Rules, Config, Question, applied, step, run, at, weighed, Best, Decides, delegate, access}
use Rattle.rewriting.specs.Entries.{Lawful}
use Rattle.rewriting.specs.Passes.{passes, PassCount}
use Rattle.rewriting.specs.Steps.{Fewest, Weighs, by_steps, kept}
use Rattle.rewriting.proofs.Tests.{both_true}
use Rattle.rewriting.proofs.Order.{minutes_by_weakest}
use Rattle.rewriting.proofs.Steps.{kept_lawful}
use Rattle.rewriting.proofs.Settled.{settled_decides, settled_fewest}
use Rattle.decision.specs.Usable.{includes, in_force, usable, symbols_of, rules_of}
use Rattle.decision.specs.Question.{asked, request_cases}
use Rattle.decision.specs.declared.request.Request.{Request}
use Rattle.decision.specs.declared.lens.Lens.TheVariants.{Minutes}
use Rattle.decision.proofs.RulesLaws.{rules_lawful}
use Rattle.decision.proofs.QuestionLaws.{rules_weighty}
use Rattle.judged.specs.File.{dated, certificates, file, empty_file}
use Rattle.judged.specs.Right.{Line, GRANTED, NO-CHAIN, Case, request_in, Says, Right, All}
use Rattle.judged.specs.Cases.{p1, p2, p3, p4, p5, p6, p7, p8, p9, p10, cases}
use Rattle.judged.proofs.Lists.{only, worth, one, told, scaled, spread, reach}
use Rattle.judged.proofs.Rounds.{put, add, ends, raised, opened, round, alike, calm, counts, round_told, calm_settled, counts_passes}

-- Every element is a byte.
bytes? : List ℕ → Bool
bytes? [] = true
bytes? (b ∷ s) = ltb b 256 && bytes? s

bytes_of : (s : List ℕ) → bytes? s ≡ true → AreBytes s
unfolding bytes?
bytes_of [] e i = omega arith
bytes_of (b ∷ s) e zero = ltb-true b 256 (both_true {a = ltb b 256} e).0
bytes_of (b ∷ s) e (suc i) = bytes_of s (both_true {a = ltb b 256} e).1 i

-- No case of a list of refusals holds.
clear? : List answers.Case → Bool
clear? [] = true
clear? (c ∷ cs) = not c.holds && clear? cs

clear_gives : {A : Type 0} (cs : List answers.Case) (a : A) → clear? cs ≡ true → first_of cs a ≡ gives a
unfolding clear? first_of
clear_gives [] a e = refl
clear_gives (c ∷ cs) a e = let b = both_true {a = not c.holds} e in turn c.holds b.0 (clear_gives cs a b.1)
  where
    turn : (b : Bool) → not b ≡ true → first_of cs a ≡ gives a → cond b (refuses c.number c.values) (first_of cs a) ≡ gives a
    turn true h g = absurd (false≢true h)
    turn false h g = g

-- A single mark, and the asker with one.
marked? : List ℕ → Bool
marked? [] = false
marked? (s ∷ []) = eqb s delegate || eqb s access
marked? (s ∷ (x ∷ w)) = false

arrived? : ℕ → Option Config → Bool
arrived? asker none = false
arrived? asker (some c) = eqb c.key asker && marked? c.word

marked_of : (w : List ℕ) → marked? w ≡ true → (w ≡ delegate ∷ []) ⊎ (w ≡ access ∷ [])
unfolding marked?
marked_of [] e = absurd (false≢true e)
marked_of (s ∷ []) e = turn (eqb s delegate) refl e
  where
    turn : (b : Bool) → eqb s delegate ≡ b → (b || eqb s access) ≡ true → (s ∷ [] ≡ delegate ∷ []) ⊎ (s ∷ [] ≡ access ∷ [])
    turn true h t = inl (ap (λ x. x ∷ []) (eqb-true s delegate h))
    turn false h t = inr (ap (λ x. x ∷ []) (eqb-true s access t))
marked_of (s ∷ (x ∷ w)) e = absurd (false≢true e)

arrived_of : (asker : ℕ) (o : Option Config) → arrived? asker o ≡ true → (o ≡ some (at asker delegate)) ⊎ (o ≡ some (at asker access))
unfolding arrived?
arrived_of asker none e = absurd (false≢true e)
arrived_of asker (some c) e =
    let b = both_true e in
    let k = eqb-true c.key asker b.0 in
    ⊎_elim (λ w. inl (λ i. some (record { key = k i; word = w i }))) (λ w. inr (λ i. some (record { key = k i; word = w i }))) (marked_of c.word b.1)

-- After so many passes the steps are settled in every case.
abbrev enough : ℕ
enough = 4

-- The tests of a line: of the number of passes and the settled table of minutes, of the settled table of steps, and of the chain.
minute? : List ℕ → Request → ℕ → ℕ → Bool
minute? s q N m = counts (asked q) (rules_of s q) N && eqb (told minutes (round (asked q) (rules_of s q) (N - 1)) q.owner delegate keys) m

steps? : List ℕ → Request → ℕ → ℕ → Bool
steps? s q m n =
    calm (by_steps (asked q)) (kept minutes m (rules_of s q)) enough
    && eqb (told steps (round (by_steps (asked q)) (kept minutes m (rules_of s q)) enough) q.owner delegate keys) n

chain? : List ℕ → Request → ℕ → ℕ → List ℕ → Bool
chain? s q m n ch = arrived? q.asker (run (rules_of s q) ch (at q.owner delegate)) && eqb (weighed minutes (rules_of s q) ch) m && eqb (length ch) n

line? : List ℕ → Request → Line → Bool
line? s q (GRANTED m n N ch) = minute? s q N m && not (eqb m 0) && steps? s q m n && leb n chain_places && chain? s q m n ch
line? s q (NO-CHAIN N) = minute? s q N 0

case? : Case → Bool
case? c =
    bytes? c.file
    && eqb (count_of c.file) (length c.certificates)
    && clear? (file_cases c.file ++ request_cases (request_in c))
    && ltb c.asker keys
    && not (eqb c.at 0)
    && line? c.file (request_in c) c.line

not_zero : (x : ℕ) → not (eqb x 0) ≡ true → x ≡ 0 → ⊥
not_zero x e z = false≢true (sym (ap not (eq-eqb x 0 z)) ∙ e)

-- What the tests say of a line.
module _ (s : List ℕ) (q : Request) (ok : Lawful (asked q) (rules_of s q)) (later : q.at ≡ 0 → ⊥) where
  abbrev Q : Question
  Q = asked q

  abbrev R : Rules
  R = rules_of s q

  minute_of : (N m : ℕ) → minute? s q N m ≡ true → PassCount Q R N × Decides Q R q.owner m
  unfolding minute?
  minute_of N m e =
      let b = both_true e in
      let pc = counts_passes ok N b.0 in
      let n : N - 1 ≡ pc.before = omega (arith, pc.one_more) in
      let there : passes Q R pc.before q.owner delegate keys ≡ m =
      sym (ap (λ t. t q.owner delegate keys) (round_told ok pc.before)) ∙ sym (ap (λ j. told minutes (round Q R j) q.owner delegate keys) n) ∙ eqb-true _ _ b.1 in
      (pc, rw there at (settled_decides ok pc.before pc.still minutes_by_weakest (rules_weighty s q later) q.owner))

  steps_of : (m n : ℕ) → Best Q R q.owner m → steps? s q m n ≡ true → Fewest (Weighs Q R q.owner m) n
  unfolding steps?
  steps_of m n best e =
      let b = both_true e in
      let ok' = kept_lawful ok minutes m in
      let there : passes (by_steps Q) (kept minutes m R) enough q.owner delegate keys ≡ n =
      sym (ap (λ t. t q.owner delegate keys) (round_told ok' enough)) ∙ eqb-true _ _ b.1 in
      rw there at (settled_fewest ok enough m (calm_settled ok' enough b.0) minutes_by_weakest q.owner best)

  line_of : (l : Line) → line? s q l ≡ true → Says s q l
  unfolding line? chain? minutes
  line_of (GRANTED m n N ch) e =
      let a = both_true e in
      let b = both_true a.0 in
      let c = both_true b.0 in
      let d = both_true c.0 in
      let f = both_true a.1 in
      let g = both_true f.0 in
      let minute = minute_of N m d.0 in
      let best = ⊎_elim (λ h. absurd (not_zero m d.1 h.0)) (λ h. h.1) minute.1 in
      record {
        count = minute.0;
        short = leb-true n chain_places b.1;
        shortest = record {
          best = best;
          weighs = (arrived_of q.asker (run R ch (at q.owner delegate)) g.0, eqb-true _ _ g.1);
          long = eqb-true (length ch) n f.1;
          fewest = steps_of m n best c.1;
        };
      }
  line_of (NO-CHAIN N) e =
      let minute = minute_of N 0 e in
      record { count = minute.0; none = ⊎_elim (λ h. h.1) (λ h. absurd (h.0 refl)) minute.1 }

-- A case that passes its test is right.
right : (c : Case) → certs_of c.file ≡ c.certificates → case? c ≡ true → Right c
unfolding case?
right c read e =
    let a = both_true e in
    let b = both_true a.0 in
    let d = both_true b.0 in
    let f = both_true d.0 in
    let g = both_true f.0 in
    let s = c.file in
    let q = request_in c in
    let long = eqb-true (count_of s) (length c.certificates) g.1 in
    let clear = clear_gives (file_cases s ++ request_cases q) (count_of s) f.1 in
    let accepted = (first_both (file_cases s) (request_cases q) (count_of s) (count_of s) clear).0 in
    let ok = rules_lawful Minutes s q (bytes_of s g.0) accepted (ltb-true c.asker keys d.1) in
    record {
      accepted = accepted ∙ ap gives long;
      read = read;
      admitted = clear ∙ ap gives long;
      says = line_of s q ok (not_zero c.at b.1) c.line a.1;
    }

-- One case, and those after it.
abbrev ◌then◌ : {A B : Type 0} → A → B → A × B
a then b = (a, b)

infixr 20 ◌then◌
-- The cases P1 to P10 are right.
pub judged : All Right cases
unfolding bytes? clear? marked? arrived? minute? steps? chain? line? case?
    dated certificates file empty_file cases certs_of listed cert_at cert_from first_of
    is_wac lowest lowest_bad frame_cases file_cases names authorizations range_at spare byte_ok all_below record_ok request_cases
    includes in_force usable symbols_of rules_of minutes steps kept applied step run weighed
    only worth one told scaled spread reach put add ends raised opened round alike calm counts bind
judged =
    right p1 refl refl
    then right p2 refl refl
    then right p3 refl refl
    then right p4 refl refl
    then right p5 refl refl
    then right p6 refl refl
    then right p7 refl refl
    then right p8 refl refl
    then right p9 refl refl
    then right p10 refl refl
    then tt
