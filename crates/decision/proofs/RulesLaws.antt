-- The rules of an accepted file are certificates' rules, and those that a lens sees.
use mathlib.Core.Path.{◌≡◌, refl, ap}
use mathlib.Core.Logic.{◌⊎◌, inl, inr, ⊎_elim}
use mathlib.Core.Bool.{Bool, true, false, ◌&&◌}
use mathlib.Core.List.{List, [], ◌∷◌, ◌++◌}
use Prim.Native.Nat.{ℕ, zero, suc, ◌<◌, max}
use native.Mathlib.Omega.{arith}
use borrow.Author.Tests.{leb-true, leb-false, eq-eqb, ne_eqb}
use lib.Dec.{leb, eqb}
use lib.ListN.{take}
use Rattle.wac.specs.Limits.{keys, identifiers, delegate, access, unused}
use Rattle.wac.specs.Bytes.{AreBytes}
use Rattle.wac.specs.Record.{IsName, IsAuthorization, Lawful as LawfulCert}
use Rattle.wac.specs.File.{count_of, record_at, place_of, cert_at}
use Rattle.wac.specs.declared.cert.Cert.{Cert}
use Rattle.wac.proofs.RecordLaws.{drop_bytes, bytes_dated}
use Rattle.wac.proofs.FileLaws.{accepted_iff_lawful}
use Rattle.rewriting.specs.Weighing.{minutes}
use Rattle.rewriting.specs.Entries.{Names, Closes, Mark, Certificate, Lawful}
use Rattle.rewriting.specs.Steps.{kept}
use Rattle.rewriting.proofs.Steps.{kept_lawful}
use Rattle.decision.specs.Usable.{usable, symbols_of, rule_of, rules_of}
use Rattle.decision.specs.Lens.{question_by, rules_by, live_by, weight_by}
use Rattle.decision.specs.Engine.{Accepted}
use Rattle.decision.specs.declared.inquiry.Inquiry.{Inquiry}
use Rattle.decision.specs.declared.request.Request.{Request}
use Rattle.decision.specs.declared.lens.Lens.{Lens}
use Rattle.decision.specs.declared.lens.Lens.TheVariants.{Minutes, Steps}
use Rattle.decision.proofs.Choices.{when_true, when_false}

-- identifiers and then nothing, or a closing mark
pub names_end : (w : List ℕ) → Names w → Names (w ++ [])
names_end [] h = tt
names_end (s ∷ w) h = (h.0, names_end w h.1)

pub names_close : (w : List ℕ) (m : ℕ) → Names w → Mark m → Closes (w ++ m ∷ [])
names_close [] m h k = inr (k, refl)
names_close (s ∷ w) m h k = inl (h.0, names_close w m h.1 k)

-- the identifiers that a lawful certificate's subject has
ids_named : (c : Cert) → LawfulCert c → (n : ℕ) → c.count ≡ n → Names (take n (c.ids.0 ∷ c.ids.1 ∷ c.ids.2 ∷ []))
ids_named c h zero e = tt
ids_named c h (suc zero) e = (h.first.used (omega arith), tt)
ids_named c h (suc (suc zero)) e = (h.first.used (omega arith), (h.second.used (omega arith), tt))
ids_named c h (suc (suc (suc zero))) e = (h.first.used (omega arith), (h.second.used (omega arith), (h.third.used (omega arith), tt)))
ids_named c h (suc (suc (suc (suc n)))) e = let l = h.count in absurd (omega arith)

-- a lawful certificate's rule
pub rule_certificate : (c : Cert) → LawfulCert c → Certificate keys (rule_of c)
unfolding symbols_of
rule_certificate c h = record { issuer = h.issuer; subject = h.subject; sides = turn h.sort }
  where
    named : Names (take c.count (c.ids.0 ∷ c.ids.1 ∷ c.ids.2 ∷ []))
    named = ids_named c h c.count refl

    turn : IsName c ⊎ IsAuthorization c → ((c.left < identifiers) × Names (symbols_of c)) ⊎ ((c.left ≡ delegate) × Closes (symbols_of c))
    turn (inl n) = inl (n.left, rw (when_true (eqb c.mark unused) [] (c.mark ∷ []) (eq-eqb _ _ n.mark)) (names_end (take c.count (c.ids.0 ∷ c.ids.1 ∷ c.ids.2 ∷ [])) named))
    turn (inr a) =
        let other : c.mark ≡ unused → ⊥ = λ f. ⊎_elim (λ (e : c.mark ≡ delegate). omega arith) (λ (e : c.mark ≡ access). omega arith) a.mark in
        inr (a.left, rw (when_false (eqb c.mark unused) [] (c.mark ∷ []) (ne_eqb _ _ other)) (names_close (take c.count (c.ids.0 ∷ c.ids.1 ∷ c.ids.2 ∷ [])) c.mark named a.mark))

-- what the laws of rewriting ask of a question and its rules
pub rules_lawful : (lens : Lens) (s : List ℕ) (q : Request) → AreBytes s → Accepted s → q.asker < keys → Lawful (question_by lens q.asker) (rules_by lens s q)
unfolding rules_of cert_at minutes
rules_lawful lens s q bytes ok asker = turn lens
  where
    by_minutes_lem : Lawful (question_by Minutes q.asker) (rules_of s q)
    by_minutes_lem = record {
      certificates = λ i h. rule_certificate (cert_at s i) (((accepted_iff_lawful s bytes (count_of s)).0 ok).0.lawful i h);
      weights_fit = λ i. (bytes_dated (record_at s i) (drop_bytes s (place_of i) bytes)).ends;
      asker_is_key = asker;
    }

    turn : (lens : Lens) → Lawful (question_by lens q.asker) (rules_by lens s q)
    turn Minutes = by_minutes_lem
    turn (Steps floor) = kept_lawful by_minutes_lem minutes floor

-- so are those of an inquiry
pub inquiry_lawful : (x : Inquiry) (lens : Lens) → Lawful (question_by lens x.request.asker) (rules_by lens x.file.now x.request)
inquiry_lawful x lens = rules_lawful lens x.file.now x.request x.bytes x.ready.accepted x.ready.asker

-- a test for the greater of two
max_test : (m w : ℕ) → eqb (max m w) w ≡ leb m w
max_test m w = turn (leb m w) refl
  where
    turn : (b : Bool) → leb m w ≡ b → eqb (max m w) w ≡ b
    turn true e = let h = leb-true m w e in eq-eqb (max m w) w (omega arith)
    turn false e = let h = leb-false m w e in ne_eqb (max m w) w (λ q. omega arith)

-- the rules that a lens sees, by the file's certificates
pub rules_count : (lens : Lens) (s : List ℕ) (q : Request) → (rules_by lens s q).count ≡ count_of s
unfolding rules_of kept
rules_count Minutes s q = refl
rules_count (Steps floor) s q = refl

pub rules_rule : (lens : Lens) (s : List ℕ) (q : Request) (i : ℕ) → (rules_by lens s q).rule i ≡ rule_of (cert_at s i)
unfolding rules_of kept
rules_rule Minutes s q i = refl
rules_rule (Steps floor) s q i = refl

pub rules_weight : (lens : Lens) (s : List ℕ) (q : Request) (i : ℕ) → (rules_by lens s q).weight i ≡ weight_by lens (cert_at s i)
unfolding rules_of kept
rules_weight Minutes s q i = refl
rules_weight (Steps floor) s q i = refl

pub rules_live : (lens : Lens) (s : List ℕ) (q : Request) (i : ℕ) → (rules_by lens s q).live i ≡ live_by lens q (cert_at s i)
unfolding rules_of kept minutes
rules_live Minutes s q i = refl
rules_live (Steps floor) s q i = ap (λ b. usable q (cert_at s i) && b) (max_test floor (cert_at s i).not_after)
