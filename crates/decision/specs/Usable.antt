-- Usable certificates, and what they rewrite: document 01, "Rewriting and usable certificates".
use Rattle.std.specs.Prelude.{Bool, true, cond, ◌&&◌, List, [], ◌∷◌, ◌++◌, ℕ, ◌/◌, ◌%◌, leb, eqb, take}
use Rattle.wac.specs.Limits.{authorization_kind, unused}
use Rattle.wac.specs.File.{count_of, cert_at}
use Rattle.wac.specs.declared.cert.Cert.{Cert}
use Rattle.rewriting.specs.Rewriting.{Rule, Rules}
use Rattle.decision.specs.declared.request.Request.{Request}

-- the rights held include all of those asked: read 1, open 2, sign 4, close 8
unfoldable pub includes : ℕ → ℕ → Bool
includes held asked =
    leb (asked % 2) (held % 2)
    && (leb (asked / 2 % 2) (held / 2 % 2) && (leb (asked / 4 % 2) (held / 4 % 2) && leb (asked / 8 % 2) (held / 8 % 2)))

-- not-before ≤ T ≤ not-after
unfoldable pub in_force : ℕ → Cert → Bool
in_force at c = leb c.not_before at && leb at c.not_after

-- usable at the request's minute for its rights; a name certificate needs only the dates
unfoldable pub usable : Request → Cert → Bool
usable q c = in_force q.at c && cond (eqb c.kind authorization_kind) (includes c.rights q.rights) true

-- the subject's identifiers, then the closing mark if it has one
unfoldable pub symbols_of : Cert → List ℕ
symbols_of c = take c.count (c.ids.0 ∷ c.ids.1 ∷ c.ids.2 ∷ []) ++ cond (eqb c.mark unused) [] (c.mark ∷ [])

-- what a certificate rewrites
abbrev pub rule_of : Cert → Rule
rule_of c = record { from = c.issuer; reads = c.left; to = c.subject; writes = symbols_of c }

-- a file's certificates under a request: each weighs its not-after
unfoldable pub rules_of : List ℕ → Request → Rules
rules_of s q = record {
  count = count_of s;
  rule = λ i. rule_of (cert_at s i);
  live = λ i. usable q (cert_at s i);
  weight = λ i. (cert_at s i).not_after;
}
