-- Laws of reading a record of an accepted file: it is the certificate of that number, which is lawful.
use mathlib.Core.Path.{◌≡◌, sym, ap, ◌∙◌}
use mathlib.Core.List.{List}
use Prim.Native.Nat.{ℕ, ◌<◌}
use Rattle.std.specs.Prelude.{Result, Ok, Err}
use Rattle.wac.specs.Answers.{gives, comes_back}
use Rattle.wac.specs.File.{count_of, cert_at}
use Rattle.wac.specs.View.{ReadAlone}
use Rattle.wac.specs.declared.cert.Cert.{Cert}
use Rattle.wac.specs.declared.refusal.Refusal.{Refusal}
use Rattle.wac.proofs.Cases.{gives_injective, gives_not_refuses}
use Rattle.wac.proofs.ViewLaws.{alone_below}
use Rattle.decision.specs.Engine.{Accepted}

module _ {s : List ℕ} {i : ℕ} {r : Result Cert Refusal} (from : ReadAlone s i r) where
  module _ (ok : Accepted s) (below : i < count_of s) where
    -- an accepted file gives each certificate below its count
    fetched_cert : comes_back r ≡ gives (cert_at s i)
    fetched_cert = from.answer ∙ alone_below s i ok below

    -- so what is read there is that certificate,
    pub fetched_same : {c : Cert} → r ≡ Ok c → c ≡ cert_at s i
    fetched_same e = gives_injective (sym (ap comes_back e) ∙ fetched_cert)

    -- and no refusal
    pub fetched_refused : {why : Refusal} → r ≡ Err why → ⊥
    fetched_refused e = gives_not_refuses (sym fetched_cert ∙ ap comes_back e)
