-- A certificate, the 18 bytes that hold it, and what a lawful certificate is: document 01, "The certificate file".
use Rattle.std.specs.Prelude.{◌≡◌, ◌⊎◌, List, ◌∷◌, ◌++◌, ℕ, ◌+◌, ◌<◌, ◌≤◌, get_or}
use Rattle.wac.specs.Bytes.{word, word_bytes}
use Rattle.wac.specs.Limits.{keys, identifiers, delegate, access, subject_ids, all_rights, unused, name_kind, authorization_kind, without_end}
use Rattle.wac.specs.declared.cert.Cert.{Cert}

-- the number in the four bytes from `at` on
abbrev pub word_at : List ℕ → ℕ → ℕ
word_at s at = word (get_or s at 0) (get_or s (at + 1) 0) (get_or s (at + 2) 0) (get_or s (at + 3) 0)

-- the certificate that the record s holds
unfoldable pub cert_from : List ℕ → Cert
cert_from s = record {
  kind = get_or s 0 0;
  issuer = get_or s 1 0;
  left = get_or s 2 0;
  subject = get_or s 3 0;
  count = get_or s 4 0;
  ids = record { 0 = get_or s 5 0; 1 = get_or s 6 0; 2 = get_or s 7 0 };
  mark = get_or s 8 0;
  rights = get_or s 9 0;
  not_before = word_at s 10;
  not_after = word_at s 14;
}

-- the record that holds a certificate
unfoldable pub bytes_of : Cert → List ℕ
bytes_of c =
    c.kind ∷ c.issuer ∷ c.left ∷ c.subject ∷ c.count
    ∷ c.ids.0 ∷ c.ids.1 ∷ c.ids.2 ∷ c.mark ∷ c.rights
    ∷ word_bytes c.not_before ++ word_bytes c.not_after

-- a name certificate: an identifier on the left, no closing mark, no rights
pub record IsName (c : Cert) : Type 0 where
  pub kind : c.kind ≡ name_kind
  pub left : c.left < identifiers
  pub mark : c.mark ≡ unused
  pub rights : c.rights ≡ 0

-- an authorization: the mark 10 on the left, a closing mark, a set of rights
pub record IsAuthorization (c : Cert) : Type 0 where
  pub kind : c.kind ≡ authorization_kind
  pub left : c.left ≡ delegate
  pub mark : (c.mark ≡ delegate) ⊎ (c.mark ≡ access)
  pub rights : c.rights ≤ all_rights

-- identifier byte i of a certificate: an identifier below the subject's number of them, unused past it
pub record IdOk (c : Cert) (i id : ℕ) : Type 0 where
  pub used : i < c.count → id < identifiers
  pub past : c.count ≤ i → id ≡ unused

-- the dates are minutes, any unsigned 32-bit numbers
pub record Dated (c : Cert) : Type 0 where
  pub begins : c.not_before ≤ without_end
  pub ends : c.not_after ≤ without_end

-- a lawful certificate: every number is permitted
pub record Lawful (c : Cert) : Type 0 where
  pub sort : IsName c ⊎ IsAuthorization c
  pub issuer : c.issuer < keys
  pub subject : c.subject < keys
  pub count : c.count ≤ subject_ids
  pub first : IdOk c 0 c.ids.0
  pub second : IdOk c 1 c.ids.1
  pub third : IdOk c 2 c.ids.2
  pub dated : Dated c
