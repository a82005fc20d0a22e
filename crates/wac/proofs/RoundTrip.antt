-- The round trips: certificates written and read come back the same, and a file's bytes are those of its certificates.
use mathlib.Core.Path.{◌≡◌, refl, sym, ap, ◌∙◌, subst}
use mathlib.Core.List.{List, [], ◌∷◌, ◌++◌, append_assoc}
use Prim.Native.Nat.{ℕ, zero, suc, ◌+◌, ◌*◌, ◌<◌, ◌≤◌}
use native.Mathlib.Nat.{le_of_suc-le-suc, not-suc-le-zero}
use native.Mathlib.Omega.{arith}
use borrow.Author.Tests.{eqb-true}
use lib.ListN.{length, get_or, take, drop, take-append-drop, length-append, length-drop}
use lib.Seq.{drop-drop, drop-append-add}
use Rattle.wac.specs.Limits.{certificates, header_bytes, record_bytes}
use Rattle.wac.specs.Bytes.{AreBytes}
use Rattle.wac.specs.Record.{cert_from, bytes_of, Lawful}
use Rattle.wac.specs.File.{is_wac, count_of, cert_at, listed, certs_of, records_of, file_of, AllLawful, Framed, LawfulFile}
use Rattle.wac.specs.declared.cert.Cert.{Cert}
use Rattle.std.proofs.lemmas.Bool.{and_parts}
use Rattle.wac.proofs.RecordLaws.{drop_bytes, read_back, word_written}

module _ {A : Type 0} where
  pub length_listed : (n : ℕ) (f : ℕ → A) → length (listed n f) ≡ n
  unfolding listed
  length_listed zero f = refl
  length_listed (suc n) f = ap suc (length_listed n (λ k. f (suc k)))

  pub get_d_listed : (n : ℕ) (f : ℕ → A) (i : ℕ) (d : A) → i < n → get_or (listed n f) i d ≡ f i
  unfolding listed
  get_d_listed zero f i d h = absurd (not-suc-le-zero h)
  get_d_listed (suc n) f zero d h = refl
  get_d_listed (suc n) f (suc i) d h = get_d_listed n (λ k. f (suc k)) i d (le_of_suc-le-suc h)

  pub listed_same : (n : ℕ) (f g : ℕ → A) → ((k : ℕ) → f k ≡ g k) → listed n f ≡ listed n g
  unfolding listed
  listed_same zero f g h = refl
  listed_same (suc n) f g h = rw (h zero) (ap (λ r. g zero ∷ r) (listed_same n (λ k. f (suc k)) (λ k. g (suc k)) (λ k. h (suc k))))

-- the first n elements of a list, one by one
pub take_listed : (n : ℕ) (s : List ℕ) → n ≤ length s → take n s ≡ listed n (λ i. get_or s i 0)
unfolding listed
take_listed zero s h = refl
take_listed (suc n) [] h = absurd (not-suc-le-zero h)
take_listed (suc n) (x ∷ s) h = ap (λ r. x ∷ r) (take_listed n s (le_of_suc-le-suc h))

-- the certificate of 18 bytes, written, is those bytes
pub written_back : (s : List ℕ) → AreBytes s → record_bytes ≤ length s → bytes_of (cert_from s) ≡ take record_bytes s
unfolding bytes_of cert_from listed
written_back s bytes h =
    let begins = word_written _ _ _ _ (bytes 10) (bytes 11) (bytes 12) (bytes 13) in
    let ends = word_written _ _ _ _ (bytes 14) (bytes 15) (bytes 16) (bytes 17) in
    rw (begins.0, begins.1, begins.2, begins.3, ends.0, ends.1, ends.2, ends.3) (sym (take_listed record_bytes s h))

-- as many records as a list of bytes holds, read and written, are those bytes
records_written : (n : ℕ) (t : List ℕ) → AreBytes t → length t ≡ record_bytes * n → records_of (listed n (λ i. cert_from (drop (record_bytes * i) t))) ≡ t
unfolding records_of listed
records_written zero [] bytes e = refl
records_written zero (x ∷ t) bytes e = absurd (omega arith)
records_written (suc n) t bytes e =
    let long : record_bytes ≤ length t = omega arith in
    let size : length (drop record_bytes t) ≡ record_bytes * n = length-drop record_bytes t ∙ omega arith in
    let next : listed n (λ k. cert_from (drop (record_bytes * suc k) t)) ≡ listed n (λ k. cert_from (drop (record_bytes * k) (drop record_bytes t))) =
    listed_same n _ _ (λ k. ap cert_from (later k)) in
    rw (next, written_back t bytes long, records_written n (drop record_bytes t) (drop_bytes t record_bytes bytes) size) (take-append-drop record_bytes t)
  where
    later : (k : ℕ) → drop (record_bytes * suc k) t ≡ drop (record_bytes * k) (drop record_bytes t)
    later k = let same : record_bytes * suc k ≡ record_bytes + record_bytes * k = omega arith in ap (λ m. drop m t) same ∙ sym (drop-drop (record_bytes * k) record_bytes t)

-- as many certificates as the count says
pub length_certs : (s : List ℕ) → length (certs_of s) ≡ count_of s
unfolding certs_of
length_certs s = length_listed (count_of s) (cert_at s)

-- a file's certificates stand from byte 6 on
certs_after : (s : List ℕ) → certs_of s ≡ listed (count_of s) (λ i. cert_from (drop (record_bytes * i) (drop header_bytes s)))
unfolding certs_of cert_at
certs_after s = listed_same (count_of s) _ _ (λ i. ap cert_from (sym (drop-drop (record_bytes * i) header_bytes s)))

-- every framed file is exactly the bytes of its certificates
pub file_written_back : (s : List ℕ) → AreBytes s → Framed s → file_of (certs_of s) ≡ s
unfolding file_of is_wac listed
file_written_back s bytes framed =
    let marked = and_parts _ _ framed.mark in
    let marked' = and_parts _ _ marked.1 in
    let w : get_or s 0 0 ≡ 87 = eqb-true _ _ marked.0 in
    let a : get_or s 1 0 ≡ 65 = eqb-true _ _ marked'.0 in
    let c : get_or s 2 0 ≡ 67 = eqb-true _ _ marked'.1 in
    let low = framed.versioned in
    let high : get_or s 3 0 ≡ 0 = omega arith in
    let one : get_or s 4 0 ≡ 1 = omega arith in
    let sized = framed.sized in
    let size : length (drop header_bytes s) ≡ record_bytes * count_of s = length-drop header_bytes s ∙ omega arith in
    let head : take header_bytes s ≡ 87 ∷ 65 ∷ 67 ∷ 0 ∷ 1 ∷ count_of s ∷ [] = take_listed 6 s (omega arith) ∙ rw (w, a, c, high, one) in
    let body = records_written (count_of s) (drop header_bytes s) (drop_bytes s header_bytes bytes) size in
    ap (λ cs. 87 ∷ 65 ∷ 67 ∷ 0 ∷ 1 ∷ length cs ∷ records_of cs) (certs_after s)
    ∙ rw (body, length_listed (count_of s) (λ i. cert_from (drop (record_bytes * i) (drop header_bytes s))))
    (ap (λ h. h ++ drop header_bytes s) (sym head) ∙ take-append-drop header_bytes s)

-- lawful certificates, written one after another and read, are themselves
records_read : (cs : List Cert) → AllLawful cs → listed (length cs) (λ i. cert_from (drop (record_bytes * i) (records_of cs))) ≡ cs
unfolding records_of listed bytes_of
records_read [] h = refl
records_read (c ∷ cs) h =
    rw (read_back c h.0.dated (records_of cs)) (ap (λ r. c ∷ r) (listed_same (length cs) _ _ (λ k. ap cert_from (later k)) ∙ records_read cs h.1))
  where
    later : (k : ℕ) → drop (record_bytes * suc k) (bytes_of c ++ records_of cs) ≡ drop (record_bytes * k) (records_of cs)
    later k = let same : record_bytes * suc k ≡ record_bytes + record_bytes * k = omega arith in
        ap (λ m. drop m (bytes_of c ++ records_of cs)) same ∙ drop-append-add (bytes_of c) (records_of cs) (record_bytes * k)

-- the file of lawful certificates reads as those certificates
pub file_read_back : (cs : List Cert) → AllLawful cs → certs_of (file_of cs) ≡ cs
unfolding file_of
file_read_back cs h = certs_after (file_of cs) ∙ records_read cs h

length_records : (cs : List Cert) → length (records_of cs) ≡ record_bytes * length cs
unfolding records_of bytes_of
length_records [] = refl
length_records (c ∷ cs) = length-append (bytes_of c) (records_of cs) ∙ rw (length_records cs) (omega arith)

-- a lawful list's certificates are lawful one by one
all_at : (cs : List Cert) → AllLawful cs → (i : ℕ) → i < length cs → (d : Cert) → Lawful (get_or cs i d)
all_at [] h i l d = absurd (not-suc-le-zero l)
all_at (c ∷ cs) h zero l d = h.0
all_at (c ∷ cs) h (suc i) l d = all_at cs h.1 i (le_of_suc-le-suc l) d

-- the file of at most 128 lawful certificates is lawful
pub file_of_lawful : (cs : List Cert) → AllLawful cs → length cs ≤ certificates → LawfulFile (file_of cs)
unfolding file_of is_wac certs_of
file_of_lawful cs h few = record {
  framed = record { mark = refl; versioned = refl; few = few; sized = omega (arith, length_records cs) };
  lawful = λ i l. subst Lawful
      (ap (λ ds. get_or ds i (cert_from [])) (sym (file_read_back cs h)) ∙ get_d_listed (length cs) (cert_at (file_of cs)) i (cert_from []) l)
      (all_at cs h i l (cert_from []));
}

pub records_append : (cs ds : List Cert) → records_of (cs ++ ds) ≡ records_of cs ++ records_of ds
unfolding records_of
records_append [] ds = refl
records_append (c ∷ cs) ds = ap (λ r. bytes_of c ++ r) (records_append cs ds) ∙ sym (append_assoc (bytes_of c) (records_of cs) (records_of ds))

pub all_append : (cs ds : List Cert) → AllLawful cs → AllLawful ds → AllLawful (cs ++ ds)
all_append [] ds h k = k
all_append (c ∷ cs) ds h k = (h.0, all_append cs ds h.1 k)

all_listed : (n : ℕ) (f : ℕ → Cert) → ((i : ℕ) → i < n → Lawful (f i)) → AllLawful (listed n f)
unfolding listed
all_listed zero f h = tt
all_listed (suc n) f h = (h zero (omega arith), all_listed n (λ k. f (suc k)) (λ k l. h (suc k) (omega arith)))

-- the certificates of a lawful file are lawful
pub certs_lawful : (s : List ℕ) → LawfulFile s → AllLawful (certs_of s)
unfolding certs_of
certs_lawful s h = all_listed (count_of s) (cert_at s) h.lawful
