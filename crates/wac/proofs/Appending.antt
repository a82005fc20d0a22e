-- What appending does to the file: it reads as before, with the new certificate last, and no other byte changes.
use mathlib.Core.Path.{◌≡◌, refl, sym, ap, ◌∙◌, subst}
use mathlib.Core.Bool.{not}
use mathlib.Core.Logic.{◌⊎◌, inl, inr}
use mathlib.Core.List.{List, [], ◌∷◌, ◌++◌, append-nil, append_assoc}
use Prim.Native.Nat.{ℕ, ◌+◌, ◌*◌, ◌-◌, ◌<◌, ◌≤◌}
use native.Mathlib.Omega.{arith}
use borrow.Author.Tests.{le-ltb, ne_eqb}
use lib.ListN.{length, get_or, take, set, length-append, length-set, length-take, get_or-append}
use lib.Seq.{get_or-take, take-paste, drop-paste, length-paste, take-set-lt, get_or-set_other, get_or-drop}
use Rattle.std.specs.Prelude.{Result, Ok, Err}
use Rattle.wac.specs.Limits.{certificates, header_bytes, record_bytes}
use Rattle.wac.specs.Bytes.{AreBytes}
use Rattle.wac.specs.Answers.{gives, first_of, comes_back}
use Rattle.wac.specs.Record.{bytes_of, Dated, Lawful}
use Rattle.wac.specs.File.{count_of, place_of, certs_of, records_of, file_of, AllLawful, LawfulFile}
use Rattle.wac.specs.Writer.{cert_cases, append_cases, written, left, AppendedTo, used_after, InTurn}
use Rattle.wac.specs.declared.cert.Cert.{Cert}
use Rattle.wac.specs.declared.refusal.Refusal.{Refusal}
use Rattle.wac.proofs.Cases.{first_none, first_fails, gives_injective, gives_not_refuses}
use Rattle.wac.proofs.RecordLaws.{take_bytes, kept_iff_lawful}
use Rattle.wac.proofs.FileLaws.{accepted_iff_lawful, lawful_accepted}
use Rattle.wac.proofs.WriterLaws.{Appendable, append_given, append_accepted}
use Rattle.wac.proofs.RoundTrip.{length_certs, records_append, all_append, certs_lawful, file_written_back, file_read_back, file_of_lawful}

module _ (b : List ℕ) (used : ℕ) (c : Cert) where
  -- after a file of certificates the new one is written
  written_file : (cs : List Cert) → Appendable b used c → take used b ≡ file_of cs → take (used + record_bytes) (written b used c) ≡ file_of (cs ++ (c ∷ []))
  unfolding written file_of records_of bytes_of
  written_file cs ok e =
      let v = count_of b + 1 in
      let raised = set b 5 v in
      let within : used ≤ length raised = rw (length-set b 5 v) (omega (arith, ok.room)) in
      let same : length cs ≡ count_of b = sym (ap count_of e) ∙ ok.count in
      let count : v ≡ length (cs ++ (c ∷ [])) = sym (length-append cs (c ∷ []) ∙ omega (arith, same)) in
      let body : records_of cs ++ bytes_of c ≡ records_of (cs ++ (c ∷ [])) = sym (records_append cs (c ∷ [])) in
      take-paste raised used (bytes_of c) record_bytes within (omega arith)
      ∙ ap (λ s. s ++ bytes_of c) (take-set-lt used b 5 v (omega (arith, ok.long)))
      ∙ ap (λ s. set s 5 v ++ bytes_of c) e
      ∙ rw (count, body)

  -- the buffer stays as long as it was
  written_long : used + record_bytes ≤ length b → length (written b used c) ≡ length b
  unfolding written bytes_of
  written_long room =
      let v = count_of b + 1 in
      length-paste (set b 5 v) used (bytes_of c) record_bytes (rw (length-set b 5 v) room) (omega arith) ∙ length-set b 5 v

  -- a lawful file that is not full, a lawful certificate and room for it are never refused
  pub append_accepts : LawfulFile (take used b) → count_of (take used b) < certificates → Lawful c → used + record_bytes ≤ length b → {r : Result ℕ Refusal} {b' : List ℕ} → AppendedTo b used c r b' → (r ≡ Ok (used + record_bytes)) × (b' ≡ written b used c)
  unfolding cert_cases left
  append_accepts file not_full new room {r} {b'} to =
      let given =
      append_given b used c (omega arith) (lawful_accepted (take used b) file)
      ∙ first_fails _ _ _ (ne_eqb (count_of (take used b)) certificates (λ e. omega arith))
      ∙ first_fails _ _ _ (ap not ((kept_iff_lawful c new.dated).1 new))
      ∙ first_fails _ _ _ (le-ltb (length b - used) record_bytes (omega arith))
      ∙ first_none _ in (
        append_unique_answer r (to.answer ∙ given),
        to.buffer ∙ ap (λ a. left a b used c) given,
      )
    where
      append_unique_answer : (r : Result ℕ Refusal) {n : ℕ} → comes_back r ≡ gives n → r ≡ Ok n
      append_unique_answer (Ok m) e = ap Ok (gives_injective e)
      append_unique_answer (Err why) e = absurd (gives_not_refuses (sym e))

module _ (b : List ℕ) (bytes : AreBytes b) (used : ℕ) (c : Cert) (dated : Dated c) {n : ℕ} (accepted : first_of (append_cases b used c) (used + record_bytes) ≡ gives n) where
  -- the file before
  lawful_before : LawfulFile (take used b)
  lawful_before =
      ((accepted_iff_lawful (take used b) (take_bytes b used bytes) (count_of (take used b))).0 (append_accepted b used c accepted).0.accepted).0

  -- the used bytes after are those of the certificates before and the new one
  pub append_file : take n (written b used c) ≡ file_of (certs_of (take used b) ++ (c ∷ []))
  append_file =
      let both = append_accepted b used c accepted in
      ap (λ m. take m (written b used c)) (sym both.1)
      ∙ written_file b used c (certs_of (take used b)) both.0 (sym (file_written_back (take used b) (take_bytes b used bytes) lawful_before.framed))

  -- so the file after is lawful, and reads as before with the new certificate last
  pub append_adds : LawfulFile (take n (written b used c)) × (certs_of (take n (written b used c)) ≡ certs_of (take used b) ++ (c ∷ []))
  append_adds =
      let ok = (append_accepted b used c accepted).0 in
      let new : Lawful c = (kept_iff_lawful c dated).0 ok.kept in
      let all = all_append (certs_of (take used b)) (c ∷ []) (certs_lawful (take used b) lawful_before) (new, tt) in
      let few : length (certs_of (take used b) ++ (c ∷ [])) ≤ certificates =
      rw (length-append (certs_of (take used b)) (c ∷ [])) (omega (arith, length_certs (take used b), ok.count, ok.not_full)) in (
        subst LawfulFile (sym append_file) (file_of_lawful (certs_of (take used b) ++ (c ∷ [])) all few),
        ap certs_of append_file ∙ file_read_back (certs_of (take used b) ++ (c ∷ [])) all,
      )

  -- byte 5 and the next 18 bytes are written, and no others
  pub append_elsewhere : (i : ℕ) → (i ≡ 5 → ⊥) → (i < used) ⊎ (n ≤ i) → get_or (written b used c) i 0 ≡ get_or b i 0
  unfolding written bytes_of
  append_elsewhere i five (inl h) =
      let ok = (append_accepted b used c accepted).0 in
      let raised = set b 5 (count_of b + 1) in
      let size : length (take used raised) ≡ used = length-take used raised ∙ omega (arith, length-set b 5 (count_of b + 1), ok.room) in
      get_or-append (take used raised ++ bytes_of c) _ 0 i (omega (arith, length-append (take used raised) (bytes_of c)))
      ∙ get_or-append (take used raised) (bytes_of c) 0 i (rw size h)
      ∙ get_or-take used raised i 0 h ∙ get_or-set_other b 5 i (count_of b + 1) 0 five
  append_elsewhere i five (inr h) =
      let both = append_accepted b used c accepted in
      let raised = set b 5 (count_of b + 1) in
      let within : used ≤ length raised = rw (length-set b 5 (count_of b + 1)) (omega (arith, both.0.room)) in
      let place : i ≡ used + record_bytes + (i - (used + record_bytes)) = omega (arith, both.1) in
      rw place
      (sym (get_or-drop (used + record_bytes) (written b used c) (i - (used + record_bytes)) 0)
      ∙ ap (λ s. get_or s (i - (used + record_bytes)) 0) (drop-paste raised used (bytes_of c) record_bytes within (omega arith))
      ∙ get_or-drop (used + record_bytes) raised (i - (used + record_bytes)) 0
      ∙ get_or-set_other b 5 (used + record_bytes + (i - (used + record_bytes))) (count_of b + 1) 0 (λ e. five (place ∙ e)))

-- appending in turn to a file of certificates writes the certificates after them
in_turn : (ds cs : List Cert) (b b' : List ℕ) (used used' : ℕ) → AllLawful ds → AllLawful cs → length ds + length cs ≤ certificates → used ≡ place_of (length ds) → used + record_bytes * length cs ≤ length b → take used b ≡ file_of ds → InTurn cs b used b' used' →
    (take used' b' ≡ file_of (ds ++ cs)) × (used' ≡ place_of (length ds + length cs))
unfolding file_of
in_turn ds [] b b' used used' lawful new few at room e turns = (
  ap (λ x. take used' x) turns.0 ∙ ap (λ u. take u b) turns.1 ∙ e ∙ ap file_of (sym (append-nil ds)),
  turns.1 ∙ omega (arith, at),
)
in_turn ds (c ∷ cs) b b' used used' lawful new few at room e (r, b₁, to, later) =
    let file : LawfulFile (take used b) = subst LawfulFile (sym e) (file_of_lawful ds lawful (omega arith)) in
    let count : count_of (take used b) ≡ length ds = ap count_of e in
    let done = append_accepts b used c file (omega arith) new.0 (omega arith) to in
    let next : used_after used r ≡ used + record_bytes = ap (used_after used) done.0 in
    let more = length-append ds (c ∷ []) in
    let ok = (append_accepted b used c (sym to.answer ∙ ap comes_back done.0)).0 in
    let rest = in_turn (ds ++ (c ∷ [])) cs b₁ b' (used_after used r) used' (all_append ds (c ∷ []) lawful (new.0, tt)) new.1
    (omega arith) (omega arith)
    (omega (arith, ap length done.1, written_long b used c (omega arith)))
    (ap (λ u. take u b₁) next ∙ ap (take (used + record_bytes)) done.1 ∙ written_file b used c ds ok e)
    later in
    (rest.0 ∙ ap file_of (append_assoc ds (c ∷ []) cs), rest.1 ∙ omega (arith, more))

-- certificates appended in turn to the six bytes of the empty file, in a buffer with room for them, make exactly the file of them
pub appended_in_turn : (cs : List Cert) (b b' : List ℕ) (used' : ℕ) → AllLawful cs → length cs ≤ certificates → header_bytes + record_bytes * length cs ≤ length b → take header_bytes b ≡ 87 ∷ 65 ∷ 67 ∷ 0 ∷ 1 ∷ 0 ∷ [] → InTurn cs b header_bytes b' used' →
    (take used' b' ≡ file_of cs) × (used' ≡ header_bytes + record_bytes * length cs)
unfolding file_of records_of
appended_in_turn cs b b' used' lawful few room empty turns =
    let all = in_turn [] cs b b' header_bytes used' tt lawful (omega arith) refl room empty turns in
    (all.0, omega (arith, all.1))
