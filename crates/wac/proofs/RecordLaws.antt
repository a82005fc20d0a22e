-- Laws of a record's bytes: the certificate that they hold, the table that they keep to, and the round trip.
use mathlib.Core.Path.{◌≡◌, refl, sym, ap, ◌∙◌, subst}
use mathlib.Core.Logic.{◌⊎◌, inl, inr, ⊎_elim, ◌↔◌}
use mathlib.Core.Bool.{Bool, true, false}
use mathlib.Core.List.{List, [], ◌++◌, append-nil}
use Prim.Native.Nat.{ℕ, zero, suc, ◌+◌, ◌*◌, ◌/◌, ◌%◌, ◌<◌, ◌≤◌}
use native.Mathlib.Decide.{dec_le}
use native.Mathlib.Nat.{add-zero, add_assoc, div-div-eq-div-mul, div-add-mod', mod-eq_of_lt, le_of_suc-le-suc, not-suc-le-zero}
use native.Mathlib.Omega.{arith}
use borrow.Author.Tests.{lt-ltb, le-ltb, le-leb, lt-leb, eq-eqb, leb-true, eqb-true}
use lib.Dec.{eqb}
use lib.ListN.{get_or, take, drop, length-take, get_or-eq_default}
use lib.Seq.{get_or-drop, get_or-take}
use Rattle.wac.specs.Limits.{record_bytes, without_end, unused, authorization_kind}
use Rattle.wac.specs.Bytes.{AreBytes, word}
use Rattle.wac.specs.Ranges.{a_key, an_identifier, ◌to◌, names, authorizations, ranged, row_of, range_at, in_range, spare, byte_ok, all_below, record_ok}
use Rattle.wac.specs.Record.{word_at, cert_from, bytes_of, IsName, IsAuthorization, IdOk, Dated, Lawful}
use Rattle.wac.specs.declared.record.Range.{Range}
use Rattle.wac.specs.declared.cert.Cert.{Cert}
use Rattle.std.proofs.Math.Bool.{and-false}
use Rattle.std.proofs.lemmas.Bool.{and_parts}
use Rattle.wac.proofs.Tests.{and_true, all_below_at, all_below_same}

-- the bytes from a place on are bytes
pub drop_bytes : (s : List ℕ) (at : ℕ) → AreBytes s → AreBytes (drop at s)
drop_bytes s at h i = rw (get_or-drop at s i 0) (h _)

-- the first bytes of bytes are bytes
pub take_bytes : (s : List ℕ) (n : ℕ) → AreBytes s → AreBytes (take n s)
take_bytes s n h i = turn (dec_le n i)
  where
    turn : Dec (n ≤ i) → get_or (take n s) i 0 < 256
    turn (yes l) = rw (get_or-eq_default (take n s) 0 {n = i} (omega (arith, length-take n s))) (omega arith)
    turn (no l) = rw (get_or-take n s i 0 (omega arith)) (h i)

-- the certificate of the record that begins at `at`, read where it stands
pub cert_where : (s : List ℕ) (at : ℕ) → cert_from (drop at s) ≡ record {
  kind = get_or s at 0;
  issuer = get_or s (at + 1) 0;
  left = get_or s (at + 2) 0;
  subject = get_or s (at + 3) 0;
  count = get_or s (at + 4) 0;
  ids = record { 0 = get_or s (at + 5) 0; 1 = get_or s (at + 6) 0; 2 = get_or s (at + 7) 0 };
  mark = get_or s (at + 8) 0;
  rights = get_or s (at + 9) 0;
  not_before = word_at s (at + 10);
  not_after = word_at s (at + 14);
}
unfolding cert_from
cert_where s at = simp (get_or-drop, add-zero, add_assoc)

-- a number in a range
in_range_lem : (r : Range) (b : ℕ) → in_range r b ≡ true → (r.least ≤ b) × (b ≤ r.greatest)
in_range_lem r b e = let both = and_parts _ _ e in (leb-true _ _ both.0, leb-true _ _ both.1)

range_in : (r : Range) (b : ℕ) → (r.least ≤ b) × (b ≤ r.greatest) → in_range r b ≡ true
range_in r b h = and_true _ _ (le-leb _ _ h.0) ∙ le-leb _ _ h.1

-- the bytes that the rows for names and for authorizations have alike
record Alike (row : ℕ) : Type 0 where
  issuer : range_at row 1 ≡ a_key
  subject : range_at row 3 ≡ a_key
  number : range_at row 4 ≡ (0 to 3)
  first : range_at row 5 ≡ an_identifier
  second : range_at row 6 ≡ an_identifier
  third : range_at row 7 ≡ an_identifier

alike : (row : ℕ) → row < 2 → Alike row
unfolding range_at names authorizations
alike zero h = record { issuer = refl; subject = refl; number = refl; first = refl; second = refl; third = refl }
alike (suc zero) h = record { issuer = refl; subject = refl; number = refl; first = refl; second = refl; third = refl }
alike (suc (suc row)) h = absurd (not-suc-le-zero (le_of_suc-le-suc (le_of_suc-le-suc h)))

module _ (s : List ℕ) where
  -- byte i is no spare one: its range counts
  held : (i : ℕ) → (i < 5 + get_or s 4 0) ⊎ (8 ≤ i) → byte_ok s i ≡ in_range (range_at (row_of (get_or s 0 0)) i) (get_or s i 0)
  unfolding byte_ok spare
  held i (inl h) = rw (lt-leb (5 + get_or s 4 0) i h, and-false)
  held i (inr h) = rw (le-ltb i 8 h)

  -- byte i is a spare identifier byte
  spared : (i : ℕ) → i < 8 → 5 + get_or s 4 0 ≤ i → byte_ok s i ≡ eqb (get_or s i 0) unused
  unfolding byte_ok spare
  spared i h l = rw (lt-ltb i 8 h, le-leb (5 + get_or s 4 0) i l)

  module _ (ok : record_ok s ≡ true) (row : ℕ) (same : row_of (get_or s 0 0) ≡ row) where
    -- each byte of a record that keeps to the table is as the table says
    byte_holds : (i : ℕ) → i < ranged → byte_ok s i ≡ true
    unfolding record_ok
    byte_holds i h = all_below_at ranged (byte_ok s) ok i h

    -- and lies in its range, unless it is spare
    lies : (i : ℕ) → i < ranged → (i < 5 + get_or s 4 0) ⊎ (8 ≤ i) → ((range_at row i).least ≤ get_or s i 0) × (get_or s i 0 ≤ (range_at row i).greatest)
    lies i h u = rw same at (in_range_lem (range_at (row_of (get_or s 0 0)) i) (get_or s i 0) (sym (held i u) ∙ byte_holds i h))

    id_lies : (k : ℕ) → k < 3 → range_at row (5 + k) ≡ an_identifier → IdOk (cert_from s) k (get_or s (5 + k) 0)
    unfolding cert_from
    id_lies k h e = record {
      used = λ u. let l = rw e at (lies (5 + k) (omega arith) (inl (omega arith))) in omega arith;
      past = λ p. eqb-true _ _ (sym (spared (5 + k) (omega arith) (omega arith)) ∙ byte_holds (5 + k) (omega arith));
    }

    lawful_row : row < 2 → Dated (cert_from s) → IsName (cert_from s) ⊎ IsAuthorization (cert_from s) → Lawful (cert_from s)
    unfolding cert_from
    lawful_row two dated sort =
        let both = alike row two in
        let issuer = rw both.issuer at (lies 1 (omega arith) (inl (omega arith))) in
        let subject = rw both.subject at (lies 3 (omega arith) (inl (omega arith))) in
        let number = rw both.number at (lies 4 (omega arith) (inl (omega arith))) in
        record {
          sort = sort;
          issuer = omega arith;
          subject = omega arith;
          count = omega arith;
          first = id_lies 0 (omega arith) both.first;
          second = id_lies 1 (omega arith) both.second;
          third = id_lies 2 (omega arith) both.third;
          dated = dated;
        }

  -- a record that keeps to the table holds a lawful certificate
  pub kept_lawful : Dated (cert_from s) → record_ok s ≡ true → Lawful (cert_from s)
  unfolding cert_from range_at names authorizations
  kept_lawful dated ok = turn (eqb (get_or s 0 0) authorization_kind) refl
    where
      mark_of : (m : ℕ) → 10 ≤ m → m ≤ 11 → Dec (m ≤ 10) → (m ≡ 10) ⊎ (m ≡ 11)
      mark_of m l h (yes d) = inl (omega arith)
      mark_of m l h (no d) = inr (omega arith)

      turn : (b : Bool) → eqb (get_or s 0 0) authorization_kind ≡ b → Lawful (cert_from s)
      turn true e =
          let row : row_of (get_or s 0 0) ≡ 1 = rw e in
          let left = lies ok 1 row 2 (omega arith) (inl (omega arith)) in
          let mark = lies ok 1 row 8 (omega arith) (inr (omega arith)) in
          let rights = lies ok 1 row 9 (omega arith) (inr (omega arith)) in
          lawful_row ok 1 row (omega arith) dated
          (inr (record {
            kind = eqb-true _ _ e;
            left = omega arith;
            mark = mark_of (get_or s 8 0) mark.0 mark.1 (dec_le (get_or s 8 0) 10);
            rights = omega arith;
          }))
      turn false e =
          let row : row_of (get_or s 0 0) ≡ 0 = rw e in
          let kind = lies ok 0 row 0 (omega arith) (inl (omega arith)) in
          let left = lies ok 0 row 2 (omega arith) (inl (omega arith)) in
          let mark = lies ok 0 row 8 (omega arith) (inr (omega arith)) in
          let rights = lies ok 0 row 9 (omega arith) (inr (omega arith)) in
          lawful_row ok 0 row (omega arith) dated (inl (record { kind = omega arith; left = omega arith; mark = omega arith; rights = omega arith }))

  module _ (lawful : Lawful (cert_from s)) (row : ℕ) (same : row_of (get_or s 0 0) ≡ row) where
    -- a byte that lies in its range is as the table says
    holds : (i : ℕ) → (i < 5 + get_or s 4 0) ⊎ (8 ≤ i) → ((range_at row i).least ≤ get_or s i 0) × (get_or s i 0 ≤ (range_at row i).greatest) → byte_ok s i ≡ true
    holds i u l = held i u ∙ rw same (range_in (range_at row i) (get_or s i 0) l)

    id_holds : (k : ℕ) → k < 3 → range_at row (5 + k) ≡ an_identifier → IdOk (cert_from s) k (get_or s (5 + k) 0) → byte_ok s (5 + k) ≡ true
    unfolding cert_from
    id_holds k h e id = turn (dec_le (get_or s 4 0) k)
      where
        turn : Dec (get_or s 4 0 ≤ k) → byte_ok s (5 + k) ≡ true
        turn (yes p) = spared (5 + k) (omega arith) (omega arith) ∙ eq-eqb _ _ (id.past p)
        turn (no p) = let u = id.used (omega arith) in holds (5 + k) (inl (omega arith)) (rw e (omega arith))

    kept_row : row < 2 → byte_ok s 0 ≡ true → byte_ok s 2 ≡ true → byte_ok s 8 ≡ true → byte_ok s 9 ≡ true → record_ok s ≡ true
    unfolding record_ok all_below cert_from
    kept_row two kind left mark rights =
        let both = alike row two in
        let issuer = holds 1 (inl (omega arith)) (rw both.issuer (omega (arith, lawful.issuer))) in
        let subject = holds 3 (inl (omega arith)) (rw both.subject (omega (arith, lawful.subject))) in
        let number = holds 4 (inl (omega arith)) (rw both.number (omega (arith, lawful.count))) in
        let first = id_holds 0 (omega arith) both.first lawful.first in
        let second = id_holds 1 (omega arith) both.second lawful.second in
        let third = id_holds 2 (omega arith) both.third lawful.third in
        rw (kind, issuer, left, subject, number, first, second, third, mark, rights)

  -- a record that holds a lawful certificate keeps to the table
  pub lawful_kept : Lawful (cert_from s) → record_ok s ≡ true
  unfolding cert_from range_at names authorizations
  lawful_kept lawful = turn lawful.sort
    where
      turn : IsName (cert_from s) ⊎ IsAuthorization (cert_from s) → record_ok s ≡ true
      turn (inl n) =
          let row : row_of (get_or s 0 0) ≡ 0 = rw n.kind in
          kept_row lawful 0 row (omega arith)
          (holds lawful 0 row 0 (inl (omega arith)) (omega (arith, n.kind)))
          (holds lawful 0 row 2 (inl (omega arith)) (omega (arith, n.left)))
          (holds lawful 0 row 8 (inr (omega arith)) (omega (arith, n.mark)))
          (holds lawful 0 row 9 (inr (omega arith)) (omega (arith, n.rights)))
      turn (inr a) =
          let row : row_of (get_or s 0 0) ≡ 1 = rw a.kind in
          let mark = ⊎_elim (λ (e : get_or s 8 0 ≡ 10). let l : (10 ≤ get_or s 8 0) × (get_or s 8 0 ≤ 11) = omega arith in l) (λ e. omega arith) a.mark in
          kept_row lawful 1 row (omega arith)
          (holds lawful 1 row 0 (inl (omega arith)) (omega (arith, a.kind)))
          (holds lawful 1 row 2 (inl (omega arith)) (omega (arith, a.left)))
          (holds lawful 1 row 8 (inr (omega arith)) mark)
          (holds lawful 1 row 9 (inr (omega arith)) (omega (arith, a.rights)))

-- a number by its digits to the base 256
by_digits : (w a b c p q r : ℕ) → a * 256 + r ≡ w → b * 256 + q ≡ a → c * 256 + p ≡ b → c * 16777216 + p * 65536 + q * 256 + r ≡ w
by_digits w a b c p q r e f g = omega arith

top_digit : (w a b c p q r : ℕ) → a * 256 + r ≡ w → b * 256 + q ≡ a → c * 256 + p ≡ b → w ≤ without_end → c < 256
top_digit w a b c p q r e f g h = omega arith

-- the number in the four bytes of a number
pub word_read : (w : ℕ) → w ≤ without_end → word (w / 16777216 % 256) (w / 65536 % 256) (w / 256 % 256) (w % 256) ≡ w
word_read w h =
    let high : w / 65536 ≡ w / 256 / 256 = sym (div-div-eq-div-mul w 256 256) in
    let highest : w / 16777216 ≡ w / 256 / 256 / 256 = sym (ap (λ x. x / 256) (div-div-eq-div-mul w 256 256) ∙ div-div-eq-div-mul w 65536 256) in
    let e = div-add-mod' w 256 in
    let f = div-add-mod' (w / 256) 256 in
    let g = div-add-mod' (w / 256 / 256) 256 in
    rw (high, highest, mod-eq_of_lt (top_digit _ _ _ _ _ _ _ e f g h)) (by_digits _ _ _ _ _ _ _ e f g)

-- the four bytes of the number in four bytes
pub word_written : (a b c d : ℕ) → a < 256 → b < 256 → c < 256 → d < 256 →
    (word a b c d / 16777216 % 256 ≡ a) × (word a b c d / 65536 % 256 ≡ b) × (word a b c d / 256 % 256 ≡ c) × (word a b c d % 256 ≡ d)
word_written a b c d ha hb hc hd = (omega arith, omega arith, omega arith, omega arith)

-- a certificate, written and read, whatever follows it, is itself
pub read_back : (c : Cert) → Dated c → (rest : List ℕ) → cert_from (bytes_of c ++ rest) ≡ c
unfolding cert_from bytes_of
read_back c h rest = rw (word_read c.not_before h.begins, word_read c.not_after h.ends)

-- the dates of bytes are minutes
pub bytes_dated : (s : List ℕ) → AreBytes s → Dated (cert_from s)
unfolding cert_from
bytes_dated s bytes = record {
  begins = omega (arith, bytes 10, bytes 11, bytes 12, bytes 13);
  ends = omega (arith, bytes 14, bytes 15, bytes 16, bytes 17);
}

-- the record of a certificate keeps to the table exactly if the certificate is lawful
pub kept_iff_lawful : (c : Cert) → Dated c → (record_ok (bytes_of c) ≡ true) ↔ Lawful c
kept_iff_lawful c dated =
    let same : cert_from (bytes_of c) ≡ c = ap cert_from (sym (append-nil (bytes_of c))) ∙ read_back c dated [] in (
      λ ok. subst Lawful same (kept_lawful (bytes_of c) (subst Dated (sym same) dated) ok),
      λ lawful. lawful_kept (bytes_of c) (subst Lawful (sym same) lawful),
    )

-- a record is its first 18 bytes
module _ (s : List ℕ) where
  first_at : (i : ℕ) → i < record_bytes → get_or (take record_bytes s) i 0 ≡ get_or s i 0
  first_at i low = get_or-take record_bytes s i 0 low

  first_byte : (i : ℕ) → i < ranged → byte_ok (take record_bytes s) i ≡ byte_ok s i
  unfolding byte_ok
  first_byte i low = rw (first_at 0 (omega arith), first_at 4 (omega arith), first_at i (omega arith)) refl

  pub first_kept : record_ok (take record_bytes s) ≡ record_ok s
  unfolding record_ok
  first_kept = all_below_same ranged (byte_ok (take record_bytes s)) (byte_ok s) first_byte

  pub first_cert : cert_from (take record_bytes s) ≡ cert_from s
  unfolding cert_from
  first_cert =
      rw (
        first_at 0 (omega arith),
        first_at 1 (omega arith),
        first_at 2 (omega arith),
        first_at 3 (omega arith),
        first_at 4 (omega arith),
        first_at 5 (omega arith),
        first_at 6 (omega arith),
        first_at 7 (omega arith),
        first_at 8 (omega arith),
        first_at 9 (omega arith),
        first_at 10 (omega arith),
        first_at 11 (omega arith),
        first_at 12 (omega arith),
        first_at 13 (omega arith),
        first_at 14 (omega arith),
        first_at 15 (omega arith),
        first_at 16 (omega arith),
        first_at 17 (omega arith),
      ) refl
