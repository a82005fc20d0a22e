-- Laws of one pass: what is tried at an entry, what a certificate changes, and what a pass over a file's certificates gives.
use mathlib.Core.Path.{◌≡◌, refl, sym, ap, ◌∙◌, subst}
use mathlib.Core.Bool.{Bool, true, false, cond, ◌&&◌, ◌||◌, true≢false}
use mathlib.Core.Logic.{inl, inr, ⊎_elim, by_cases}
use mathlib.Core.List.{List, [], ◌∷◌}
use Prim.Native.Nat.{ℕ, zero, suc, ◌+◌, ◌<◌, ◌≤◌}
use native.Mathlib.Omega.{arith}
use native.Mathlib.Numerals.{add-one}
use native.Mathlib.Decide.{ℕ_discrete}
use borrow.Author.Tests.{eqb-true, eq-eqb, ne_eqb}
use lib.Dec.{eqb}
use lib.ListN.{length, get_or, take, drop, set, length-set, replicate, get_or-replicate}
use lib.Seq.{get_or-take, get_or-set_other, drop-set-lt}
use Rattle.wac.specs.Limits.{keys, delegate, access, end_place, entries}
use Rattle.wac.specs.Record.{Lawful}
use Rattle.wac.specs.File.{count_of, cert_at}
use Rattle.wac.specs.declared.cert.Cert.{Cert}
use Rattle.std.proofs.lemmas.Bool.{and_parts}
use Rattle.rewriting.specs.Weighing.{minutes, steps}
use Rattle.rewriting.specs.Rewriting.{Rules, Question}
use Rattle.rewriting.specs.Entries.{Mark}
use Rattle.rewriting.specs.Passes.{start, reading, brought, fires, tried, pass}
use Rattle.rewriting.proofs.Tests.{by_test}
use Rattle.rewriting.proofs.Held.{reading_fits}
use Rattle.rewriting.proofs.Complete.{start_mark}
use Rattle.decision.specs.Usable.{rule_of, symbols_of}
use Rattle.decision.specs.Lens.{weighing_of, question_by, rules_by, live_by, weight_by}
use Rattle.decision.specs.Table.{is_entry, number, row_of}
use Rattle.decision.specs.Engine.{Within, held, offered, Tried, Passed}
use Rattle.decision.specs.declared.request.Request.{Request}
use Rattle.decision.specs.declared.lens.Lens.{Lens}
use Rattle.decision.specs.declared.lens.Lens.TheVariants.{Minutes, Steps}
use Rattle.decision.proofs.RulesLaws.{rules_count, rules_rule, rules_weight, rules_live}
use Rattle.decision.proofs.ReadingLaws.{best_fits, reading_asker}
use Rattle.decision.proofs.TableLaws.{is_entry_lem, number_low, number_same, set_here, set_there, row_same, held_at, list_held, within_entries}

-- the asker's marks are entries
pub asker_entry : (k s : ℕ) → k < keys → Mark s → is_entry k s end_place ≡ true
asker_entry k s h m = is_entry_lem k s end_place (h, inr (m, refl))

-- the start has none but at the asker's marks
pub start_other : (Q : Question) (k s a : ℕ) → (k ≡ Q.asker → Mark s → a ≡ Q.keys → ⊥) → start Q k s a ≡ Q.weighing.none
unfolding start
start_other Q k s a other = by_test (λ x. x ≡ Q.weighing.none) (eqb k Q.asker && (eqb s 10 || eqb s 11) && eqb a Q.keys)
    (λ e. (let both = and_parts _ _ e in
    let left = and_parts _ _ both.0 in
    absurd (other (eqb-true k Q.asker left.0) (marks s left.1) (eqb-true a Q.keys both.1))))
    (λ e. refl)
  where
    marks : (s : ℕ) → (eqb s 10 || eqb s 11) ≡ true → Mark s
    marks s e = by_cases (ℕ_discrete s 10) inl (λ n. inr (eqb-true s 11 (rw (ne_eqb s 10 n) at e)))

-- a table of none with the whole at the asker's marks is the start
module _ (lens : Lens) (asker : ℕ) (h : asker < keys) (l : List ℕ) (long : entries ≤ length l)
    (none : take entries l ≡ replicate entries (weighing_of lens).none) where
  abbrev whole : ℕ
  whole = (weighing_of lens).whole

  abbrev first : List ℕ
  first = set l (number asker delegate end_place) whole

  abbrev both : List ℕ
  both = set first (number asker access end_place) whole

  started_at : (k s a : ℕ) → is_entry k s a ≡ true → get_or both (number k s a) 0 ≡ start (question_by lens asker) k s a
  started_at k s a t = by_cases (ℕ_discrete (number k s a) (number asker access end_place))
      (λ e. (let same = number_same k s a asker access end_place t (asker_entry asker access h (inr refl)) e in
      ap (λ n. get_or both n 0) e ∙ set_here first (simp length-set long) asker access end_place (asker_entry asker access h (inr refl)) whole
      ∙ rw (same.0, same.1, same.2) (sym (start_mark (question_by lens asker) access (inr refl)))))
      (λ n. get_or-set_other first (number asker access end_place) (number k s a) whole 0 n ∙
      by_cases (ℕ_discrete (number k s a) (number asker delegate end_place))
      (λ e. (let same = number_same k s a asker delegate end_place t (asker_entry asker delegate h (inl refl)) e in
      ap (λ n. get_or first n 0) e ∙ set_here l long asker delegate end_place (asker_entry asker delegate h (inl refl)) whole
      ∙ rw (same.0, same.1, same.2) (sym (start_mark (question_by lens asker) delegate (inl refl)))))
      (λ m. get_or-set_other l (number asker delegate end_place) (number k s a) whole 0 m
      ∙ sym (get_or-take entries l (number k s a) 0 (number_low k s a t))
      ∙ ap (λ r. get_or r (number k s a) 0) none
      ∙ get_or-replicate entries (number k s a) (weighing_of lens).none 0 (number_low k s a t)
      ∙ sym (start_other (question_by lens asker) k s a (λ p q r. ⊎_elim (λ (x : s ≡ 10). m (rw (p, x, r))) (λ (x : s ≡ 11). n (rw (p, x, r))) q))))

  pub started : (n m w : ℕ) → n ≡ number asker delegate end_place → m ≡ number asker access end_place → w ≡ whole →
      (take entries (set (set l n w) m w) ≡ row_of (start (question_by lens asker))) × (drop entries (set (set l n w) m w) ≡ drop entries l)
  started n m w d e f = rw (d, e, f) (
    row_same (start (question_by lens asker)) both (simp (length-set, length-set) long) started_at,
    drop-set-lt entries first (number asker access end_place) whole (number_low asker access end_place (asker_entry asker access h (inr refl)))
        ∙ drop-set-lt entries l (number asker delegate end_place) whole (number_low asker delegate end_place (asker_entry asker delegate h (inl refl))),
  )

-- a lawful certificate's weight fits
pub weight_fits : (lens : Lens) (c : Cert) → Lawful c → weight_by lens c ≤ (weighing_of lens).cap
unfolding minutes steps
weight_fits Minutes c ok = ok.dated.ends
weight_fits (Steps floor) c ok = omega arith

-- and so does what it offers
pub offered_fits : (lens : Lens) (old : List ℕ) → Within lens old → (c : Cert) → Lawful c → (a : ℕ) → offered lens old c a ≤ (weighing_of lens).cap
offered_fits lens old within c ok a = (weighing_of lens).laws.along_fits _ _ (weight_fits lens c ok)
    (reading_fits (question_by lens 0) (held lens old) (list_held lens 0 old within) _ _ a)

-- storing a weight that fits
set_fits : (l : List ℕ) (n v cap : ℕ) → ((e : ℕ) → get_or l e 0 ≤ cap) → v ≤ cap → (e : ℕ) → get_or (set l n v) e 0 ≤ cap
set_fits [] n v cap fits h e = fits e
set_fits (x ∷ l) zero v cap fits h zero = h
set_fits (x ∷ l) zero v cap fits h (suc e) = fits (suc e)
set_fits (x ∷ l) (suc n) v cap fits h zero = fits zero
set_fits (x ∷ l) (suc n) v cap fits h (suc e) = set_fits l n v cap (λ i. fits (suc i)) h e

pub within_set : (lens : Lens) (l : List ℕ) → Within lens l → (n v : ℕ) → v ≤ (weighing_of lens).cap → Within lens (set l n v)
within_set lens l within n v h = record {
  long = let w = within.long in simp length-set w;
  fits = set_fits l n v (weighing_of lens).cap within.fits h;
}

-- the certificate c was tried at its entries that arrive below p, and nothing else changed
pub record Trying (lens : Lens) (old : List ℕ) (c : Cert) (new₀ new : List ℕ) (p : ℕ) : Type 0 where
  pub long : length new ≡ length new₀
  pub beyond : drop entries new ≡ drop entries new₀
  pub within : Within lens new
  pub done : (a : ℕ) → a < p → is_entry c.issuer c.left a ≡ true →
      get_or new (number c.issuer c.left a) 0 ≡ (weighing_of lens).best (get_or new₀ (number c.issuer c.left a) 0) (offered lens old c a)
  pub rest : (k s a : ℕ) → is_entry k s a ≡ true → (c.issuer ≡ k → c.left ≡ s → a < p → ⊥) → get_or new (number k s a) 0 ≡ get_or new₀ (number k s a) 0

pub trying_none : (lens : Lens) (old : List ℕ) (c : Cert) (new : List ℕ) → Within lens new → Trying lens old c new new 0
trying_none lens old c new within = record { long = refl; beyond = refl; within = within; done = λ a h t. absurd (omega arith); rest = λ k s a t other. refl }

module _ {lens : Lens} {old : List ℕ} {c : Cert} {new₀ new : List ℕ} {p : ℕ} (tr : Trying lens old c new₀ new p) where
  -- no entry arrives from p up to p'
  pub trying_skip : (p' : ℕ) → p ≤ p' → ((a : ℕ) → a < p' → is_entry c.issuer c.left a ≡ true → a < p) → Trying lens old c new₀ new p'
  trying_skip p' more none = record {
    long = tr.long;
    beyond = tr.beyond;
    within = tr.within;
    done = λ a h t. tr.done a (none a h t) t;
    rest = λ k s a t other. tr.rest k s a t (λ x y h. other x y (omega arith));
  }

  -- one entry more
  pub trying_more : Within lens old → Lawful c → is_entry c.issuer c.left p ≡ true → {new' : List ℕ} →
      new' ≡ set new (number c.issuer c.left p) ((weighing_of lens).best (get_or new (number c.issuer c.left p) 0) (offered lens old c p)) →
      Trying lens old c new₀ new' (p + 1)
  trying_more within ok here {new'} e = record {
    long = ap length e ∙ simp length-set tr.long;
    beyond = ap (drop entries) e ∙ drop-set-lt entries new n v (number_low c.issuer c.left p here) ∙ tr.beyond;
    within = subst (Within lens) (sym e) (within_set lens new tr.within n v (best_fits (weighing_of lens) _ _ (tr.within.fits n) (offered_fits lens old within c ok p)));
    done = λ a h t. by_cases (ℕ_discrete a p)
        (λ q. subst (λ a. get_or new' (number c.issuer c.left a) 0 ≡ (weighing_of lens).best (get_or new₀ (number c.issuer c.left a) 0) (offered lens old c a)) (sym q) at_here)
        (λ q. ap (λ l. get_or l (number c.issuer c.left a) 0) e
        ∙ set_there new tr.within.long c.issuer c.left p here v c.issuer c.left a t (λ x y z. q (sym z))
        ∙ tr.done a (omega arith) t);
    rest = λ k s a t other.
        ap (λ l. get_or l (number k s a) 0) e
        ∙ set_there new tr.within.long c.issuer c.left p here v k s a t (λ x y z. other x y (omega arith))
        ∙ tr.rest k s a t (λ x y z. other x y (omega arith));
  }
    where
      n : ℕ
      n = number c.issuer c.left p

      v : ℕ
      v = (weighing_of lens).best (get_or new (number c.issuer c.left p) 0) (offered lens old c p)

      at_here : get_or new' (number c.issuer c.left p) 0 ≡ (weighing_of lens).best (get_or new₀ (number c.issuer c.left p) 0) (offered lens old c p)
      at_here =
          ap (λ l. get_or l (number c.issuer c.left p) 0) e
          ∙ set_here new tr.within.long c.issuer c.left p here v
          ∙ ap (λ x. (weighing_of lens).best x (offered lens old c p)) (tr.rest c.issuer c.left p here (λ x y z. omega arith))

  -- all entries were tried
  pub tried_all : ((a : ℕ) → is_entry c.issuer c.left a ≡ true → a < p) → Tried lens old c new₀ new
  tried_all all = record {
    long = tr.long;
    beyond = tr.beyond;
    at_entry = λ k s a t. by_test (λ x. get_or new (number k s a) 0 ≡ x) (eqb c.issuer k && eqb c.left s)
        (λ e. let both = and_parts _ _ e in at k s a (eqb-true c.issuer k both.0) (eqb-true c.left s both.1) t)
        (λ e. tr.rest k s a t (λ x y z. true≢false (sym (both_eqb x y) ∙ e)));
  }
    where
      both_eqb : {a b c d : ℕ} → a ≡ b → c ≡ d → (eqb a b && eqb c d) ≡ true
      both_eqb {a} {b} {c} {d} x y = rw (eq-eqb a b x, eq-eqb c d y)

      at : (k s a : ℕ) → c.issuer ≡ k → c.left ≡ s → is_entry k s a ≡ true →
          get_or new (number k s a) 0 ≡ (weighing_of lens).best (get_or new₀ (number k s a) 0) (offered lens old c a)
      at k s a x y t =
          let t' : is_entry c.issuer c.left a ≡ true = rw (x, y) t in
          subst (λ k. get_or new (number k s a) 0 ≡ (weighing_of lens).best (get_or new₀ (number k s a) 0) (offered lens old c a)) x
          (subst (λ s. get_or new (number c.issuer s a) 0 ≡ (weighing_of lens).best (get_or new₀ (number c.issuer s a) 0) (offered lens old c a)) y
          (tr.done a (all a t') t'))

-- a left side is a symbol
pub left_symbol : (c : Cert) → Lawful c → c.left ≤ access
left_symbol c ok = ⊎_elim (λ n. (let h = n.left in omega arith)) (λ m. (let e = m.left in omega arith)) ok.sort

cond_same : {b b' : Bool} {x x' y y' : ℕ} → b ≡ b' → x ≡ x' → y ≡ y' → cond b x y ≡ cond b' x' y'
cond_same e f g = rw (e, f, g)

-- the certificates below i were tried over the old table, and nothing else changed
pub record Passing (lens : Lens) (s : List ℕ) (q : Request) (old new₀ new : List ℕ) (i : ℕ) : Type 0 where
  pub long : length new ≡ length new₀
  pub beyond : drop entries new ≡ drop entries new₀
  pub within : Within lens new
  pub at : (k x a : ℕ) → is_entry k x a ≡ true → get_or new (number k x a) 0 ≡ tried (question_by lens q.asker) (rules_by lens s q) (held lens old) k x a i

module _ (lens : Lens) (s : List ℕ) (q : Request) (old : List ℕ) where
  abbrev Q : Question
  Q = question_by lens q.asker

  abbrev R : Rules
  R = rules_by lens s q

  pub passing_none : (new : List ℕ) → Within lens new → take entries new ≡ old → Passing lens s q old new new 0
  unfolding tried
  passing_none new within same = record {
    long = refl;
    beyond = refl;
    within = within;
    at = λ k x a t. sym (get_or-take entries new (number k x a) 0 (number_low k x a t)) ∙ ap (λ l. get_or l (number k x a) 0) same ∙ sym (held_at lens old k x a t);
  }

  -- one certificate more in what is tried
  tried_more : (k x a i : ℕ) → tried Q R (held lens old) k x a (i + 1) ≡
      cond (fires R i k x) ((weighing_of lens).best (tried Q R (held lens old) k x a i) (brought Q R (held lens old) a i)) (tried Q R (held lens old) k x a i)
  unfolding tried
  tried_more k x a i = rw (add-one i)

  module _ (i : ℕ) (c : Cert) (here : c ≡ cert_at s i) where
    -- a certificate that counts fires at its left side
    fires_live : live_by lens q c ≡ true → (k x : ℕ) → fires R i k x ≡ (eqb c.issuer k && eqb c.left x)
    unfolding fires
    fires_live live k x = rw (rules_live lens s q i, rules_rule lens s q i, ← here, live)

    fires_dead : live_by lens q c ≡ false → (k x : ℕ) → fires R i k x ≡ false
    unfolding fires
    fires_dead dead k x = rw (rules_live lens s q i, ← here, dead)

    -- and brings what it offers
    brought_offered : (a : ℕ) → brought Q R (held lens old) a i ≡ offered lens old c a
    unfolding brought
    brought_offered a =
        ap (λ w. (weighing_of lens).along w (reading Q (held lens old) (R.rule i).to (R.rule i).writes a)) (rules_weight lens s q i ∙ ap (weight_by lens) (sym here))
        ∙ ap (λ r. (weighing_of lens).along (weight_by lens c) (reading Q (held lens old) r.to r.writes a)) (rules_rule lens s q i ∙ ap rule_of (sym here))
        ∙ ap ((weighing_of lens).along (weight_by lens c)) (reading_asker lens q.asker 0 (held lens old) c.subject (symbols_of c) a)

module _ {lens : Lens} {s : List ℕ} {q : Request} {old new₀ new : List ℕ} {i : ℕ} (p : Passing lens s q old new₀ new i) where
  module _ {c : Cert} (here : c ≡ cert_at s i) where
    -- a certificate that counts is tried,
    pub passing_live : live_by lens q c ≡ true → Within lens old → Lawful c → {new' : List ℕ} → Tried lens old c new new' → Passing lens s q old new₀ new' (i + 1)
    passing_live live within ok {new'} tr = record {
      long = tr.long ∙ p.long;
      beyond = tr.beyond ∙ p.beyond;
      within = within_entries lens new new' p.within tr.long tr.beyond (λ k x a t. rw (tr.at_entry k x a t)
          (by_test (λ v. v ≤ (weighing_of lens).cap) (eqb c.issuer k && eqb c.left x)
          (λ e. best_fits (weighing_of lens) _ _ (p.within.fits (number k x a)) (offered_fits lens old within c ok a))
          (λ e. p.within.fits (number k x a))));
      at = λ k x a t. tr.at_entry k x a t
          ∙ cond_same (sym (fires_live lens s q old i c here live k x))
          (ap (λ v. (weighing_of lens).best v (offered lens old c a)) (p.at k x a t)
          ∙ ap ((weighing_of lens).best (tried (question_by lens q.asker) (rules_by lens s q) (held lens old) k x a i)) (sym (brought_offered lens s q old i c here a)))
          (p.at k x a t)
          ∙ sym (tried_more lens s q old k x a i);
    }

    -- and one that does not is passed over
    pub passing_dead : live_by lens q c ≡ false → Passing lens s q old new₀ new (i + 1)
    passing_dead dead = record {
      long = p.long;
      beyond = p.beyond;
      within = p.within;
      at = λ k x a t. p.at k x a t ∙ cond_same (sym (fires_dead lens s q old i c here dead k x)) refl refl ∙ sym (tried_more lens s q old k x a i);
    }

  -- all certificates were tried
  pub passed : i ≡ count_of s → Passed lens s q old new₀ new
  unfolding pass
  passed e = record {
    long = p.long;
    beyond = p.beyond;
    row = row_same (pass (question_by lens q.asker) (rules_by lens s q) (held lens old)) new p.within.long
        (λ k x a t. p.at k x a t ∙ ap (tried (question_by lens q.asker) (rules_by lens s q) (held lens old) k x a) (e ∙ sym (rules_count lens s q)));
  }
