-- How large what comes back can be: minutes of 32 bits, at most 200 steps and 2,576 passes, a record below 128.
use mathlib.Core.Path.{◌≡◌, sym, ap, subst}
use mathlib.Core.List.{List, ◌++◌}
use Prim.Native.Nat.{ℕ, ◌+◌, ◌*◌, ◌<◌, ◌≤◌}
use native.Mathlib.Omega.{arith}
use lib.ListN.{length, get_or}
use borrow.Author.Tests.{ltb-false}
use Rattle.std.specs.Prelude.{Result, Ok, Err}
use Rattle.wac.specs.Limits.{entries, certificates, chain_places, without_end}
use Rattle.wac.specs.Bytes.{AreBytes}
use Rattle.wac.specs.Answers.{gives, refuses, first_of}
use Rattle.wac.specs.File.{count_of, file_cases}
use Rattle.wac.proofs.Cases.{gives_not_refuses, first_both, first_passed}
use Rattle.rewriting.specs.Weighing.{minutes}
use Rattle.rewriting.specs.Rewriting.{Best}
use Rattle.rewriting.specs.Entries.{Lawful}
use Rattle.rewriting.specs.Passes.{PassCount}
use Rattle.rewriting.proofs.Sound.{weighed_fits}
use Rattle.rewriting.proofs.Settling.{settles, ranks_most, count_unique}
use Rattle.rewriting.proofs.Bound.{passes_bounded}
use Rattle.decision.specs.Usable.{rules_of}
use Rattle.decision.specs.Question.{request_cases, ask_cases, settle_cases, Ready, asked, reply_of, refusal_values, refusal_record, answered_as, Counted, Counted.counted, Counted.uncountable, Answered.granted, Answered.denied, Judged, Judged.refused, Judged.answered, Settles, Settles.refused, Settles.settled}
use Rattle.decision.specs.declared.request.Request.{Request}
use Rattle.decision.specs.declared.lens.Lens.TheVariants.{Minutes}
use Rattle.decision.specs.declared.question.Refused.{Refused}
use Rattle.decision.specs.declared.question.Verdict.{Verdict}
use Rattle.decision.specs.declared.question.Verdict.TheVariants as verdicts
use Rattle.decision.proofs.RulesLaws.{rules_lawful}
use Rattle.decision.proofs.TableLaws.{list_held}
use Rattle.decision.proofs.Replies.{reply_unique, answered_as_unique}
use Rattle.decision.proofs.Refusals.{Proper, ask_proper, settle_proper}
use Rattle.decision.proofs.AskLaws.{admitted_ready, minutes_within}

-- the passes of a question are at most 16 × (10 × 16 + 1)
abbrev pub most_passes : ℕ
most_passes = 2576

-- a verdict's values are within these bounds
abbrev pub Bounded : Result Verdict Refused → Type 0
Bounded (Ok (verdicts.Granted minute steps passes)) = (minute ≤ without_end) × (steps ≤ chain_places) × (passes ≤ most_passes)
Bounded (Ok (verdicts.NoChain passes)) = passes ≤ most_passes
Bounded (Ok (verdicts.GrantedLong minute passes)) = (minute ≤ without_end) × (passes ≤ most_passes)
Bounded (Err why) = refusal_record why < certificates

-- so are the values of settling: a pass more than the ranks of 2,592 minutes
abbrev pub BoundedSettling : Result ℕ Refused → Type 0
BoundedSettling (Ok passes) = passes ≤ entries * without_end + 1
BoundedSettling (Err why) = refusal_record why < certificates

-- a refused verdict, and a refused settling
refused_bounded : (r : Result Verdict Refused) {n : ℕ} {vs : List ℕ} → Proper n vs → reply_of r ≡ record { number = n; values = vs } → Bounded r
refused_bounded (Ok (verdicts.Granted minute steps passes)) p e = let z = ap (λ x. x.number) e in let from = p.from in absurd (omega arith)
refused_bounded (Ok (verdicts.NoChain passes)) p e = let z = ap (λ x. x.number) e in let from = p.from in absurd (omega arith)
refused_bounded (Ok (verdicts.GrantedLong minute passes)) p e = let z = ap (λ x. x.number) e in let from = p.from in absurd (omega arith)
refused_bounded (Err why) p e = rw (ap (λ x. x.values) e) p.record_low

refused_settling : (r : Result ℕ Refused) {n : ℕ} {vs : List ℕ} → Proper n vs → answered_as r ≡ refuses n vs → BoundedSettling r
refused_settling (Ok passes) p e = absurd (gives_not_refuses e)
refused_settling (Err why) {n} {vs} p e = let same : refusal_values why ≡ vs = cc in rw same p.record_low

module _ {s : List ℕ} {q : Request} where
  -- a question, and a table, that are not refused
  ask_ready : (m t c : ℕ) {n : ℕ} → first_of (ask_cases s q m t c) (count_of s) ≡ gives n → Ready s q (count_of s)
  unfolding ask_cases
  ask_ready m t c e = admitted_ready s q (first_both (file_cases s ++ request_cases q) _ (count_of s) (count_of s) e).0

  settle_ready : (t : ℕ) {n : ℕ} → first_of (settle_cases s q t) (count_of s) ≡ gives n → Ready s q (count_of s) × (entries ≤ t)
  unfolding settle_cases
  settle_ready t e =
      let both = first_both (file_cases s ++ request_cases q) _ (count_of s) (count_of s) e in
      (admitted_ready s q both.0, ltb-false _ _ (first_passed _ _ _ both.1).0)

module _ {s : List ℕ} {q : Request} (bytes : AreBytes s) where
  module _ {n : ℕ} (ready : Ready s q n) where
    lawful : Lawful (asked q) (rules_of s q)
    lawful = rules_lawful Minutes s q bytes ready.accepted ready.asker

    passes_few : {N : ℕ} → PassCount (asked q) (rules_of s q) N → N ≤ most_passes
    passes_few c = passes_bounded lawful c

    minute_low : {W : ℕ} → Best (asked q) (rules_of s q) q.owner W → W ≤ without_end
    unfolding minutes
    minute_low best = let low = weighed_fits lawful best.chain in let weighs = best.weighs in omega arith

  -- the verdict of a question: at most 2,576 passes, at most 200 steps, a minute of 32 bits, a record below 128
  pub judged_passes : {r : Result Verdict Refused} {m m' t t' c c' : List ℕ} → Judged s q r m m' t t' c c' → Bounded r
  judged_passes {r} {m} {t = t} {c = c} (refused n vs case e at-m at-t at_c) = refused_bounded r (ask_proper s q (length m) (length t) (length c) case) e
  judged_passes {r} {m} {t = t} {t'} {c} {c'} (answered case (granted W N some best held rest)) = turn rest
    where
      ready : Ready s q (count_of s)
      ready = ask_ready (length m) (length t) (length c) case

      turn : Counted s q W N r t t' c c' → Bounded r
      turn (counted n ch low shortest same steps e) =
          subst Bounded (sym (reply_unique r (Ok (verdicts.Granted W n N)) e)) (minute_low ready best, low, passes_few ready held.count)
      turn (uncountable few same steps e) =
          subst Bounded (sym (reply_unique r (Ok (verdicts.GrantedLong W N)) e)) (minute_low ready best, passes_few ready held.count)
  judged_passes {r} {m} {t = t} {c = c} (answered case (denied N none held all beyond same e)) =
      subst Bounded (sym (reply_unique r (Ok (verdicts.NoChain N)) e)) (passes_few (ask_ready (length m) (length t) (length c) case) held.count)

  -- the passes over any table of minutes are fewer than 2^56
  pub settles_passes : {r : Result ℕ Refused} {t t' : List ℕ} → ((i : ℕ) → get_or t i 0 ≤ without_end) → Settles s q r t t' → BoundedSettling r
  unfolding minutes
  settles_passes {r} {t} fits (refused n vs case e same) = refused_settling r (settle_proper s q (length t) case) e
  settles_passes {r} {t} fits (settled case N from e) =
      let ready = (settle_ready (length t) case).0 in
      let ok = lawful ready in
      let within = list_held Minutes q.asker t (minutes_within t (settle_ready (length t) case).1 (λ i. omega (arith, fits i))) in
      let most = settles ok within in
      subst BoundedSettling (sym (answered_as_unique r (Ok N) e)) (omega (arith, count_unique from.count most.1, most.2, ranks_most ok within))
