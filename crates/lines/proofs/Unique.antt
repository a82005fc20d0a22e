-- Two results that meet one statement about a line are the same, but for which shortest best chain a granted question's line gives (docs/EXCEPTIONS.md).
use mathlib.Core.Path.{◌≡◌, refl, sym, ap, subst, ◌∙◌}
use mathlib.Core.List.{List, [], ◌∷◌}
use Prim.Native.Nat.{ℕ}
use Rattle.std.specs.Prelude.{Result, Ok, Err}
use native.Mathlib.Omega.{arith}
use lib.ListN.{take, drop}
use Rattle.wac.specs.Answers.{gives}
use Rattle.decision.specs.Question.{reply, reply_of, ShortestBest}
use Rattle.decision.proofs.Unique.{ChainsAgree, everywhere, but_first, judged_unique}
use Rattle.lines.specs.Text.{Put}
use Rattle.lines.specs.Question.{request_bytes, request_in, line_of, lined_as, Asks, Answers, cramped, short, asked}
use Rattle.lines.specs.Act.{Writes}
use Rattle.lines.specs.declared.question.NoRoom.{NoRoom}

-- what a line comes back as determines it
lined_unique : (r r' : Result ℕ NoRoom) → lined_as r ≡ lined_as r' → r ≡ r'
lined_unique (Ok n) (Ok m) e = let same : n ≡ m = cc in ap Ok same
lined_unique (Ok n) (Err few) e = absurd (let z : ◌≡◌ {A = ℕ} 0 1 = cc in omega arith)
lined_unique (Err few) (Ok m) e = absurd (let z : ◌≡◌ {A = ℕ} 0 1 = cc in omega arith)
lined_unique (Err few) (Err few') e = refl

put_unique : {out text out₁ out₂ : List ℕ} {at m n : ℕ} {r r' : Result ℕ NoRoom} → Put out at text m out₁ → Put out at text n out₂ →
    lined_as r ≡ gives m → lined_as r' ≡ gives n → (r ≡ r') × (out₁ ≡ out₂)
put_unique {r = r} {r'} p q e e' = (lined_unique r r' (e ∙ ap gives (p.end ∙ sym q.end) ∙ sym e'), p.bytes ∙ sym q.bytes)

-- the lines after an act and of sites that were not opened
pub writes_unique : {text out out₁ out₂ : List ℕ} {r r' : Result ℕ NoRoom} → Writes text out r out₁ → Writes text out r' out₂ → (r ≡ r') × (out₁ ≡ out₂)
writes_unique {r = r} {r'} (Writes.cramped few e same) (Writes.cramped few' e' same') = (lined_unique r r' (e ∙ sym e'), same ∙ sym same')
writes_unique (Writes.cramped few e same) (Writes.written room end put e') = absurd (omega arith)
writes_unique (Writes.written room end put e) (Writes.cramped few e' same) = absurd (omega arith)
writes_unique (Writes.written room end put e) (Writes.written room' end' put' e') = put_unique put put' e e'

-- the lines of a question: the same, or both of one reply, each with a shortest best chain
pub data LinesAgree (s out : List ℕ) (r r' : Result ℕ NoRoom) (out₁ out₂ : List ℕ) : Type 0 where
  same_line : r ≡ r' → out₁ ≡ out₂ → LinesAgree s out r r' out₁ out₂
  but_chain : (W n N : ℕ) (c₁ c₂ : List ℕ) (m₁ m₂ : ℕ) → Put out 0 (line_of (reply 0 (W ∷ n ∷ N ∷ [])) c₁) m₁ out₁ → Put out 0 (line_of (reply 0 (W ∷ n ∷ N ∷ [])) c₂) m₂ out₂ →
      ShortestBest (drop request_bytes s) (request_in s) W n (take n c₁) → ShortestBest (drop request_bytes s) (request_in s) W n (take n c₂) → LinesAgree s out r r' out₁ out₂

asks_agree : {s out out₁ out₂ : List ℕ} {m n : ℕ} {r r' : Result ℕ NoRoom} (a : Asks (drop request_bytes s) (request_in s) out m out₁) (b : Asks (drop request_bytes s) (request_in s) out n out₂) →
    lined_as r ≡ gives m → lined_as r' ≡ gives n → LinesAgree s out r r' out₁ out₂
asks_agree {s} {out} {out₁} {out₂} {m} {n} {r} {r'} a b e e' =
    let one = judged_unique a.judged b.judged in
    let put : Put out 0 (line_of (reply_of a.verdict) b.chain) n out₂ = rw one.0 b.put in
    agree one.3 put
  where
    agree : ChainsAgree (drop request_bytes s) (request_in s) (reply_of a.verdict) a.chain b.chain → Put out 0 (line_of (reply_of a.verdict) b.chain) n out₂ →
        LinesAgree s out r r' out₁ out₂
    agree (everywhere some same) put =
        let both = put_unique a.put (subst (λ c. Put out 0 (line_of (reply_of a.verdict) c) n out₂) (sym same) put) e e' in
        same_line both.0 both.1
    agree (but_first W k N is first second rest) put = but_chain W k N a.chain b.chain m n
        (subst (λ x. Put out 0 (line_of x a.chain) m out₁) is a.put) (subst (λ x. Put out 0 (line_of x b.chain) n out₂) is put) first second

pub answers_unique : {s out out₁ out₂ : List ℕ} {r r' : Result ℕ NoRoom} → Answers s out r out₁ → Answers s out r' out₂ → LinesAgree s out r r' out₁ out₂
answers_unique {r = r} {r'} (cramped few e same) (cramped few' e' same') = same_line (lined_unique r r' (e ∙ sym e')) (same ∙ sym same')
answers_unique (cramped few e same) (short room cut end put e') = absurd (omega arith)
answers_unique (cramped few e same) (asked room long end asks e') = absurd (omega arith)
answers_unique (short room cut end put e) (cramped few e' same) = absurd (omega arith)
answers_unique (short room cut end put e) (short room' cut' end' put' e') = let both = put_unique put put' e e' in same_line both.0 both.1
answers_unique (short room cut end put e) (asked room' long end' asks e') = absurd (omega arith)
answers_unique (asked room long end asks e) (cramped few e' same) = absurd (omega arith)
answers_unique (asked room long end asks e) (short room' cut end' put e') = absurd (omega arith)
answers_unique (asked room long end asks e) (asked room' long' end' asks' e') = asks_agree asks asks' e e'
