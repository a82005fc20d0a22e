-- Laws about lines: a line ends within its bytes, so all of it is printed.
use mathlib.Core.Path.{◌≡◌, refl, sym, ap, ◌∙◌}
use mathlib.Core.List.{List}
use Prim.Native.Nat.{ℕ, ◌≤◌, min}
use Rattle.std.specs.Prelude.{Result, Ok, Err}
use native.Mathlib.Nat.{min-eq_left}
use native.Mathlib.Omega.{arith}
use lib.ListN.{length, replicate, length-append}
use Rattle.wac.specs.Answers.{Answer, gives, refuses}
use Rattle.lines.specs.Text.{Put}
use Rattle.lines.specs.Question.{line_room, lined_as, length_of, Answers, cramped, short, asked, Prints}
use Rattle.lines.specs.Stream.{counted}
use Rattle.lines.specs.declared.question.NoRoom.{NoRoom}
use Rattle.lines.specs.declared.stream.Failed.{Failed}

-- what is put ends within the bytes
put_within : {out piece out' : List ℕ} {r : ℕ} → Put out 0 piece r out' → r ≤ length out'
put_within {out} {piece} p = omega (arith, p.end, simp length-append at (ap length p.bytes))

-- a line's length is within the bytes,
answers_within : {s out out' : List ℕ} {r : Result ℕ NoRoom} {n : ℕ} → Answers s out r out' → r ≡ Ok n → n ≤ length out'
answers_within (cramped few e same) is = absurd (unlike (sym e ∙ ap lined_as is))
  where
    unlike : {n m : ℕ} {vs : List ℕ} → ◌≡◌ {A = Answer ℕ} (refuses m vs) (gives n) → ⊥
    unlike e = let z : ◌≡◌ {A = ℕ} 0 1 = cc in omega arith
answers_within {n = n} (short room few end put e) is = let same : n ≡ end = cc in rw same (put_within put)
answers_within {n = n} (asked room long end asks e) is = let same : n ≡ end = cc in rw same (put_within asks.put)

-- and where there is room no line is refused,
answers_room : {s out out' : List ℕ} {r : Result ℕ NoRoom} {few : NoRoom} → Answers s out r out' → line_room ≤ length out → r ≡ Err few → ⊥
answers_room (cramped few e same) h is = omega arith
answers_room (short room few end put e) h is = let z : ◌≡◌ {A = ℕ} 0 1 = cc in omega arith
answers_room (asked room long end asks e) h is = let z : ◌≡◌ {A = ℕ} 0 1 = cc in omega arith

-- so all of it is printed.
pub answers_printed : {s out' : List ℕ} {r : Result ℕ NoRoom} {p : Result ℕ Failed} → Answers s (replicate line_room 0) r out' →
    counted p ≡ min (length_of r) (length out') → Prints s p
answers_printed {out' = out'} {r = Ok k} {p = p} a e =
    let same : counted p ≡ k = e ∙ min-eq_left (answers_within a refl) in record { bytes = out'; line = rw same a }
answers_printed {out' = out'} {r = Err few} a e = absurd (answers_room a (omega arith) refl)
