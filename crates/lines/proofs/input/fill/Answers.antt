-- After a read, what it gave follows what was counted before.
use Rattle.std.proofs.Common.{◌≡◌, ℕ, ◌+◌, ◌-◌, ◌≤◌, List, ◌++◌, rules, length, take, sym, ap, ◌∙◌, subst, le_refl, drop_at, length-take-le}
use Rattle.std.proofs.lemmas.Slice.{take-put_mid_below}
use Rattle.std.specs.Io.KnownBytes.{Consumes}
use Rattle.std.proofs.KnownBytes.{Consumes-trans}
use borrow.Rule.Slice.PartMut.{put_mid, post_of}
use lib.Seq.{take-add, take-append-le}
use Rattle.lines.proofs.input.fill.Goals as goal

-- the front and n more bytes are the front of what stands after the read
read_more : (at room n : ℕ) (xs ys : List ℕ) → at ≤ length xs → n ≤ length ys → take at xs ++ take n ys ≡ take (at + n) (put_mid at room xs ys)
read_more at room n xs ys within fits =
    let after = put_mid at room xs ys in
    let front : take at after ≡ take at xs = take-put_mid_below _ _ _ _ _ (le_refl _) within in
    let rest = drop_at (take at xs) (ys ++ post_of at room xs) at (length-take-le at xs within) in
    let part = ap (take n) rest ∙ take-append-le n ys (post_of at room xs) fits in
    ap (λ l. l ++ take n ys) (sym front) ∙ ap (λ l. take at after ++ l) (sym part) ∙ sym (take-add at n after)

pub loop-count-preserved : goal.loop-count-preserved
loop-count-preserved g c =
    let before = c.loop-count.invariant in
    let read = c.in-Ok.ensures in
    let more = read_more c.loop-count.count (length c.loop-count.bytes - c.loop-count.count) c.in-Ok.n c.loop-count.bytes c.read.new.buf before.within read.bound.0 in
    record {
      within = search rules;
      consumed = subst (Consumes _ _) more (Consumes-trans _ _ _ _ _ before.consumed read.bytes.0);
    }
