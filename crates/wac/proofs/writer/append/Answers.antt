-- `append` meets its contract: a refused call writes nothing; else byte 5 is raised and the record is written after the used part.
use mathlib.Core.Path.{sym, ap, ◌∙◌}
use Prim.Native.Nat.{◌+◌}
use native.Mathlib.Omega.{arith}
use lib.ListN.{get_or, set, length-set}
use lib.Seq.{paste}
use Rattle.std.proofs.lemmas.Result.{err_from_is_err_and}
use Rattle.wac.specs.Writer.{written, left}
use Rattle.wac.proofs.WriterLaws.{append_accepted}
use Rattle.wac.proofs.writer.append.Goals as goal

pub returns-in_err-next : goal.returns-in_err-next
unfolding left
returns-in_err-next c =
    let exit = err_from_is_err_and c.from_residual.result c.from_residual.ensures.1 in
    rw (exit.1, exit.2) record { answer = c.in_err-next.ensures; buffer = rw (sym c.in_err-next.ensures) }

pub bounds-buffer-5 : goal.bounds-buffer-5
bounds-buffer-5 c = let ok = (append_accepted _ _ _ (sym c.in_ok-next.ensures)).0 in omega arith

pub overflow_add-buffer : goal.overflow_add-buffer
overflow_add-buffer c = let ok = (append_accepted _ _ _ (sym c.in_ok-next.ensures)).0 in omega arith

pub bounds-buffer-5-2 : goal.bounds-buffer-5-2
bounds-buffer-5-2 c = let ok = (append_accepted _ _ _ (sym c.in_ok-next.ensures)).0 in omega arith

pub write_at-requires : goal.write_at-requires
write_at-requires c = let ok = (append_accepted _ _ _ (sym c.in_ok-next.ensures)).0 in simp length-set (omega arith)

pub shape_of-buffer : goal.shape_of-buffer
shape_of-buffer c = c.write_at.auto.buffer ∙ simp length-set

pub returns : goal.returns
unfolding left written
returns c =
    let b = c.args.buffer.now in
    let used = c.args.used in
    let cert = c.args.cert in
    record {
      answer = c.in_ok-next.ensures;
      buffer =
          c.write_at.ensures
          ∙ ap (λ bytes. paste (set b 5 (get_or b 5 0 + 1)) used bytes 18) c.into.ensures
          ∙ ap (λ a. left a b used cert) c.in_ok-next.ensures;
    }
