-- `passes_on` meets its contract: the note that is kept under the number is brought to the other site.
use mathlib.Core.Path.{◌≡◌, ap, ◌∙◌}
use Prim.Native.Nat.{◌%◌}
use native.Mathlib.Omega.{arith}
use Rattle.std.specs.Option.{unwrap_or}
use Rattle.exchange.specs.Mail.{blank, kept_as}
use Rattle.exchange.specs.Acts.{PassedOn}
use Rattle.exchange.proofs.desk.Desk.passes_on.Goals as goal

pub returns : goal.returns
returns c =
    let args = c.args in
    let note : c.unwrap_or-note.result ≡ kept_as args.first.now (args.number % args.self.first_count) =
    c.unwrap_or-note.ensures ∙ ap (λ o. unwrap_or o blank) c.kept.ensures in
    PassedOn.brought (omega arith) (rw (← note, ← c.swapped.ensures, c.swapped-2.ensures) c.brings-outcome.ensures)
