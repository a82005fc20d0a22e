-- `next_due` meets its contract. The loop's invariant: from the entry on the next is that from `from` on, since no entry passed waits.
use mathlib.Core.Path.{◌≡◌}
use Rattle.sites.specs.Site.{next_of}
use Rattle.sites.proofs.site.Site.next_due.Given as goal

abbrev pub invariant-loop-entry : goal.invariant-loop-entry
invariant-loop-entry l = next_of l.self l.from ≡ next_of l.self l.entry
