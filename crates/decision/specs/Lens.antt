-- The two weighings as the code picks them, and the certificates that each sees: document 01, "Entries and passes".
use Rattle.std.specs.Prelude.{Bool, ◌&&◌, List, ℕ, leb}
use Rattle.wac.specs.Limits.{keys}
use Rattle.wac.specs.declared.cert.Cert.{Cert}
use Rattle.rewriting.specs.Weighing.{Weighing, minutes, steps}
use Rattle.rewriting.specs.Rewriting.{Rules, Question}
use Rattle.rewriting.specs.Steps.{kept}
use Rattle.decision.specs.Usable.{usable, rules_of}
use Rattle.decision.specs.declared.request.Request.{Request}
use Rattle.decision.specs.declared.lens.Lens.{Lens}
use Rattle.decision.specs.declared.lens.Lens.TheVariants.{Minutes, Steps}

-- the weighing of a lens
abbrev pub weighing_of : Lens → Weighing
weighing_of Minutes = minutes
weighing_of (Steps floor) = steps

-- the question of an asker by a lens, over the file's keys
abbrev pub question_by : Lens → ℕ → Question
question_by lens asker = record { weighing = weighing_of lens; keys = keys; asker = asker }

-- the certificates that a lens sees: all usable ones by minutes; by steps those at or above the minute, each one step
abbrev pub rules_by : Lens → List ℕ → Request → Rules
rules_by Minutes s q = rules_of s q
rules_by (Steps floor) s q = kept minutes floor (rules_of s q)

-- a certificate counts
abbrev pub live_by : Lens → Request → Cert → Bool
live_by Minutes q c = usable q c
live_by (Steps floor) q c = usable q c && leb floor c.not_after

-- what a certificate weighs
abbrev pub weight_by : Lens → Cert → ℕ
weight_by Minutes c = c.not_after
weight_by (Steps floor) c = 1
