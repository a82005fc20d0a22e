-- What reading and printing answer: a count of bytes, also where it failed.
use Rattle.std.specs.Prelude.{ℕ, Result, Ok, Err}
use Rattle.lines.specs.declared.stream.Failed.{Failed}

-- how many bytes were read or handed over
abbrev pub counted : Result ℕ Failed → ℕ
counted (Ok n) = n
counted (Err failed) = failed.count
