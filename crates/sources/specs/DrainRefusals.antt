-- Why draining a source fails, by number.
use Rattle.std.specs.Prelude.{ℕ, Some, None, Option}
use Rattle.sources.specs.declared.drained.DrainError.{DrainError}
use Rattle.sources.specs.declared.drained.DrainError.TheVariants.{PageTooShort, NoMemory}

-- the refusal of the source; that memory ran out has no number
abbrev pub drain_number : DrainError → Option ℕ
drain_number PageTooShort = Some 13
drain_number NoMemory = None
