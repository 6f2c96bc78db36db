-- Which numbers of minutes a separation may have.
use Rattle.std.specs.Prelude.{ℕ, Bool}
use Rattle.memory.specs.Columns.{up_to}

-- from 1 to 1,440
abbrev pub are_minutes : ℕ → Bool
are_minutes n = up_to 1440 n
