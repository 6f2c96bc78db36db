-- Which numbers of columns rows may have.
use Rattle.std.specs.Prelude.{ℕ, Bool, ◌&&◌, nat_le}

-- is a number one of 1 to most
abbrev pub up_to : ℕ → ℕ → Bool
up_to most n = nat_le 1 n && nat_le n most

-- from 1 to 16
abbrev pub are_columns : ℕ → Bool
are_columns n = up_to 16 n
