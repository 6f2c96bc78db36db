-- Counts that stop, and quotients that are rounded up.
use Rattle.std.specs.Prelude.{ℕ, ◌+◌, ◌-◌, ◌/◌, min}

-- the largest number of 64 bits
abbrev pub limit : ℕ
limit = 18446744073709551615

-- a count stops there
abbrev pub counted : ℕ → ℕ
counted n = min n limit

-- how many parts of c it takes for n, the last perhaps shorter
abbrev pub parts : ℕ → ℕ → ℕ
parts n c = (n + (c - 1)) / c
