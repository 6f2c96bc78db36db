-- Marks as bits of words, one bit for a row: row i has bit i % 64 of word i / 64.
use Rattle.std.specs.Prelude.{ℕ, ◌/◌, ◌%◌, ◌^◌, Bool, List, map, ◌==◌, bit_or, slice_index, slice_set}
use Rattle.std.specs.List.{range_with_len}

-- is row i marked; past the last word it is not
abbrev pub bit : List ℕ → ℕ → Bool
bit words i = slice_index words (i / 64) / 2 ^ (i % 64) % 2 == 1

-- the words with row i marked; past the last word they stay as they are
abbrev pub marked : List ℕ → ℕ → List ℕ
marked words i = slice_set words (i / 64) (bit_or (slice_index words (i / 64)) (2 ^ (i % 64)))

-- the marks of the first n rows
abbrev pub bits_of : ℕ → List ℕ → List Bool
bits_of n words = map (bit words) (range_with_len 0 n)
