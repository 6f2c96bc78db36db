-- Separation, put together from code equality, the distance of two starts and AND.
use Rattle.std.specs.Prelude.{ℕ, ◌*◌, Bool, List, ℤ, ◌-ℤ◌, Some, None, Option, ◌==◌, nat_lt, slice_index_or, unsigned_abs}
use Rattle.cells.specs.Kinds.{code_in, number_in}
use Rattle.cells.specs.declared.code.Code.{Code}
use Rattle.cells.specs.declared.full.Full.{Full}
use Rattle.cells.specs.declared.full.Full.TheVariants as full
use Rattle.verdicts.specs.declared.separation.SongColumns.{SongColumns}
use Rattle.verdicts.specs.declared.truth.Truth.{Truth}
use Rattle.verdicts.specs.declared.truth.Truth.TheVariants.{Absent}
use Rattle.verdicts.specs.Truths.{both, truth_of}

-- when two codes are one artist: they have the same number, and so the same letters
unfoldable pub same_code : Code → Code → Bool
same_code c d = c.bits == d.bits

-- how far apart two starts lie
abbrev pub apart : ℤ → ℤ → ℕ
apart a b = unsigned_abs (a -ℤ b)

-- they lie less than so many seconds apart
abbrev pub near : ℕ → ℤ → ℤ → Bool
near limit a b = nat_lt (apart a b) limit

-- one half of a separation: a test of two cells, absent where one is missing
abbrev pub half : {X : Type 0} → (X → X → Bool) → Option X → Option X → Truth
half test None y = Absent
half test (Some x) None = Absent
half test (Some x) (Some y) = truth_of (test x y)

-- the cell in a column of a row; one that does not exist is missing
abbrev pub cell_in : List Full → ℕ → Full
cell_in row column = slice_index_or row column full.Missing

-- same artist, and starts less than so many minutes apart
abbrev pub separation : ℕ → SongColumns → SongColumns → List Full → List Full → Truth
separation minutes a b l r =
    both
    (half same_code (code_in (cell_in l a.artist)) (code_in (cell_in r b.artist)))
    (half (near (60 * minutes)) (number_in (cell_in l a.start)) (number_in (cell_in r b.start)))
