-- What reading a block answers.
use Rattle.std.specs.Prelude.{◌≡◌, ℕ, ◌<◌, ◌≤◌, List, [], length, drop, Ok, Err, vec_items, Result, slice_index_or}
use Rattle.std.specs.List.{flat_map}
use Rattle.cells.specs.declared.full.Full.{Full}
use Rattle.schedules.specs.declared.songs.Songs.{Songs}
use Rattle.schedules.specs.declared.songs.SongError.{SongError}
use Rattle.schedules.specs.declared.songs.SongError.TheVariants.{NoNames, TooManyRows, NoMemory}
use Rattle.schedules.specs.Blocks.{names, good_rows, passed_lines}

-- the cells of rows, one row behind the other, as `memory` has it, on which songs do not stand
abbrev pub cells_of : List (List Full) → List Full
cells_of rows = flat_map (λ r. r) rows

-- the value lines behind a names line: their rows and the lines passed by, or more than 4,096 rows
abbrev pub ReadValues : List (List ℕ) → Result Songs SongError → Type 0
ReadValues ls (Ok s) = (length (good_rows ls) ≤ 4096) × (vec_items s.cells ≡ cells_of (good_rows ls)) × (vec_items s.passed ≡ passed_lines 1 ls)
ReadValues ls (Err NoNames) = ⊥
ReadValues ls (Err TooManyRows) = 4096 < length (good_rows ls)
ReadValues ls (Err NoMemory) = Unit {0}

-- a block: its names line, and then as above
abbrev pub ReadSongs : List (List ℕ) → Result Songs SongError → Type 0
ReadSongs ls (Ok s) = (slice_index_or ls 0 [] ≡ names) × ReadValues (drop 1 ls) (Ok s)
ReadSongs ls (Err NoNames) = slice_index_or ls 0 [] ≡ names → ⊥
ReadSongs ls (Err TooManyRows) = (slice_index_or ls 0 [] ≡ names) × ReadValues (drop 1 ls) (Err TooManyRows)
ReadSongs ls (Err NoMemory) = Unit {0}
