-- The clash lists of a text.
use Rattle.std.specs.Prelude.{◌≡◌, ℕ, List, length, drop, Ok, Err, vec_items, Result}
use Rattle.cells.specs.declared.full.Full.{Full}
use Rattle.verdicts.specs.declared.separation.SongColumns.{SongColumns}
use Rattle.verdicts.specs.Separations.{separation}
use Rattle.schedules.specs.Blocks.{first_block, second_block, good_rows}
use Rattle.schedules.specs.Reads.{ReadSongs}
use Rattle.schedules.specs.declared.songs.Songs.{Songs}
use Rattle.clashes.specs.declared.answer.ClashLists.{ClashLists}
use Rattle.clashes.specs.declared.error.InputError.{InputError}
use Rattle.clashes.specs.declared.error.InputError.TheVariants.{Schedule, Log, NoMemory}
use Rattle.clashes.specs.declared.answer.Lists.{Lists}
use Rattle.clashes.specs.declared.loops.Pair.{Pair}
use Rattle.clashes.specs.Pairs.{pairs_of, without}

-- artist in column 0, start in column 1
abbrev pub song : SongColumns
song = record { artist = 0; start = 1 }

-- the clashes of planned and aired songs at a separation of so many minutes
abbrev pub clashes_at : ℕ → List (List Full) → List (List Full) → List Pair
clashes_at minutes planned aired = pairs_of (separation minutes song song) planned aired

-- both lists, what the second has and the first has not, and what the first has and the second has not
pub record Compared (planned aired : List (List Full)) (m n : ℕ) (c : Lists) : Type 0 where
  pub at_first : vec_items c.first ≡ clashes_at m planned aired
  pub at_second : vec_items c.second ≡ clashes_at n planned aired
  pub adds : vec_items c.added ≡ without (clashes_at n planned aired) (clashes_at m planned aired)
  pub drops : vec_items c.dropped ≡ without (clashes_at m planned aired) (clashes_at n planned aired)

-- the songs that a block of lines brings, behind its names line
abbrev pub songs_of : List (List ℕ) → List (List Full)
songs_of ls = good_rows (drop 1 ls)

-- the lists of a text: the schedule before the first empty line, the log behind it; the log is told as wrong only where the schedule is not
abbrev pub Listed : List (List ℕ) → ℕ → ℕ → Result ClashLists InputError → Type 0
Listed ls m n (Ok c) =
    ReadSongs (first_block ls) (Ok c.schedule)
    × ReadSongs (second_block ls) (Ok c.log)
    × (c.lines_before_gap ≡ length (first_block ls))
    × Compared (songs_of (first_block ls)) (songs_of (second_block ls)) m n c.lists
Listed ls m n (Err (Schedule e)) = ReadSongs (first_block ls) (Err e)
Listed ls m n (Err (Log e)) = ((songs : Songs) × ReadSongs (first_block ls) (Ok songs)) × ReadSongs (second_block ls) (Err e)
Listed ls m n (Err NoMemory) = Unit {0}
