-- What is said of an input that has no clash lists.
use Rattle.std.specs.Prelude.{ℕ, List, ◌++◌, codes}
use Rattle.schedules.specs.declared.songs.SongError.{SongError}
use Rattle.schedules.specs.declared.songs.SongError.TheVariants as song
use Rattle.schedules.specs.Adds.{error_text}
use Rattle.clashes.specs.declared.error.InputError.{InputError}
use Rattle.clashes.specs.declared.error.InputError.TheVariants.{Schedule, Log, NoMemory}

-- what is said of a block, which begins at a place
abbrev pub block_text : List ℕ → List ℕ → SongError → List ℕ
block_text block place song.NoNames = block ++ (codes " has " ++ (error_text song.NoNames ++ (codes " " ++ place)))
block_text block place song.TooManyRows = block ++ (codes " is refused with 3: it has " ++ error_text song.TooManyRows)
block_text block place song.NoMemory = error_text song.NoMemory

-- what is said of the whole input: the block that is at fault, by its name and where it begins
abbrev pub input_text : InputError → List ℕ
input_text (Schedule e) = block_text (codes "the schedule") (codes "on line 1") e
input_text (Log e) = block_text (codes "the log") (codes "behind the first empty line") e
input_text NoMemory = error_text song.NoMemory
