-- What adding a row and noting a line do, and what refusals are called.
use Rattle.std.specs.Prelude.{◌≡◌, ℕ, ◌<◌, ◌≤◌, List, [], ◌∷◌, ◌++◌, length, Some, None, Ok, Err, vec_items, codes, Option, Result}
use Rattle.cells.specs.declared.full.Full.{Full}
use Rattle.schedules.specs.declared.songs.Songs.{Songs}
use Rattle.schedules.specs.declared.songs.PassedLine.{PassedLine}
use Rattle.schedules.specs.declared.songs.SongError.{SongError}
use Rattle.schedules.specs.declared.songs.SongError.TheVariants.{NoNames, TooManyRows, NoMemory}

-- a row, which has two cells, is appended; with 4,096 rows held it is refused
abbrev pub Added : Songs → List Full → Result (Unit {0}) SongError → Songs → Type 0
Added s row (Ok u) t = (length row ≡ 2) × (length (vec_items s.cells) < 8192) × (vec_items t.cells ≡ vec_items s.cells ++ row) × (vec_items t.passed ≡ vec_items s.passed)
Added s row (Err NoNames) t = ⊥
Added s row (Err TooManyRows) t = (length row ≡ 2) × (8192 ≤ length (vec_items s.cells)) × (t ≡ s)
Added s row (Err NoMemory) t = Unit {0}

-- a line that was passed by is noted
abbrev pub Noted : Songs → PassedLine → Result (Unit {0}) SongError → Songs → Type 0
Noted s line (Ok u) t = (vec_items t.cells ≡ vec_items s.cells) × (vec_items t.passed ≡ vec_items s.passed ++ line ∷ [])
Noted s line (Err NoNames) t = ⊥
Noted s line (Err TooManyRows) t = ⊥
Noted s line (Err NoMemory) t = Unit {0}

-- what a line brings is added or noted
abbrev pub Took : Songs → Result (List Full) PassedLine → Result (Unit {0}) SongError → Songs → Type 0
Took s (Ok row) r t = Added s row r t
Took s (Err line) r t = Noted s line r t

-- the number by which a refusal goes, where it has one
abbrev pub number_of : SongError → Option ℕ
number_of NoNames = None
number_of TooManyRows = Some 3
number_of NoMemory = None

-- what is printed of a refusal
abbrev pub error_text : SongError → List ℕ
error_text NoNames = codes "no names line artist,start"
error_text TooManyRows = codes "more than 4096 songs"
error_text NoMemory = codes "there is not enough memory"
