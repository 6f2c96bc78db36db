-- What reading up to 64 rows does.
use Rattle.std.specs.Prelude.{◌≡◌, ℕ, ◌<◌, ◌≤◌, ◌⊎◌, List, [], ◌∷◌, ◌++◌, map, length, take, drop, Ok, Err, Result}
use Rattle.cells.specs.declared.full.Full.{Full}
use Rattle.lines.specs.declared.reader.Answer.{Answer}
use Rattle.lines.specs.declared.reader.LineRefusal.{LineRefusal}
use Rattle.lines.specs.Rows.{Read}
use Rattle.lines.specs.Written.{behind}
use Rattle.memory.specs.Rows.{rows_from, put_row}
use Rattle.texts.specs.Items.{good, bad, items}

-- a line is read into a place of the page: its row stands there then, and where it is no row, page and cursor are as they were
abbrev pub ReadAt : (w at : ℕ) (text : List ℕ) (cursor : ℕ) (page : List Full) → Result Answer LineRefusal → (page' : List Full) (next : ℕ) → Type 0
ReadAt w at text cursor page r page' next =
    (row : List Full) × Read text cursor (take w (drop at page)) r row next × (page' ≡ put_row page at row) × (length row ≡ w)

-- no further good line is read: 64 rows are there, the lines end, or a bad line is next, behind at least one row
abbrev pub Stops : ℕ → List ℕ → ℕ → ℕ → Type 0
Stops w text at rows = (rows ≡ 64) ⊎ ((items w (drop at text) ≡ []) ⊎ ((0 < rows) × ((e : LineRefusal) × (items w (drop at text) ≡ bad e ∷ items w (drop (behind text at) text)))))

-- so many rows lie at the front of the page, and are what the lines before the new place bring; or the first line is bad, and the new place is its own
abbrev pub Filled : (w : ℕ) (text : List ℕ) (at at' : ℕ) (page' : List Full) → Result ℕ LineRefusal → Type 0
Filled w text at at' page' (Ok rows) = (rows ≤ 64) × (items w (drop at text) ≡ map good (rows_from rows w page') ++ items w (drop at' text)) × Stops w text at' rows
Filled w text at at' page' (Err e) = (at' < length text) × (items w (drop at text) ≡ bad e ∷ items w (drop (behind text at') text))
