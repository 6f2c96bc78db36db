-- The full row that a row of places stands for.
use Rattle.std.specs.Prelude.{ℕ, List, [], slice_index_or}
use Rattle.cells.specs.declared.full.Full.{Full}
use Rattle.cells.specs.declared.place.Place.{Place}
use Rattle.cells.specs.declared.place.Place.TheVariants.{Missing, Row, YesNo}
use Rattle.memory.specs.Rows.{row_at}

-- the row that a place names in memory with c cells to a row; a place that names none has no cells
abbrev pub named_row : ℕ → List Full → Place → List Full
named_row c cells Missing = []
named_row c cells (Row n) = row_at c cells n
named_row c cells (YesNo b) = []

-- the place stands in column 0
abbrev pub placed : ℕ → List Full → List Place → List Full
placed c cells places = named_row c cells (slice_index_or places 0 Missing)
