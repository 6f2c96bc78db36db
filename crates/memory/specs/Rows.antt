-- Rows in memory, and what is refused.
use Rattle.std.specs.Prelude.{ℕ, zero, suc, ◌+◌, ◌*◌, ◌%◌, Bool, ◌&&◌, List, [], ◌∷◌, ◌++◌, length, take, drop, ◌==◌}
use Rattle.std.specs.List.{flat_map}
use Rattle.memory.specs.Columns.{are_columns}
use Rattle.memory.specs.declared.rows.MemoryRows.{MemoryRows}
use Rattle.memory.specs.declared.rows.RowsRefusal.{RowsRefusal}
use Rattle.memory.specs.declared.rows.RowsRefusal.TheVariants.{NotWholeRows}

-- row i of memory with c cells to a row: the cells that are there
abbrev pub row_at : {C : Type 0} → ℕ → List C → ℕ → List C
row_at c cells i = take c (drop (i * c) cells)

-- the first n rows of memory with c cells to a row
abbrev pub rows_from : {C : Type 0} → ℕ → ℕ → List C → List (List C)
rows_from zero c cells = []
rows_from (suc n) c cells = take c cells ∷ rows_from n c (drop c cells)

-- the cells of rows, one row behind the other
abbrev pub cells_of : {C : Type 0} → List (List C) → List C
cells_of rows = flat_map (λ r. r) rows

-- memory with a row written over what stood from a place on
abbrev pub put_row : {C : Type 0} → List C → ℕ → List C → List C
put_row cells at row = take at cells ++ (row ++ drop (at + length row) cells)

-- the rows that lie in a piece of lent memory
abbrev pub rows_in : {C State : Type 0} → MemoryRows C State → List (List C)
rows_in t = rows_from t.count t.columns t.cells.now

-- 1 to 16 columns, and the memory holds whole rows
abbrev pub are_rows : ℕ → ℕ → Bool
are_rows columns cells = are_columns columns && cells % columns == 0

-- refusals by number
abbrev pub number_of : RowsRefusal → ℕ
number_of NotWholeRows = 16
