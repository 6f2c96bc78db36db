-- The output row over a left row, a right row and a mark (docs/RULES.md, "Opening a join").
use Rattle.std.specs.Prelude.{ℕ, List, map, slice_index_or}
use Rattle.join_types.specs.declared.column.ColumnIndex.{ColumnIndex}
use Rattle.join_types.specs.declared.column.JoinSide.{JoinSide}
use Rattle.join_types.specs.declared.column.JoinSide.TheVariants.{Left, Right, None}

-- the cell that a side and a column number name; a side that is padded is the row of no cells, in which every cell is missing
abbrev pub side_cell : {C : Type 0} → C → List C → List C → C → JoinSide → ℕ → C
side_cell missing left right mark Left c = slice_index_or left c missing
side_cell missing left right mark Right c = slice_index_or right c missing
side_cell missing left right mark None c = mark

-- the cell of an output column
abbrev pub output_cell : {C : Type 0} → C → List C → List C → C → ColumnIndex → C
output_cell missing left right mark c = side_cell missing left right mark c.side c.index

-- one cell for each output column
abbrev pub output_row : {C : Type 0} → C → List ColumnIndex → List C → List C → C → List C
output_row missing columns left right mark = map (output_cell missing left right mark) columns
