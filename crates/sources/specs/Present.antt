-- The layer that keeps the rows with a cell in a column.
use Rattle.std.specs.Prelude.{ℕ, ◌+◌, min, Bool, false, not, List, slice_get, filter}
use Rattle.std.specs.Option.{option_map_or}
use Rattle.memory.specs.Items.{Item, batch, wait, fault}

-- the row has a cell in the column, and that is not missing
abbrev pub has_cell : {C : Type 0} → (C → Bool) → ℕ → List C → Bool
has_cell is_missing column row = option_map_or (λ x. not (is_missing x)) (slice_get row column) false

-- one deeper, at most 255
abbrev pub deeper : ℕ → ℕ
deeper depth = min (depth + 1) 255

-- what the layer makes of an item: of a batch it keeps the rows that have the cell, perhaps none
abbrev pub present : {C : Type 0} → (C → Bool) → ℕ → Item C → Item C
present is_missing column (batch rows) = batch (filter (has_cell is_missing column) rows)
present is_missing column wait = wait
present is_missing column (fault cause depth) = fault cause (deeper depth)
