-- Layers piled on one another.
use Rattle.std.specs.Prelude.{ℕ, ◌+◌, min, Bool, true, ◌&&◌, List, [], ◌∷◌, map, length, filter}
use Rattle.memory.specs.Items.{Item, batch, wait, fault}
use Rattle.sources.specs.Present.{has_cell, present}

-- a pile of present layers, the layer of the first column lowest
abbrev pub piled : {C : Type 0} → (C → Bool) → List ℕ → List (Item C) → List (Item C)
piled is_missing [] items = items
piled is_missing (column ∷ columns) items = piled is_missing columns (map (present is_missing column) items)

-- the row has a cell in each of the columns
abbrev pub has_all : {C : Type 0} → (C → Bool) → List ℕ → List C → Bool
has_all is_missing [] row = true
has_all is_missing (column ∷ columns) row = has_cell is_missing column row && has_all is_missing columns row

-- what the whole pile makes of an item: the rows with all cells stay, and a fault comes as many layers deeper, at most 255
abbrev pub present_all : {C : Type 0} → (C → Bool) → List ℕ → Item C → Item C
present_all is_missing columns (batch rows) = batch (filter (has_all is_missing columns) rows)
present_all is_missing columns wait = wait
present_all is_missing columns (fault cause depth) = fault cause (min (depth + length columns) 255)
