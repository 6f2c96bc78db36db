-- A table in memory, and what a pile of layers brings of it.
use Rattle.std.specs.Prelude.{◌≡◌, ℕ, ◌*◌, ◌/◌, ◌<◌, ◌≤◌, min, Bool, List, map, length, Ok, Err, vec_items, filter, Result}
use Rattle.memory.specs.Rows.{rows_from, cells_of}
use Rattle.sources.specs.declared.drained.DrainError.{DrainError}
use Rattle.sources.specs.declared.drained.DrainError.TheVariants.{PageTooShort, NoMemory}
use Rattle.sources.specs.declared.drained.Drained.{Drained}
use Rattle.sources.specs.declared.shape.TableShape.{TableShape}
use Rattle.sources.specs.Cuts.{batches_of}
use Rattle.sources.specs.Drained.{Brought}
use Rattle.sources.specs.Piles.{has_all, present_all}

-- as many rows as the shape has; where the memory is shorter, as many as lie in it whole
abbrev pub table_rows : {C : Type 0} → TableShape → List C → List (List C)
table_rows t cells = rows_from (min t.rows (length cells / t.columns.count)) t.columns.count cells

-- draining present layers over a table: its rows that have all the cells, in order, and a batch for each of its batches
abbrev pub PileDrains : {C : Type 0} → (C → Bool) → List ℕ → TableShape → List C → List C → List C → Result (Drained C) DrainError → Type 0
PileDrains is_missing columns t cells page page' (Ok d) =
    (1024 * t.columns.count ≤ length page)
    × Brought (map (present_all is_missing columns) (batches_of t.batch (table_rows t cells))) d
    × (vec_items d.cells ≡ cells_of (filter (has_all is_missing columns) (table_rows t cells)))
PileDrains is_missing columns t cells page page' (Err PageTooShort) = (length page < 1024 * t.columns.count) × (page' ≡ page)
PileDrains is_missing columns t cells page page' (Err NoMemory) = 1024 * t.columns.count ≤ length page
