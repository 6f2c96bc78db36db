-- Rows cut into batches.
use Rattle.std.specs.Prelude.{ℕ, ◌/◌, List, [], ◌∷◌, map, length, take, drop, replicate}
pub use Rattle.memory.specs.Counts.{parts}
use Rattle.memory.specs.Items.{Item, batch}
use Rattle.memory.specs.Rows.{rows_from}

-- the whole rows of w cells that lie in memory, one behind the other
abbrev pub whole_rows : {C : Type 0} → ℕ → List C → List (List C)
whole_rows w cells = rows_from (length cells / w) w cells

-- a list cut from the front into parts of the lengths given
abbrev pub cut_by : {X : Type 0} → List ℕ → List X → List (List X)
cut_by [] xs = []
cut_by (k ∷ ks) xs = take k xs ∷ cut_by ks (drop k xs)

-- rows in batches of c, the last perhaps shorter
abbrev pub batches_of : {C : Type 0} → ℕ → List (List C) → List (Item C)
batches_of c rows = map batch (cut_by (replicate (parts (length rows) c) c) rows)
