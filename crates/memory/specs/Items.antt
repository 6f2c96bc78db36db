-- What a source brings, one item after another.
use Rattle.std.specs.Prelude.{ℕ, List, [], ◌∷◌, ◌++◌}

-- a batch of rows, a wait, or a fault with a cause and a depth
pub data Item (C : Type 0) : Type 0 where
  batch : List (List C) → Item C
  wait : Item C
  fault : ℕ → ℕ → Item C

-- the rows that the items bring, in order
abbrev pub rows_brought : {C : Type 0} → List (Item C) → List (List C)
rows_brought [] = []
rows_brought (batch rows ∷ items) = rows ++ rows_brought items
rows_brought (wait ∷ items) = rows_brought items
rows_brought (fault cause depth ∷ items) = rows_brought items
