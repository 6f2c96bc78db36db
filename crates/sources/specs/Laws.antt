-- What holds of all sources.
use Rattle.std.specs.Prelude.{◌≡◌, ℕ, ◌≤◌, Bool, List, [], ◌∷◌, map, length, filter}
use Rattle.memory.specs.Items.{Item, batch, wait, fault}
use Rattle.sources.specs.Cuts.{batches_of}
use Rattle.sources.specs.Drained.{rows_of}
use Rattle.sources.specs.Piles.{piled, has_all, present_all}

-- batches of c rows, the last of 1 to c, and nothing else
abbrev pub InBatches : {C : Type 0} → ℕ → List (Item C) → Type 0
InBatches c [] = Unit {0}
InBatches c (batch rows ∷ []) = (1 ≤ length rows) × (length rows ≤ c)
InBatches c (batch rows ∷ item ∷ items) = (length rows ≡ c) × InBatches c (item ∷ items)
InBatches c (wait ∷ items) = ⊥
InBatches c (fault cause depth ∷ items) = ⊥

-- a table brings each of its rows once, in order
pub record TableBrings (C : Type 0) : Type 0 where
  pub all_rows : (c : ℕ) (rows : List (List C)) → 1 ≤ c → rows_of (batches_of c rows) ≡ rows
  pub in_batches : (c : ℕ) (rows : List (List C)) → 1 ≤ c → InBatches c (batches_of c rows)

-- a pile of present layers over a source does what its layers do, one after another, whatever their number
pub record PilesCompose {C S : Type 0} (is_missing : C → Bool) (items : S → List (Item C)) : Type 0 where
  pub composed : (s : S) (columns : List ℕ) → piled is_missing columns (items s) ≡ map (present_all is_missing columns) (items s)
  -- its rows are those of the source that have all cells, in order
  pub rows_kept : (s : S) (columns : List ℕ) → rows_of (piled is_missing columns (items s)) ≡ filter (has_all is_missing columns) (rows_of (items s))
