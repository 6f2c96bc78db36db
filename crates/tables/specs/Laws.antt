-- What holds of adding rows one after another.
use Rattle.std.specs.Prelude.{◌≡◌, ℕ, ◌*◌, ◌≤◌, cond, List, [], ◌∷◌, ◌++◌, length, drop, is_some}
use Rattle.std.specs.List.{AllByRecursion}
use Rattle.tables.specs.Tables.{Table, table, rows_of, add_refusal, added, added_all}

-- rows of one width that fit, added to a table begun with that width
pub record HoldsRows (C : Type 0) : Type 0 where
  -- one row: it comes behind the rows held, unless it is refused
  pub one : (t : Table C) (row : List C) → rows_of (added t row) ≡ rows_of t ++ cond (is_some (add_refusal t row)) [] (row ∷ [])
  -- many rows: the table holds exactly these, in order
  pub in_order : (columns : ℕ) (cells : List C) (rows : List (List C)) →
      AllByRecursion (λ r. length r ≡ columns) rows → length rows ≤ 4096 → length rows * columns ≤ length cells →
      rows_of (added_all (table columns 0 cells) rows) ≡ rows
  -- and the memory behind them is as it was
  pub behind : (columns : ℕ) (cells : List C) (rows : List (List C)) →
      AllByRecursion (λ r. length r ≡ columns) rows → length rows ≤ 4096 → length rows * columns ≤ length cells →
      drop (length rows * columns) (added_all (table columns 0 cells) rows).cells ≡ drop (length rows * columns) cells
