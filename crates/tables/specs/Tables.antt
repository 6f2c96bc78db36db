-- The left table on paper: what add refuses, and what it leaves.
use Rattle.std.specs.Prelude.{ℕ, ◌+◌, ◌*◌, cond, not, ◌||◌, List, [], ◌∷◌, length, is_some, Option, ◌==◌, nat_le, nat_lt}
use Rattle.memory.specs.Rows.{rows_from, put_row}
use Rattle.memory.specs.Conditions.{first_of}
use Rattle.tables.specs.declared.table.LeftTable.{LeftTable}
use Rattle.tables.specs.declared.refusal.TableRefusal.{TableRefusal}
use Rattle.tables.specs.declared.refusal.TableRefusal.TheVariants.{RowLength, Full}

-- its counts of columns and rows, and the memory that is lent with a call
pub record Table (C : Type 0) : Type 0 where
  pub columns : ℕ
  pub rows : ℕ
  pub cells : List C

-- a table from its parts
abbrev pub table : {C : Type 0} → ℕ → ℕ → List C → Table C
table columns rows cells = record { columns = columns; rows = rows; cells = cells }

-- a table that gathers, with the memory lent
abbrev pub gathered : {C State : Type 0} → LeftTable State → List C → Table C
gathered g cells = table g.columns.count g.rows cells

-- the rows that it holds
abbrev pub rows_of : {C : Type 0} → Table C → List (List C)
rows_of t = rows_from t.rows t.columns t.cells

-- why add is refused, if it is: the row has not as many cells as the table has columns;
-- the table has 4,096 rows, or the memory has no room for one more
abbrev pub add_refusal : {C : Type 0} → Table C → List C → Option TableRefusal
add_refusal t row =
    first_of ((not (length row == t.columns), RowLength) ∷ (nat_le 4096 t.rows || nat_lt (length t.cells) (t.rows * t.columns + t.columns), Full) ∷ [])

-- the table with one more row, written behind the rows held
abbrev pub with_row : {C : Type 0} → Table C → List C → Table C
with_row t row = table t.columns (t.rows + 1) (put_row t.cells (t.rows * t.columns) row)

-- the table after add: as before if the row is refused
abbrev pub added : {C : Type 0} → Table C → List C → Table C
added t row = cond (is_some (add_refusal t row)) t (with_row t row)

-- the table after rows are added one after another
abbrev pub added_all : {C : Type 0} → Table C → List (List C) → Table C
added_all t [] = t
added_all t (row ∷ rows) = added_all (added t row) rows
