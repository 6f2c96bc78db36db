-- Rows that wait on a lent page.
use Rattle.std.specs.Prelude.{ℕ, ◌+◌, ◌-◌, ◌*◌, ◌≤◌, cond, List, length, take, drop, nat_le}
use Rattle.memory.specs.declared.waiting.WaitingRows.{WaitingRows}
use Rattle.memory.specs.Rows.{rows_from, put_row}
use Rattle.nested_loop.specs.Model.{counted, limit}

-- the elements from one place to another
abbrev pub stretch : {X : Type 0} → ℕ → ℕ → List X → List X
stretch from to xs = take (to - from) (drop from xs)

-- a waiting page, and how many rows wait at its front
pub record Waiting (C : Type 0) : Type 0 where
  pub count : ℕ
  pub page : List C

abbrev pub waiting_of : {C : Type 0} → ℕ → List C → Waiting C
waiting_of n cells = record { count = n; page = cells }

-- the same of a lent page
abbrev pub waits_in : {C : Type 0} → WaitingRows C → Waiting C
waits_in w = waiting_of w.rows w.cells.now

-- the rows that wait, with so many cells to a row
abbrev pub waiting_rows : {C : Type 0} → ℕ → Waiting C → List (List C)
waiting_rows width w = rows_from w.count width w.page

-- a row written behind the waiting rows and counted, if it fits there
abbrev pub appended : {C : Type 0} → ℕ → List C → Waiting C → Waiting C
appended width row w =
    cond (nat_le (w.count * width + width) (length w.page))
    (waiting_of (counted (w.count + 1)) (put_row w.page (w.count * width) row))
    w

-- so many more rows have room behind the waiting rows, and can be counted
pub record HasRoom {C : Type 0} (width more : ℕ) (w : Waiting C) : Type 0 where
  pub fit : (w.count + more) * width ≤ length w.page
  pub countable : w.count + more ≤ limit
