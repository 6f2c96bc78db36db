-- Orders at their limits, with a left table of two columns and two right columns.
use Rattle.std.specs.Prelude.{◌≡◌, ℕ, List, [], ◌∷◌, replicate, Some, None, Option}
use Rattle.join_types.specs.declared.column.ColumnIndex.{ColumnIndex}
use Rattle.join_types.specs.declared.column.JoinSide.TheVariants as side
use Rattle.join_types.specs.declared.kind.JoinType.{JoinType}
use Rattle.join_types.specs.declared.kind.JoinType.TheVariants.{Inner, LeftSemi, LeftMark, RightMark}
use Rattle.opening.specs.declared.refusal.OpenRefusal.{OpenRefusal}
use Rattle.opening.specs.declared.refusal.OpenRefusal.TheVariants.{Probes, BatchSize, RightColumns, TooManyColumns, NoSuchColumn, SideNotAllowed}
use Rattle.opening.specs.Orders.{order_refusal}

-- a left, a right and a mark column by number
abbrev pub left : ℕ → ColumnIndex
left n = record { index = n; side = side.Left }

abbrev pub right : ℕ → ColumnIndex
right n = record { index = n; side = side.Right }

abbrev pub mark : ℕ → ColumnIndex
mark n = record { index = n; side = side.None }

-- an inner join with these numbers of probes, batch size and right columns
abbrev pub numbers : ℕ → ℕ → ℕ → Option OpenRefusal
numbers probes batch columns = order_refusal Inner probes batch 2 columns []

-- a join of this type with these output columns
abbrev pub listed : JoinType → List ColumnIndex → Option OpenRefusal
listed k cs = order_refusal k 1 1024 2 2 cs

pub record WorkedOrders : Type 0 where
  -- the limits, and one past each
  pub one_probe : numbers 1 1 1 ≡ None
  pub no_probe : numbers 0 1 1 ≡ Some Probes
  pub sixteen_probes : numbers 16 1024 16 ≡ None
  pub seventeen_probes : numbers 17 1024 16 ≡ Some Probes
  pub no_batch : numbers 1 0 1 ≡ Some BatchSize
  pub largest_batch : numbers 1 1024 1 ≡ None
  pub larger_batch : numbers 1 1025 1 ≡ Some BatchSize
  pub no_right : numbers 1 1 0 ≡ Some RightColumns
  pub seventeen_right : numbers 1 1 17 ≡ Some RightColumns
  -- the smallest number that fits
  pub smallest : numbers 0 0 0 ≡ Some Probes
  pub batch_first : numbers 1 0 0 ≡ Some BatchSize
  -- the output list
  pub no_columns : listed Inner [] ≡ None
  pub most_columns : listed Inner (replicate 32 (right 1)) ≡ None
  pub more_columns : listed Inner (replicate 33 (right 1)) ≡ Some TooManyColumns
  pub number_too_high : listed Inner (left 1 ∷ left 2 ∷ []) ≡ Some NoSuchColumn
  pub right_too_high : listed Inner (right 2 ∷ []) ≡ Some NoSuchColumn
  pub named_twice : listed Inner (left 1 ∷ left 1 ∷ []) ≡ None
  pub side_not_named : listed LeftSemi (right 0 ∷ []) ≡ Some SideNotAllowed
  pub no_mark : listed Inner (mark 0 ∷ []) ≡ Some SideNotAllowed
  pub one_mark : listed LeftMark (left 0 ∷ mark 0 ∷ []) ≡ None
  pub two_marks : listed RightMark (mark 0 ∷ right 1 ∷ mark 0 ∷ []) ≡ Some SideNotAllowed
  -- the number of a mark is ignored
  pub mark_number : listed LeftMark (mark 99 ∷ []) ≡ None
  -- eight is looked for in the whole list before nine
  pub eight_first : listed LeftSemi (right 0 ∷ left 2 ∷ []) ≡ Some NoSuchColumn
