-- Output lists: when a list is legal, why it is refused, and the list with its sides exchanged (docs/RULES.md, "Opening a join").
use Rattle.std.specs.Prelude.{ℕ, Bool, true, false, not, ◌&&◌, List, [], ◌∷◌, map, length, take, replicate, count_by, Option, nat_le, nat_lt}
use Rattle.std.specs.List.{list_all}
use Rattle.join_types.specs.declared.column.ColumnIndex.{ColumnIndex}
use Rattle.join_types.specs.declared.column.JoinSide.{JoinSide}
use Rattle.join_types.specs.declared.column.JoinSide.TheVariants as side
use Rattle.join_types.specs.declared.kind.JoinType.{JoinType}
use Rattle.join_types.specs.Types.{allows, mirror, swapped}
use Rattle.memory.specs.Rows.{put_row}
use Rattle.opening.specs.declared.list.ColumnList.{ColumnList}
use Rattle.opening.specs.declared.refusal.OpenRefusal.{OpenRefusal}
use Rattle.opening.specs.declared.refusal.OpenRefusal.TheVariants.{TooManyColumns, NoSuchColumn, SideNotAllowed}
use Rattle.memory.specs.Conditions.{first_of}

-- the columns of a list: those in the first of its places
abbrev pub columns_of : ColumnList → List ColumnIndex
columns_of l = take l.count l.columns

-- has a side a column of this number; the number of a mark is ignored
abbrev pub side_has : ℕ → ℕ → JoinSide → ℕ → Bool
side_has left right side.Left n = nat_lt n left
side_has left right side.Right n = nat_lt n right
side_has left right side.None n = true

-- is there such a column, with so many left and so many right columns
abbrev pub is_there : ℕ → ℕ → ColumnIndex → Bool
is_there left right c = side_has left right c.side c.index

-- is the side that of a mark
abbrev pub is_mark : JoinSide → Bool
is_mark side.Left = false
is_mark side.Right = false
is_mark side.None = true

-- how many mark columns there are
abbrev pub marks : List ColumnIndex → ℕ
marks cs = count_by (λ c. is_mark c.side) cs

-- 32 columns at most
abbrev pub are_few : List ColumnIndex → Bool
are_few cs = nat_le (length cs) 32

-- every left or right column is there
abbrev pub are_there : ℕ → ℕ → List ColumnIndex → Bool
are_there left right cs = list_all (is_there left right) cs

-- the type allows every side, and there is no second mark
abbrev pub are_allowed : JoinType → List ColumnIndex → Bool
are_allowed k cs = list_all (λ c. allows k c.side) cs && nat_le (marks cs) 1

-- what may be said against a list, the smallest number first
abbrev pub list_conditions : JoinType → ℕ → ℕ → List ColumnIndex → List (Bool × OpenRefusal)
list_conditions k left right cs =
    (not (are_few cs), TooManyColumns) ∷ (not (are_there left right cs), NoSuchColumn) ∷ (not (are_allowed k cs), SideNotAllowed) ∷ []

-- why a list is refused, if it is
abbrev pub list_refusal : JoinType → ℕ → ℕ → List ColumnIndex → Option OpenRefusal
list_refusal k left right cs = first_of (list_conditions k left right cs)

-- is it legal: few columns, each of them there, and each allowed
abbrev pub is_legal : ColumnList → Bool
is_legal l = are_few (columns_of l) && (are_there l.left_columns l.right_columns (columns_of l) && are_allowed l.join_type (columns_of l))

-- what stands in the places behind the columns
abbrev pub filler : ColumnIndex
filler = record { index = 0; side = side.Left }

-- the list of these columns, at the front of 32 places
abbrev pub list_of : JoinType → ℕ → ℕ → List ColumnIndex → ColumnList
list_of k left right cs = record { join_type = k; left_columns = left; right_columns = right; count = length cs; columns = put_row (replicate 32 filler) 0 cs }

-- the list with its sides exchanged: the mirror type, and every column of the other side
abbrev pub exchanged_list : ColumnList → ColumnList
exchanged_list l = record { join_type = mirror l.join_type; left_columns = l.right_columns; right_columns = l.left_columns; count = l.count; columns = map swapped l.columns }
