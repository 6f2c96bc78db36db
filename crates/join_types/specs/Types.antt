-- What each join type delivers, which sides it allows, and its mirror.
use Rattle.std.specs.Prelude.{Bool, true, false}
use Rattle.join_types.specs.declared.column.ColumnIndex.{ColumnIndex}
use Rattle.join_types.specs.declared.column.JoinSide.{JoinSide}
use Rattle.join_types.specs.declared.column.JoinSide.TheVariants as side
use Rattle.join_types.specs.declared.kind.JoinType.{JoinType}
use Rattle.join_types.specs.declared.kind.JoinType.TheVariants.{Inner, Left, Right, Full, LeftSemi, RightSemi, LeftAnti, RightAnti, LeftMark, RightMark}
use Rattle.join_types.specs.declared.kind.Rest.{Rest}
use Rattle.join_types.specs.declared.kind.Rest.TheVariants.{Nothing, Unmatched, Matched, Every}
use Rattle.join_types.specs.declared.kind.TypeRow.{TypeRow}

-- pairs, left rest, right rest, whether left, right and mark columns are allowed, mirror
abbrev pub type_row : Bool → Rest → Rest → Bool → Bool → Bool → JoinType → TypeRow
type_row p l r al ar am m = record { pairs = p; left_rest = l; right_rest = r; allows_left = al; allows_right = ar; allows_mark = am; mirror = m }

-- the table
abbrev pub row_of : JoinType → TypeRow
row_of Inner = type_row true Nothing Nothing true true false Inner
row_of Left = type_row true Unmatched Nothing true true false Right
row_of Right = type_row true Nothing Unmatched true true false Left
row_of Full = type_row true Unmatched Unmatched true true false Full
row_of LeftSemi = type_row false Matched Nothing true false false RightSemi
row_of RightSemi = type_row false Nothing Matched false true false LeftSemi
row_of LeftAnti = type_row false Unmatched Nothing true false false RightAnti
row_of RightAnti = type_row false Nothing Unmatched false true false LeftAnti
row_of LeftMark = type_row false Every Nothing true false true RightMark
row_of RightMark = type_row false Nothing Every false true true LeftMark

-- are pairs among its rows
abbrev pub has_pairs : JoinType → Bool
has_pairs k = (row_of k).pairs

abbrev pub left_rest_of : JoinType → Rest
left_rest_of k = (row_of k).left_rest

abbrev pub mirror : JoinType → JoinType
mirror k = (row_of k).mirror

-- may its output list have a column of this side; the side None is the mark
abbrev pub allows : JoinType → JoinSide → Bool
allows k side.Left = (row_of k).allows_left
allows k side.Right = (row_of k).allows_right
allows k side.None = (row_of k).allows_mark

-- has the rest any rows
abbrev pub some_rest : Rest → Bool
some_rest Nothing = false
some_rest Unmatched = true
some_rest Matched = true
some_rest Every = true

abbrev pub other_side : JoinSide → JoinSide
other_side side.Left = side.Right
other_side side.Right = side.Left
other_side side.None = side.None

-- an output column with left and right exchanged
abbrev pub swapped : ColumnIndex → ColumnIndex
swapped c = record { index = c.index; side = other_side c.side }
