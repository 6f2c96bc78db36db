-- What a join is opened with, its rests, and counts that stop.
use Rattle.std.specs.Prelude.{ℕ, Bool, true, false, not, List}
pub use Rattle.join_types.specs.declared.kind.JoinType.{JoinType}
pub use Rattle.join_types.specs.declared.kind.JoinType.TheVariants.{Inner, Left, Right, Full, LeftSemi, LeftAnti, LeftMark, RightSemi, RightAnti, RightMark}
pub use Rattle.join_types.specs.declared.kind.Rest.{Rest}
pub use Rattle.join_types.specs.declared.kind.Rest.TheVariants.{Nothing as nothing, Unmatched as unmatched, Matched as matched, Every as every}
pub use Rattle.join_types.specs.declared.column.JoinSide.{JoinSide}
pub use Rattle.join_types.specs.declared.column.JoinSide.TheVariants.{Left as LeftSide, Right as RightSide, None as MarkSide}
pub use Rattle.join_types.specs.declared.column.ColumnIndex.{ColumnIndex}
pub use Rattle.join_types.specs.Types.{has_pairs, left_rest_of, mirror, some_rest, other_side, swapped}
pub use Rattle.memory.specs.Counts.{limit, counted}
pub use Rattle.memory.specs.Items.{Item, batch, wait, fault}
pub use Rattle.verdicts.specs.declared.truth.Truth.{Truth}
pub use Rattle.verdicts.specs.Truths.{is_true}

-- the right rest is the same with right for left
abbrev pub right_rest_of : JoinType → Rest
right_rest_of k = left_rest_of (mirror k)

-- does a row come in the rest, given whether it is matched
abbrev pub kept : Rest → Bool → Bool
kept nothing b = false
kept unmatched b = not b
kept matched b = b
kept every b = true

-- what a join is opened with
pub record Setup (C : Type 0) : Type 0 where
  pub missing : C
  pub yes : C
  pub no : C
  pub join_type : JoinType
  pub batch_size : ℕ
  pub columns : List ColumnIndex
  pub table : List (List C)
  pub verdict : List C → List C → Truth
