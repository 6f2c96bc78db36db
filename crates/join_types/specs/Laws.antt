-- What holds of all join types and output columns.
use Rattle.std.specs.Prelude.{◌≡◌}
use Rattle.join_types.specs.declared.column.ColumnIndex.{ColumnIndex}
use Rattle.join_types.specs.declared.column.JoinSide.{JoinSide}
use Rattle.join_types.specs.declared.kind.JoinType.{JoinType}
use Rattle.join_types.specs.Types.{row_of, has_pairs, left_rest_of, mirror, allows, other_side, swapped}

pub record TypesStand : Type 0 where
  -- the mirror of the mirror is the type
  pub twice : (k : JoinType) → mirror (mirror k) ≡ k
  -- a mirror has pairs where the type has
  pub pairs : (k : JoinType) → has_pairs (mirror k) ≡ has_pairs k
  -- the right rest is the left rest of the mirror
  pub rests : (k : JoinType) → (row_of k).right_rest ≡ left_rest_of (mirror k)
  -- a mirror allows a side where the type allows the other
  pub sides : (k : JoinType) (s : JoinSide) → allows (mirror k) (other_side s) ≡ allows k s
  -- exchanging the sides of a column twice changes nothing
  pub columns : (c : ColumnIndex) → swapped (swapped c) ≡ c
