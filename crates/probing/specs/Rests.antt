-- What appending the rest of a side leaves: the waiting rows.
use Rattle.std.specs.Prelude.{◌≡◌, ℕ, Bool, cond, List, [], ◌∷◌}
use Rattle.join_types.specs.declared.column.JoinSide.{JoinSide}
use Rattle.join_types.specs.declared.column.JoinSide.TheVariants.{Left, Right, None}
use Rattle.join_types.specs.declared.kind.JoinType.{JoinType}
use Rattle.nested_loop.specs.Model.{Setup, Rest, nothing, kept, left_rest_of, right_rest_of}
use Rattle.nested_loop.specs.Loop.{output_row, left_row, right_row}
use Rattle.probing.specs.declared.output.JoinOutput.{JoinOutput}
use Rattle.probing.specs.Waiting.{Waiting, appended}

-- a setup with the cells, the join type and the output list of a call; its other parts may be any
pub record RestsBy {C : Type 0} (S : Setup C) (none aye nay : C) (o : JoinOutput) : Type 0 where
  pub missing_is : S.missing ≡ none
  pub yes_is : S.yes ≡ aye
  pub no_is : S.no ≡ nay
  pub type_is : S.join_type ≡ o.join_type
  pub columns_are : S.columns ≡ o.columns.now

-- which rows of a side a type delivers besides pairs; a mark column stands on no side
abbrev pub side_rest : JoinType → JoinSide → Rest
side_rest k Left = left_rest_of k
side_rest k Right = right_rest_of k
side_rest k None = nothing

-- the output row of a row of that side, in its rest
abbrev pub side_row : {C : Type 0} → Setup C → JoinSide → List C → Bool → List C
side_row S Left x b = left_row S x b
side_row S Right x b = right_row S x b
side_row S None x b = output_row S [] [] S.missing

-- rows, with a bit for each whether it is marked, one after another: those that the rest keeps are appended
abbrev pub rest_appended : {C : Type 0} → ℕ → Rest → (List C → Bool → List C) → List (List C) → List Bool → Waiting C → Waiting C
rest_appended wide k row [] bs w = w
rest_appended wide k row (x ∷ xs) [] w = w
rest_appended wide k row (x ∷ xs) (b ∷ bs) w = rest_appended wide k row xs bs (cond (kept k b) (appended wide (row x b) w) w)
