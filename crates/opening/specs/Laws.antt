-- What holds of all output lists.
use Rattle.std.specs.Prelude.{◌≡◌, ℕ, List, map}
use Rattle.join_types.specs.declared.column.ColumnIndex.{ColumnIndex}
use Rattle.join_types.specs.declared.kind.JoinType.{JoinType}
use Rattle.join_types.specs.Types.{mirror, swapped}
use Rattle.opening.specs.declared.list.ColumnList.{ColumnList}
use Rattle.opening.specs.Lists.{columns_of, list_refusal, is_legal, list_of, exchanged_list}

pub record OutputListsStand : Type 0 where
  -- the columns of a list are those that it was made of
  pub made : (k : JoinType) (left right : ℕ) (cs : List ColumnIndex) → columns_of (list_of k left right cs) ≡ cs
  -- the columns of an exchanged list are those of the list, each exchanged
  pub columns : (l : ColumnList) → columns_of (exchanged_list l) ≡ map swapped (columns_of l)
  -- an exchanged list is legal where the list is
  pub legal : (l : ColumnList) → is_legal (exchanged_list l) ≡ is_legal l
  -- with its sides exchanged, a list is refused where it was, and with the same number
  pub refused : (k : JoinType) (left right : ℕ) (cs : List ColumnIndex) → list_refusal (mirror k) right left (map swapped cs) ≡ list_refusal k left right cs
  -- a list exchanged twice is the list
  pub twice : (l : ColumnList) → exchanged_list (exchanged_list l) ≡ l
