-- Output lists: what no refusal tells, the list that is made, and its sides exchanged.
use Rattle.std.proofs.Common.{◌≡◌, ℕ, Bool, cond, not, ◌&&◌, leb, List, [], ◌∷◌, map, length, Some, None, refl, ap, ◌∙◌, ap₂, rules}
use Rattle.std.proofs.lemmas.List.{take_at, take-map, length-map}
use Rattle.join_types.specs.declared.column.ColumnIndex.{ColumnIndex}
use Rattle.join_types.specs.declared.column.JoinSide.{JoinSide}
use Rattle.join_types.specs.declared.column.JoinSide.TheVariants as side
use Rattle.join_types.specs.declared.kind.JoinType.{JoinType}
use Rattle.join_types.specs.Laws.{TypesStand}
use Rattle.join_types.specs.Types.{allows, mirror, other_side, swapped}
use Rattle.opening.specs.declared.list.ColumnList.{ColumnList}
use Rattle.opening.specs.declared.refusal.OpenRefusal.TheVariants.{TooManyColumns, NoSuchColumn, SideNotAllowed}
use Rattle.opening.specs.Lists.{columns_of, side_has, is_there, is_mark, are_few, are_there, are_allowed, list_refusal, is_legal, list_of, exchanged_list}
use Rattle.opening.proofs.Passing.{pass_map, count_map}

-- the columns of the list made are those given
pub columns_list_of : (k : JoinType) (left right : ℕ) (cs : List ColumnIndex) → columns_of (list_of k left right cs) ≡ cs
columns_list_of k left right cs = take_at cs _ (length cs) refl

-- the laws of the join types
types_stand : TypesStand
types_stand = search rules

has_other : (left right : ℕ) (s : JoinSide) (n : ℕ) → side_has right left (other_side s) n ≡ side_has left right s n
has_other left right side.Left n = refl
has_other left right side.Right n = refl
has_other left right side.None n = refl

mark_other : (s : JoinSide) → is_mark (other_side s) ≡ is_mark s
mark_other side.Left = refl
mark_other side.Right = refl
mark_other side.None = refl

-- the columns of an exchanged list are those of the list, each exchanged
pub columns_exchanged : (l : ColumnList) → columns_of (exchanged_list l) ≡ map swapped (columns_of l)
columns_exchanged l = take-map swapped l.count l.columns

module _ (k : JoinType) (left right : ℕ) (cs : List ColumnIndex) where
  few_exchanged : are_few (map swapped cs) ≡ are_few cs
  few_exchanged = ap (λ n. leb n 32) (length-map cs swapped)

  there_exchanged : are_there right left (map swapped cs) ≡ are_there left right cs
  there_exchanged = pass_map swapped (is_there right left) (is_there left right) (λ c. has_other left right c.side c.index) cs

  allowed_exchanged : are_allowed (mirror k) (map swapped cs) ≡ are_allowed k cs
  allowed_exchanged =
      ap₂ (λ (b : Bool) (n : ℕ). b && leb n 1)
      (pass_map swapped (λ c. allows (mirror k) c.side) (λ c. allows k c.side) (λ c. types_stand.sides k c.side) cs)
      (count_map swapped (λ c. is_mark c.side) (λ c. is_mark c.side) (λ c. mark_other c.side) cs)

-- an exchanged list is legal where the list is
pub legal_exchanged : (l : ColumnList) → is_legal (exchanged_list l) ≡ is_legal l
legal_exchanged l =
    let k = l.join_type in
    let left = l.left_columns in
    let right = l.right_columns in
    let cs = columns_of l in
    ap (λ (xs : List ColumnIndex). are_few xs && (are_there right left xs && are_allowed (mirror k) xs)) (columns_exchanged l)
    ∙ ap₂ (λ a b. a && b) (few_exchanged k left right cs) (ap₂ (λ a b. a && b) (there_exchanged k left right cs) (allowed_exchanged k left right cs))

-- and is refused where the list is
pub refused_exchanged : (k : JoinType) (left right : ℕ) (cs : List ColumnIndex) → list_refusal (mirror k) right left (map swapped cs) ≡ list_refusal k left right cs
refused_exchanged k left right cs =
    ap₂ (λ (a b : Bool). cond (not a) (Some TooManyColumns) (cond (not b) (Some NoSuchColumn) (cond (not (are_allowed (mirror k) (map swapped cs))) (Some SideNotAllowed) None)))
    (few_exchanged k left right cs) (there_exchanged k left right cs)
    ∙ ap (λ (d : Bool). cond (not (are_few cs)) (Some TooManyColumns) (cond (not (are_there left right cs)) (Some NoSuchColumn) (cond (not d) (Some SideNotAllowed) None))) (allowed_exchanged k left right cs)

swapped_twice : (cs : List ColumnIndex) → map swapped (map swapped cs) ≡ cs
swapped_twice [] = refl
swapped_twice (c ∷ cs) = ap₂ (λ (x : ColumnIndex) (xs : List ColumnIndex). x ∷ xs) (types_stand.columns c) (swapped_twice cs)

-- a list exchanged twice is the list
pub exchanged_twice : (l : ColumnList) → exchanged_list (exchanged_list l) ≡ l
exchanged_twice l =
    ap₂ (λ (k : JoinType) (cs : List ColumnIndex). record { join_type = k; left_columns = l.left_columns; right_columns = l.right_columns; count = l.count; columns = cs })
    (types_stand.twice l.join_type) (swapped_twice l.columns)
