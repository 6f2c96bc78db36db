-- What is known of the plan of a checked order.
use Rattle.std.proofs.Common.{◌≡◌, ℕ, ◌<◌, true}
use Rattle.std.specs.List.{AllByRecursion}
use Rattle.std.proofs.lemmas.Bool.{and_parts, ltb-true}
use Rattle.join_types.specs.declared.column.JoinSide.{JoinSide}
use Rattle.join_types.specs.declared.column.JoinSide.TheVariants.{Left, Right, None}
use Rattle.opening.specs.declared.list.ColumnList.{ColumnList}
use Rattle.opening.specs.Lists.{columns_of, side_has, is_there, are_few, are_there, is_legal}
use Rattle.opening.proofs.Passing.{all_from_pass}

left_has : (left right : ℕ) (s : JoinSide) (n : ℕ) → side_has left right s n ≡ true → s ≡ Left → n < left
left_has left right Left n h e = ltb-true n left h
left_has left right Right n h e = absurd cc
left_has left right None n h e = absurd cc

right_has : (left right : ℕ) (s : JoinSide) (n : ℕ) → side_has left right s n ≡ true → s ≡ Right → n < right
right_has left right Right n h e = ltb-true n right h
right_has left right Left n h e = absurd cc
right_has left right None n h e = absurd cc

module _ (l : ColumnList) (legal : is_legal l ≡ true) where
  all_there : are_there l.left_columns l.right_columns (columns_of l) ≡ true
  all_there = (and_parts _ _ (and_parts (are_few (columns_of l)) _ legal).1).0

  -- every left column of a legal list has a number below the left column count
  pub left-numbers : AllByRecursion (λ c. c.side ≡ Left → c.index < l.left_columns) (columns_of l)
  left-numbers =
      all_from_pass (is_there l.left_columns l.right_columns) (λ c. c.side ≡ Left → c.index < l.left_columns)
      (λ c h. left_has l.left_columns l.right_columns c.side c.index h) (columns_of l) all_there

  -- and every right column one below the right column count
  pub right-numbers : AllByRecursion (λ c. c.side ≡ Right → c.index < l.right_columns) (columns_of l)
  right-numbers =
      all_from_pass (is_there l.left_columns l.right_columns) (λ c. c.side ≡ Right → c.index < l.right_columns)
      (λ c h. right_has l.left_columns l.right_columns c.side c.index h) (columns_of l) all_there
