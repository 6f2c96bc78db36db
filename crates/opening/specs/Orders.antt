-- Orders: why one is refused, and what is known of the plan of one that is not (docs/RULES.md, "Opening a join").
use Rattle.std.specs.Prelude.{◌≡◌, ℕ, ◌<◌, ◌≤◌, Bool, true, not, List, [], ◌∷◌, ◌++◌, Option}
use Rattle.std.specs.List.{AllByRecursion}
use Rattle.join_types.specs.declared.column.ColumnIndex.{ColumnIndex}
use Rattle.join_types.specs.declared.column.JoinSide.TheVariants.{Left, Right}
use Rattle.join_types.specs.declared.kind.JoinType.{JoinType}
use Rattle.opening.specs.declared.list.ColumnList.{ColumnList}
use Rattle.opening.specs.declared.plan.Plan.{Plan}
use Rattle.opening.specs.declared.refusal.OpenRefusal.{OpenRefusal}
use Rattle.opening.specs.declared.refusal.OpenRefusal.TheVariants.{Probes, BatchSize, RightColumns}
use Rattle.opening.specs.Lists.{columns_of, list_conditions, is_legal}
use Rattle.memory.specs.Columns.{up_to}
use Rattle.memory.specs.Conditions.{first_of}

-- what may be said against the numbers of an order, the smallest number first: probes, batch size, right columns
abbrev pub number_conditions : ℕ → ℕ → ℕ → List (Bool × OpenRefusal)
number_conditions probes batch right =
    (not (up_to 16 probes), Probes) ∷ (not (up_to 1024 batch), BatchSize) ∷ (not (up_to 16 right), RightColumns) ∷ []

-- why these numbers are refused, if they are
abbrev pub number_refusal : ℕ → ℕ → ℕ → Option OpenRefusal
number_refusal probes batch right = first_of (number_conditions probes batch right)

-- why an order is refused, if it is: join type, probes, batch size, left and right columns, output columns
abbrev pub order_refusal : JoinType → ℕ → ℕ → ℕ → ℕ → List ColumnIndex → Option OpenRefusal
order_refusal k probes batch left right cs =
    first_of (number_conditions probes batch right ++ list_conditions k left right cs)

-- a plan from its parts: output list, probes, batch size, left rows
abbrev pub plan_of : ColumnList → ℕ → ℕ → ℕ → Plan
plan_of list probes batch rows = record { list = list; probes = probes; batch_size = batch; left_rows = rows }

-- what holds of the plan of a checked order
pub record Planned (p : Plan) : Type 0 where
  pub some_probes : 1 ≤ p.probes
  pub few_probes : p.probes ≤ 16
  pub some_batch : 1 ≤ p.batch_size
  pub few_batch : p.batch_size ≤ 1024
  pub some_left : 1 ≤ p.list.left_columns
  pub few_left : p.list.left_columns ≤ 16
  pub some_right : 1 ≤ p.list.right_columns
  pub few_right : p.list.right_columns ≤ 16
  pub few_rows : p.left_rows ≤ 4096
  pub few_columns : p.list.count ≤ 32
  pub legal : is_legal p.list ≡ true
  -- every left or right column has a number below the column count of its side
  pub left_there : AllByRecursion (λ c. c.side ≡ Left → c.index < p.list.left_columns) (columns_of p.list)
  pub right_there : AllByRecursion (λ c. c.side ≡ Right → c.index < p.list.right_columns) (columns_of p.list)
