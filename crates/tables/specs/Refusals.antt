-- Refusals by number, and why begin is refused.
use Rattle.std.specs.Prelude.{ℕ, not, [], ◌∷◌, Option}
use Rattle.memory.specs.Columns.{are_columns}
use Rattle.memory.specs.Conditions.{first_of}
use Rattle.tables.specs.declared.refusal.TableRefusal.{TableRefusal}
use Rattle.tables.specs.declared.refusal.TableRefusal.TheVariants.{Columns, RowLength, Full}

-- the number by which a refusal goes
abbrev pub number_of : TableRefusal → ℕ
number_of Columns = 1
number_of RowLength = 2
number_of Full = 3

-- why begin is refused, if it is: the columns are not 1 to 16
abbrev pub begin_refusal : ℕ → Option TableRefusal
begin_refusal columns = first_of ((not (are_columns columns), Columns) ∷ [])
