-- Refusals of opening by number.
use Rattle.std.specs.Prelude.{ℕ}
use Rattle.opening.specs.declared.refusal.OpenRefusal.{OpenRefusal}
use Rattle.opening.specs.declared.refusal.OpenRefusal.TheVariants.{Probes, BatchSize, RightColumns, TooManyColumns, NoSuchColumn, SideNotAllowed}

-- the number by which a refusal goes
abbrev pub number_of : OpenRefusal → ℕ
number_of Probes = 4
number_of BatchSize = 5
number_of RightColumns = 6
number_of TooManyColumns = 7
number_of NoSuchColumn = 8
number_of SideNotAllowed = 9
