use Rattle.std.proofs.Common.{◌≡◌, ◌++◌, map, take, drop}
use Rattle.join_types.specs.Types.{swapped}
use Rattle.join_types.proofs.column.exchange_sides.Given as goal

abbrev pub invariant-loop-column : goal.invariant-loop-column
invariant-loop-column l = l.columns ≡ map swapped (take l.column-index l.initial.columns) ++ drop l.column-index l.initial.columns
