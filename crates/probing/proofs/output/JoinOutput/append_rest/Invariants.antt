use Rattle.std.proofs.Common.{◌≡◌}
use Rattle.memory.specs.Marks.{bits_of}
use Rattle.memory.specs.Rows.{rows_in}
use Rattle.nested_loop.specs.Model.{Setup}
use Rattle.probing.specs.Waiting.{stretch, waits_in}
use Rattle.probing.specs.Met.{width}
use Rattle.probing.specs.Rests.{RestsBy, side_rest, side_row, rest_appended}
use Rattle.probing.proofs.output.JoinOutput.append_rest.Given as goal

abbrev pub invariant-loop-i : goal.invariant-loop-i
invariant-loop-i g l = record {
  page : l.waiting.cells.ghost_name ≡ l.initial.waiting.cells.ghost_name;
  appended : (S : Setup _) → RestsBy S g.C.Cell.missing g.C.Cell.yes g.C.Cell.no l.self
      → rest_appended (width S) (side_rest S.join_type l.side) (side_row S l.side) (stretch l.i l.fn.range.end (rows_in l.rows)) (stretch l.i l.fn.range.end (bits_of l.rows.count l.marks)) (waits_in l.waiting)
      ≡ rest_appended (width S) (side_rest S.join_type l.side) (side_row S l.side) (stretch l.fn.range.start l.fn.range.end (rows_in l.rows)) (stretch l.fn.range.start l.fn.range.end (bits_of l.rows.count l.marks)) (waits_in l.initial.waiting);
}
