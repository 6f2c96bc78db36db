use Rattle.std.proofs.Common.{◌≡◌}
use Rattle.memory.specs.Rows.{rows_in}
use Rattle.nested_loop.specs.Model.{Setup}
use Rattle.probing.specs.Waiting.{stretch}
use Rattle.probing.specs.Met.{PairsBy, met_in, met_range, SameWords}
use Rattle.probing.proofs.pairs.Pairing.process_left_range_join.Given as goal

abbrev pub invariant-loop-i : goal.invariant-loop-i
invariant-loop-i g l = record {
  words : SameWords l.initial.marks l.marks;
  page : l.waiting.cells.ghost_name ≡ l.initial.waiting.cells.ghost_name;
  met : (S : Setup _) → PairsBy S g.V.Cell.Cell.missing (g.V.Verdict.says l.self.verdict.now) l.self.output
      → met_range S l.i (stretch l.i l.fn.range.end (rows_in l.left)) (rows_in l.right) (met_in l.marks l.waiting)
      ≡ met_range S l.fn.range.start (stretch l.fn.range.start l.fn.range.end (rows_in l.left)) (rows_in l.right) (met_in l.initial.marks l.initial.waiting);
}
