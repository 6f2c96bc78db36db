use Rattle.std.proofs.Common.{◌≡◌, drop}
use Rattle.memory.specs.Rows.{rows_in}
use Rattle.nested_loop.specs.Model.{Setup}
use Rattle.probing.specs.Met.{PairsBy, met_in, met_row, SameWords}
use Rattle.probing.proofs.pairs.Pairing.process_single_left_row_join.Given as goal

abbrev pub invariant-loop-j : goal.invariant-loop-j
invariant-loop-j g l = record {
  words : SameWords l.initial.marks l.marks;
  page : l.waiting.cells.ghost_name ≡ l.initial.waiting.cells.ghost_name;
  met : (S : Setup _) → PairsBy S g.V.Cell.Cell.missing (g.V.Verdict.says l.self.verdict.now) l.self.output
      → met_row S l.i l.left l.j (drop l.j (rows_in l.right)) (met_in l.marks l.waiting) ≡ met_row S l.i l.left 0 (rows_in l.right) (met_in l.initial.marks l.initial.waiting);
}
