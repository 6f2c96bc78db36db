use Rattle.std.proofs.Common.{◌≡◌, [], ◌++◌, vec_items}
use Rattle.memory.specs.Rows.{rows_in}
use Rattle.clashes.proofs.Listing.{row_front}
use Rattle.clashes.proofs.loops.add_row.Given as goal

abbrev pub invariant-loop-j : goal.invariant-loop-j
invariant-loop-j g l = vec_items l.found ≡ vec_items l.initial.found ++ row_front (g.V.Verdict.says l.verdict) [] (rows_in l.right) l.i l.row l.j
