use Rattle.sources.specs.Present.{has_cell}
use Rattle.sources.proofs.Keeping.{Kept}
use Rattle.sources.proofs.keep.keep_rows.Given as goal

abbrev pub invariant-loop-i : goal.invariant-loop-i
invariant-loop-i g l = Kept (has_cell g.C.Cell.is_missing l.column) l.columns l.rows l.initial.page l.page l.count l.i
