use Rattle.std.proofs.Common.{◌≡◌, vec_items}
use Rattle.memory.specs.Rows.{rows_in}
use Rattle.clashes.proofs.Listing.{front}
use Rattle.clashes.proofs.loops.pairs.Given as goal

abbrev pub invariant-loop-i : goal.invariant-loop-i
invariant-loop-i g l = vec_items l.found ≡ front (g.V.Verdict.says l.verdict) (rows_in l.left) (rows_in l.right) l.i
