use Rattle.std.proofs.Common.{◌≡◌}
use lib.Seq.{paste}
use Rattle.memory.specs.Output.{output_row}
use Rattle.memory.proofs.output.put_output.Given as goal

abbrev pub invariant-loop-i : goal.invariant-loop-i
invariant-loop-i g l = l.page ≡ paste l.initial.page l.at (output_row g.C.Cell.missing l.columns l.parts.left.now l.parts.right.now l.parts.mark) l.i
