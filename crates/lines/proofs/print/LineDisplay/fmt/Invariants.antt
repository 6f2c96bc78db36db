-- The text so far is what is printed of the cells so far.
use Rattle.std.proofs.Common.{◌+◌, take}
use Rattle.std.specs.Fmt.{HasWritten, IsPlainFormatter}
use Rattle.lines.specs.Printed.{row_text}
use Rattle.lines.proofs.print.LineDisplay.fmt.Given as goal

abbrev pub invariant-loop-cell : goal.invariant-loop-cell
invariant-loop-cell g l = IsPlainFormatter l.fn.f → HasWritten g.W.Write.write_str_gives l.fn.f (row_text (take (l.cell-index + 1) l.self.cells.now)) l.f
