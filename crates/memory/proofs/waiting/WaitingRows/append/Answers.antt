use Rattle.std.proofs.Common.{length, arith}
use Rattle.std.proofs.lemmas.List.{length-map}
use Rattle.memory.specs.Output.{output_cell, output_row}
use Rattle.memory.proofs.Pages.{row_behind}
use Rattle.memory.proofs.waiting.WaitingRows.append.Goals as goal

pub returns-clause-rows : goal.returns-clause-rows
returns-clause-rows g c = λ _.
    let a = c.args in
    let s = a.self.now in
    let f = output_cell g.C.Cell.missing a.parts.now.left.now a.parts.now.right.now a.parts.now.mark in
    let put = c.in_ok-put_output.ensures in
    row_behind s.rows (length a.columns.now) _ s.cells.now (output_row g.C.Cell.missing a.columns.now a.parts.now.left.now a.parts.now.right.now a.parts.now.mark) _ (omega arith) (length-map a.columns.now f) c.saturating_mul-at.ensures put.room put.cells
