use Rattle.std.proofs.Common.{◌+◌, ◌≤◌, length}
use Rattle.std.proofs.lemmas.List.Edits.{paste_none}
use Rattle.join_types.specs.declared.column.JoinSide.TheVariants.{Left}
use Rattle.memory.specs.Output.{output_cell, output_row}
use Rattle.memory.proofs.Pages.{fits_from, row_more, row-all}
use Rattle.memory.proofs.output.put_output.Goals as goal

pub loop-i-init : goal.loop-i-init
loop-i-init g c =
    let a = c.args in
    paste_none a.page.now a.at (output_row g.C.Cell.missing a.columns.now a.parts.now.left.now a.parts.now.right.now a.parts.now.mark)

pub loop-i-preserved : goal.loop-i-preserved
loop-i-preserved g c =
    let a = c.args in
    let f = output_cell g.C.Cell.missing a.parts.now.left.now a.parts.now.right.now a.parts.now.mark in
    let fit : a.at + length a.columns.now ≤ length a.page.now = fits_from _ _ c.if-not-fits.ensures in
    row_more f a.columns.now a.page.now a.at c.loop-i.i c.loop-i.page c.loop-i.invariant c.cell.result (record { index = 0; side = Left }) fit c.loop-i-test.true c.cell.ensures

pub returns-clause-cells : goal.returns-clause-cells
returns-clause-cells g c =
    let a = c.args in
    let f = output_cell g.C.Cell.missing a.parts.now.left.now a.parts.now.right.now a.parts.now.mark in
    row-all f a.columns.now a.page.now a.at c.loop-i.i c.loop-i.page c.loop-i.invariant c.loop-i.auto.i-end c.loop-i-test.false
