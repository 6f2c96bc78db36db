use Rattle.std.proofs.Common.{◌+◌, ◌*◌, ◌≤◌, ◌++◌, length, refl, ap, ◌∙◌, sym, arith, length-take}
use Rattle.std.proofs.lemmas.Result.{err_from_is_err_and}
use Rattle.memory.specs.Items.{batch, wait, fault}
use Rattle.sources.specs.Drained.{counted}
use Rattle.sources.proofs.Adding.{brought_batch, brought_wait, brought_fault}
use Rattle.sources.proofs.Layers.{taken, batch_room, batch_small, batch_cells}
use Rattle.sources.proofs.Turns.{so_far_more, draining_more}
use Rattle.sources.proofs.draining.drain.Goals as goal

pub overflow_mul-rows : goal.overflow_mul-rows
overflow_mul-rows g c =
    let source = g.S.Source in
    let l = c.loop-brought in
    let same = c.columns-columns.ensures ∙ sym l.invariant.width in
    let small = batch_small source.items source.most (source.width l.source) c.in-Batch.rows c.columns-columns.result l.source c.ask.new.self l.page c.ask.new.page c.in_ok-rows.field-0 (source.fits l.source) c.in_ok-rows.ensures.answer c.in-Batch.is same source.small (source.narrow l.source) in
    omega (arith, small)

pub slice_bounds-extend_from_slice-end : goal.slice_bounds-extend_from_slice-end
slice_bounds-extend_from_slice-end g c =
    let source = g.S.Source in
    let l = c.loop-brought in
    let same = c.columns-columns.ensures ∙ sym l.invariant.width in
    batch_room source.items source.most (source.width l.source) c.in-Batch.rows c.columns-columns.result l.source c.ask.new.self l.page c.ask.new.page c.in_ok-rows.field-0 (source.fits l.source) c.in_ok-rows.ensures.answer c.in-Batch.is same (omega arith)

pub slice_bounds-extend_from_slice-end-in-Batch : goal.slice_bounds-extend_from_slice-end-in-Batch
slice_bounds-extend_from_slice-end-in-Batch g c =
    let source = g.S.Source in
    let l = c.loop-brought in
    let same = c.columns-columns.ensures ∙ sym l.invariant.width in
    let room = batch_room source.items source.most (source.width l.source) c.in-Batch.rows c.columns-columns.result l.source c.ask.new.self l.page c.ask.new.page c.in_ok-rows.field-0 (source.fits l.source) c.in_ok-rows.ensures.answer c.in-Batch.is same (omega arith) in
    simp length-take (omega (arith, room))

pub returns-in_err-extend_from_slice-in-Batch-clause-items :
    goal.returns-in_err-extend_from_slice-in-Batch-clause-items
returns-in_err-extend_from_slice-in-Batch-clause-items g c =
    let source = g.S.Source in
    let l = c.loop-brought in
    let before = l.invariant.draining in
    let t = rw c.in-Batch.is at c.in_ok-rows.ensures.answer in
    let room : source.most * source.width c.args.source.now ≤ length c.args.page.now = omega (arith, t.0, l.invariant.long, ap (λ w. source.most * w) l.invariant.width) in
    let p = err_from_is_err_and c.from_residual-in_err-extend_from_slice-in-Batch.result c.from_residual-in_err-extend_from_slice-in-Batch.ensures.1 in
    rw (p.1, p.2) (room, (_, so_far_more source.items _ _ l.source c.ask.new.self _ l.page c.ask.new.page l.brought l.brought before (batch t.1.0) t.1.1))

pub loop-brought-preserved-in-Batch : goal.loop-brought-preserved-in-Batch
loop-brought-preserved-in-Batch g c =
    let source = g.S.Source in
    let l = c.loop-brought in
    let before = l.invariant.draining in
    let asked = c.in_ok-rows.ensures.answer in
    let same = c.columns-columns.ensures ∙ sym l.invariant.width in
    let t = taken source.items source.most (source.width l.source) c.in-Batch.rows c.columns-columns.result l.source c.ask.new.self l.page c.ask.new.page c.in_ok-rows.field-0 (source.fits l.source) asked c.in-Batch.is same in
    let cells = batch_cells source.items source.most (source.width l.source) c.in-Batch.rows c.columns-columns.result l.source c.ask.new.self l.page c.ask.new.page c.in_ok-rows.field-0 (source.fits l.source) asked c.in-Batch.is same in
    let room : source.most * source.width c.args.source.now ≤ length c.args.page.now = omega (arith, asked.0, l.invariant.long, ap (λ w. source.most * w) l.invariant.width) in
    let brought = brought_batch before.taken l.brought _ before.brought t.0 (c.in_ok-extend_from_slice-in-Batch.ensures.items ∙ ap (λ x. l.brought.cells.items ++ x) cells) (c.saturating_add.ensures ∙ ap (λ k. counted (l.brought.rows + k)) t.2) c.saturating_add-in-Batch.ensures refl refl in
    record {
      long = omega (arith, l.invariant.long);
      width = c.in_ok-rows.ensures.width ∙ l.invariant.width;
      draining = draining_more source.items _ _ l.source c.ask.new.self _ l.page _ l.brought _ before (batch t.0) t.1 room brought;
    }

pub loop-brought-preserved-in-Wait : goal.loop-brought-preserved-in-Wait
loop-brought-preserved-in-Wait g c =
    let source = g.S.Source in
    let l = c.loop-brought in
    let before = l.invariant.draining in
    let t = rw c.in-Wait.is at c.in_ok-rows.ensures.answer in
    let room : source.most * source.width c.args.source.now ≤ length c.args.page.now = omega (arith, t.0, l.invariant.long, ap (λ w. source.most * w) l.invariant.width) in
    let brought = brought_wait before.taken l.brought _ before.brought refl refl refl c.saturating_add-in-Wait.ensures refl in
    record {
      long = omega (arith, l.invariant.long);
      width = c.in_ok-rows.ensures.width ∙ l.invariant.width;
      draining = draining_more source.items _ _ l.source c.ask.new.self _ l.page _ l.brought _ before wait t.1 room brought;
    }

pub loop-brought-preserved : goal.loop-brought-preserved
loop-brought-preserved g c =
    let source = g.S.Source in
    let l = c.loop-brought in
    let before = l.invariant.draining in
    let t = rw c.in-Fault.is at c.in_ok-rows.ensures.answer in
    let f = c.in-Fault.field-0 in
    let room : source.most * source.width c.args.source.now ≤ length c.args.page.now = omega (arith, t.0, l.invariant.long, ap (λ w. source.most * w) l.invariant.width) in
    let brought = brought_fault before.taken l.brought _ before.brought f.cause f.depth refl refl refl refl c.saturating_add-in-Fault.ensures in
    record {
      long = omega (arith, l.invariant.long);
      width = c.in_ok-rows.ensures.width ∙ l.invariant.width;
      draining = draining_more source.items _ _ l.source c.ask.new.self _ l.page _ l.brought _ before (fault f.cause f.depth) t.1 room brought;
    }
